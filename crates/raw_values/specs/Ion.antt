-- Ionospheric parameters as the raw numbers that C has: each field is the number of the same name.
use Rattle.std.specs.Prelude.{ℕ}
use Rattle.nav_eph.specs.declared.sat.System.TheVariants.{Gps, Gal}
use Rattle.nav_eph.specs.declared.ion.GpsIon.{GpsIon}
use Rattle.nav_eph.specs.declared.ion.GalIon.{GalIon}
use Rattle.nav_eph.specs.declared.ion.IonContent.{IonContent}
use Rattle.nav_eph.specs.declared.ion.IonContent.TheVariants.{Gps as OfGps, Gal as OfGal}
use Rattle.nav_eph.specs.declared.items.IonEph.{IonEph}
use Rattle.raw_values.specs.declared.ion_raw.GpsIonRaw.{GpsIonRaw}
use Rattle.raw_values.specs.declared.ion_raw.GalIonRaw.{GalIonRaw}
use Rattle.raw_values.specs.declared.ion_raw.IonRaw.{IonRaw}

abbrev pub gps_ion_in : GpsIonRaw → GpsIon
gps_ion_in raw = record {
  alpha0 = raw.alpha0;
  alpha1 = raw.alpha1;
  alpha2 = raw.alpha2;
  alpha3 = raw.alpha3;
  beta0 = raw.beta0;
  beta1 = raw.beta1;
  beta2 = raw.beta2;
  beta3 = raw.beta3;
}

abbrev pub raw_gps_ion : GpsIon → GpsIonRaw
raw_gps_ion value = record {
  alpha0 = value.alpha0;
  alpha1 = value.alpha1;
  alpha2 = value.alpha2;
  alpha3 = value.alpha3;
  beta0 = value.beta0;
  beta1 = value.beta1;
  beta2 = value.beta2;
  beta3 = value.beta3;
}

abbrev pub gal_ion_in : GalIonRaw → GalIon
gal_ion_in raw = record { ai0 = raw.ai0; ai1 = raw.ai1; ai2 = raw.ai2; regions = raw.regions }

abbrev pub raw_gal_ion : GalIon → GalIonRaw
raw_gal_ion value = record { ai0 = value.ai0; ai1 = value.ai1; ai2 = value.ai2; regions = value.regions }

-- the item of the GPS parameters among the numbers
abbrev pub gps_ion_item : IonRaw → IonEph
gps_ion_item raw = record {
  sat = record { system = Gps; number = raw.satellite };
  moment = raw.moment;
  content = OfGps (gps_ion_in raw.gps);
}

-- the item of the Galileo parameters among the numbers
abbrev pub gal_ion_item : IonRaw → IonEph
gal_ion_item raw = record {
  sat = record { system = Gal; number = raw.satellite };
  moment = raw.moment;
  content = OfGal (gal_ion_in raw.gal);
}

-- the kind of an item with these parameters
abbrev pub ion_kind : IonContent → ℕ
ion_kind (OfGps parameters) = 3
ion_kind (OfGal parameters) = 4

-- the parameters written over those of their system; the others stay
abbrev pub with_content : IonContent → IonRaw → IonRaw
with_content (OfGps parameters) old = record old { gps = raw_gps_ion parameters }
with_content (OfGal parameters) old = record old { gal = raw_gal_ion parameters }

-- the numbers of an item written over these
abbrev pub raw_ion : IonEph → IonRaw → IonRaw
raw_ion value old = record (with_content value.content old) { satellite = value.sat.number; moment = value.moment }
