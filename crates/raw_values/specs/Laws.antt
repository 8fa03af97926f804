-- When the raw numbers of an item are the only ones that encode it.
use Rattle.std.specs.Prelude.{◌≡◌, ◌⊎◌, pos}
use Rattle.raw_values.specs.declared.sent_raw.SentRaw.{SentRaw}
use Rattle.raw_values.specs.declared.item_raw.ItemRaw.{ItemRaw}

-- a time that is not known has no second, and one that is known says so by 1
abbrev pub IsPlainSent : SentRaw → Type 0
IsPlainSent raw = ((raw.is_known ≡ 0) × (raw.second ≡ pos 0)) ⊎ (raw.is_known ≡ 1)

-- so it is of the transmission times among the numbers
pub record IsPlain (raw : ItemRaw) : Type 0 where
  pub gps : IsPlainSent raw.gps.sent
  pub gal : IsPlainSent raw.gal.sent
