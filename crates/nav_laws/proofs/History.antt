-- What was transmitted before: where the complete periods of ephemerides lie, and which is the latest of a key.
use Rattle.std.proofs.Common.{◌≡◌, ℕ, ◌<◌, ◌≤◌, inl, inr, Bool, true, false, if◌then◌else◌, List, [], ◌∷◌, Option, None, Some, refl, sym, ap, subst, ◌∙◌, arith}
use Rattle.std.proofs.lemmas.Bool.{both_ways, cases_lt}
use Rattle.nav_eph.specs.Items.{is_alike}
use Rattle.nav_eph.specs.declared.part.Part.{Part}
use Rattle.nav_eph.specs.declared.items.GpsEph.{GpsEph}
use Rattle.nav_eph.specs.declared.items.GalEph.{GalEph}
use Rattle.nav_eph.specs.declared.items.NavItem.{NavItem}
use Rattle.nav_eph.specs.declared.items.NavItem.TheVariants.{Gps as GpsItem, Gal as GalItem, Ion as IonItem}
use Rattle.periods.specs.declared.key.PeriodKey.{PeriodKey}
use Rattle.periods.specs.declared.closed.Finding.TheVariants.{Complete}
use Rattle.periods.specs.declared.closed.Verdict.TheVariants.{Whole, Again}
use Rattle.periods.specs.KeyTests.{same_key}
use Rattle.periods.specs.DigestsOf.{verdict_of}
use Rattle.periods.specs.PeriodLists.{item_in}
use Rattle.periods.specs.Verdicts.{IsComplete, IsOfEphemeris}
use Rattle.periods.proofs.Surface.{IsKnownBefore, is-same_key, none_some, same_key-is, some_is}
use Rattle.sent_captures.specs.SentItems.{as_sent, have_one_key, repeats_latest}
use Rattle.nav_laws.proofs.Slots.{gal_key, gps_key}
use Rattle.nav_laws.proofs.Slots.{key_of_item}

-- in the stamps from a to b lies the complete period of an item, and no other one of an ephemeris
pub record IsSentIn (r w : ℕ) (parts : Part → Type 0) (a b : ℕ) (x : NavItem) : Type 0 where
  pub end : ℕ
  pub from : a ≤ end
  pub below : end < b
  pub complete : (key : PeriodKey) → key_of_item x ≡ Some key → IsComplete r w parts key end (as_sent x)
  pub only : (key : PeriodKey) (f : ℕ) (item : NavItem) → IsOfEphemeris key → IsComplete r w parts key f item → a ≤ f → f < b
      → (key_of_item x ≡ Some key) × (f ≡ end)

-- before the stamp b lie the complete periods of these items, the latest one first, and no others of ephemerides
abbrev pub History : ℕ → ℕ → (Part → Type 0) → ℕ → List NavItem → Type 0
History r w parts b [] = (key : PeriodKey) (f : ℕ) (item : NavItem) → IsOfEphemeris key → IsComplete r w parts key f item → f < b → ⊥
History r w parts b (x ∷ xs) = (a : ℕ) × IsSentIn r w parts a b x × History r w parts a xs

-- the latest of the items that has the key of another
abbrev pub latest : List NavItem → NavItem → Option NavItem
latest [] x = None
latest (y ∷ ys) x = if have_one_key y x then Some (as_sent y) else latest ys x

-- ---- keys

one_key : (y x : NavItem) → have_one_key y x ≡ true → key_of_item y ≡ key_of_item x
one_key (GpsItem a) (GpsItem b) e = ap Some (same_key-is (gps_key a) (gps_key b) e)
one_key (GpsItem a) (GalItem b) e = absurd (both_ways false refl e)
one_key (GpsItem a) (IonItem b) e = absurd (both_ways false refl e)
one_key (GalItem a) (GpsItem b) e = absurd (both_ways false refl e)
one_key (GalItem a) (GalItem b) e = ap Some (same_key-is (gal_key a) (gal_key b) e)
one_key (GalItem a) (IonItem b) e = absurd (both_ways false refl e)
one_key (IonItem a) (GpsItem b) e = absurd (both_ways false refl e)
one_key (IonItem a) (GalItem b) e = absurd (both_ways false refl e)
one_key (IonItem a) (IonItem b) e = absurd (both_ways false refl e)

kinds_differ : (a : GpsEph) (b : GalEph) → gps_key a ≡ gal_key b → ⊥
kinds_differ a b e = cc

same_keys : (y x : NavItem) (key : PeriodKey) → key_of_item y ≡ Some key → key_of_item x ≡ Some key → have_one_key y x ≡ true
same_keys (GpsItem a) (GpsItem b) key e f =
    subst (λ (k : PeriodKey). same_key (gps_key a) k ≡ true) (some_is (gps_key a) key e ∙ sym (some_is (gps_key b) key f)) (is-same_key (gps_key a))
same_keys (GpsItem a) (GalItem b) key e f = absurd (kinds_differ a b (some_is (gps_key a) key e ∙ sym (some_is (gal_key b) key f)))
same_keys (GpsItem a) (IonItem b) key e f = absurd (none_some key f)
same_keys (GalItem a) (GpsItem b) key e f = absurd (kinds_differ b a (some_is (gps_key b) key f ∙ sym (some_is (gal_key a) key e)))
same_keys (GalItem a) (GalItem b) key e f =
    subst (λ (k : PeriodKey). same_key (gal_key a) k ≡ true) (some_is (gal_key a) key e ∙ sym (some_is (gal_key b) key f)) (is-same_key (gal_key a))
same_keys (GalItem a) (IonItem b) key e f = absurd (none_some key f)
same_keys (IonItem a) x key e f = absurd (none_some key e)

-- ---- the last complete period of a key before an end

abbrev pub NoneFrom : ℕ → ℕ → (Part → Type 0) → PeriodKey → ℕ → ℕ → Type 0
NoneFrom r w parts key b e = (f : ℕ) (item : NavItem) → IsComplete r w parts key f item → b ≤ f → f < e → ⊥

pub known : (r w : ℕ) (parts : Part → Type 0) (b e : ℕ) (x : NavItem) (key : PeriodKey) (before : List NavItem) → IsOfEphemeris key → key_of_item x ≡ Some key
    → History r w parts b before → b ≤ e → NoneFrom r w parts key b e → IsKnownBefore r w parts key e (latest before x)
known r w parts b e x key [] eph of_x h l quiet = λ f item c below. elim (cases_lt f b) [
  | inl m ↦ h key f item eph c m
  | inr m ↦ quiet f item c m below
]
known r w parts b e x key (y ∷ ys) eph of_x h l quiet = by (have_one_key y x) refl
    (λ none_there. known r w parts h.0 e x key ys eph of_x h.2 (omega (arith, h.1.from, h.1.below)) none_there)
  where
    by : (t : Bool) → have_one_key y x ≡ t → (NoneFrom r w parts key h.0 e → IsKnownBefore r w parts key e (latest ys x))
        → IsKnownBefore r w parts key e (if t then Some (as_sent y) else latest ys x)
    by true is rest = record {
      at = h.1.end;
      earlier = omega (arith, h.1.below);
      complete = h.1.complete key (one_key y x is ∙ of_x);
      last = λ f other c below. elim (cases_lt f b) [
        | inl m ↦ elim (cases_lt f h.0) [
          | inl n ↦ omega (arith, n, h.1.from)
          | inr n ↦ let o = h.1.only key f other eph c n m in omega (arith, o.1)
        ]
        | inr m ↦ absurd (quiet f other c m below)
      ];
    }
    by false is rest = rest (λ f item c n below. elim (cases_lt f b) [
      | inl m ↦ both_ways (have_one_key y x) is (same_keys y x key (h.1.only key f item eph c n m).0 of_x)
      | inr m ↦ quiet f item c m below
    ])

-- ---- what is said of the period of an item

alike_sent : (y x : NavItem) → is_alike (as_sent y) (as_sent x) ≡ is_alike y x
alike_sent (GpsItem a) (GpsItem b) = refl
alike_sent (GpsItem a) (GalItem b) = refl
alike_sent (GpsItem a) (IonItem b) = refl
alike_sent (GalItem a) (GpsItem b) = refl
alike_sent (GalItem a) (GalItem b) = refl
alike_sent (GalItem a) (IonItem b) = refl
alike_sent (IonItem a) (GpsItem b) = refl
alike_sent (IonItem a) (GalItem b) = refl
alike_sent (IonItem a) (IonItem b) = refl

item_if : (t : Bool) (item : NavItem) → item_in (if t then Again else Whole item) ≡ (if t then [] else item ∷ [])
item_if true item = refl
item_if false item = refl

pub said : (before : List NavItem) (x : NavItem) → item_in (verdict_of (latest before x) (Complete (as_sent x))) ≡ (if repeats_latest before x then [] else as_sent x ∷ [])
said [] x = refl
said (y ∷ ys) x = by (have_one_key y x) (said ys x)
  where
    by : (t : Bool) → item_in (verdict_of (latest ys x) (Complete (as_sent x))) ≡ (if repeats_latest ys x then [] else as_sent x ∷ [])
        → item_in (verdict_of (if t then Some (as_sent y) else latest ys x) (Complete (as_sent x)))
        ≡ (if (if t then is_alike y x else repeats_latest ys x) then [] else as_sent x ∷ [])
    by true rest = item_if (is_alike (as_sent y) (as_sent x)) (as_sent x) ∙ ap (λ (t : Bool). if t then [] else as_sent x ∷ []) (alike_sent y x)
    by false rest = rest
