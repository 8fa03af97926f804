-- The ephemerides of GPS and Galileo I/NAV in a stream of all systems.
use Rattle.std.proofs.Common.{◌≡◌, ℕ, ◌+◌, ◌||◌, Bool, true, false, if◌then◌else◌, List, [], ◌∷◌, refl, ap, ◌∙◌, inl, inr}
use Rattle.std.specs.Prelude.{Option, None, Some, Result, Ok, Err}
use Rattle.nav_eph.specs.Items.{same_item}
use Rattle.nav_eph.specs.declared.items.NavItem.{NavItem}
use Rattle.nav_rows.specs.declared.kind.Kind.{Kind}
use Rattle.nav_rows.specs.declared.row.RowFault.{RowFault}
use Rattle.nav_rows.specs.Rows.{RowValue, row_in}
use Rattle.rtcm_eph.specs.Reading.{item_in}
use Rattle.rtcm_eph.specs.declared.fault.MessageFault.{MessageFault}
use Rattle.rtcm_eph.specs.declared.fault.MessageFault.TheVariants.{NoNumber, OtherMessage, Short, BadSat, BadTime, SpareSisa}
use Rattle.framing.specs.State.{payload_of}
use Rattle.streams.specs.Streams.{first_places, first_places_behind, has as nav_has, items_of_readings, readings as nav_readings}
use Rattle.all_systems.specs.Readings.{kind_at, kind_reading, reading_by, readings, row_reading, satellite_in}
use Rattle.all_systems.specs.Streams.{Numbered, firsts_behind, has, items_from, items_of, navs}
use Rattle.all_systems.specs.declared.kinds.Kinds.{Kinds}

-- of the items of frames
navs_of_frames : (ks : Kinds) (r n : ℕ) (past : List (List ℕ)) → navs (items_from n (readings ks r past)) ≡ items_of_readings (nav_readings r past)
navs_of_frames ks r n [] = refl
navs_of_frames ks r n (frame ∷ past) = step (item_in r (payload_of frame)) (navs_of_frames ks r (n + 1) past) where
  payload : List ℕ
  payload = payload_of frame

  Rest : Type 0
  Rest = navs (items_from (n + 1) (readings ks r past)) ≡ items_of_readings (nav_readings r past)

  row_step : (k : Kind) (m : ℕ) (x : Result RowValue RowFault) → Rest → navs (items_from n (row_reading k m x ∷ readings ks r past)) ≡ items_of_readings (nav_readings r past)
  row_step k m (Ok row) rest = rest
  row_step k m (Err fault) rest = rest

  kind_step : (o : Option Kind) (m : ℕ) → Rest → navs (items_from n (kind_reading o m payload r ∷ readings ks r past)) ≡ items_of_readings (nav_readings r past)
  kind_step None m rest = rest
  kind_step (Some k) m rest = row_step k m (row_in k payload r) rest

  step : (x : Result NavItem MessageFault) → Rest → navs (items_from n (reading_by ks r payload x ∷ readings ks r past)) ≡ items_of_readings (x ∷ nav_readings r past)
  step (Ok i) rest = ap (λ (l : List NavItem). i ∷ l) rest
  step (Err NoNumber) rest = rest
  step (Err (OtherMessage m)) rest = kind_step (kind_at ks m (satellite_in payload)) m rest
  step (Err Short) rest = rest
  step (Err BadSat) rest = rest
  step (Err BadTime) rest = rest
  step (Err SpareSisa) rest = rest

-- a duplicate is one of them
nav_before : (is : List Numbered) (e : NavItem) → has is (inl e) ≡ nav_has (navs is) e
nav_before [] e = refl
nav_before ((n, inl i) ∷ is) e = ap (λ (b : Bool). same_item i e || b) (nav_before is e)
nav_before ((n, inr x) ∷ is) e = nav_before is e

-- the first of duplicates
navs_of_firsts : (before is : List Numbered) → navs (firsts_behind before is) ≡ first_places_behind (navs before) (navs is)
navs_of_firsts before [] = refl
navs_of_firsts before ((n, inl e) ∷ is) =
    ap (λ (b : Bool). navs (if b then rest else (n, inl e) ∷ rest)) (nav_before before e)
    ∙ step (nav_has (navs before) e) (navs_of_firsts ((n, inl e) ∷ before) is) where
      rest : List Numbered
      rest = firsts_behind ((n, inl e) ∷ before) is

      step : (b : Bool) → navs rest ≡ first_places_behind (e ∷ navs before) (navs is)
          → navs (if b then rest else (n, inl e) ∷ rest) ≡ (if b then first_places_behind (e ∷ navs before) (navs is) else e ∷ first_places_behind (e ∷ navs before) (navs is))
      step true same = same
      step false same = ap (λ (l : List NavItem). e ∷ l) same
navs_of_firsts before ((n, inr x) ∷ is) = step (has before (inr x)) (navs_of_firsts ((n, inr x) ∷ before) is) where
  rest : List Numbered
  rest = firsts_behind ((n, inr x) ∷ before) is

  step : (b : Bool) → navs rest ≡ first_places_behind (navs before) (navs is) → navs (if b then rest else (n, inr x) ∷ rest) ≡ first_places_behind (navs before) (navs is)
  step true same = same
  step false same = same

pub navs_of_stream : (ks : Kinds) (r : ℕ) (past : List (List ℕ)) → navs (items_of (readings ks r past)) ≡ first_places (items_of_readings (nav_readings r past))
navs_of_stream ks r past = navs_of_firsts [] (items_from 1 (readings ks r past)) ∙ ap first_places (navs_of_frames ks r 1 past)
