-- The trait's theorems for the slot assembly: its parts are values, and their order and repetition
-- do not matter. (An impl names the proof of a theorem, and code can name only what is in specs/.)
use Rattle.std.proofs.Common.{ℕ, Option, None, Some, All, List, Contains, get_or, ◌↔◌}
use Rattle.std.proofs.lemmas.List.Elements.{All-contains, Contains-get_or}
use Rattle.nav_eph.specs.declared.items.NavItem.{NavItem}
use Rattle.nav_eph.specs.declared.part.Part.{Part}
use Rattle.nav_eph.specs.Values.{IsPartValue}
use Rattle.periods.proofs.Surface.{Same, same_sym}
use Rattle.periods.specs.declared.key.PeriodKey.{PeriodKey}
use Rattle.periods.specs.declared.key.PeriodId.{PeriodId}
use Rattle.periods.proofs.Surface.{IsPeriod-same, members_same, IsDigest-same, IsComplete-same, HasValue-to}
use Rattle.periods.specs.Parts.{HealthOf}
use Rattle.slot_assembly.specs.Standing.{Standing, with_parts}
use Rattle.slot_assembly.specs.declared.slot.Slot.{Slot}
use Rattle.slot_assembly.specs.Order.{rank_of}
use Rattle.slot_assembly.specs.Slots.{slot_place}
use Rattle.slot_assembly.specs.SlotStanding.{SlotsState, SlotsStandFor, IsSlot, IsKnownGiven, known_at}

-- each part that the assembly represents is a value of its type
pub parts_are_values : (s : SlotsState) (at : Standing) → SlotsStandFor s at → All IsPartValue at.parts
parts_are_values s at h = h.values

-- the slot of a period is the same for equal sets of parts
IsSlot-same : (w : ℕ) (a b : Part → Type 0) (last : Option PeriodId) (s : Slot) → Same a b → IsSlot w a last s → IsSlot w b last s
IsSlot-same w a b last s e h =
    let m = members_same w a b (slot_place s) e in
    record {
      period = IsPeriod-same w a b (slot_place s) e h.period;
      after = h.after;
      starts = (h.starts.0, m.to h.starts.0 h.starts.1, h.starts.2);
      start = λ p i. h.start p (m.from p i);
      digest = IsDigest-same s.key _ _ s.digest m h.digest;
    }

-- the known item of a key is the same for equal sets of parts
IsKnownGiven-same : (r w : ℕ) (a b : Part → Type 0) (last : Option PeriodId) (key : PeriodKey) (o : Option NavItem) → Same a b → IsKnownGiven r w a last key o → IsKnownGiven r w b last key o
IsKnownGiven-same r w a b last key None e h = λ eph f item c g. h eph f item (IsComplete-same r w b a key f item (same_sym a b e) c) g
IsKnownGiven-same r w a b last key (Some item) e h = record {
  ephemeris = h.ephemeris;
  at = h.at;
  complete = IsComplete-same r w a b key h.at item e h.complete;
  given = h.given;
  greatest = λ f other c g. h.greatest f other (IsComplete-same r w b a key f other (same_sym a b e) c) g;
}

-- the assembly represents its parts in any order and with any repetition
pub parts_are_a_set : (s : SlotsState) (at : Standing) (other : List Part) → SlotsStandFor s at
    → ((p : Part) → Contains at.parts p ↔ Contains other p) → SlotsStandFor s (with_parts other at)
parts_are_a_set s at other h same =
    let a = Contains at.parts in
    let b = Contains other in
    let e : Same a b = record { to = λ p. (same p).0; from = λ p. (same p).1 } in
    let back = same_sym a b e in
    record {
      slots = record {
        each = λ x i. IsSlot-same s.window a b at.last x e (h.slots.each x i);
        every = λ q k after. h.slots.every q (IsPeriod-same s.window b a q back k) after;
      };
      indexed = h.indexed;
      kept = record {
        was_received = λ x v i. let f = h.kept.was_received x v i in (f.0, HasValue-to (HealthOf f.0) a b v e.to f.1, f.2);
        recent = h.kept.recent;
        every = λ sat v i l. h.kept.every sat v (HasValue-to (HealthOf sat) b a v e.from i) l;
      };
      stamped = h.stamped;
      known = record {
        each = λ key. IsKnownGiven-same s.reference s.window a b at.last key (known_at s.known (rank_of key)) e (h.known.each key);
        only = h.known.only;
      };
      known_ordered = h.known_ordered;
      at_watermark = h.at_watermark;
      at_last = h.at_last;
      given = h.given;
      none_due = λ q due. h.none_due q (record { period = IsPeriod-same s.window b a q back due.period; low = due.low; after = due.after });
      none_by = h.none_by;
      values = λ k d l. All-contains IsPartValue at.parts (get_or other k d) h.values ((same (get_or other k d)).1 (Contains-get_or other k d l));
    }
