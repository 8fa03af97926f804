-- The theorems about the trait for the plain assembly: its parts are values, and a set. (An impl
-- names the proof of a theorem, and code can name what is in specs/ alone.)
use Rattle.std.proofs.Common.{All, List, Contains, get_or, ◌↔◌}
use Rattle.std.proofs.lemmas.List.Elements.{All-contains, Contains-get_or}
use Rattle.nav_eph.specs.declared.part.Part.{Part}
use Rattle.nav_eph.specs.Values.{IsPartValue}
use Rattle.periods.proofs.Surface.{IsPeriod-same}
use Rattle.slot_assembly.specs.Standing.{Standing, with_parts}
use Rattle.nav_laws.specs.Plain.{PlainState, PlainStandsFor}

pub parts_are_values : (s : PlainState) (at : Standing) → PlainStandsFor s at → All IsPartValue at.parts
parts_are_values s at h = λ k d l.
    All-contains IsPartValue s.parts (get_or at.parts k d) h.values (h.keeps (get_or at.parts k d) (Contains-get_or at.parts k d l))

pub parts_are_a_set : (s : PlainState) (at : Standing) (other : List Part) → PlainStandsFor s at
    → ((p : Part) → Contains at.parts p ↔ Contains other p) → PlainStandsFor s (with_parts other at)
parts_are_a_set s at other h same = record {
  keeps = λ p i. h.keeps p ((same p).1 i);
  keeps_no_more = λ p i. (same p).0 (h.keeps_no_more p i);
  at_watermark = h.at_watermark;
  at_last = h.at_last;
  values = h.values;
  least = h.least;
  none_due = λ q due. h.none_due q (record {
    period = IsPeriod-same s.window (Contains other) (Contains at.parts) q (record { to = λ p. (same p).1; from = λ p. (same p).0 }) due.period;
    low = due.low;
    after = due.after;
  });
  none_by = h.none_by;
}
