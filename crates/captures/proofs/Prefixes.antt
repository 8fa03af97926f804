-- Texts that grew by prefixes, and what is closed before later lines.
use Rattle.std.proofs.Common.{◌≡◌, ℕ, ◌+◌, ◌*◌, ◌<◌, ◌≤◌, ◌^◌, List, [], ◌∷◌, ◌++◌, length, refl, sym, ap, subst, ◌∙◌, arith, append_assoc, append-nil}
use Rattle.std.specs.Prelude.{Option, None, Some, All, Bool, if◌then◌else◌, true, false}
use Rattle.std.specs.Io.KnownBytes.{Appends}
use Rattle.std.proofs.KnownBytes.{Appends-trans}
use Rattle.std.proofs.Math.Nat.{mul-le-mul_left, mul-le-mul_right}
use Rattle.nav_eph.specs.Values.{IsPartValue}
use Rattle.nav_eph.specs.declared.part.Part.{Part}
use Rattle.nav_io.specs.Prefix.{AppendsPrefix, IsPrefix}
use Rattle.nav_io.specs.Lines.{Line}
use Rattle.periods.specs.declared.closed.Closed.{Closed}
use Rattle.periods.specs.declared.key.PeriodId.{PeriodId}
use Rattle.periods.specs.PeriodLists.{IsPeriodPrefix}
use Rattle.periods.specs.PeriodsOf.{closed_of, insert, insert_at, periods_ending, periods_of, place_at, quiet, closed_with, verdict_at, is_before}
use Rattle.periods.specs.Verdicts.{closed_place}
use Rattle.capture_log.specs.Log.{watermark_after, parts_of}
use Rattle.streams.specs.declared.target.Target.{Target}
use Rattle.captures.specs.Captures.{texts_of}
use Rattle.one_run.specs.Runs.{AppendsBetween}
use Rattle.captures.proofs.Writing.{texts_prefix}

-- what is closed by lines, as the log's laws say it
pub record LogLaws : Type 0 where
  pub later : (r window : ℕ) (lines more : List Line)
      → closed_of r window (watermark_after window lines) (parts_of window (lines ++ more)) ≡ closed_of r window (watermark_after window lines) (parts_of window lines)
  pub rise : (r window : ℕ) (lines more : List Line)
      → IsPeriodPrefix (closed_of r window (watermark_after window lines) (parts_of window lines)) (closed_of r window (watermark_after window (lines ++ more)) (parts_of window (lines ++ more)))
  pub prefix : (r window : ℕ) (lines more : List Line)
      → IsPeriodPrefix (closed_of r window (watermark_after window lines) (parts_of window lines)) (periods_of r window (parts_of window (lines ++ more)))
  pub values : (window : ℕ) (lines : List Line) → All IsPartValue (parts_of window lines)

-- ---- prefixes

pub prefix_same : (xs : List ℕ) → IsPrefix xs xs
prefix_same xs = ([], sym (append-nil xs))

pub prefix_nil : (xs : List ℕ) → IsPrefix [] xs
prefix_nil xs = (xs, refl)

pub prefix_trans : (xs ys zs : List ℕ) → IsPrefix xs ys → IsPrefix ys zs → IsPrefix xs zs
prefix_trans xs ys zs (a, e) (b, f) = (a ++ b, f ∙ ap (λ (l : List ℕ). l ++ b) e ∙ append_assoc xs a b)

pub prefix_more : (xs ys : List ℕ) → IsPrefix xs (xs ++ ys)
prefix_more xs ys = (ys, refl)

pub prefix_behind : (xs ys zs : List ℕ) → IsPrefix ys zs → IsPrefix (xs ++ ys) (xs ++ zs)
prefix_behind xs ys zs (a, e) = (a, ap (λ (l : List ℕ). xs ++ l) e ∙ sym (append_assoc xs ys a))

pub appends_whole : (a b : Option (List ℕ)) (xs : List ℕ) → Appends a b xs → AppendsPrefix a b xs
appends_whole a b xs h = (xs, prefix_same xs, h)

pub appends_longer : (a b : Option (List ℕ)) (xs ys : List ℕ) → IsPrefix xs ys → AppendsPrefix a b xs → AppendsPrefix a b ys
appends_longer a b xs ys prefix (x, within, h) = (x, prefix_trans x xs ys within prefix, h)

pub appends_behind : (a b c : Option (List ℕ)) (xs ys : List ℕ) → Appends a b xs → AppendsPrefix b c ys → AppendsPrefix a c (xs ++ ys)
appends_behind a b c xs ys h (y, within, g) = (xs ++ y, prefix_behind xs y ys within, Appends-trans a b c xs y h g)

-- ---- what the lines taken close comes before all other periods

-- exactly that was written
pub written_closed : (laws : LogLaws) (r window : ℕ) (to : Target) (given more : List Line) (all : List Line) (start written : Option (List ℕ)) → all ≡ given ++ more
    → Appends start written (texts_of to (closed_of r window (watermark_after window given) (parts_of window given)))
    → AppendsBetween start written (texts_of to (closed_of r window (watermark_after window given) (parts_of window given))) (texts_of to (periods_of r window (parts_of window all)))
written_closed laws r window to given more all start written e text =
    let closed = closed_of r window (watermark_after window given) (parts_of window given) in
    record {
      prefix = texts_of to closed;
      within = subst (λ (l : List Line). IsPrefix (texts_of to closed) (texts_of to (periods_of r window (parts_of window l)))) (sym e)
          (texts_prefix to closed (periods_of r window (parts_of window (given ++ more))) (laws.prefix r window given more));
      no_less = prefix_same (texts_of to closed);
      grew = text;
    }

-- exactly that was written, and more may be closed by one more line
pub written_still : (laws : LogLaws) (r window : ℕ) (to : Target) (given last : List Line) (start written : Option (List ℕ))
    → Appends start written (texts_of to (closed_of r window (watermark_after window given) (parts_of window given)))
    → AppendsBetween start written (texts_of to (closed_of r window (watermark_after window given) (parts_of window given)))
    (texts_of to (closed_of r window (watermark_after window (given ++ last)) (parts_of window (given ++ last))))
written_still laws r window to given last start written text =
    let closed = closed_of r window (watermark_after window given) (parts_of window given) in
    let more = closed_of r window (watermark_after window (given ++ last)) (parts_of window (given ++ last)) in
    record {
      prefix = texts_of to closed;
      within = texts_prefix to closed more (laws.rise r window given last);
      no_less = prefix_same (texts_of to closed);
      grew = text;
    }

-- a prefix of what is closed by one more line
pub written_line : (laws : LogLaws) (r window : ℕ) (to : Target) (given last : List Line) (start written : Option (List ℕ)) (text : List ℕ)
    → AppendsBetween start written (texts_of to (closed_of r window (watermark_after window given) (parts_of window (given ++ last)))) text
    → AppendsBetween start written (texts_of to (closed_of r window (watermark_after window given) (parts_of window given))) text
written_line laws r window to given last start written text h = subst (λ (cs : List Closed). AppendsBetween start written (texts_of to cs) text) (laws.later r window given last) h

-- the same with all periods that more lines give
pub written_between : (laws : LogLaws) (r window : ℕ) (to : Target) (given last more : List Line) (start written : Option (List ℕ))
    → AppendsBetween start written (texts_of to (closed_of r window (watermark_after window given) (parts_of window given)))
    (texts_of to (closed_of r window (watermark_after window (given ++ last)) (parts_of window (given ++ last))))
    → AppendsBetween start written (texts_of to (closed_of r window (watermark_after window given) (parts_of window given)))
    (texts_of to (periods_of r window (parts_of window ((given ++ last) ++ more))))
written_between laws r window to given last more start written h =
    let all = given ++ last in
    let closed = closed_of r window (watermark_after window all) (parts_of window all) in
    let periods = periods_of r window (parts_of window (all ++ more)) in
    record {
      prefix = h.prefix;
      within = prefix_trans h.prefix (texts_of to closed) (texts_of to periods) h.within (texts_prefix to closed periods (laws.prefix r window all more));
      no_less = h.no_less;
      grew = h.grew;
    }

-- ---- how many periods

if_periods : (b : Bool) (xs ys : List Closed) (n : ℕ) → length xs ≤ n → length ys ≤ n → length (if b then xs else ys) ≤ n
if_periods true xs ys n k l = k
if_periods false xs ys n k l = l

insert_few : (c : Closed) (cs : List Closed) → length (insert c cs) ≤ length cs + 1
insert_few c [] = omega arith
insert_few c (d ∷ ds) =
    let n = length (d ∷ ds) + 1 in
    let one : length (c ∷ d ∷ ds) ≤ n = omega arith in
    let two : length (d ∷ insert c ds) ≤ n = omega (arith, insert_few c ds) in
    let three : length (d ∷ ds) ≤ n = omega arith in
    if_periods (is_before (closed_place c) (closed_place d)) (c ∷ d ∷ ds) (if is_before (closed_place d) (closed_place c) then d ∷ insert c ds else d ∷ ds) n one
    (if_periods (is_before (closed_place d) (closed_place c)) (d ∷ insert c ds) (d ∷ ds) n two three)

at_few : (r window : ℕ) (parts : List Part) (place : Option PeriodId) (cs : List Closed) → length (insert_at r window parts place cs) ≤ length cs + 1
at_few r window parts None cs = omega arith
at_few r window parts (Some q) cs =
    let n = length cs + 1 in
    let same : length cs ≤ n = omega arith in
    let c = closed_with q (verdict_at r window parts q) in
    if_periods (quiet parts window q.key q.end) (insert c cs) cs n (insert_few c cs) same

ending_few : (r window : ℕ) (parts ps : List Part) → length (periods_ending r window parts ps) ≤ length ps
ending_few r window parts [] = omega arith
ending_few r window parts (p ∷ ps) = omega (arith, at_few r window parts (place_at p) (periods_ending r window parts ps), ending_few r window parts ps)

-- no more periods than parts
pub periods_few : (r window : ℕ) (parts : List Part) → length (periods_of r window parts) ≤ length parts
unfolding periods_of
periods_few r window parts = ending_few r window parts parts

product_low : (n k m : ℕ) → n ≤ m → n * (n + k) ≤ m * (m + k)
product_low n k m l =
    let first : n * (n + k) ≤ n * (m + k) = mul-le-mul_left n (omega (arith, l)) in
    let second : n * (m + k) ≤ m * (m + k) = mul-le-mul_right (m + k) l in
    omega (arith, first, second)

-- fewer than 2^64 periods from this number of lines
pub periods_low : (r window n : ℕ) (parts : List Part) → length parts ≤ n * (n + 4) → n ≤ 4294967294 → length (periods_of r window parts) < 2 ^ 64
periods_low r window n parts few l = omega (arith, periods_few r window parts, few, product_low n 4 4294967294 l)

-- one line more can be counted
pub counts_low : (n t k : ℕ) → 2 * t ≤ n * (n + 3) → k ≤ n → n ≤ 4294967294 → t + k + 1 < 2 ^ 64
counts_low n t k room few l = omega (arith, room, few, l, product_low n 3 4294967294 l)
