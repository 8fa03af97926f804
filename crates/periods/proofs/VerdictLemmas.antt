-- Verdicts: the same for equal sets, kept by later parts where the period is closed, and unique.
use Rattle.std.proofs.Common.{◌≡◌, ℕ, ◌+◌, ◌<◌, inl, inr, sym, ap, subst, ◌∙◌}
use Rattle.periods.proofs.EndFacts.{Same, same_sym}
use Rattle.nav_eph.specs.Weeks.{IsReference}
use Rattle.nav_eph.specs.Conditions.{IsPart}
use Rattle.nav_eph.specs.Ranges.{HasRanges, IsItem}
use Rattle.nav_eph.specs.declared.items.NavItem.{NavItem}
use Rattle.nav_eph.specs.declared.part.Part.{Part}
use Rattle.periods.specs.declared.key.PeriodId.{PeriodId}
use Rattle.periods.specs.declared.closed.Finding.{Finding}
use Rattle.periods.specs.declared.closed.Finding.TheVariants.{Differs, Misses, LacksHealth, Complete}
use Rattle.periods.specs.declared.closed.Verdict.{Verdict}
use Rattle.periods.specs.declared.closed.Verdict.TheVariants.{Whole, Partial, Contradicted, NoHealth, Again}
use Rattle.periods.specs.declared.closed.Closed.{Closed}
use Rattle.nav_eph.specs.Values.{IsPartValue}
use Rattle.periods.specs.Periods.{IsMember}
use Rattle.periods.specs.Verdicts.{IsFound, IsUpToEnd, IsBehindEnd, Repeats, IsJudged, IsVerdict, IsClosed, closed_place}
use Rattle.periods.proofs.ValueItems.{item_fits}
use Rattle.periods.proofs.PeriodLemmas.{AreLater, IsPeriod-same, IsPeriod-keeps, IsFound-same, IsFound-keeps, IsFound-one}
use Rattle.periods.proofs.AgainLemmas.{Repeats-same, Repeats-keeps, Repeats-was, IsJudged-same, IsJudged-one}

pub IsVerdict-same : (r w : ℕ) (a b : Part → Type 0) (q : PeriodId) (v : Verdict) → Same a b → IsVerdict r w a q v → IsVerdict r w b q v
IsVerdict-same r w a b q v s h = record {
  finding = h.finding;
  found = IsFound-same r w a b q h.finding s h.found;
  judged = IsJudged-same (Repeats r w a q) (Repeats r w b q) h.finding v
      (record { to = λ item k. Repeats-same r w a b q item s k; from = λ item k. Repeats-same r w b a q item (same_sym a b s) k }) h.judged;
}

pub IsClosed-same : (r w : ℕ) (a b : Part → Type 0) (c : Closed) → Same a b → IsClosed r w a c → IsClosed r w b c
IsClosed-same r w a b c s h = record { period = IsPeriod-same w a b (closed_place c) s h.period; verdict = IsVerdict-same r w a b (closed_place c) c.verdict s h.verdict }

-- a closed period keeps its verdict
pub IsVerdict-keeps : (r w watermark : ℕ) (old new : Part → Type 0) (q : PeriodId) (v : Verdict)
    → AreLater watermark old new → q.end + w < watermark → IsVerdict r w old q v → IsVerdict r w new q v
IsVerdict-keeps r w watermark old new q v l low h = record {
  finding = h.finding;
  found = IsFound-keeps r w watermark old new q h.finding l low h.found;
  judged = IsJudged-same (Repeats r w old q) (Repeats r w new q) h.finding v (record {
    to = λ item k. Repeats-keeps r w watermark old new q item l low k;
    from = λ item k. Repeats-was r w watermark old new q item l low k;
  }) h.judged;
}

pub IsClosed-keeps : (r w watermark : ℕ) (old new : Part → Type 0) (c : Closed) → AreLater watermark old new → c.end + w < watermark → IsClosed r w old c → IsClosed r w new c
IsClosed-keeps r w watermark old new c l low h = record {
  period = IsPeriod-keeps w watermark old new (closed_place c) l low h.period;
  verdict = IsVerdict-keeps r w watermark old new (closed_place c) c.verdict l low h.verdict;
}

-- a period has one verdict
pub IsVerdict-one : (r w : ℕ) (parts : Part → Type 0) (q : PeriodId) (u v : Verdict)
    → ((p : Part) → parts p → IsPartValue p) → IsVerdict r w parts q u → IsVerdict r w parts q v → u ≡ v
IsVerdict-one r w parts q u v values h k =
    let same : h.finding ≡ k.finding = IsFound-one r w parts q h.finding k.finding values h.found k.found in
    IsJudged-one (Repeats r w parts q) k.finding u v (subst (λ (f : Finding). IsJudged (Repeats r w parts q) f u) same h.judged) k.judged

pub IsClosed-one : (r w : ℕ) (parts : Part → Type 0) (c d : Closed) → ((p : Part) → parts p → IsPartValue p) → closed_place c ≡ closed_place d → IsClosed r w parts c → IsClosed r w parts d → c ≡ d
IsClosed-one r w parts c d values e h k =
    let v : c.verdict ≡ d.verdict = IsVerdict-one r w parts (closed_place d) c.verdict d.verdict values (subst (λ (q : PeriodId). IsVerdict r w parts q c.verdict) e h.verdict) k.verdict in
    let f : c.end ≡ d.end = ap (λ (q : PeriodId). q.end) e in
    let g : c.key ≡ d.key = ap (λ (q : PeriodId). q.key) e in
    λ i. record { end = f i; key = g i; verdict = v i }

-- the item of a period with the verdict `Whole` is that of its finding
pub whole_item : (repeats : NavItem → Type 0) (f : Finding) (item : NavItem) (v : Verdict) → IsJudged repeats f v → v ≡ Whole item → f ≡ Complete item
whole_item repeats Differs item v h e = absurd (let g : Contradicted ≡ Whole item = sym h ∙ e in cc)
whole_item repeats Misses item v h e = absurd (let g : Partial ≡ Whole item = sym h ∙ e in cc)
whole_item repeats LacksHealth item v h e = absurd (let g : NoHealth ≡ Whole item = sym h ∙ e in cc)
whole_item repeats (Complete x) item v h e = elim h [
  | inl y ↦ absurd (let g : Again ≡ Whole item = sym y.1 ∙ e in cc)
  | inr y ↦ let g : Whole x ≡ Whole item = sym y.1 ∙ e in cc
]

-- a period with the verdict `Again` repeats an earlier one
pub again_repeats : (repeats : NavItem → Type 0) (f : Finding) (v : Verdict) → IsJudged repeats f v → v ≡ Again → (item : NavItem) × repeats item
again_repeats repeats Differs v h e = absurd (let g : Contradicted ≡ Again = sym h ∙ e in cc)
again_repeats repeats Misses v h e = absurd (let g : Partial ≡ Again = sym h ∙ e in cc)
again_repeats repeats LacksHealth v h e = absurd (let g : NoHealth ≡ Again = sym h ∙ e in cc)
again_repeats repeats (Complete x) v h e = elim h [
  | inl y ↦ (x, y.0)
  | inr y ↦ absurd (let g : Whole x ≡ Again = sym y.1 ∙ e in cc)
]

pub item_fits_period : (r w : ℕ) (parts : Part → Type 0) (c : Closed) (item : NavItem) → IsReference r → ((p : Part) → parts p → IsPartValue p) → ((p : Part) → parts p → IsPart p.sat p.body)
    → HasRanges item → IsClosed r w parts c → c.verdict ≡ Whole item → IsItem item
item_fits_period r w parts c item reference values are ranges h e =
    let q = closed_place c in
    let f = whole_item (Repeats r w parts q) h.verdict.finding item c.verdict h.verdict.judged e in
    item_fits r q.key (IsMember w parts q) (IsUpToEnd w parts q.key q.end) (IsBehindEnd w parts q.key q.end) item reference
    (record { of_key = λ p m. m.of_key; is_part = λ p m. are p m.here; is_value = λ p m. values p m.here }) ranges
    (subst (λ (x : Finding). IsFound r w parts q x) f h.verdict.found)
