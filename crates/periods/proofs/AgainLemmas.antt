-- The key's last complete period before an end, and its repetition: the same for equal sets, kept by later parts, and unique.
use Rattle.std.proofs.Common.{◌≡◌, ℕ, ◌+◌, ◌<◌, inl, inr, sym, subst, ◌∙◌, arith}
use Rattle.periods.proofs.EndFacts.{Same, same_sym}
use Rattle.nav_eph.specs.declared.items.NavItem.{NavItem}
use Rattle.nav_eph.specs.declared.part.Part.{Part}
use Rattle.periods.specs.declared.key.PeriodKey.{PeriodKey}
use Rattle.periods.specs.declared.key.PeriodId.{PeriodId}
use Rattle.periods.specs.declared.closed.Finding.{Finding}
use Rattle.periods.specs.declared.closed.Finding.TheVariants.{Differs, Misses, LacksHealth, Complete}
use Rattle.periods.specs.declared.closed.Verdict.{Verdict}
use Rattle.nav_eph.specs.Values.{IsPartValue}
use Rattle.periods.specs.PeriodsOf.{end_place}
use Rattle.periods.specs.Verdicts.{IsComplete, IsLastBefore, Repeats, IsJudged}
use Rattle.periods.proofs.PeriodLemmas.{AreLater, IsPeriod-same, IsPeriod-keeps, IsPeriod-was, IsFound-same, IsFound-keeps, IsFound-was, IsFound-one}

pub IsComplete-same : (r w : ℕ) (a b : Part → Type 0) (key : PeriodKey) (e : ℕ) (item : NavItem)
    → Same a b → IsComplete r w a key e item → IsComplete r w b key e item
IsComplete-same r w a b key e item s h = record {
  period = IsPeriod-same w a b (end_place key e) s h.period;
  found = IsFound-same r w a b (end_place key e) (Complete item) s h.found;
}

pub IsComplete-keeps : (r w watermark : ℕ) (old new : Part → Type 0) (key : PeriodKey) (e : ℕ) (item : NavItem)
    → AreLater watermark old new → e + w < watermark → IsComplete r w old key e item → IsComplete r w new key e item
IsComplete-keeps r w watermark old new key e item l low h = record {
  period = IsPeriod-keeps w watermark old new (end_place key e) l low h.period;
  found = IsFound-keeps r w watermark old new (end_place key e) (Complete item) l low h.found;
}

pub IsComplete-was : (r w watermark : ℕ) (old new : Part → Type 0) (key : PeriodKey) (e : ℕ) (item : NavItem)
    → AreLater watermark old new → e + w < watermark → IsComplete r w new key e item → IsComplete r w old key e item
IsComplete-was r w watermark old new key e item l low h = record {
  period = IsPeriod-was w watermark old new (end_place key e) l (omega arith) h.period;
  found = IsFound-was r w watermark old new (end_place key e) (Complete item) l low h.found;
}

one_item : (a b : NavItem) → Complete a ≡ Complete b → a ≡ b
one_item a b e = cc

pub IsComplete-one : (r w : ℕ) (parts : Part → Type 0) (key : PeriodKey) (e : ℕ) (a b : NavItem)
    → ((p : Part) → parts p → IsPartValue p) → IsComplete r w parts key e a → IsComplete r w parts key e b → a ≡ b
IsComplete-one r w parts key e a b values h k =
    one_item a b (IsFound-one r w parts (end_place key e) (Complete a) (Complete b) values h.found k.found)

pub IsLastBefore-same : (r w : ℕ) (a b : Part → Type 0) (key : PeriodKey) (e : ℕ) (item : NavItem)
    → Same a b → IsLastBefore r w a key e item → IsLastBefore r w b key e item
IsLastBefore-same r w a b key e item s h = record {
  at = h.at;
  earlier = h.earlier;
  complete = IsComplete-same r w a b key h.at item s h.complete;
  last = λ f other c l. h.last f other (IsComplete-same r w b a key f other (same_sym a b s) c) l;
}

pub IsLastBefore-keeps : (r w watermark : ℕ) (old new : Part → Type 0) (key : PeriodKey) (e : ℕ) (item : NavItem)
    → AreLater watermark old new → e + w < watermark → IsLastBefore r w old key e item → IsLastBefore r w new key e item
IsLastBefore-keeps r w watermark old new key e item l low h = record {
  at = h.at;
  earlier = h.earlier;
  complete = IsComplete-keeps r w watermark old new key h.at item l (omega (arith, h.earlier)) h.complete;
  last = λ f other c k. h.last f other (IsComplete-was r w watermark old new key f other l (omega arith) c) k;
}

pub IsLastBefore-was : (r w watermark : ℕ) (old new : Part → Type 0) (key : PeriodKey) (e : ℕ) (item : NavItem)
    → AreLater watermark old new → e + w < watermark → IsLastBefore r w new key e item → IsLastBefore r w old key e item
IsLastBefore-was r w watermark old new key e item l low h = record {
  at = h.at;
  earlier = h.earlier;
  complete = IsComplete-was r w watermark old new key h.at item l (omega (arith, h.earlier)) h.complete;
  last = λ f other c k. h.last f other (IsComplete-keeps r w watermark old new key f other l (omega arith) c) k;
}

-- the last complete period before an end is unique
pub IsLastBefore-one : (r w : ℕ) (parts : Part → Type 0) (key : PeriodKey) (e : ℕ) (a b : NavItem)
    → ((p : Part) → parts p → IsPartValue p) → IsLastBefore r w parts key e a → IsLastBefore r w parts key e b → a ≡ b
IsLastBefore-one r w parts key e a b values h k =
    let at : h.at ≡ k.at = omega (arith, h.last k.at b k.complete k.earlier, k.last h.at a h.complete h.earlier) in
    IsComplete-one r w parts key k.at a b values (subst (λ (z : ℕ). IsComplete r w parts key z a) at h.complete) k.complete

pub Repeats-same : (r w : ℕ) (a b : Part → Type 0) (q : PeriodId) (item : NavItem)
    → Same a b → Repeats r w a q item → Repeats r w b q item
Repeats-same r w a b q item s h = record {
  ephemeris = h.ephemeris;
  before = h.before;
  is_before = IsLastBefore-same r w a b q.key q.end h.before s h.is_before;
  alike = h.alike;
}

pub Repeats-keeps : (r w watermark : ℕ) (old new : Part → Type 0) (q : PeriodId) (item : NavItem)
    → AreLater watermark old new → q.end + w < watermark → Repeats r w old q item → Repeats r w new q item
Repeats-keeps r w watermark old new q item l low h = record {
  ephemeris = h.ephemeris;
  before = h.before;
  is_before = IsLastBefore-keeps r w watermark old new q.key q.end h.before l low h.is_before;
  alike = h.alike;
}

pub Repeats-was : (r w watermark : ℕ) (old new : Part → Type 0) (q : PeriodId) (item : NavItem)
    → AreLater watermark old new → q.end + w < watermark → Repeats r w new q item → Repeats r w old q item
Repeats-was r w watermark old new q item l low h = record {
  ephemeris = h.ephemeris;
  before = h.before;
  is_before = IsLastBefore-was r w watermark old new q.key q.end h.before l low h.is_before;
  alike = h.alike;
}

-- the verdict on a finding is unique, and depends only on whether the item repeats an earlier one
pub IsJudged-same : (a b : NavItem → Type 0) (f : Finding) (v : Verdict) → Same a b → IsJudged a f v → IsJudged b f v
IsJudged-same a b Differs v s h = h
IsJudged-same a b Misses v s h = h
IsJudged-same a b LacksHealth v s h = h
IsJudged-same a b (Complete item) v s h = elim h [
  | inl x ↦ inl (s.to item x.0, x.1)
  | inr x ↦ inr (λ k. x.0 (s.from item k), x.1)
]

pub IsJudged-one : (repeats : NavItem → Type 0) (f : Finding) (u v : Verdict) → IsJudged repeats f u → IsJudged repeats f v → u ≡ v
IsJudged-one repeats Differs u v h k = h ∙ sym k
IsJudged-one repeats Misses u v h k = h ∙ sym k
IsJudged-one repeats LacksHealth u v h k = h ∙ sym k
IsJudged-one repeats (Complete item) u v h k = elim h [
  | inl x ↦ elim k [ inl y ↦ x.1 ∙ sym y.1 | inr y ↦ absurd (y.0 x.0) ]
  | inr x ↦ elim k [ inl y ↦ absurd (x.0 y.0) | inr y ↦ x.1 ∙ sym y.1 ]
]
