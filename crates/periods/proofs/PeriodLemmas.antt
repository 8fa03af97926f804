-- Periods of sets of parts, and their findings: the same for equal sets, kept by later parts where they are closed.
use Rattle.std.proofs.Common.{◌≡◌, ℕ, ◌+◌, ◌<◌, ◌≤◌, ◌⊎◌, inl, inr, subst, arith}
use Rattle.periods.specs.Ends.{IsLaterSet}
use Rattle.periods.proofs.EndFacts.{Same, same_sym, IsEnd-same, IsEndOf-same, IsEnd-later, IsEnd-was, IsEndOf-later, IsEndOf-was}
use Rattle.nav_eph.specs.declared.galileo.GalHealth.{GalHealth}
use Rattle.nav_eph.specs.declared.tag.SentTag.{SentTag}
use Rattle.nav_eph.specs.declared.part.Part.{Part}
use Rattle.periods.specs.declared.key.PeriodKey.{PeriodKey}
use Rattle.periods.specs.declared.key.PeriodKey.TheVariants.{Gal}
use Rattle.periods.specs.declared.key.PeriodId.{PeriodId}
use Rattle.periods.specs.declared.closed.Finding.{Finding}
use Rattle.nav_eph.specs.Values.{IsPartValue}
use Rattle.periods.specs.Parts.{HealthOf, Says}
use Rattle.periods.specs.Periods.{IsReceivedAt, IsPeriod, IsMember}
use Rattle.periods.specs.Verdicts.{HasHealth, IsFound, IsUpToEnd, IsBehindEnd}
use Rattle.periods.proofs.ValueFindings.{IsHealthValue, IsFoundIn-one, IsFoundIn-same, health_value}

pub heard_to : (a b : Part → Type 0) (key : PeriodKey) (s : ℕ) → ((p : Part) → a p → b p) → IsReceivedAt a key s → IsReceivedAt b key s
heard_to a b key s to h = record { part = h.part; here = to h.part h.here; of_key = h.of_key; at_stamp = h.at_stamp }

pub heard_same : (a b : Part → Type 0) (key : PeriodKey) → Same a b → Same (IsReceivedAt a key) (IsReceivedAt b key)
heard_same a b key s = record { to = λ x h. heard_to a b key x s.to h; from = λ x h. heard_to b a key x s.from h }

pub IsPeriod-same : (w : ℕ) (a b : Part → Type 0) (q : PeriodId) → Same a b → IsPeriod w a q → IsPeriod w b q
IsPeriod-same w a b q s h = IsEnd-same w (IsReceivedAt a q.key) (IsReceivedAt b q.key) q.end (heard_same a b q.key s) h

IsMember-same : (w : ℕ) (a b : Part → Type 0) (q : PeriodId) (p : Part) → Same a b → IsMember w a q p → IsMember w b q p
IsMember-same w a b q p s h = record {
  here = s.to p h.here;
  of_key = h.of_key;
  ends = IsEndOf-same w (IsReceivedAt a q.key) (IsReceivedAt b q.key) q.end p.stamp (heard_same a b q.key s) h.ends;
}

pub members_same : (w : ℕ) (a b : Part → Type 0) (q : PeriodId) → Same a b → Same (IsMember w a q) (IsMember w b q)
members_same w a b q s = record { to = λ p h. IsMember-same w a b q p s h; from = λ p h. IsMember-same w b a q p (same_sym a b s) h }

-- a part carries health of the key's satellite, at its stamp
abbrev HasHealthIn : PeriodKey → ℕ × GalHealth × SentTag → Part → Type 0
HasHealthIn (Gal sat i) h p = Says (HealthOf sat) p h
HasHealthIn key h p = ⊥

said_at : (key : PeriodKey) (h : ℕ × GalHealth × SentTag) (p : Part) → HasHealthIn key h p → p.stamp ≡ h.0
said_at (Gal sat i) h p says = says.2
said_at key h p says = absurd says

-- the health near an end
health_to : (key : PeriodKey) (a b : Part → Type 0) (h : ℕ × GalHealth × SentTag) → ((p : Part) → HasHealthIn key h p → a p → b p) → HasHealth key a h → HasHealth key b h
health_to (Gal sat i) a b h to v = record { part = v.part; here = to v.part v.says v.here; says = v.says }
health_to key a b h to v = absurd v

pub up_to : (w : ℕ) (a b : Part → Type 0) (key : PeriodKey) (e : ℕ) (h : ℕ × GalHealth × SentTag) → ((p : Part) → p.stamp ≤ e → e ≤ p.stamp + w → a p → b p)
    → IsUpToEnd w a key e h → IsUpToEnd w b key e h
up_to w a b key e h to v = record {
  heard = health_to key a b h (λ p says. let s = said_at key h p says in to p (omega (arith, s, v.by_end)) (omega (arith, s, v.near))) v.heard;
  by_end = v.by_end;
  near = v.near;
}

pub behind_to : (w : ℕ) (a b : Part → Type 0) (key : PeriodKey) (e : ℕ) (h : ℕ × GalHealth × SentTag) → ((p : Part) → e < p.stamp → p.stamp ≤ e + w → a p → b p)
    → IsBehindEnd w a key e h → IsBehindEnd w b key e h
behind_to w a b key e h to v = record {
  heard = health_to key a b h (λ p says. let s = said_at key h p says in to p (omega (arith, s, v.behind)) (omega (arith, s, v.near))) v.heard;
  behind = v.behind;
  near = v.near;
}

pub before_same : (w : ℕ) (a b : Part → Type 0) (key : PeriodKey) (e : ℕ) → Same a b → Same (IsUpToEnd w a key e) (IsUpToEnd w b key e)
before_same w a b key e s = record { to = λ h v. up_to w a b key e h (λ p l n. s.to p) v; from = λ h v. up_to w b a key e h (λ p l n. s.from p) v }

pub behind_same : (w : ℕ) (a b : Part → Type 0) (key : PeriodKey) (e : ℕ) → Same a b → Same (IsBehindEnd w a key e) (IsBehindEnd w b key e)
behind_same w a b key e s = record { to = λ h v. behind_to w a b key e h (λ p l n. s.to p) v; from = λ h v. behind_to w b a key e h (λ p l n. s.from p) v }

-- the second set has the parts of the first, and further ones from the watermark on
pub record AreLater (watermark : ℕ) (old new : Part → Type 0) : Type 0 where
  pub keeps : (p : Part) → old p → new p
  pub later : (p : Part) → new p → old p ⊎ (watermark ≤ p.stamp)

heard_later : (watermark : ℕ) (old new : Part → Type 0) (key : PeriodKey) → AreLater watermark old new → IsLaterSet watermark (IsReceivedAt old key) (IsReceivedAt new key)
heard_later watermark old new key l = record {
  keeps = λ s h. heard_to old new key s l.keeps h;
  later = λ s h. elim (l.later h.part h.here) [
    | inl o ↦ inl (record { part = h.part; here = o; of_key = h.of_key; at_stamp = h.at_stamp })
    | inr m ↦ inr (subst (λ (x : ℕ). watermark ≤ x) h.at_stamp m)
  ];
}

pub IsPeriod-keeps : (w watermark : ℕ) (old new : Part → Type 0) (q : PeriodId) → AreLater watermark old new → q.end + w < watermark → IsPeriod w old q → IsPeriod w new q
IsPeriod-keeps w watermark old new q l low h = IsEnd-later w watermark (IsReceivedAt old q.key) (IsReceivedAt new q.key) q.end (heard_later watermark old new q.key l) low h

pub IsPeriod-was : (w watermark : ℕ) (old new : Part → Type 0) (q : PeriodId) → AreLater watermark old new → q.end < watermark → IsPeriod w new q → IsPeriod w old q
IsPeriod-was w watermark old new q l low h = IsEnd-was w watermark (IsReceivedAt old q.key) (IsReceivedAt new q.key) q.end (heard_later watermark old new q.key l) low h

pub members_later : (w watermark : ℕ) (old new : Part → Type 0) (q : PeriodId) → AreLater watermark old new → q.end + w < watermark → Same (IsMember w old q) (IsMember w new q)
members_later w watermark old new q l low = record {
  to = λ p h. record {
    here = l.keeps p h.here;
    of_key = h.of_key;
    ends = IsEndOf-later w watermark (IsReceivedAt old q.key) (IsReceivedAt new q.key) q.end p.stamp (heard_later watermark old new q.key l) low h.ends;
  };
  from = λ p h. record {
    here = elim (l.later p h.here) [ inl o ↦ o | inr m ↦ absurd (omega (arith, h.ends.after)) ];
    of_key = h.of_key;
    ends = IsEndOf-was w watermark (IsReceivedAt old q.key) (IsReceivedAt new q.key) q.end p.stamp (heard_later watermark old new q.key l) low h.ends;
  };
}

pub before_later : (w watermark : ℕ) (old new : Part → Type 0) (key : PeriodKey) (e : ℕ) → AreLater watermark old new → e + w < watermark → Same (IsUpToEnd w old key e) (IsUpToEnd w new key e)
before_later w watermark old new key e l low = record {
  to = λ h v. up_to w old new key e h (λ p k n. l.keeps p) v;
  from = λ h v. up_to w new old key e h (λ p k n i. elim (l.later p i) [ inl o ↦ o | inr m ↦ absurd (omega (arith, k)) ]) v;
}

pub behind_later : (w watermark : ℕ) (old new : Part → Type 0) (key : PeriodKey) (e : ℕ) → AreLater watermark old new → e + w < watermark → Same (IsBehindEnd w old key e) (IsBehindEnd w new key e)
behind_later w watermark old new key e l low = record {
  to = λ h v. behind_to w old new key e h (λ p k n. l.keeps p) v;
  from = λ h v. behind_to w new old key e h (λ p k n i. elim (l.later p i) [ inl o ↦ o | inr m ↦ absurd (omega (arith, n)) ]) v;
}

pub health_in_value : (key : PeriodKey) (parts : Part → Type 0) (h : ℕ × GalHealth × SentTag) → ((p : Part) → parts p → IsPartValue p) → HasHealth key parts h → IsHealthValue h
health_in_value (Gal sat i) parts h v b = health_value sat b.part h (v b.part b.here) b.says
health_in_value key parts h v b = absurd b

pub before_value : (w : ℕ) (parts : Part → Type 0) (key : PeriodKey) (e : ℕ) (h : ℕ × GalHealth × SentTag) → ((p : Part) → parts p → IsPartValue p) → IsUpToEnd w parts key e h → IsHealthValue h
before_value w parts key e h v b = health_in_value key parts h v b.heard

pub behind_value : (w : ℕ) (parts : Part → Type 0) (key : PeriodKey) (e : ℕ) (h : ℕ × GalHealth × SentTag) → ((p : Part) → parts p → IsPartValue p) → IsBehindEnd w parts key e h → IsHealthValue h
behind_value w parts key e h v b = health_in_value key parts h v b.heard

-- the finding of a period: the same for equal sets, kept by later parts where the period is closed, and unique
pub IsFound-same : (r w : ℕ) (a b : Part → Type 0) (q : PeriodId) (f : Finding) → Same a b → IsFound r w a q f → IsFound r w b q f
IsFound-same r w a b q f s h =
    IsFoundIn-same r q.key (IsMember w a q) (IsMember w b q)
    (IsUpToEnd w a q.key q.end) (IsBehindEnd w a q.key q.end) (IsUpToEnd w b q.key q.end) (IsBehindEnd w b q.key q.end)
    f (members_same w a b q s) (before_same w a b q.key q.end s) (behind_same w a b q.key q.end s) h

pub IsFound-keeps : (r w watermark : ℕ) (old new : Part → Type 0) (q : PeriodId) (f : Finding)
    → AreLater watermark old new → q.end + w < watermark → IsFound r w old q f → IsFound r w new q f
IsFound-keeps r w watermark old new q f l low h =
    IsFoundIn-same r q.key (IsMember w old q) (IsMember w new q)
    (IsUpToEnd w old q.key q.end) (IsBehindEnd w old q.key q.end) (IsUpToEnd w new q.key q.end) (IsBehindEnd w new q.key q.end)
    f (members_later w watermark old new q l low) (before_later w watermark old new q.key q.end l low) (behind_later w watermark old new q.key q.end l low) h

pub IsFound-was : (r w watermark : ℕ) (old new : Part → Type 0) (q : PeriodId) (f : Finding)
    → AreLater watermark old new → q.end + w < watermark → IsFound r w new q f → IsFound r w old q f
IsFound-was r w watermark old new q f l low h =
    IsFoundIn-same r q.key (IsMember w new q) (IsMember w old q)
    (IsUpToEnd w new q.key q.end) (IsBehindEnd w new q.key q.end) (IsUpToEnd w old q.key q.end) (IsBehindEnd w old q.key q.end)
    f (same_sym (IsMember w old q) (IsMember w new q) (members_later w watermark old new q l low))
    (same_sym (IsUpToEnd w old q.key q.end) (IsUpToEnd w new q.key q.end) (before_later w watermark old new q.key q.end l low))
    (same_sym (IsBehindEnd w old q.key q.end) (IsBehindEnd w new q.key q.end) (behind_later w watermark old new q.key q.end l low)) h

pub IsFound-one : (r w : ℕ) (parts : Part → Type 0) (q : PeriodId) (f g : Finding)
    → ((p : Part) → parts p → IsPartValue p) → IsFound r w parts q f → IsFound r w parts q g → f ≡ g
IsFound-one r w parts q f g values h k =
    IsFoundIn-one r q.key (IsMember w parts q) (IsUpToEnd w parts q.key q.end) (IsBehindEnd w parts q.key q.end) f g
    (λ p m. values p m.here) (λ x b. before_value w parts q.key q.end x values b) (λ x b. behind_value w parts q.key q.end x values b) h k
