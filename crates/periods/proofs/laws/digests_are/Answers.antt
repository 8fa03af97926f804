use Rattle.std.proofs.Common.{Contains, List, [], ◌∷◌, ◌++◌, inl, inr, sym, ◌≡◌}
use Rattle.std.proofs.lemmas.List.Elements.{Contains-append_left, Contains-append_right, Contains-append_cases}
use Rattle.nav_eph.specs.declared.part.Part.{Part}
use Rattle.periods.proofs.EndFacts.{In-from_contains, contains_from_In}
use Rattle.periods.specs.Periods.{IsMember}
use Rattle.periods.specs.Verdicts.{IsUpToEnd, IsBehindEnd}
use Rattle.periods.specs.DigestsOf.{health_at}
use Rattle.periods.proofs.ValueLemmas.{IsUnion}
use Rattle.periods.proofs.DigestLemmas.{digest_of-is, digest_join-is, IsDigest-same}
use Rattle.periods.proofs.DigestFindings.{digest_finding-is}
use Rattle.periods.proofs.HealthLemmas.{health_at-is}
use Rattle.periods.proofs.laws.digests_are.Goals as goal

union_of : (some more : List Part) → IsUnion (Contains some) (Contains more) (Contains (some ++ more))
union_of some more = record {
  left = λ p i. Contains-append_left some more p i;
  right = λ p i. Contains-append_right some more p i;
  cases = λ p i. Contains-append_cases some more p i;
}

pub returns : goal.returns
returns c = record {
  one = λ p key d k e. IsDigest-same key (λ q. q ≡ p) (Contains (p ∷ [])) d (record {
    to = λ q same. contains_from_In (p ∷ []) q (inl (sym same));
    from = λ q i. elim (In-from_contains (p ∷ []) q i) [ inl same ↦ sym same | inr none ↦ absurd none ];
  }) (digest_of-is p key d k e);
  joined = λ key some more x y a b. digest_join-is key (Contains some) (Contains more) (Contains (some ++ more)) x y (union_of some more) a b;
  finding = λ r w parts q d h. digest_finding-is r q.key (IsMember w (Contains parts) q)
      (IsUpToEnd w (Contains parts) q.key q.end) (IsBehindEnd w (Contains parts) q.key q.end) d (health_at w parts q.key q.end) h
      (health_at-is w parts q.key q.end);
}
