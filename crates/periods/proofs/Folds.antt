-- The best value read from a list's elements, and the better of two bests.
use Rattle.std.proofs.Common.{◌≡◌, ◌⊎◌, inl, inr, Bool, true, false, ◌&&◌, if◌then◌else◌, List, [], ◌∷◌, Option, None, Some, refl, sym, ap, subst, ◌∙◌}
use Rattle.std.proofs.lemmas.Bool.{both_ways}
use Rattle.periods.proofs.EndFacts.{In}
use Rattle.periods.specs.Values.{IsEmpty, IsFirstBy, IsBest}
use Rattle.periods.specs.Mirrors.{is_better, best_with, best_among, best_join}
use Rattle.periods.proofs.Orders.{Decides}

pub some_is : {X : Type 0} (x y : X) → Some x ≡ Some y → x ≡ y
some_is x y e = cc

pub none_some : {X : Type 0} (x : X) → None ≡ Some x → ⊥
none_some x e = cc

-- a set with one value more, or with none more
pub record Grows {V : Type 0} (old new : V → Type 0) (more : V → Type 0) : Type 0 where
  pub keeps : (v : V) → old v → new v
  pub has : (v : V) → more v → new v
  pub only : (v : V) → new v → old v ⊎ more v

-- a further value that is better, and one that is not
pub best_more : {V : Type 0} (better : V → V → Bool) (R : V → V → Type 0) (d : Decides better R) (old new more : V → Type 0) (b : Option V) (v : V)
    → Grows old new more → more v → ((w : V) → more w → w ≡ v) → IsBest R old b → is_better better b v ≡ true → IsBest R new (Some v)
best_more better R d old new more None v g m one h t = record {
  here = g.has v m;
  first = λ w hw r. elim (g.only w hw) [ inl o ↦ h w o | inr n ↦ d.irr v (subst (λ (x : _). R x v) (one w n) r) ];
}
best_more better R d old new more (Some b) v g m one h t = record {
  here = g.has v m;
  first = λ w hw r. elim (g.only w hw) [
    | inl o ↦ h.first w o (d.trans w v b r (d.yes v b t))
    | inr n ↦ d.irr v (subst (λ (x : _). R x v) (one w n) r)
  ];
}

pub best_stays : {V : Type 0} (better : V → V → Bool) (R : V → V → Type 0) (d : Decides better R) (old new more : V → Type 0) (b : Option V) (v : V)
    → Grows old new more → more v → ((w : V) → more w → w ≡ v) → IsBest R old b → is_better better b v ≡ false → IsBest R new b
best_stays better R d old new more None v g m one h t = absurd (both_ways _ t refl)
best_stays better R d old new more (Some b) v g m one h t = record {
  here = g.keeps b h.here;
  first = λ w hw r. elim (g.only w hw) [
    | inl o ↦ h.first w o r
    | inr n ↦ both_ways _ t (d.is v b (subst (λ (x : _). R x b) (one w n) r))
  ];
}

pub best_none : {V : Type 0} (R : V → V → Type 0) (old new more : V → Type 0) (b : Option V)
    → Grows old new more → IsEmpty more → IsBest R old b → IsBest R new b
best_none R old new more None g none h = λ v hv. elim (g.only v hv) [ inl o ↦ h v o | inr n ↦ none v n ]
best_none R old new more (Some b) g none h = record {
  here = g.keeps b h.here;
  first = λ w hw r. elim (g.only w hw) [ inl o ↦ h.first w o r | inr n ↦ none w n ];
}

-- equal sets have the same best
pub IsBest-same : {V : Type 0} (R : V → V → Type 0) (old new : V → Type 0) (b : Option V) → ((v : V) → old v → new v) → ((v : V) → new v → old v) → IsBest R old b → IsBest R new b
IsBest-same R old new None to from h = λ v hv. h v (from v hv)
IsBest-same R old new (Some b) to from h = record { here = to b h.here; first = λ w hw r. h.first w (from w hw) r }

-- the value read from an element, where it passes the test
pub record Passing {X V : Type 0} (read : X → Option V) (test : V → Bool) (xs : List X) (v : V) : Type 0 where
  pub element : X
  pub here : In xs element
  pub is : read element ≡ Some v
  pub passes : test v ≡ true

-- one more element: the value read from it, where it passes the test
abbrev pub Adds : {V : Type 0} → (V → Bool) → Option V → V → Type 0
Adds test o v = (o ≡ Some v) × (test v ≡ true)

best_choice : {V : Type 0} (test : V → Bool) (better : V → V → Bool) (R : V → V → Type 0) (d : Decides better R) (so_far : V → Type 0) (b : Option V) (v : V)
    → IsBest R so_far b → (t u : Bool) → test v ≡ t → is_better better b v ≡ u
    → IsBest R (λ w. so_far w ⊎ Adds test (Some v) w) (if t && u then Some v else b)
best_choice test better R d so_far b v h true true et eu =
    best_more better R d so_far _ (λ w. Adds test (Some v) w) b v (record { keeps = λ w hw. inl hw; has = λ w hw. inr hw; only = λ w hw. hw }) (refl, et) (λ w hw. sym (some_is v w hw.0)) h eu
best_choice test better R d so_far b v h true false et eu =
    best_stays better R d so_far _ (λ w. Adds test (Some v) w) b v (record { keeps = λ w hw. inl hw; has = λ w hw. inr hw; only = λ w hw. hw }) (refl, et) (λ w hw. sym (some_is v w hw.0)) h eu
best_choice test better R d so_far b v h false u et eu =
    best_none R so_far _ (λ w. Adds test (Some v) w) b (record { keeps = λ w hw. inl hw; has = λ w hw. inr hw; only = λ w hw. hw })
    (λ w hw. both_ways (test v) et (subst (λ (x : _). test x ≡ true) (sym (some_is v w hw.0)) hw.1)) h

pub best_with-is : {V : Type 0} (test : V → Bool) (better : V → V → Bool) (R : V → V → Type 0) (d : Decides better R) (so_far : V → Type 0) (b o : Option V)
    → IsBest R so_far b → IsBest R (λ w. so_far w ⊎ Adds test o w) (best_with test better b o)
best_with-is test better R d so_far b None h = IsBest-same R so_far _ b (λ w hw. inl hw) (λ w hw. elim hw [ inl k ↦ k | inr k ↦ absurd (none_some w k.0) ]) h
best_with-is test better R d so_far b (Some v) h = best_choice test better R d so_far b v h (test v) (is_better better b v) refl refl

best_among-more : {X V : Type 0} (read : X → Option V) (test : V → Bool) (better : V → V → Bool) (R : V → V → Type 0) (d : Decides better R) (so_far : V → Type 0) (xs : List X) (b : Option V)
    → IsBest R so_far b → IsBest R (λ w. so_far w ⊎ Passing read test xs w) (best_among read test better xs b)
best_among-more read test better R d so_far [] b h = IsBest-same R so_far _ b (λ w hw. inl hw) (λ w hw. elim hw [ inl k ↦ k | inr k ↦ absurd k.here ]) h
best_among-more read test better R d so_far (x ∷ xs) b h =
    let step = best_with-is test better R d so_far b (read x) h in
    IsBest-same R (λ w. (so_far w ⊎ Adds test (read x) w) ⊎ Passing read test xs w) _ (best_among read test better xs (best_with test better b (read x)))
    (λ w hw. elim hw [
      | inl k ↦ elim k [ inl o ↦ inl o | inr a ↦ inr (record { element = x; here = inl refl; is = a.0; passes = a.1 }) ]
      | inr p ↦ inr (record { element = p.element; here = inr p.here; is = p.is; passes = p.passes })
    ])
    (λ w hw. elim hw [
      | inl o ↦ inl (inl o)
      | inr p ↦ elim p.here [
        | inl e ↦ inl (inr (ap read e ∙ p.is, p.passes))
        | inr there ↦ inr (record { element = p.element; here = there; is = p.is; passes = p.passes })
      ]
    ])
    (best_among-more read test better R d (λ w. so_far w ⊎ Adds test (read x) w) xs (best_with test better b (read x)) step)

-- the fold finds the best of the values that pass the test
pub best_among-is : {X V : Type 0} (read : X → Option V) (test : V → Bool) (better : V → V → Bool) (R : V → V → Type 0) (d : Decides better R) (xs : List X)
    → IsBest R (Passing read test xs) (best_among read test better xs None)
best_among-is read test better R d xs =
    IsBest-same R (λ w. ⊥ ⊎ Passing read test xs w) (Passing read test xs) (best_among read test better xs None)
    (λ w hw. elim hw [ inl k ↦ absurd k | inr k ↦ k ]) (λ w hw. inr hw)
    (best_among-more read test better R d (λ w. ⊥) xs None (λ w hw. hw))

-- the better of the bests of two sets is the best of their union
best_pair : {V : Type 0} (better : V → V → Bool) (R : V → V → Type 0) (d : Decides better R) (a b c : V → Type 0) (x y : V) → Grows a c b
    → IsFirstBy R a x → IsFirstBy R b y → (t : Bool) → better y x ≡ t → IsBest R c (if t then Some y else Some x)
best_pair better R d a b c x y g hx hy true e = record {
  here = g.has y hy.here;
  first = λ w hw r. elim (g.only w hw) [ inl k ↦ hx.first w k (d.trans w y x r (d.yes y x e)) | inr k ↦ hy.first w k r ];
}
best_pair better R d a b c x y g hx hy false e = record {
  here = g.keeps x hx.here;
  first = λ w hw r. elim (g.only w hw) [
    | inl k ↦ hx.first w k r
    | inr k ↦ elim (d.between w x y r) [ inl l ↦ hy.first w k l | inr l ↦ both_ways (better y x) e (d.is y x l) ]
  ];
}

pub best_join-is : {V : Type 0} (better : V → V → Bool) (R : V → V → Type 0) (d : Decides better R) (a b c : V → Type 0) (x y : Option V) → Grows a c b
    → IsBest R a x → IsBest R b y → IsBest R c (best_join better x y)
best_join-is better R d a b c None None g hx hy = λ w hw. elim (g.only w hw) [ inl k ↦ hx w k | inr k ↦ hy w k ]
best_join-is better R d a b c None (Some y) g hx hy = record {
  here = g.has y hy.here;
  first = λ w hw r. elim (g.only w hw) [ inl k ↦ hx w k | inr k ↦ hy.first w k r ];
}
best_join-is better R d a b c (Some x) None g hx hy = record {
  here = g.keeps x hx.here;
  first = λ w hw r. elim (g.only w hw) [ inl k ↦ hx.first w k r | inr k ↦ hy w k ];
}
best_join-is better R d a b c (Some x) (Some y) g hx hy = best_pair better R d a b c x y g hx hy (better y x) refl
