-- Options, one after another: which value they have under a name, and whether each name stands once.
use Rattle.std.proofs.Common.{◌≡◌, ◌∙◌, zero, suc, ◌⊎◌, ◌||◌, ℕ, Bool, List, [], ◌∷◌, ◌++◌, Option, Some, None, cond, false, true, refl, sym, ap, inl, inr, arith, subst, bytes_eq, slice_get, option_and_then, codes, Contains}
use Rattle.std.specs.List.{find}
use Rattle.std.proofs.lemmas.Slice.Eq.{bytes_eq-Decides}
use Rattle.clap.specs.Walk.{Row, Text, first_of}
use Rattle.bridge_engine.specs.Commands.{option_names}
use Rattle.bridge_engine.specs.Options.{Choice, choice, Holds, AreOnce, IsName, AreNamed}
use Rattle.bridge_engine.proofs.Readings.{AreKnown, AreNew}
use Rattle.bridge_engine.proofs.Rules.{is_known}
use Rattle.bridge_engine.proofs.Turns.{has_name, rows_for}

no_true : false ≡ true → ⊥
no_true e = cc

at_head : (x y : Choice) (xs : List Choice) → x ≡ y → Contains (x ∷ xs) y
at_head x y xs e = (0, omega arith, e)

behind : (x y : Choice) (xs : List Choice) → Contains xs y → Contains (x ∷ xs) y
behind x y xs (k, below, e) = (suc k, omega arith, e)

head_or : (x y : Choice) (xs : List Choice) → Contains (x ∷ xs) y → (x ≡ y) ⊎ Contains xs y
head_or x y xs (zero, below, e) = inl e
head_or x y xs (suc k, below, e) = inr (k, omega arith, e)

none_in : (y : Choice) → Contains {X = Choice} [] y → ⊥
none_in y (k, below, e) = absurd (omega arith)

held_behind : (p : Choice) (ps : List Choice) (name : List ℕ) (r : Option (List ℕ)) → (p.name ≡ name → ⊥) → Holds ps name r → Holds (p ∷ ps) name r
held_behind p ps name (Some v) other held = behind p (choice name v) ps held
held_behind p ps name None other held = λ value inside. elim (head_or p (choice name value) ps inside) [
  | inl e ↦ other (ap (λ (q : Choice). q.name) e)
  | inr c ↦ held value c
]

-- ---- the value under a name

pub first_held : (name : Text) (os : List Choice) → Holds os name (first_of name (rows_for os))
first_held name [] = λ value inside. none_in (choice name value) inside
first_held name (o ∷ os) = go (bytes_eq o.name name) refl (first_held name os)
  where
    go : (b : Bool) → bytes_eq o.name name ≡ b → Holds os name (first_of name (rows_for os))
        → Holds (o ∷ os) name (option_and_then (λ (r : Row). slice_get r.values 0) (cond b (Some (Rattle.bridge_engine.proofs.Turns.row o)) (find (λ r. bytes_eq r.id name) (rows_for os))))
    go true e held = at_head o (choice name o.value) os (ap (λ (n : Text). choice n o.value) ((bytes_eq-Decides o.name name).0 e))
    go false e held = held_behind o os name _ (λ same. no_true (sym e ∙ (bytes_eq-Decides o.name name).1 same)) held

-- ---- each name once

unlike : (a b : Text) → bytes_eq a b ≡ false → a ≡ b → ⊥
unlike a b e same = no_true (sym e ∙ (bytes_eq-Decides a b).1 same)

still_in : (n : Text) (xs ys : List Choice) → has_name n xs ≡ true → has_name n (xs ++ ys) ≡ true
still_in n [] ys h = absurd (no_true h)
still_in n (x ∷ xs) ys h = go (bytes_eq x.name n) h (still_in n xs ys)
  where
    go : (b : Bool) → (b || has_name n xs) ≡ true → (has_name n xs ≡ true → has_name n (xs ++ ys) ≡ true) → (b || has_name n (xs ++ ys)) ≡ true
    go true t more = refl
    go false t more = more t

last_in : (o : Choice) (xs : List Choice) → has_name o.name (xs ++ o ∷ []) ≡ true
last_in o [] = rw ((bytes_eq-Decides o.name o.name).1 refl) refl
last_in o (x ∷ xs) = go (bytes_eq x.name o.name) (last_in o xs)
  where
    go : (b : Bool) → has_name o.name (xs ++ o ∷ []) ≡ true → (b || has_name o.name (xs ++ o ∷ [])) ≡ true
    go true t = refl
    go false t = t

not_in : (n : Text) (xs : List Choice) (o : Choice) → has_name n xs ≡ false → bytes_eq o.name n ≡ false → has_name n (xs ++ o ∷ []) ≡ false
not_in n [] o h e = rw e refl
not_in n (x ∷ xs) o h e = go (bytes_eq x.name n) h (λ t. not_in n xs o t e)
  where
    go : (b : Bool) → (b || has_name n xs) ≡ false → (has_name n xs ≡ false → has_name n (xs ++ o ∷ []) ≡ false) → (b || has_name n (xs ++ o ∷ [])) ≡ false
    go true t more = cc
    go false t more = more t

none_named : (n : Text) (done os : List Choice) → has_name n done ≡ true → AreNew done os → Holds os n None
none_named n done [] h new = λ value inside. none_in (choice n value) inside
none_named n done (p ∷ ps) h new =
    held_behind p ps n None (λ same. no_true (sym new.0 ∙ ap (λ (m : Text). has_name m done) same ∙ h))
    (none_named n (done ++ p ∷ []) ps (still_in n done (p ∷ []) h) new.1)

pub once_of : (done os : List Choice) → AreNew done os → AreOnce os
once_of done [] new = tt
once_of done (o ∷ os) new = (none_named o.name (done ++ o ∷ []) os (last_in o done) new.1, once_of (done ++ o ∷ []) os new.1)

-- no name of theirs stands before them
abbrev AreAway : List Choice → List Choice → Type 0
AreAway done [] = Unit {0}
AreAway done (o ∷ os) = (has_name o.name done ≡ false) × AreAway done os

push : (done : List Choice) (o : Choice) (os : List Choice) → AreAway done os → Holds os o.name None → AreAway (done ++ o ∷ []) os
push done o [] away none = tt
push done o (p ∷ ps) away none = (
  not_in p.name done o away.0 (go (bytes_eq o.name p.name) refl),
  push done o ps away.1 (λ value inside. none value (behind p (choice o.name value) ps inside)),
)
  where
    go : (b : Bool) → bytes_eq o.name p.name ≡ b → b ≡ false
    go false e = refl
    go true e = absurd (none p.value (at_head p (choice o.name p.value) ps (ap (λ (n : Text). choice n p.value) (sym ((bytes_eq-Decides o.name p.name).0 e)))))

new_from : (done os : List Choice) → AreAway done os → AreOnce os → AreNew done os
new_from done [] away once = tt
new_from done (o ∷ os) away once = (away.0, new_from (done ++ o ∷ []) os (push done o os away.1 once.0) once.1)

away_none : (os : List Choice) → AreAway [] os
away_none [] = tt
away_none (o ∷ os) = (refl, away_none os)

pub new_of : (os : List Choice) → AreOnce os → AreNew [] os
new_of os once = new_from [] os (away_none os) once

-- under one name stands one value
two_values : (options : List Choice) → AreOnce options → (name v w : List ℕ) → Contains options (choice name v) → Contains options (choice name w) → v ≡ w
two_values [] once name v w a b = absurd (none_in (choice name v) a)
two_values (o ∷ os) once name v w a b = elim (head_or o (choice name v) os a) [
  | inl e ↦ elim (head_or o (choice name w) os b) [
    | inl f ↦ ap (λ (q : Choice). q.value) (sym e ∙ f)
    | inr d ↦ absurd (once.0 w (subst (λ (n : List ℕ). Contains os (choice n w)) (sym (ap (λ (q : Choice). q.name) e)) d))
  ]
  | inr c ↦ elim (head_or o (choice name w) os b) [
    | inl f ↦ absurd (once.0 v (subst (λ (n : List ℕ). Contains os (choice n v)) (sym (ap (λ (q : Choice). q.name) f)) c))
    | inr d ↦ two_values os once.1 name v w c d
  ]
]

pub holds_once : (options : List Choice) → AreOnce options → (name : List ℕ) (a b : Option (List ℕ)) → Holds options name a → Holds options name b → a ≡ b
holds_once options once name None None a b = refl
holds_once options once name None (Some w) a b = absurd (a w b)
holds_once options once name (Some v) None a b = absurd (b v a)
holds_once options once name (Some v) (Some w) a b = ap Some (two_values options once name v w a b)

-- ---- the names

either : (a b : Bool) → (a || b) ≡ true → (a ≡ true) ⊎ (b ≡ true)
either true b e = inl refl
either false b e = inr e

is_text : (a n : Text) → bytes_eq a n ≡ true → n ≡ a
is_text a n e = sym ((bytes_eq-Decides a n).0 e)

pub name_of : (n : Text) → is_known option_names n ≡ true → IsName n
name_of n h = elim (either (bytes_eq (codes "from") n) _ h) [
  | inl e ↦ inl (is_text (codes "from") n e)
  | inr h2 ↦ inr (elim (either (bytes_eq (codes "to") n) _ h2) [
    | inl e ↦ inl (is_text (codes "to") n e)
    | inr h3 ↦ inr (elim (either (bytes_eq (codes "week") n) _ h3) [
      | inl e ↦ inl (is_text (codes "week") n e)
      | inr h4 ↦ inr (elim (either (bytes_eq (codes "leap") n) _ h4) [
        | inl e ↦ inl (is_text (codes "leap") n e)
        | inr h5 ↦ inr (elim (either (bytes_eq (codes "date") n) _ h5) [
          | inl e ↦ inl (is_text (codes "date") n e)
          | inr h6 ↦ inr (elim (either (bytes_eq (codes "seed") n) _ h6) [
            | inl e ↦ inl (is_text (codes "seed") n e)
            | inr h7 ↦ inr (elim (either (bytes_eq (codes "sats") n) _ h7) [
              | inl e ↦ is_text (codes "sats") n e
              | inr h8 ↦ absurd (no_true h8)
            ])
          ])
        ])
      ])
    ])
  ])
]

known_as : (a n : Text) → is_known option_names a ≡ true → n ≡ a → is_known option_names n ≡ true
known_as a n known e = ap (is_known option_names) e ∙ known

pub name_known : (n : Text) → IsName n → is_known option_names n ≡ true
name_known n (inl e) = known_as (codes "from") n refl e
name_known n (inr (inl e)) = known_as (codes "to") n refl e
name_known n (inr (inr (inl e))) = known_as (codes "week") n refl e
name_known n (inr (inr (inr (inl e)))) = known_as (codes "leap") n refl e
name_known n (inr (inr (inr (inr (inl e))))) = known_as (codes "date") n refl e
name_known n (inr (inr (inr (inr (inr (inl e)))))) = known_as (codes "seed") n refl e
name_known n (inr (inr (inr (inr (inr (inr e)))))) = known_as (codes "sats") n refl e

pub named_of : (os : List Choice) → AreKnown option_names os → AreNamed os
named_of [] known = tt
named_of (o ∷ os) known = (name_of o.name known.0, named_of os known.1)

pub known_of : (os : List Choice) → AreNamed os → AreKnown option_names os
known_of [] named = tt
known_of (o ∷ os) named = (name_known o.name named.0, known_of os named.1)
