-- The command once it is built, and what a parse finds in it.
use Rattle.std.proofs.Common.{◌≡◌, ◌∙◌, ◌||◌, ℕ, Bool, cond, true, false, refl, sym, ap, List, [], ◌∷◌, ◌++◌, map, Some, None, bytes_eq, ◌+◌, ◌<◌, take, length, slice_index_or}
use Rattle.std.specs.Borrow.{Bor}
use Rattle.std.proofs.lemmas.List.{map-append, take_more}
use Rattle.std.specs.List.{list_any}
use Rattle.std.proofs.lemmas.Slice.Eq.{bytes_eq-Decides}
use Rattle.clap.specs.Walk.{Rule, Text, arg_by_id, arg_by_index, arg_by_long, arg_by_short}
use Rattle.clap.specs.Simple.{App, Shape, built, filled_from, new_rule, new_shape, with_rule}
use Rattle.clap.specs.Faults.{is_simple_and_free}
use Rattle.clap.specs.declared.builder.action.ArgAction.TheVariants.{Set}
use Rattle.clap.specs.declared.builder.value_parser.ValueParser.TheVariants as vp
use Rattle.std.specs.Prelude.{codes}
use Rattle.bridge_engine.specs.Commands.{option_names, option_rule, options_command}

-- the option, with what building adds
abbrev pub full_rule : Text → Rule
full_rule name = record (new_rule name) {
  long = Some name;
  action = Some Set;
  range = Some (record { start_inclusive = 1; end_inclusive = 1 });
  parser = Some vp.String;
}

abbrev pub full_rules : List Text → List Rule
full_rules names = map full_rule names

abbrev pub full_shape : List Text → Shape
full_shape names = record (new_shape (codes "navbridge")) {
  rules = full_rules names;
  no_binary_name = true;
  disable_help_flag = true;
  disable_help_subcommand = true;
  is_built = true;
}

pub rules_filled : (i : ℕ) (names : List Text) → filled_from i (map option_rule names) ≡ full_rules names
rules_filled i [] = refl
rules_filled i (n ∷ ns) = ap (λ (rs : List Rule). full_rule n ∷ rs) (rules_filled i ns)

abbrev pub as_app : Shape → App
as_app s = record { top = s; subs = [] }

pub app_built : (names : List Text) → built (options_command names) ≡ as_app (full_shape names)
app_built names = ap (λ (rs : List Rule). as_app (record (full_shape names) { rules = rs })) (rules_filled 1 names)

pub app_is_simple : is_simple_and_free (options_command option_names) ≡ true
app_is_simple = refl

-- the name is one of these
abbrev pub is_known : List Text → Text → Bool
is_known names n = list_any (λ x. bytes_eq x n) names

no_true : false ≡ true → ⊥
no_true e = cc

pub long_known : (names : List Text) (n : Text) → is_known names n ≡ true → arg_by_long (full_rules names) n ≡ Some (full_rule n)
long_known [] n h = absurd (no_true h)
long_known (x ∷ xs) n h = go (bytes_eq x n) refl h (long_known xs n)
  where
    go : (b : Bool) → bytes_eq x n ≡ b → (b || is_known xs n) ≡ true → (is_known xs n ≡ true → arg_by_long (full_rules xs) n ≡ Some (full_rule n))
        → cond (b || false) (Some (full_rule x)) (arg_by_long (full_rules xs) n) ≡ Some (full_rule n)
    go true e t more = ap (λ (y : Text). Some (full_rule y)) ((bytes_eq-Decides x n).0 e)
    go false e t more = more t

pub long_unknown : (names : List Text) (n : Text) → is_known names n ≡ false → arg_by_long (full_rules names) n ≡ None
long_unknown [] n h = refl
long_unknown (x ∷ xs) n h = go (bytes_eq x n) h (long_unknown xs n)
  where
    go : (b : Bool) → (b || is_known xs n) ≡ false → (is_known xs n ≡ false → arg_by_long (full_rules xs) n ≡ None)
        → cond (b || false) (Some (full_rule x)) (arg_by_long (full_rules xs) n) ≡ None
    go true t more = absurd (no_true (sym t))
    go false t more = more t

pub id_known : (names : List Text) (n : Text) → is_known names n ≡ true → arg_by_id (full_rules names) n ≡ Some (full_rule n)
id_known [] n h = absurd (no_true h)
id_known (x ∷ xs) n h = go (bytes_eq x n) refl h (id_known xs n)
  where
    go : (b : Bool) → bytes_eq x n ≡ b → (b || is_known xs n) ≡ true → (is_known xs n ≡ true → arg_by_id (full_rules xs) n ≡ Some (full_rule n))
        → cond b (Some (full_rule x)) (arg_by_id (full_rules xs) n) ≡ Some (full_rule n)
    go true e t more = ap (λ (y : Text). Some (full_rule y)) ((bytes_eq-Decides x n).0 e)
    go false e t more = more t

pub no_short : (names : List Text) (c : ℕ) → arg_by_short (full_rules names) c ≡ None
no_short [] c = refl
no_short (x ∷ xs) c = no_short xs c

pub no_positional : (names : List Text) (i : ℕ) → arg_by_index (full_rules names) i ≡ None
no_positional [] i = refl
no_positional (x ∷ xs) i = no_positional xs i

-- one name more is one option more
pub command_grown : (a : App) (r : Rule) (names : List (Bor Text)) (i : ℕ) (d : Bor Text) (n : Text) → a ≡ options_command (map (λ n. n.now) (take i names)) → r ≡ option_rule n
    → i < length names → n ≡ (slice_index_or names i d).now → with_rule a r ≡ options_command (map (λ n. n.now) (take (i + 1) names))
command_grown a r names i d n app rule below at =
    let more : take (i + 1) names ≡ take i names ++ slice_index_or names i d ∷ [] = take_more names i d below in
    (λ k. with_rule (app k) (rule k)) ∙ ap (λ (m : Text). with_rule (options_command (map (λ n. n.now) (take i names))) (option_rule m)) at
    ∙ ap with_rules (sym (map-append option_rule (map (λ n. n.now) (take i names)) ((slice_index_or names i d).now ∷ [])))
    ∙ ap options_command (sym (map-append (λ (n : Bor Text). n.now) (take i names) (slice_index_or names i d ∷ [])) ∙ ap (map (λ n. n.now)) (sym more))
  where
    with_rules : List Rule → App
    with_rules rs = as_app (record (options_command []).top { rules = rs })
