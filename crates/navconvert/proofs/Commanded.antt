-- The command, and what a parse of words by it gives.
use Rattle.std.proofs.Common.{◌≡◌, inl, ◌∙◌, ◌+◌, ◌<◌, ℕ, true, refl, sym, ap, subst, List, [], ◌∷◌, ◌++◌, map, take, length, slice_index_or, Result, Ok, Err}
use Rattle.std.specs.Prelude.{IfOk}
use Rattle.std.specs.Borrow.{Bor}
use Rattle.std.proofs.lemmas.List.{map-append, take_more}
use Rattle.clap.specs.Words.{App, HasKind, Row, Rule, Text, app_of, fault_of, found_of, is_simple, is_simple_and_free, kind_of, matches_of, rows_of, with_rule}
use Rattle.clap.specs.declared.builder.command.Command.{Command}
use Rattle.clap.specs.declared.error.Error.{Error}
use Rattle.clap.specs.declared.error.kind.ErrorKind.TheVariants.{OutOfMemory}
use Rattle.navconvert.specs.Commands.{IsCommand, ReadsWords, command_with, form_words, option_rules, row_rule, target_words}
use Rattle.navconvert.specs.declared.command.Asked.{Asked}
use Rattle.navconvert.specs.declared.command.Row.{Row as OptionRow}

-- ---- the command

with_one : (rules : List Rule) (r : Rule) → with_rule (command_with rules) r ≡ command_with (rules ++ r ∷ [])
with_one rules r = refl

-- one row more is one option more
pub rows_grown : (now : App) (r : Rule) (rows : List OptionRow) (i : ℕ) (d : OptionRow) (row : OptionRow) → now ≡ command_with (map row_rule (take i rows))
    → r ≡ row_rule row → i < length rows → row ≡ slice_index_or rows i d → with_rule now r ≡ command_with (map row_rule (take (i + 1) rows))
rows_grown now r rows i d row now_is rule below at =
    let more : take (i + 1) rows ≡ take i rows ++ slice_index_or rows i d ∷ [] = take_more rows i d below in
    (λ k. with_rule (now_is k) (rule k)) ∙ with_one (map row_rule (take i rows)) (row_rule row)
    ∙ ap (λ (x : OptionRow). command_with (map row_rule (take i rows) ++ row_rule x ∷ [])) at
    ∙ ap command_with (sym (map-append row_rule (take i rows) (slice_index_or rows i d ∷ [])) ∙ ap (map row_rule) (sym more))

-- the rules of these rows are all options
abbrev pub AreOptions : List Rule → Type 0
AreOptions rules =
    (forms : Bor (List (Bor Text))) × (targets : Bor (List (Bor Text)))
    × (map (λ (w : Bor Text). w.now) forms.now ≡ form_words) × (map (λ (w : Bor Text). w.now) targets.now ≡ target_words)
    × (rules ≡ option_rules forms targets)

pub all_rows : {E : Type 0} (seen rows : List OptionRow) (result : Result Command E) → seen ≡ rows
    → IfOk result (λ command. app_of command ≡ command_with (map row_rule seen)) → AreOptions (map row_rule rows)
    → IfOk result (λ command. IsCommand (app_of command))
all_rows seen rows (Ok command) same is (forms, targets, are_forms, are_targets, are) = (
  forms,
  targets,
  are_forms,
  are_targets,
  is ∙ ap (λ (rs : List OptionRow). command_with (map row_rule rs)) same ∙ ap command_with are,
)
all_rows seen rows (Err e) same is are = tt

-- ---- its parse

simple_and_free : (forms targets : Bor (List (Bor Text))) → is_simple_and_free (command_with (option_rules forms targets)) ≡ true
simple_and_free forms targets = refl

simple : (forms targets : Bor (List (Bor Text))) → is_simple (command_with (option_rules forms targets)) ≡ true
simple forms targets = refl

-- a mistake in the words
pub refused : (words : List Text) (a : App) (e : Error) → IsCommand a → (is_simple_and_free a ≡ true → HasKind (fault_of a words) e)
    → ReadsWords words (Err e)
refused words a e (forms, targets, are_forms, are_targets, is) kinds = record {
  forms = forms;
  targets = targets;
  are_forms = are_forms;
  are_targets = are_targets;
  fails = subst (λ (b : App). HasKind (fault_of b words) e) is (kinds (ap is_simple_and_free is ∙ simple_and_free forms targets));
  matches = tt;
}

no_fault : (words : List Text) (a : App) (forms targets : Bor (List (Bor Text))) → a ≡ command_with (option_rules forms targets)
    → (is_simple_and_free a ≡ true → fault_of a words ≡ []) → fault_of (command_with (option_rules forms targets)) words ≡ []
no_fault words a forms targets is none =
    ap (λ (b : App). fault_of b words) (sym is) ∙ none (ap is_simple_and_free is ∙ simple_and_free forms targets)

same_rows : (words : List Text) (a : App) (rows : List Row) (X : Type 0) (forms targets : Bor (List (Bor Text)))
    → a ≡ command_with (option_rules forms targets) → (is_simple a ≡ true → (rows ≡ matches_of a words) × X)
    → rows ≡ matches_of (command_with (option_rules forms targets)) words
same_rows words a rows X forms targets is same =
    (same (ap is_simple is ∙ simple forms targets)).0 ∙ ap (λ (b : App). matches_of b words) is

-- what was found
pub found : (words : List Text) (a : App) (asked : Asked) (X : Type 0) → IsCommand a
    → (is_simple_and_free a ≡ true → fault_of a words ≡ [])
    → (is_simple a ≡ true → (rows_of (found_of asked.matches) ≡ matches_of a words) × X) → ReadsWords words (Ok asked)
found words a asked X (forms, targets, are_forms, are_targets, is) none rows = record {
  forms = forms;
  targets = targets;
  are_forms = are_forms;
  are_targets = are_targets;
  fails = no_fault words a forms targets is none;
  matches = same_rows words a (rows_of (found_of asked.matches)) X forms targets is rows;
}

-- texts, as references to them
referred : List Text → Bor (List (Bor Text))
referred texts = record { ref_ptr = (0, 0); now = map (λ (t : Text). record { ref_ptr = (0, 0); now = t }) texts }

-- there was no memory
pub no_memory : (words : List Text) (e : Error) → kind_of e ≡ OutOfMemory → ReadsWords words (Err e)
unfolding referred
no_memory words e memory = record {
  forms = referred form_words;
  targets = referred target_words;
  are_forms = refl;
  are_targets = refl;
  fails = inl memory;
  matches = tt;
}
