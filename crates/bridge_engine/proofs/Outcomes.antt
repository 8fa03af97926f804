-- What the command makes of the words, against what the words spell.
use Rattle.std.proofs.Common.{◌≡◌, ◌∙◌, ◌⊎◌, ◌||◌, ◌&&◌, inl, inr, Bool, cond, not, true, false, refl, sym, ap, subst, List, [], ◌∷◌, ◌++◌, map, fold, None, bytes_eq, codes, Global, String, string_bytes}
use Rattle.std.specs.List.{list_any}
use Rattle.std.proofs.lemmas.Slice.Eq.{bytes_eq-Decides}
use Rattle.std.proofs.lemmas.Str.{IsUtf8-string_bytes}
use Rattle.clap.specs.Kinds.{HasKind, IsAmong, Kinds, or_else}
use Rattle.clap.specs.Faults.{check_fault, defaults_fault, fault_of, built_fault, is_simple_and_free}
use Rattle.clap.specs.Matches.{first_value}
use Rattle.clap.specs.Simple.{App, matches_of, names_of, is_simple}
use Rattle.clap.specs.Walk.{Row, Rule, Text, rows_after, first_of, has_row, idle, nothing_held, rows_of, settled_rows, with_default}
use Rattle.clap.specs.declared.error.Error.{Error}
use Rattle.clap.specs.declared.error.kind.ErrorKind.TheVariants.{OutOfMemory}
use Rattle.clap.specs.declared.parser.matches.Found.{Found}
use Rattle.clap.specs.Values.{kind_of}
use Rattle.clap.proofs.FaultLemmas.{leaf_fault}
use Rattle.clap.proofs.WalkLemmas.{first_value-rows}
use Rattle.bridge_engine.specs.Commands.{is_only_dashes, option_names, options_command, values_in}
use Rattle.bridge_engine.specs.Options.{Choice, BeginsWithDash, OptionsGiven, GiveValues, AreNamed, Spells}
use Rattle.bridge_engine.proofs.Listings.{first_held, known_of, name_known, named_of, new_of, once_of}
use Rattle.bridge_engine.proofs.Readings.{AreFit, faults, last_rows, passing, spelled_passes, walked_to}
use Rattle.bridge_engine.proofs.Rules.{app_built, app_is_simple, as_app, full_rules, full_shape, is_known}
use Rattle.bridge_engine.proofs.Spellings.{InOne, InTwo, spelling_of}
use Rattle.bridge_engine.proofs.Turns.{none_both, nothing_after, rows_for, stand}

pub no_true : false ≡ true → ⊥
no_true e = cc

-- ---- after the last word

default_kept : (rows : List Row) (n : Text) → with_default rows (Rattle.bridge_engine.proofs.Rules.full_rule n) ≡ rows
default_kept rows n = go (has_row n rows)
  where
    go : (b : Bool) → cond b rows rows ≡ rows
    go true = refl
    go false = refl

or_true : (b : Bool) → (b || true) ≡ true
or_true true = refl
or_true false = refl

no_defaults : (xs : List Text) (rows : List Row) → defaults_fault rows (full_rules xs) ≡ []
unfolding defaults_fault
no_defaults [] rows = refl
no_defaults (x ∷ xs) rows = rw (or_true (has_row x rows), default_kept rows x) (no_defaults xs rows)

none_added : (xs : List Text) (rows : List Row) → fold with_default rows (full_rules xs) ≡ rows
none_added [] rows = refl
none_added (x ∷ xs) rows = ap (λ (rs : List Row). fold with_default rs (full_rules xs)) (default_kept rows x) ∙ none_added xs rows

none_required : (xs : List Text) (rows : List Row) → list_any (λ (a : Rule). a.required && not (Rattle.clap.specs.Takes.is_given a.id rows)) (full_rules xs) ≡ false
none_required [] rows = refl
none_required (x ∷ xs) rows = none_required xs rows

checked : (xs : List Text) (rows : List Row) → check_fault (full_shape xs) rows false ≡ []
checked xs rows = rw (none_required xs rows) refl

-- the faults of the command are those of the words
app_faults : (xs words : List Text) → fault_of (options_command xs) words ≡ faults xs (stand [] None idle) words
app_faults xs words =
    let end = walked_to xs (stand [] None idle) words in
    let w = Rattle.clap.specs.Faults.walk_fault (full_shape xs) [] (stand [] None idle) words in
    let s = Rattle.clap.specs.Faults.settle_fault (full_rules xs) false end.held in
    let rows = settled_rows (full_rules xs) end.held.pending end.held.rows in
    let last : or_else (defaults_fault rows (full_rules xs)) (check_fault (full_shape xs) (fold with_default rows (full_rules xs)) false) ≡ [] =
    none_both _ _ (no_defaults xs rows) (checked xs (fold with_default rows (full_rules xs))) in
    ap (λ (a : App). built_fault a nothing_held words) (app_built xs)
    ∙ leaf_fault (as_app (full_shape xs)) nothing_held words refl
    ∙ ap (λ (k : Kinds). or_else w (or_else s k)) last
    ∙ ap (or_else w) (nothing_after s)

-- the table's rows are those of the words
app_rows : (xs words : List Text) → matches_of (options_command xs) words ≡ last_rows xs (stand [] None idle) words
app_rows xs words =
    let end = walked_to xs (stand [] None idle) words in
    ap (λ (a : App). rows_after a.top.rules (names_of a) words) (app_built xs)
    ∙ none_added xs (settled_rows (full_rules xs) end.held.pending end.held.rows)

-- ---- the words of a call

pub fit_words : (words : List (String Global)) → list_any is_only_dashes (map string_bytes words) ≡ false → AreFit (map string_bytes words)
fit_words [] h = tt
fit_words (w ∷ ws) h = go (is_only_dashes (string_bytes w)) refl h (λ t. fit_words ws t)
  where
    go : (b : Bool) → is_only_dashes (string_bytes w) ≡ b → (b || list_any is_only_dashes (map string_bytes ws)) ≡ false
        → (list_any is_only_dashes (map string_bytes ws) ≡ false → AreFit (map string_bytes ws)) → AreFit (map string_bytes (w ∷ ws))
    go true e t more = absurd (no_true (sym t))
    go false e t more = (record { utf8 = IsUtf8-string_bytes w; other = e }, more t)

-- words without a fault give the values that were found
pub found_values : (words : List Text) (f : Found) → AreFit words → fault_of (options_command option_names) words ≡ []
    → rows_of f ≡ matches_of (options_command option_names) words → GiveValues words (values_in (first_value f))
found_values words f fit none rows =
    let r = passing option_names words fit [] None [] (λ _. refl) (sym (app_faults option_names words) ∙ none) in
    let same : rows_of f ≡ rows_for r.options = rows ∙ app_rows option_names words ∙ r.found in
    let value : (n : Text) → first_value f n ≡ first_of n (rows_for r.options) = λ n. first_value-rows f n ∙ ap (first_of n) same in
    let held : (n : Text) → Rattle.bridge_engine.specs.Options.Holds r.options n (first_value f n) =
    λ n. subst (Rattle.bridge_engine.specs.Options.Holds r.options n) (sym (value n)) (first_held n r.options) in (
      record { options = r.options; spelled = r.spelled; named = named_of r.options r.named; once = once_of [] r.options r.new },
      record {
        from = held (codes "from");
        to = held (codes "to");
        week = held (codes "week");
        leap = held (codes "leap");
        date = held (codes "date");
        seed = held (codes "seed");
        sats = held (codes "sats");
      },
    )

-- and words that give values have no fault
pub no_faults : (words : List Text) (given : OptionsGiven) → AreFit words → GiveValues words given → fault_of (options_command option_names) words ≡ []
no_faults words given fit gives =
    let all = gives.0 in
    app_faults option_names words
    ∙ spelled_passes option_names refl all.options words [] all.spelled fit (known_of all.options all.named) (new_of all.options all.once) [] None refl refl

-- ---- a word of dashes

three : (n v : Text) → is_only_dashes (45 ∷ 45 ∷ ((n ++ 61 ∷ []) ++ v)) ≡ false
three [] v = refl
three (x ∷ xs) v = refl

named_word : (n : Text) → is_known option_names n ≡ true → is_only_dashes (45 ∷ 45 ∷ n) ≡ false
named_word [] known = absurd (no_true known)
named_word (x ∷ xs) known = refl

value_word : (v : Text) → (BeginsWithDash v → ⊥) → is_only_dashes v ≡ false
value_word v bare = go (bytes_eq v (codes "-")) (bytes_eq v (codes "--")) refl refl
  where
    go : (a b : Bool) → bytes_eq v (codes "-") ≡ a → bytes_eq v (codes "--") ≡ b → (a || b) ≡ false
    go true b e f = absurd (bare ([], (bytes_eq-Decides v (codes "-")).0 e))
    go false true e f = absurd (bare (codes "-", (bytes_eq-Decides v (codes "--")).0 f))
    go false false e f = refl

any_none : (word : Text) (words : List Text) → is_only_dashes word ≡ false → list_any is_only_dashes words ≡ false → list_any is_only_dashes (word ∷ words) ≡ false
any_none word words e f = rw e f

dashless : (o : Choice) (words rest : List Text) → is_known option_names o.name ≡ true → InOne words o rest ⊎ InTwo words o rest
    → list_any is_only_dashes rest ≡ false → list_any is_only_dashes words ≡ false
dashless o words rest known (inl a) more =
    ap (list_any is_only_dashes) a.are ∙ any_none (45 ∷ 45 ∷ ((o.name ++ 61 ∷ []) ++ o.value)) rest (three o.name o.value) more
dashless o words rest known (inr a) more =
    ap (list_any is_only_dashes) a.are
    ∙ any_none (45 ∷ 45 ∷ o.name) (o.value ∷ rest) (named_word o.name known) (any_none o.value rest (value_word o.value a.plain) more)

no_dashes : (options : List Choice) (words : List Text) → Spells words options → AreNamed options → list_any is_only_dashes words ≡ false
no_dashes [] words spelled named = ap (list_any is_only_dashes) spelled
no_dashes (o ∷ os) words spelled named =
    dashless o words spelled.0 (name_known o.name named.0) (spelling_of words o spelled.0 spelled.1) (no_dashes os spelled.0 spelled.2 named.1)

-- no words with a word of dashes give values
pub dashes_give_none : (words : List Text) → list_any is_only_dashes words ≡ true → (given : OptionsGiven) → GiveValues words given → ⊥
dashes_give_none words some given gives = no_true (sym (no_dashes gives.0.options words gives.0.spelled gives.0.named) ∙ some)

-- ---- the two outcomes of a parse

-- matches give the values of what the words spell
pub matched : (a : App) (words : List (String Global)) (f : Found) (X : Type 0) (given : OptionsGiven) → a ≡ options_command option_names
    → list_any is_only_dashes (map string_bytes words) ≡ false → (is_simple_and_free a ≡ true → fault_of a (map string_bytes words) ≡ [])
    → (is_simple a ≡ true → (rows_of f ≡ matches_of a (map string_bytes words)) × X) → given ≡ values_in (first_value f) → GiveValues (map string_bytes words) given
matched a words f X given app fit none rows are =
    let free : is_simple_and_free a ≡ true = ap is_simple_and_free app ∙ app_is_simple in
    let simple : is_simple a ≡ true = ap is_simple app ∙ refl in
    subst (GiveValues (map string_bytes words)) (sym are)
    (found_values (map string_bytes words) f (fit_words words fit) (ap (λ (b : App). fault_of b (map string_bytes words)) (sym app) ∙ none free)
    ((rows simple).0 ∙ ap (λ (b : App). matches_of b (map string_bytes words)) app))

-- an error that isn't of memory comes only where they give none
pub refused : (a : App) (words : List (String Global)) (e : Error) → a ≡ options_command option_names
    → list_any is_only_dashes (map string_bytes words) ≡ false → (is_simple_and_free a ≡ true → HasKind (fault_of a (map string_bytes words)) e)
    → (kind_of e ≡ OutOfMemory → ⊥) → (given : OptionsGiven) → GiveValues (map string_bytes words) given → ⊥
refused a words e app fit kinds other given gives =
    let free : is_simple_and_free a ≡ true = ap is_simple_and_free app ∙ app_is_simple in
    let none : fault_of a (map string_bytes words) ≡ [] =
    ap (λ (b : App). fault_of b (map string_bytes words)) app ∙ no_faults (map string_bytes words) given (fit_words words fit) gives in
    elim (kinds free) [
      | inl memory ↦ other memory
      | inr among ↦ subst (IsAmong (kind_of e)) none among
    ]
