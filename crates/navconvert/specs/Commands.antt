-- The command line of `navconvert`, as `clap` reads it.
use Rattle.std.specs.Prelude.{◌≡◌, ◌^◌, ◌-◌, ℕ, Bool, true, false, pos, List, [], ◌∷◌, map, codes, bytes_eq, length, Option, None, Some, Result, IfOk}
use Rattle.std.specs.Option.{option_map_or}
use Rattle.std.specs.Borrow.{Bor}
use Rattle.clap.specs.Words.{App, FailsBy, Row, Rule, Text, fault_of, first_of, found_of, matches_of, new_rule, rows_of}
use Rattle.clap.specs.Simple.{new_shape}
use Rattle.clap.specs.declared.error.Error.{Error}
use Rattle.clap.specs.declared.builder.action.ArgAction.TheVariants.{Set, SetTrue}
use Rattle.clap.specs.declared.builder.value_parser.ValueParser.{ValueParser}
use Rattle.clap.specs.declared.builder.value_parser.ValueParser.TheVariants as parsers
use Rattle.navconvert.specs.declared.command.Asked.{Asked}
use Rattle.navconvert.specs.declared.command.Row.{Row as OptionRow}

-- the values of `--from`
abbrev pub form_words : List Text
form_words =
    codes "auto" ∷ codes "capture" ∷ codes "stream" ∷ codes "rinex" ∷ codes "rinex3" ∷ codes "rinex2" ∷ codes "ubx" ∷ codes "sbf"
    ∷ []

-- the values of `--to`
abbrev pub target_words : List Text
target_words =
    codes "rinex" ∷ codes "rinex3" ∷ codes "rtcm" ∷ codes "list" ∷ codes "count" ∷ codes "frames" ∷ codes "merged" ∷ codes "merged3"
    ∷ codes "cover"
    ∷ codes "capture" ∷ []

-- the files: one or more words that belong to no option
abbrev pub files_rule : Rule
files_rule = record (new_rule (codes "files")) {
  range = Some (record { start_inclusive = 1; end_inclusive = 2 ^ 64 - 1 });
  value_names = 1;
}

-- an option with one value of this kind, and its default
abbrev pub option_rule : Text → Option ℕ → ValueParser → List Text → Rule
option_rule name short parser defaults = record (new_rule name) {
  long = Some name;
  short = short;
  action = Some Set;
  value_names = 1;
  parser = Some parser;
  defaults = defaults;
}

-- an option without a value
abbrev pub flag_rule : Text → Option ℕ → Rule
flag_rule name short = record (new_rule name) { long = Some name; short = short; action = Some SetTrue; parser = Some parsers.Bool }

-- all options, with the words of `--from` and of `--to`
abbrev pub option_rules : Bor (List (Bor Text)) → Bor (List (Bor Text)) → List Rule
option_rules forms targets =
    option_rule (codes "from") (Some 102) (parsers.Names forms) (codes "auto" ∷ [])
    ∷ option_rule (codes "to") (Some 116) (parsers.Names targets) (codes "rinex" ∷ [])
    ∷ option_rule (codes "output") (Some 111) parsers.String []
    ∷ option_rule (codes "week") None (parsers.Signed (pos 1024) (pos 8191)) []
    ∷ option_rule (codes "leap") None (parsers.Signed (pos 0) (pos 99)) []
    ∷ option_rule (codes "date") None parsers.String []
    ∷ option_rule (codes "long-name") None parsers.String []
    ∷ option_rule (codes "report") None parsers.String []
    ∷ flag_rule (codes "overwrite") None
    ∷ flag_rule (codes "quiet") (Some 113)
    ∷ flag_rule (codes "dry-run") (Some 110)
    ∷ flag_rule (codes "check") None
    ∷ flag_rule (codes "json") None
    ∷ flag_rule (codes "list-forms") None
    ∷ flag_rule (codes "diff") None
    ∷ []

-- the command with these options, whose words do not start with the name of a program
abbrev pub command_with : List Rule → App
command_with rules = record {
  top = record (new_shape (codes "navconvert")) { rules = files_rule ∷ rules; no_binary_name = true; has_version = true };
  subs = [];
}

-- the flag of this name is given
abbrev pub is_set : Text → List Row → Bool
is_set name rows = option_map_or (λ text. bytes_eq text (codes "true")) (first_of name rows) false

-- the value of an option, and whether a flag is given, in what was found
abbrev pub value_in : Asked → Text → Option Text
value_in asked name = first_of name (rows_of (found_of asked.matches))

abbrev pub has_flag : Asked → Text → Bool
has_flag asked name = is_set name (rows_of (found_of asked.matches))

-- What is read of words: their values by the options, if they have no usage error, and else the
-- first one, or out of memory.
pub record ReadsWords (words : List Text) (result : Result Asked Error) : Type 0 where
  pub forms : Bor (List (Bor Text))
  pub targets : Bor (List (Bor Text))
  pub are_forms : map (λ w. w.now) forms.now ≡ form_words
  pub are_targets : map (λ w. w.now) targets.now ≡ target_words
  pub fails : FailsBy (fault_of (command_with (option_rules forms targets)) words) result
  pub matches : IfOk result (λ asked.
      rows_of (found_of asked.matches) ≡ matches_of (command_with (option_rules forms targets)) words)

-- ---- rows of the table of options, which only private functions cite

-- the rule with a short name, if one is there
abbrev pub with_short : Option ℕ → Rule → Rule
with_short None rule = rule
with_short (Some short) rule = record rule { short = Some short }

-- the rule of a row's names
abbrev pub name_rule : OptionRow → Rule
name_rule row = with_short row.short (record (new_rule row.name.now) { long = Some row.name.now })

-- the rule of a row
abbrev pub row_rule : OptionRow → Rule
row_rule row = record (name_rule row) {
  action = Some row.action;
  value_names = length row.values.now;
  parser = Some row.parser;
  defaults = map (λ text. text.now) row.defaults.now;
}

-- the command has all options
abbrev pub IsCommand : App → Type 0
IsCommand command =
    (forms : Bor (List (Bor Text))) × (targets : Bor (List (Bor Text)))
    × (map (λ (w : Bor Text). w.now) forms.now ≡ form_words) × (map (λ (w : Bor Text). w.now) targets.now ≡ target_words)
    × (command ≡ command_with (option_rules forms targets))
