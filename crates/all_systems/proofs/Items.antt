-- The items of GPS and Galileo I/NAV in a file are those that its own format gives.
use Rattle.std.proofs.Common.{◌≡◌, ℕ, ◌+◌, Bool, true, false, if◌then◌else◌, List, [], ◌∷◌, ◌++◌, Ok, Err, refl, sym, ap, ◌∙◌, inl, inr}
use Rattle.std.specs.Prelude.{IsOk, Option, None, Some, Result}
use Rattle.std.specs.List.{flat_map}
use Rattle.nav_files.specs.Files.{convert_text, read_text as nav_text, text_in}
use Rattle.streams.specs.Targets.{item_text, prefix_text}
use Rattle.streams.specs.declared.target.Target.{Target}
use Rattle.nav_eph.specs.declared.items.NavItem.{NavItem}
use Rattle.nav_rows.specs.Rows.{RowValue}
use Rattle.nav_rows.specs.declared.kind.Kind.{Kind}
use Rattle.rinex_read.specs.Files.{Body, file_reads, header_of, header_passed, is_navigation, items_of, items_read, reads, reads_behind, records_in, up_to_next}
use Rattle.rinex_read.specs.Forms.{begins, is_version, read_at}
use Rattle.rinex_read.specs.Lines.{lines_of}
use Rattle.rinex_read.specs.declared.judged.HeaderFault.{HeaderFault}
use Rattle.rinex_read.specs.declared.judged.HeaderFault.TheVariants.{NotRinexNav, Version as OtherVersion}
use Rattle.rinex_read.specs.declared.judged.ItemRead.{ItemRead}
use Rattle.rinex_read.specs.declared.judged.Judged.{Judged}
use Rattle.rinex_read.specs.declared.judged.Judged.TheVariants.{Item, Refused, PassedOver}
use Rattle.rinex_read.specs.declared.reason.RecordFault.{RecordFault}
use Rattle.all_systems.specs.Streams.{navs, text_of}
use Rattle.all_systems.specs.declared.kinds.Kinds.{Kinds}
use Rattle.all_systems.specs.Files.{file_items, form_of, items_in, nav_form, nav_items}
use Rattle.all_systems.specs.FileReadings.{LineRead, Reading, refused, kind_reading, nav_judged, reading_by, reading_in, row_in, row_reading}
use Rattle.all_systems.specs.declared.version.Version.{Version}
use Rattle.all_systems.specs.declared.version.Version.TheVariants.{Four, Three}

-- ---- the same records

next_same : (ks : Kinds) (v : Version) (ls : List (List ℕ)) → up_to_next (form_of ks v) ls ≡ up_to_next (nav_form v) ls
next_same ks v [] = refl
next_same ks v (l ∷ ls) = ap (λ (xs : List (List ℕ)). if begins (nav_form v) l then [] else l ∷ xs) (next_same ks v ls)

version_same : (ks : Kinds) (v : Version) (l : List ℕ) → is_version (form_of ks v) l ≡ is_version (nav_form v) l
unfolding is_version
version_same ks v l = refl

header_same : (ks : Kinds) (v : Version) (n : ℕ) (ls : List (List ℕ)) → header_of (form_of ks v) n ls ≡ header_of (nav_form v) n ls
header_same ks v n [] = refl
header_same ks v n (l ∷ ls) =
    ap (λ (b : Bool). if is_navigation l then (if b then header_passed (n + 1) ls else Err OtherVersion) else Err NotRinexNav) (version_same ks v l)

nav_read : (v : Version) (n : ℕ) (lines : List (List ℕ)) → (nav_form v).judged n lines ≡ read_at n (nav_judged v lines)
nav_read Four n lines = refl
nav_read Three n lines = refl

-- what a function of records that looks at GPS and Galileo alone gives of those of all systems
pub record Follows {X : Type 0} (narrow : List ItemRead → X) (wide : List LineRead → X) (with_nav : ℕ → NavItem → X → X) : Type 0 where
  pub none : wide [] ≡ narrow []
  pub item : (n : ℕ) (item : NavItem) (some : List ItemRead) (all : List LineRead) → wide all ≡ narrow some
      → (wide (record { line = n; reading = Ok (inl item) } ∷ all) ≡ with_nav n item (wide all)) × (narrow (read_at n (Item item) ∷ some) ≡ with_nav n item (narrow some))
  pub refused : (n : ℕ) (j : Judged) (some : List ItemRead) → ((item : NavItem) → j ≡ Item item → ⊥) → narrow (read_at n j ∷ some) ≡ narrow some
  pub other : (n : ℕ) (x : Reading) (all : List LineRead) → ((item : NavItem) → x ≡ Ok (inl item) → ⊥) → wide (record { line = n; reading = x } ∷ all) ≡ wide all

kind_none : (o : Option Kind) (v : Version) (lines : List (List ℕ)) (item : NavItem) → kind_reading o v lines ≡ Ok (inl item) → ⊥
kind_none None v lines item e = cc
kind_none (Some k) v lines item e = by (row_in v k lines) e
  where
    by : (r : Result RowValue RecordFault) → row_reading k r ≡ Ok (inl item) → ⊥
    by (Ok row) h = cc
    by (Err reason) h = cc

module _ {X : Type 0} {narrow : List ItemRead → X} {wide : List LineRead → X} {with_nav : ℕ → NavItem → X → X} where
  record_same : Follows narrow wide with_nav → (ks : Kinds) (v : Version) (n : ℕ) (lines : List (List ℕ)) (j : Judged) (some : List ItemRead) (all : List LineRead) → wide all ≡ narrow some
      → wide (record { line = n; reading = reading_by ks v lines j } ∷ all) ≡ narrow (read_at n j ∷ some)
  record_same law ks v n lines (Item item) some all e = let both = law.item n item some all e in both.0 ∙ ap (with_nav n item) e ∙ sym both.1
  record_same law ks v n lines (Refused reason) some all e =
      law.other n (Err (refused reason)) all (λ item is. cc) ∙ e ∙ sym (law.refused n (Refused reason) some (λ item is. cc))
  record_same law ks v n lines PassedOver some all e =
      law.other n _ all (kind_none _ v _) ∙ e ∙ sym (law.refused n PassedOver some (λ item is. cc))

  reads_same : Follows narrow wide with_nav → (ks : Kinds) (v : Version) (n : ℕ) (ls : List (List ℕ)) → wide (reads (form_of ks v) n ls) ≡ narrow (reads (nav_form v) n ls)
  reads_same law ks v n [] = law.none
  reads_same law ks v n (l ∷ ls) = step (begins (nav_form v) l) (reads_same law ks v (n + 1) ls)
    where
      lines : List (List ℕ)
      lines = l ∷ up_to_next (nav_form v) ls

      here : wide (record { line = n + 1; reading = reading_in ks v (l ∷ up_to_next (form_of ks v) ls) } ∷ reads (form_of ks v) (n + 1) ls)
          ≡ wide (record { line = n + 1; reading = reading_in ks v lines } ∷ reads (form_of ks v) (n + 1) ls)
      here = ap (λ (xs : List (List ℕ)). wide (record { line = n + 1; reading = reading_in ks v (l ∷ xs) } ∷ reads (form_of ks v) (n + 1) ls)) (next_same ks v ls)

      step : (b : Bool) → wide (reads (form_of ks v) (n + 1) ls) ≡ narrow (reads (nav_form v) (n + 1) ls)
          → wide (if b then record { line = n + 1; reading = reading_in ks v (l ∷ up_to_next (form_of ks v) ls) } ∷ reads (form_of ks v) (n + 1) ls else reads (form_of ks v) (n + 1) ls)
          ≡ narrow (if b then (nav_form v).judged (n + 1) lines ∷ reads (nav_form v) (n + 1) ls else reads (nav_form v) (n + 1) ls)
      step true rest =
          here ∙ record_same law ks v (n + 1) lines (nav_judged v lines) (reads (nav_form v) (n + 1) ls) (reads (form_of ks v) (n + 1) ls) rest
          ∙ ap (λ (r : ItemRead). narrow (r ∷ reads (nav_form v) (n + 1) ls)) (sym (nav_read v (n + 1) lines))
      step false rest = rest

  -- of a file whose header is accepted
  file_same : Follows narrow wide with_nav → (ks : Kinds) (v : Version) (r : Result Body HeaderFault) → wide (records_in (reads_behind (form_of ks v) r)) ≡ narrow (records_in (reads_behind (nav_form v) r))
  file_same law ks v (Ok body) = reads_same law ks v body.number body.lines
  file_same law ks v (Err fault) = law.none

  pub bytes_same : Follows narrow wide with_nav → (ks : Kinds) (v : Version) (bytes : List ℕ) → wide (records_in (file_reads (form_of ks v) bytes)) ≡ narrow (records_in (file_reads (nav_form v) bytes))
  bytes_same law ks v bytes =
      ap (λ (r : Result Body HeaderFault). wide (records_in (reads_behind (form_of ks v) r))) (header_same ks v 0 (lines_of bytes))
      ∙ file_same law ks v (header_of (nav_form v) 0 (lines_of bytes))

-- ---- the items

other_navs : (n : ℕ) (x : Reading) (all : List LineRead) → ((item : NavItem) → x ≡ Ok (inl item) → ⊥) → navs (items_in (record { line = n; reading = x } ∷ all)) ≡ navs (items_in all)
other_navs n (Ok (inl item)) all never = absurd (never item refl)
other_navs n (Ok (inr x)) all never = refl
other_navs n (Err fault) all never = refl

no_item : (n : ℕ) (j : Judged) (some : List ItemRead) → ((item : NavItem) → j ≡ Item item → ⊥) → items_of (read_at n j ∷ some) ≡ items_of some
no_item n (Item item) some never = absurd (never item refl)
no_item n (Refused reason) some never = refl
no_item n PassedOver some never = refl

navs_follow : Follows items_of (λ all. navs (items_in all)) (λ n item is. item ∷ is)
navs_follow = record {
  none = refl;
  item = λ n item some all e. (refl, refl);
  refused = no_item;
  other = other_navs;
}

in_records : (r : Result (List ItemRead) HeaderFault) → items_of (records_in r) ≡ items_read r
in_records (Ok rs) = refl
in_records (Err fault) = refl

pub file_navs : (ks : Kinds) (v : Version) (bytes : List ℕ) → navs (file_items ks v bytes) ≡ items_read (file_reads (nav_form v) bytes)
file_navs ks v bytes = bytes_same navs_follow ks v bytes ∙ in_records (file_reads (nav_form v) bytes)

-- ---- the texts

other_texts : (to : Target) (n : ℕ) (x : Reading) (all : List LineRead) → ((item : NavItem) → x ≡ Ok (inl item) → ⊥)
    → flat_map (text_of to) (nav_items (items_in (record { line = n; reading = x } ∷ all))) ≡ flat_map (text_of to) (nav_items (items_in all))
other_texts to n (Ok (inl item)) all never = absurd (never item refl)
other_texts to n (Ok (inr x)) all never = refl
other_texts to n (Err fault) all never = refl

no_text : (to : Target) (n : ℕ) (j : Judged) (some : List ItemRead) → ((item : NavItem) → j ≡ Item item → ⊥) → flat_map (nav_text (item_text to)) (read_at n j ∷ some) ≡ flat_map (nav_text (item_text to)) some
no_text to n (Item item) some never = absurd (never item refl)
no_text to n (Refused reason) some never = refl
no_text to n PassedOver some never = refl

texts_follow : (to : Target) → Follows (flat_map (nav_text (item_text to))) (λ all. flat_map (text_of to) (nav_items (items_in all))) (λ n item text. item_text to n item ++ text)
texts_follow to = record {
  none = refl;
  item = λ n item some all e. (refl, refl);
  refused = no_text to;
  other = other_texts to;
}

accepted_text : (to : Target) (r : Result (List ItemRead) HeaderFault) → IsOk r → text_in (convert_text to) r ≡ prefix_text to ++ flat_map (nav_text (item_text to)) (records_in r)
accepted_text to (Ok rs) ok = refl
accepted_text to (Err fault) ok = absurd (cc)

pub file_texts : (ks : Kinds) (v : Version) (to : Target) (bytes : List ℕ) → IsOk (file_reads (nav_form v) bytes)
    → text_in (convert_text to) (file_reads (nav_form v) bytes) ≡ prefix_text to ++ flat_map (text_of to) (nav_items (file_items ks v bytes))
file_texts ks v to bytes ok =
    accepted_text to (file_reads (nav_form v) bytes) ok ∙ ap (λ (l : List ℕ). prefix_text to ++ l) (sym (bytes_same (texts_follow to) ks v bytes))
