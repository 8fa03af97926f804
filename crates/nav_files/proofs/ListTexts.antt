-- What is written of a file is the text of a list.
use Rattle.std.proofs.Common.{◌≡◌, ℕ, List, [], ◌∷◌, ◌++◌, Ok, Err, refl, sym, ap, ◌∙◌}
use Rattle.std.specs.Prelude.{Result, IsOk}
use Rattle.std.specs.List.{flat_map}
use Rattle.nav_eph.specs.declared.items.NavItem.{NavItem}
use Rattle.nav_lists.specs.Covering.{covers_of}
use Rattle.nav_lists.specs.Merging.{merged_of}
use Rattle.rinex_read.specs.Files.{items_of, items_read}
use Rattle.rinex_read.specs.declared.judged.HeaderFault.{HeaderFault}
use Rattle.rinex_read.specs.declared.judged.ItemRead.{ItemRead}
use Rattle.rinex_read.specs.declared.judged.ItemRead.TheVariants.{Item, Refused, PassedOver}
use Rattle.rinex_write.specs.Texts.{header_lines, item_lines, rinex_text, text_of}
use Rattle.rinex_write.specs.Texts3.{header3_lines, item3_lines, rinex3_text}
use Rattle.rinex_write.specs.declared.words.HeaderWords.{HeaderWords}
use Rattle.rinex_write.proofs.Surface.{text_more}
use Rattle.streams.specs.ItemTexts.{rinex_item, rtcm_item}
use Rattle.streams.specs.Targets.{item_text}
use Rattle.streams.specs.declared.target.Target.TheVariants as targets
use Rattle.nav_files.specs.Archives.{cover_text, merge_text}
use Rattle.nav_files.specs.Files.{convert_text, read_text, text_in}

-- the texts of items concatenated are the text of their lines
item_texts : (lines : NavItem → List (List ℕ)) (items : List NavItem) → flat_map (λ item. text_of (lines item)) items ≡ text_of (flat_map lines items)
item_texts lines [] = refl
item_texts lines (item ∷ items) = ap (λ (l : List ℕ). text_of (lines item) ++ l) (item_texts lines items) ∙ sym (text_more (lines item) (flat_map lines items))

-- after the lines of a header
lines_text : (header : List (List ℕ)) (lines : NavItem → List (List ℕ)) (items : List NavItem)
    → text_of header ++ flat_map (λ item. text_of (lines item)) items ≡ text_of (header ++ flat_map lines items)
lines_text header lines items = ap (λ (l : List ℕ). text_of header ++ l) (item_texts lines items) ∙ sym (text_more header (flat_map lines items))

-- what is written of records is what is written of their items
read_texts : (text : ℕ → NavItem → List ℕ) (plain : NavItem → List ℕ) → ((line : ℕ) (item : NavItem) → text line item ≡ plain item)
    → (reads : List ItemRead) → flat_map (read_text text) reads ≡ flat_map plain (items_of reads)
read_texts text plain same [] = refl
read_texts text plain same (Item line item ∷ rs) =
    ap (λ (l : List ℕ). l ++ flat_map (read_text text) rs) (same line item) ∙ ap (λ (l : List ℕ). plain item ++ l) (read_texts text plain same rs)
read_texts text plain same (Refused line reason ∷ rs) = read_texts text plain same rs
read_texts text plain same (PassedOver line ∷ rs) = read_texts text plain same rs

-- ---- of what was read

pub rinex_is : (words : HeaderWords) (r : Result (List ItemRead) HeaderFault) → IsOk r → text_in (convert_text (targets.Rinex words)) r ≡ rinex_text words (items_read r)
rinex_is words (Ok reads) ok =
    ap (λ (l : List ℕ). text_of (header_lines words) ++ l) (read_texts (item_text (targets.Rinex words)) rinex_item (λ line item. refl) reads)
    ∙ lines_text (header_lines words) item_lines (items_of reads)
rinex_is words (Err fault) ok = absurd (cc)

pub rinex3_is : (words : HeaderWords) (r : Result (List ItemRead) HeaderFault) → IsOk r → text_in (convert_text (targets.Rinex3 words)) r ≡ rinex3_text words (items_read r)
rinex3_is words (Ok reads) ok =
    ap (λ (l : List ℕ). text_of (header3_lines words) ++ l) (read_texts (item_text (targets.Rinex3 words)) (λ item. text_of (item3_lines item)) (λ line item. refl) reads)
    ∙ lines_text (header3_lines words) item3_lines (items_of reads)
rinex3_is words (Err fault) ok = absurd (cc)

pub rtcm_is : (r : Result (List ItemRead) HeaderFault) → text_in (convert_text targets.Rtcm) r ≡ flat_map rtcm_item (items_read r)
rtcm_is (Ok reads) = read_texts (item_text targets.Rtcm) rtcm_item (λ line item. refl) reads
rtcm_is (Err fault) = refl

pub merged_is : (words : HeaderWords) (r : Result (List ItemRead) HeaderFault) → IsOk r
    → text_in (λ reads. text_of (header_lines words) ++ merge_text (items_of reads)) r ≡ rinex_text words (merged_of (items_read r))
merged_is words (Ok reads) ok = lines_text (header_lines words) item_lines (merged_of (items_of reads))
merged_is words (Err fault) ok = absurd (cc)

pub cover_is : (r : Result (List ItemRead) HeaderFault) → text_in (λ reads. [] ++ cover_text (items_of reads)) r ≡ cover_text (items_read r)
unfolding covers_of
cover_is (Ok reads) = refl
cover_is (Err fault) = refl
