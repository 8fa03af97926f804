-- The text that is written while records are read, and the text that is held back until all are read.
use Rattle.std.proofs.Common.{◌≡◌, ℕ, Bool, true, false, not, if◌then◌else◌, List, [], ◌∷◌, ◌++◌, Ok, Err, refl, sym, ap, ◌∙◌, inl, inr, append-nil}
use Rattle.std.specs.Prelude.{filter}
use Rattle.std.specs.List.{flat_map}
use Rattle.std.proofs.lemmas.Grind.{flat_map-append}
use Rattle.streams.specs.Targets.{back_text, prefix_text}
use Rattle.streams.specs.declared.target.Target.{Target}
use Rattle.all_systems.specs.Streams.{Numbered, text_of}
use Rattle.all_systems.specs.Files.{carried_in, carried_lines, counts_of, counts_text, early_items, first_text, held_by, held_text, is_last, is_late, items_in, last_text, lasts_in, late_items, nav_items, numbered, read_text, reading_text, whole_by, whole_text}
use Rattle.all_systems.specs.FileReadings.{LineRead, Reading, refused, carried, passed}

-- ---- what is written while records are read

item_first : (to : Target) (n : ℕ) (x : Reading) (is : List Numbered) (text : List ℕ) → text ≡ flat_map (text_of to) (early_items to is)
    → first_text to n x ++ text ≡ flat_map (text_of to) (early_items to (numbered n x ++ is))
item_first to n (Ok item) is text e = by (is_late to item)
  where
    by : (b : Bool) → (if not b then text_of to (n, item) else []) ++ text ≡ flat_map (text_of to) (if not b then (n, item) ∷ early_items to is else early_items to is)
    by true = e
    by false = ap (λ (l : List ℕ). text_of to (n, item) ++ l) e
item_first to n (Err (carried lines)) is text e = e
item_first to n (Err (refused reason)) is text e = e
item_first to n (Err passed) is text e = e

pub early_texts : (to : Target) (reads : List LineRead) → flat_map (read_text to) reads ≡ flat_map (text_of to) (early_items to (items_in reads))
early_texts to [] = refl
early_texts to (r ∷ rs) = item_first to r.line r.reading (items_in rs) (flat_map (read_text to) rs) (early_texts to rs)

-- ---- what is held back

-- the texts of some elements are those of the elements that are chosen
chosen_texts : {X : Type 0} (p : X → Bool) (text : X → List ℕ) (xs : List X) → flat_map (λ x. if p x then text x else []) xs ≡ flat_map text (filter p xs)
chosen_texts p text [] = refl
chosen_texts p text (x ∷ xs) = by (p x) (chosen_texts p text xs)
  where
    by : (b : Bool) → flat_map (λ y. if p y then text y else []) xs ≡ flat_map text (filter p xs)
        → (if b then text x else []) ++ flat_map (λ y. if p y then text y else []) xs ≡ flat_map text (if b then x ∷ filter p xs else filter p xs)
    by true e = ap (λ (l : List ℕ). text x ++ l) e
    by false e = e

pub last_texts : (to : Target) (reads : List LineRead) → held_by to reads ≡ flat_map (whole_text to) (lasts_in to reads)
last_texts to reads = chosen_texts (λ read. is_last to read.reading) (whole_text to) reads

last_item : (to : Target) (r : LineRead) (x : Reading) (is : List Numbered) (lasts : List LineRead) → r.reading ≡ x → items_in lasts ≡ late_items to is
    → items_in (if is_last to x then r ∷ lasts else lasts) ≡ late_items to (numbered r.line x ++ is)
last_item to r (Ok item) is lasts same e = by (is_late to item)
  where
    by : (b : Bool) → items_in (if b then r ∷ lasts else lasts) ≡ (if b then (r.line, item) ∷ late_items to is else late_items to is)
    by true = ap (λ x. numbered r.line x ++ items_in lasts) same ∙ ap (λ (l : List Numbered). (r.line, item) ∷ l) e
    by false = e
last_item to r (Err (carried lines)) is lasts same e = ap (λ x. numbered r.line x ++ items_in lasts) same ∙ e
last_item to r (Err (refused reason)) is lasts same e = e
last_item to r (Err passed) is lasts same e = e

pub last_items : (to : Target) (reads : List LineRead) → items_in (lasts_in to reads) ≡ late_items to (items_in reads)
last_items to [] = refl
last_items to (r ∷ rs) = last_item to r r.reading (items_in rs) (lasts_in to rs) refl (last_items to rs)

last_lines : (to : Target) (r : LineRead) (x : Reading) (lasts reads : List LineRead) → r.reading ≡ x → carried_in lasts ≡ carried_in reads
    → carried_in (if is_last to x then r ∷ lasts else lasts) ≡ carried_lines x ++ carried_in reads
last_lines to r (Ok item) lasts reads same e = by (is_late to item)
  where
    by : (b : Bool) → carried_in (if b then r ∷ lasts else lasts) ≡ carried_in reads
    by true = ap (λ x. carried_lines x ++ carried_in lasts) same ∙ e
    by false = e
last_lines to r (Err (carried lines)) lasts reads same e = ap (λ x. carried_lines x ++ carried_in lasts) same ∙ ap (λ (l : List (List (List ℕ))). lines ∷ l) e
last_lines to r (Err (refused reason)) lasts reads same e = e
last_lines to r (Err passed) lasts reads same e = e

pub last_carried : (to : Target) (reads : List LineRead) → carried_in (lasts_in to reads) ≡ carried_in reads
last_carried to [] = refl
last_carried to (r ∷ rs) = last_lines to r r.reading (lasts_in to rs) rs refl (last_carried to rs)

-- ---- of GPS and Galileo I/NAV

pub early_navs : (to : Target) (is : List Numbered) → nav_items (early_items to is) ≡ early_items to (nav_items is)
early_navs to [] = refl
early_navs to ((n, inl item) ∷ is) = by (is_late to (inl item)) (early_navs to is)
  where
    by : (b : Bool) → nav_items (early_items to is) ≡ early_items to (nav_items is)
        → nav_items (if not b then (n, inl item) ∷ early_items to is else early_items to is) ≡ (if not b then (n, inl item) ∷ early_items to (nav_items is) else early_items to (nav_items is))
    by true e = e
    by false e = ap (λ (l : List Numbered). (n, inl item) ∷ l) e
early_navs to ((n, inr x) ∷ is) = early_navs to is

pub late_navs : (to : Target) (is : List Numbered) → late_items to is ≡ late_items to (nav_items is)
late_navs to [] = refl
late_navs to ((n, inl item) ∷ is) = ap (λ (l : List Numbered). if is_late to (inl item) then (n, inl item) ∷ l else l) (late_navs to is)
late_navs to ((n, inr x) ∷ is) = late_navs to is

-- ---- with no carried record

item_texts : (to : Target) (n : ℕ) (x : Reading) (rest : List LineRead) → carried_lines x ++ carried_in rest ≡ [] → (carried_in rest ≡ [] → flat_map (whole_text to) rest ≡ flat_map (text_of to) (items_in rest))
    → reading_text to n x ++ flat_map (whole_text to) rest ≡ flat_map (text_of to) (numbered n x ++ items_in rest)
item_texts to n (Ok item) rest none e = ap (λ (l : List ℕ). text_of to (n, item) ++ l) (e none)
item_texts to n (Err (carried lines)) rest none e = absurd (cc)
item_texts to n (Err (refused reason)) rest none e = e none
item_texts to n (Err passed) rest none e = e none

all_texts : (to : Target) (reads : List LineRead) → carried_in reads ≡ [] → flat_map (whole_text to) reads ≡ flat_map (text_of to) (items_in reads)
all_texts to [] none = refl
all_texts to (r ∷ rs) none = item_texts to r.line r.reading rs none (all_texts to rs)

pub alone_texts : (to : Target) (reads : List LineRead) → carried_in reads ≡ [] → held_by to reads ≡ flat_map (text_of to) (late_items to (items_in reads))
alone_texts to reads none =
    last_texts to reads ∙ all_texts to (lasts_in to reads) (last_carried to reads ∙ none) ∙ ap (λ (is : List Numbered). flat_map (text_of to) is) (last_items to reads)

-- ---- the whole text

whole_of : (to : Target) (reads : List LineRead) (early held : List ℕ) → flat_map (read_text to) reads ≡ early → held_by to reads ≡ held
    → whole_by to reads ≡ (prefix_text to ++ early) ++ (held ++ back_text to (counts_text (counts_of to reads)))
whole_of to reads early held e f = λ i. (prefix_text to ++ e i) ++ (f i ++ back_text to (counts_text (counts_of to reads)))

pub whole_texts : (to : Target) (reads : List LineRead)
    → whole_by to reads ≡ (prefix_text to ++ flat_map (text_of to) (early_items to (items_in reads))) ++ (flat_map (whole_text to) (lasts_in to reads) ++ back_text to (counts_text (counts_of to reads)))
whole_texts to reads = whole_of to reads _ _ (early_texts to reads) (last_texts to reads)

pub whole_alone : (to : Target) (reads : List LineRead) → carried_in reads ≡ []
    → whole_by to reads
    ≡ (prefix_text to ++ flat_map (text_of to) (early_items to (items_in reads))) ++ (flat_map (text_of to) (late_items to (items_in reads)) ++ back_text to (counts_text (counts_of to reads)))
whole_alone to reads none = whole_of to reads _ _ (early_texts to reads) (alone_texts to reads none)

-- ---- with a record more

pub held_more : (to : Target) (reads : List LineRead) (read : LineRead) (n : ℕ) (x : Reading) (old new : List ℕ) → new ≡ old ++ last_text to n x → n ≡ read.line → x ≡ read.reading → old ≡ held_by to reads
    → new ≡ held_by to (reads ++ read ∷ [])
held_more to reads read n x old new grew line reading held =
    grew ∙ (λ i. held i ++ last_text to (line i) (reading i)) ∙ ap (λ (l : List ℕ). held_by to reads ++ l) (sym (append-nil (held_text to read)))
    ∙ sym (flat_map-append (held_text to) reads (read ∷ []))
