-- The text of a header and of a list of items is read as that list, where each record gives its item.
use Rattle.std.proofs.Common.{◌≡◌, ℕ, ◌+◌, true, false, if◌then◌else◌, List, [], ◌∷◌, ◌++◌, length, map, codes, Ok, refl, ap, sym, ◌∙◌, arith, append_assoc, append-nil, length-append, ne_eqb}
use Rattle.std.specs.List.{flat_map}
use Rattle.scaled_decimal.specs.NumberText.{AreShown}
use Rattle.nav_io.specs.Lines.{ends, without_cr}
use Rattle.nav_io.proofs.Surface.{pieces-line}
use Rattle.nav_eph.specs.declared.items.NavItem.{NavItem}
use Rattle.nav_eph.specs.Ranges.{IsItem}
use Rattle.rinex_write.specs.declared.words.HeaderWords.{HeaderWords}
use Rattle.rinex_write.specs.Texts.{IsHeader, AreLines, text_of, item_lines, header_lines, rinex_text}
use Rattle.rinex_write.proofs.Surface.{lines_more, header_shown, length-header}
use Rattle.rinex_read.specs.declared.judged.ItemRead.{ItemRead}
use Rattle.rinex_read.specs.declared.judged.ItemRead.TheVariants.{Item}
use Rattle.rinex_read.specs.Lines.{lines_of}
use Rattle.rinex_read.specs.Forms.{Form, read_at, rinex4}
use Rattle.rinex_read.specs.Files.{header_of, up_to_next, reads, reads_behind, file_reads, items_of, items_read, rinex_list}
use Rattle.rinex_read.specs.RoundTrip.{AreItems, NoneBegins, StandFor, AllStand, AreHeaderLines, numbered_by, numbered}
use Rattle.rinex_read.proofs.RecordLemmas.{item_again}
use Rattle.rinex_read.proofs.WrittenLemmas.{record_lines_are, header_begins, header_again}

shown_ends : (l : List ℕ) → AreShown l → ends l ≡ false
shown_ends [] h = refl
shown_ends (c ∷ cs) h = ap (λ b. if b then true else ends cs) (ne_eqb c 10 (λ e. omega (arith, h.0))) ∙ shown_ends cs h.1

shown_cr : (l : List ℕ) → AreShown l → without_cr l ≡ l
shown_cr [] h = refl
shown_cr (c ∷ []) h = ap (λ b. if b then [] else c ∷ []) (ne_eqb c 13 (λ e. omega (arith, h.0)))
shown_cr (c ∷ d ∷ ds) h = ap (λ t. c ∷ t) (shown_cr (d ∷ ds) h.1)

-- the lines of a text of lines are these lines
lines_again : (ls : List (List ℕ)) (rest : List ℕ) → AreLines ls → lines_of (text_of ls ++ rest) ≡ ls ++ lines_of rest
lines_again [] rest h = refl
lines_again (l ∷ ls) rest h =
    ap lines_of (append_assoc l (10 ∷ text_of ls) rest)
    ∙ ap (map without_cr) (pieces-line false l (text_of ls ++ rest) (shown_ends l h.0))
    ∙ ap (λ t. t ∷ lines_of (text_of ls ++ rest)) (shown_cr l h.0)
    ∙ ap (λ t. l ∷ t) (lines_again ls rest h.1)

-- lines that begin no record are skipped
passed : {R : Type 0} (f : Form R) (n : ℕ) (ls rest : List (List ℕ)) → NoneBegins f ls → reads f n (ls ++ rest) ≡ reads f (n + length ls) rest
passed f n [] rest h = ap (λ m. reads f m rest) (omega arith)
passed f n (l ∷ ls) rest h =
    ap (λ b. if b then f.judged (n + 1) (l ∷ up_to_next f (ls ++ rest)) ∷ reads f (n + 1) (ls ++ rest) else reads f (n + 1) (ls ++ rest)) h.0
    ∙ passed f (n + 1) ls rest h.1 ∙ ap (λ m. reads f m rest) (omega arith)

up_to_more : {R : Type 0} (f : Form R) (ls rest : List (List ℕ)) → NoneBegins f ls → up_to_next f (ls ++ rest) ≡ ls ++ up_to_next f rest
up_to_more f [] rest h = refl
up_to_more f (l ∷ ls) rest h =
    ap (λ b. if b then [] else l ∷ up_to_next f (ls ++ rest)) h.0 ∙ ap (λ t. l ∷ t) (up_to_more f ls rest h.1)

-- a record that gives an item is read, whatever lines follow
item_read : (f : Form ItemRead) (n : ℕ) (lines : List (List ℕ)) (i : NavItem) (rest : List (List ℕ)) → StandFor f lines i → reads f n (lines ++ rest) ≡ Item (n + 1) i ∷ reads f (n + length lines) rest
item_read f n lines i rest is =
    let h = is.are in
    let count : n + 1 + length h.others ≡ n + length lines = omega (arith, ap length h.lines_are) in
    ap (λ ls. reads f n (ls ++ rest)) h.lines_are
    ∙ ap (λ b. if b then f.judged (n + 1) (h.title ∷ up_to_next f (h.others ++ rest)) ∷ reads f (n + 1) (h.others ++ rest) else reads f (n + 1) (h.others ++ rest)) h.first
    ∙ ap (λ ls. f.judged (n + 1) (h.title ∷ ls) ∷ reads f (n + 1) (h.others ++ rest)) (up_to_more f h.others rest h.rest)
    ∙ ap (λ ls. f.judged (n + 1) (ls ++ up_to_next f rest) ∷ reads f (n + 1) (h.others ++ rest)) (sym h.lines_are)
    ∙ ap (λ j. j ∷ reads f (n + 1) (h.others ++ rest)) (is.judged (n + 1) (up_to_next f rest))
    ∙ ap (λ rs. Item (n + 1) i ∷ rs) (passed f (n + 1) h.others rest h.rest ∙ ap (λ m. reads f m rest) count)

items_again : (f : Form ItemRead) (write : NavItem → List (List ℕ)) (n : ℕ) (is : List NavItem) (rest : List (List ℕ)) → AllStand f write is
    → reads f n (flat_map write is ++ rest) ≡ numbered_by write n is ++ reads f (n + length (flat_map write is)) rest
items_again f write n [] rest h = ap (λ m. reads f m rest) (omega arith)
items_again f write n (i ∷ is) rest h =
    let first = length (write i) in
    let count : n + first + length (flat_map write is) ≡ n + length (flat_map write (i ∷ is)) = omega (arith, length-append (write i) (flat_map write is)) in
    ap (reads f n) (append_assoc (write i) (flat_map write is) rest)
    ∙ item_read f n (write i) i (flat_map write is ++ rest) h.0
    ∙ ap (λ rs. Item (n + 1) i ∷ rs) (items_again f write (n + first) is rest h.1 ∙ ap (λ m. numbered_by write (n + first) is ++ reads f m rest) count)

all_shown : (f : Form ItemRead) (write : NavItem → List (List ℕ)) (is : List NavItem) → AllStand f write is → AreLines (flat_map write is)
all_shown f write [] h = tt
all_shown f write (i ∷ is) h = lines_more (write i) (flat_map write is) h.0.are.shown (all_shown f write is h.1)

file_lines : (f : Form ItemRead) (header : List (List ℕ)) (write : NavItem → List (List ℕ)) (is : List NavItem) (rest : List ℕ) → AreLines header → AllStand f write is
    → lines_of (text_of (header ++ flat_map write is) ++ rest) ≡ header ++ (flat_map write is ++ lines_of rest)
file_lines f header write is rest h all =
    lines_again (header ++ flat_map write is) rest (lines_more header (flat_map write is) h (all_shown f write is all)) ∙ append_assoc header (flat_map write is) (lines_of rest)

-- the records of a file and of what follows it
file_and : (f : Form ItemRead) (header : List (List ℕ)) (write : NavItem → List (List ℕ)) (is : List NavItem) (rest : List ℕ) → AreHeaderLines f header → AllStand f write is
    → file_reads f (text_of (header ++ flat_map write is) ++ rest) ≡ Ok (numbered_by write (length header) is ++ reads f (length header + length (flat_map write is)) (lines_of rest))
file_and f header write is rest h all =
    ap (λ ls. reads_behind f (header_of f 0 ls)) (file_lines f header write is rest h.shown all)
    ∙ ap (reads_behind f) (h.passed (flat_map write is ++ lines_of rest))
    ∙ ap Ok (items_again f write (length header) is (lines_of rest) all)

items_numbered : (write : NavItem → List (List ℕ)) (n : ℕ) (is : List NavItem) (rs : List ItemRead) → items_of (numbered_by write n is ++ rs) ≡ is ++ items_of rs
items_numbered write n [] rs = refl
items_numbered write n (i ∷ is) rs = ap (λ js. i ∷ js) (items_numbered write (n + length (write i)) is rs)

-- numbering leaves the items the same
pub items_are : (write : NavItem → List (List ℕ)) (n : ℕ) (is : List NavItem) → items_of (numbered_by write n is) ≡ is
items_are write n is = ap items_of (sym (append-nil (numbered_by write n is))) ∙ items_numbered write n is [] ∙ append-nil is

-- what is read of a file that was written
pub written_again : (f : Form ItemRead) (header : List (List ℕ)) (write : NavItem → List (List ℕ)) (is : List NavItem) → AreHeaderLines f header → AllStand f write is
    → file_reads f (text_of (header ++ flat_map write is)) ≡ Ok (numbered_by write (length header) is)
written_again f header write is h all =
    ap (file_reads f) (sym (append-nil (text_of (header ++ flat_map write is)))) ∙ file_and f header write is [] h all ∙ ap Ok (append-nil (numbered_by write (length header) is))

-- records and headers of version 4 as they are written
pub item_stands : (i : NavItem) → IsItem i → StandFor rinex4 (item_lines i) i
item_stands i is = record { are = record_lines_are i; judged = λ number more. ap (read_at number) (item_again i more is) }

all_stand : (is : List NavItem) → AreItems is → AllStand rinex4 item_lines is
all_stand [] h = tt
all_stand (i ∷ is) h = (item_stands i h.0, all_stand is h.1)

version_shown : AreShown (codes "     4.01")
version_shown = (omega arith, (omega arith, (omega arith, (omega arith, (omega arith, (omega arith, (omega arith, (omega arith, (omega arith, tt)))))))))

pub header_stands : (h : HeaderWords) → IsHeader h → AreHeaderLines rinex4 (header_lines h)
header_stands h is = record { shown = header_shown (codes "     4.01") h version_shown is; passed = λ more. header_again h is more ∙ ap (λ n. Ok (record { number = n; lines = more })) (sym (length-header (codes "     4.01") h)) }

pub file_again : (h : HeaderWords) (is : List NavItem) → IsHeader h → AreItems is → file_reads rinex4 (rinex_text h is) ≡ Ok (numbered 4 is)
file_again h is header items =
    written_again rinex4 (header_lines h) item_lines is (header_stands h header) (all_stand is items) ∙ ap (λ n. Ok (numbered n is)) (length-header (codes "     4.01") h)

pub list_again : (h : HeaderWords) (is : List NavItem) → IsHeader h → AreItems is → rinex_list (rinex_text h is) ≡ is
list_again h is header items = ap items_read (file_again h is header items) ∙ items_are item_lines 4 is

-- what is read of two files concatenated
pub joined_reads : (h k : HeaderWords) (is js : List NavItem) → IsHeader h → IsHeader k → AreItems is → AreItems js
    → file_reads rinex4 (rinex_text h is ++ rinex_text k js) ≡ Ok (numbered 4 is ++ numbered (8 + length (flat_map item_lines is)) js)
joined_reads h k is js first second items more =
    let n = length (header_lines h) + length (flat_map item_lines is) in
    let lines = ap lines_of (sym (append-nil (rinex_text k js))) ∙ file_lines rinex4 (header_lines k) item_lines js [] (header_shown (codes "     4.01") k version_shown second) (all_stand js more) in
    let count : n + length (header_lines k) ≡ 8 + length (flat_map item_lines is) = omega (arith, length-header (codes "     4.01") h, length-header (codes "     4.01") k) in
    file_and rinex4 (header_lines h) item_lines is (rinex_text k js) (header_stands h first) (all_stand is items)
    ∙ ap (λ m. Ok (numbered m is ++ reads rinex4 n (lines_of (rinex_text k js)))) (length-header (codes "     4.01") h)
    ∙ ap (λ ls. Ok (numbered 4 is ++ reads rinex4 n ls)) lines
    ∙ ap (λ rs. Ok (numbered 4 is ++ rs)) (passed rinex4 n (header_lines k) (flat_map item_lines js ++ []) (header_begins k)
    ∙ ap (λ m. reads rinex4 m (flat_map item_lines js ++ [])) count
    ∙ items_again rinex4 item_lines (8 + length (flat_map item_lines is)) js [] (all_stand js more)
    ∙ append-nil (numbered (8 + length (flat_map item_lines is)) js))

pub joined_list : (h k : HeaderWords) (is js : List NavItem) → IsHeader h → IsHeader k → AreItems is → AreItems js
    → rinex_list (rinex_text h is ++ rinex_text k js) ≡ is ++ js
joined_list h k is js first second items more =
    let m = 8 + length (flat_map item_lines is) in
    ap items_read (joined_reads h k is js first second items more)
    ∙ items_numbered item_lines 4 is (numbered m js)
    ∙ ap (λ xs. is ++ xs) (items_are item_lines m js)
