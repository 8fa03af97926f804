-- A file is read as a list of items exactly if the relation says so.
use Rattle.std.proofs.Common.{◌≡◌, ℕ, ◌+◌, ◌==◌, not, Bool, true, false, if◌then◌else◌, List, [], ◌∷◌, ◌++◌, length, get_or, codes, Result, Ok, Err, refl, ap, sym, ◌∙◌, subst, inl, inr, arith, eqb-true, eq-eqb}
use Rattle.nav_eph.specs.declared.items.NavItem.{NavItem}
use Rattle.rinex_read.specs.declared.judged.Judged.{Judged}
use Rattle.rinex_read.specs.declared.judged.Judged.TheVariants as judgments
use Rattle.rinex_read.specs.declared.judged.ItemRead.{ItemRead}
use Rattle.rinex_read.specs.declared.judged.HeaderFault.{HeaderFault}
use Rattle.rinex_read.specs.Lines.{columns, lines_of}
use Rattle.rinex_read.specs.Judging.{judged}
use Rattle.rinex_read.specs.Forms.{Form, begins, read_at, rinex4}
use Rattle.rinex_read.specs.Form3.{judged3, rinex3}
use Rattle.rinex_read.specs.Files.{Body, header_of, up_to_next, reads, reads_behind, file_reads, items_of}
use Rattle.job_laws.specs.RinexRecords.{IsRecord3}
use Rattle.job_laws.specs.RinexFiles.{NoneBegin, AreBegun, joined, AreOf, IsFile, IsTitled}
use Rattle.job_laws.proofs.RinexFields.{Seen}
use Rattle.job_laws.proofs.RinexKinds.{judged-says, judged-reads, mark_is, mark_begins}
use Rattle.job_laws.proofs.RinexRecords3.{judged3-says, judged3-reads}
use Rattle.job_laws.proofs.RinexHeaders.{Decides, header-says, header-reads}

-- the format is that of the relation
pub record Agrees (f : Form ItemRead) (Begins : List ℕ → Type 0) (IsOf : List (List ℕ) → NavItem → Type 0) : Type 0 where
  pub judge : List (List ℕ) → Judged
  pub is : (n : ℕ) (lines : List (List ℕ)) → f.judged n lines ≡ read_at n (judge lines)
  pub begun : (l : List ℕ) → begins f l ≡ true → Begins l
  pub marked : (l : List ℕ) → Begins l → begins f l ≡ true
  pub says : (l : List ℕ) (ls : List (List ℕ)) (item : NavItem) → begins f l ≡ true → judge (l ∷ ls) ≡ judgments.Item item → IsOf (l ∷ ls) item
  pub gives : (l : List ℕ) (ls : List (List ℕ)) (item : NavItem) → IsOf (l ∷ ls) item → judge (l ∷ ls) ≡ judgments.Item item

-- the items of a record that is read, before others
abbrev with_item : Judged → List NavItem → List NavItem
with_item (judgments.Item item) items = item ∷ items
with_item (judgments.Refused reason) items = items
with_item judgments.PassedOver items = items

with_read : (n : ℕ) (j : Judged) (rs : List ItemRead) → items_of (read_at n j ∷ rs) ≡ with_item j (items_of rs)
with_read n (judgments.Item item) rs = refl
with_read n (judgments.Refused reason) rs = refl
with_read n judgments.PassedOver rs = refl

-- the records of the lines, behind those that begin none
record Parts (f : Form ItemRead) (Begins : List ℕ → Type 0) (IsOf : List (List ℕ) → NavItem → Type 0) (n : ℕ) (lines : List (List ℕ)) : Type 0 where
  pub records : List (List (List ℕ))
  pub lines_are : lines ≡ up_to_next f lines ++ joined records
  pub none : NoneBegin Begins (up_to_next f lines)
  pub begun : AreBegun Begins records
  pub of : AreOf IsOf records (items_of (reads f n lines))

module _ {f : Form ItemRead} {Begins : List ℕ → Type 0} {IsOf : List (List ℕ) → NavItem → Type 0} where
  judged_of : (law : Agrees f Begins IsOf) → (l : List ℕ) (ls : List (List ℕ)) (rs : List (List (List ℕ))) (items : List NavItem) (j : Judged) → begins f l ≡ true → law.judge (l ∷ ls) ≡ j → AreOf IsOf rs items
      → AreOf IsOf ((l ∷ ls) ∷ rs) (with_item j items)
  judged_of law l ls rs items (judgments.Item item) first e of = inl (item, items, refl, law.says l ls item first e, of)
  judged_of law l ls rs items (judgments.Refused reason) first e of =
      inr ((λ item is. let other : judgments.Refused reason ≡ judgments.Item item = sym e ∙ law.gives l ls item is in absurd (cc)), of)
  judged_of law l ls rs items judgments.PassedOver first e of =
      inr ((λ item is. let other : judgments.PassedOver ≡ judgments.Item item = sym e ∙ law.gives l ls item is in absurd (cc)), of)

  parts-says : Agrees f Begins IsOf → (n : ℕ) (lines : List (List ℕ)) → Parts f Begins IsOf n lines
  parts-says law n [] = record { records = []; lines_are = refl; none = tt; begun = tt; of = refl }
  parts-says law n (l ∷ ls) = go (begins f l) refl (parts-says law (n + 1) ls)
    where
      go : (b : Bool) → begins f l ≡ b → Parts f Begins IsOf (n + 1) ls → Parts f Begins IsOf n (l ∷ ls)
      go true e rest =
          let none_left : up_to_next f (l ∷ ls) ≡ [] = ap (λ b. if b then [] else l ∷ up_to_next f ls) e in
          let read : reads f n (l ∷ ls) ≡ read_at (n + 1) (law.judge (l ∷ up_to_next f ls)) ∷ reads f (n + 1) ls =
          ap (λ b. if b then f.judged (n + 1) (l ∷ up_to_next f ls) ∷ reads f (n + 1) ls else reads f (n + 1) ls) e
          ∙ ap (λ (r : ItemRead). r ∷ reads f (n + 1) ls) (law.is (n + 1) (l ∷ up_to_next f ls)) in
          let items : items_of (reads f n (l ∷ ls)) ≡ with_item (law.judge (l ∷ up_to_next f ls)) (items_of (reads f (n + 1) ls)) =
          ap items_of read ∙ with_read (n + 1) (law.judge (l ∷ up_to_next f ls)) (reads f (n + 1) ls) in
          record {
            records = (l ∷ up_to_next f ls) ∷ rest.records;
            lines_are = ap (λ (xs : List (List ℕ)). l ∷ xs) rest.lines_are ∙ ap (λ (xs : List (List ℕ)). xs ++ (l ∷ (up_to_next f ls ++ joined rest.records))) (sym none_left);
            none = subst (NoneBegin Begins) (sym none_left) tt;
            begun = (law.begun l e, rest.none, rest.begun);
            of = subst (AreOf IsOf ((l ∷ up_to_next f ls) ∷ rest.records)) (sym items) (judged_of law l (up_to_next f ls) rest.records (items_of (reads f (n + 1) ls)) (law.judge (l ∷ up_to_next f ls)) e refl rest.of);
          }
      go false e rest =
          let more : up_to_next f (l ∷ ls) ≡ l ∷ up_to_next f ls = ap (λ b. if b then [] else l ∷ up_to_next f ls) e in
          let read : reads f n (l ∷ ls) ≡ reads f (n + 1) ls = ap (λ b. if b then f.judged (n + 1) (l ∷ up_to_next f ls) ∷ reads f (n + 1) ls else reads f (n + 1) ls) e in
          record {
            records = rest.records;
            lines_are = ap (λ (xs : List (List ℕ)). l ∷ xs) rest.lines_are ∙ ap (λ (xs : List (List ℕ)). xs ++ joined rest.records) (sym more);
            none = subst (NoneBegin Begins) (sym more) ((λ (b : Begins l). let yes = law.marked l b in absurd (cc)), rest.none);
            begun = rest.begun;
            of = subst (λ (rs : List ItemRead). AreOf IsOf rest.records (items_of rs)) (sym read) rest.of;
          }

  not_begun : Agrees f Begins IsOf → (l : List ℕ) → (Begins l → ⊥) → begins f l ≡ false
  not_begun law l never = go (begins f l) refl
    where
      go : (b : Bool) → begins f l ≡ b → b ≡ false
      go true e = absurd (never (law.begun l e))
      go false e = refl

  -- a record ends where the next begins
  record_ends : Agrees f Begins IsOf → (ls : List (List ℕ)) (rs : List (List (List ℕ))) → NoneBegin Begins ls → AreBegun Begins rs → up_to_next f (ls ++ joined rs) ≡ ls
  record_ends law (l ∷ ls) rs none begun =
      ap (λ b. if b then [] else l ∷ up_to_next f (ls ++ joined rs)) (not_begun law l none.0) ∙ ap (λ (xs : List (List ℕ)). l ∷ xs) (record_ends law ls rs none.1 begun)
  record_ends law [] [] none begun = refl
  record_ends law [] ([] ∷ rs) none begun = absurd begun
  record_ends law [] ((l ∷ ls) ∷ rs) none begun = ap (λ b. if b then [] else l ∷ up_to_next f (ls ++ joined rs)) (law.marked l begun.0)

  with_of : (law : Agrees f Begins IsOf) → (l : List ℕ) (ls : List (List ℕ)) (j : Judged) (some : List NavItem) → begins f l ≡ true → law.judge (l ∷ ls) ≡ j → ((item : NavItem) → IsOf (l ∷ ls) item → ⊥) → with_item j some ≡ some
  with_of law l ls (judgments.Item item) some first e none = absurd (none item (law.says l ls item first e))
  with_of law l ls (judgments.Refused reason) some first e none = refl
  with_of law l ls judgments.PassedOver some first e none = refl

  before-read : Agrees f Begins IsOf → (before rest : List (List ℕ)) (n : ℕ) → NoneBegin Begins before → items_of (reads f n (before ++ rest)) ≡ items_of (reads f (n + length before) rest)
  before-read law [] rest n none = ap (λ (k : ℕ). items_of (reads f k rest)) (omega arith)
  before-read law (l ∷ ls) rest n none =
      ap (λ b. items_of (if b then f.judged (n + 1) (l ∷ up_to_next f (ls ++ rest)) ∷ reads f (n + 1) (ls ++ rest) else reads f (n + 1) (ls ++ rest))) (not_begun law l none.0)
      ∙ before-read law ls rest (n + 1) none.1
      ∙ ap (λ (k : ℕ). items_of (reads f k rest)) (omega arith)

  record-read : (law : Agrees f Begins IsOf) → (l : List ℕ) (ls : List (List ℕ)) (rs : List (List (List ℕ))) (n : ℕ) → Begins l → NoneBegin Begins ls → AreBegun Begins rs
      → items_of (reads f n (l ∷ (ls ++ joined rs))) ≡ with_item (law.judge (l ∷ ls)) (items_of (reads f (n + 1 + length ls) (joined rs)))
  record-read law l ls rs n first none begun =
      let rest = ls ++ joined rs in
      ap (λ b. items_of (if b then f.judged (n + 1) (l ∷ up_to_next f rest) ∷ reads f (n + 1) rest else reads f (n + 1) rest)) (law.marked l first)
      ∙ ap (λ (r : ItemRead). items_of (r ∷ reads f (n + 1) rest)) (law.is (n + 1) (l ∷ up_to_next f rest))
      ∙ with_read (n + 1) (law.judge (l ∷ up_to_next f rest)) (reads f (n + 1) rest)
      ∙ ap (λ (xs : List (List ℕ)). with_item (law.judge (l ∷ xs)) (items_of (reads f (n + 1) rest))) (record_ends law ls rs none begun)
      ∙ ap (with_item (law.judge (l ∷ ls))) (before-read law ls (joined rs) (n + 1) none)

  records-read : Agrees f Begins IsOf → (rs : List (List (List ℕ))) (n : ℕ) (items : List NavItem) → AreBegun Begins rs → AreOf IsOf rs items → items_of (reads f n (joined rs)) ≡ items
  records-read law [] n items begun of = sym of
  records-read law ([] ∷ rs) n items begun of = absurd begun
  records-read law ((l ∷ ls) ∷ rs) n items begun (inl h) =
      record-read law l ls rs n begun.0 begun.1 begun.2
      ∙ ap (λ (j : Judged). with_item j (items_of (reads f (n + 1 + length ls) (joined rs)))) (law.gives l ls h.0 h.3)
      ∙ ap (λ (xs : List NavItem). h.0 ∷ xs) (records-read law rs (n + 1 + length ls) h.1 begun.2 h.4)
      ∙ sym h.2
  records-read law ((l ∷ ls) ∷ rs) n items begun (inr h) =
      record-read law l ls rs n begun.0 begun.1 begun.2
      ∙ with_of law l ls (law.judge (l ∷ ls)) (items_of (reads f (n + 1 + length ls) (joined rs))) (law.marked l begun.0) refl h.0
      ∙ records-read law rs (n + 1 + length ls) items begun.2 h.1

-- what is read of a file
header_given : (f : Form ItemRead) (r : Result Body HeaderFault) (given : List ItemRead) → reads_behind f r ≡ Ok given → (body : Body) × (r ≡ Ok body) × (reads f body.number body.lines ≡ given)
header_given f (Ok body) given h = (body, refl, cc)
header_given f (Err fault) given h = absurd (cc)

pub file-says : (f : Form ItemRead) (V Begins : List ℕ → Type 0) (IsOf : List (List ℕ) → NavItem → Type 0) → Decides f V → Agrees f Begins IsOf → (bytes : List ℕ) (items : List NavItem) (given : List ItemRead)
    → file_reads f bytes ≡ Ok given → items_of given ≡ items → IsFile V Begins IsOf (lines_of bytes) items
file-says f V Begins IsOf decides law bytes items given h are =
    let head = header_given f (header_of f 0 (lines_of bytes)) given h in
    let body = head.0 in
    let parts = parts-says law body.number body.lines in
    record {
      body = body;
      header = header-says f V decides (lines_of bytes) body head.1;
      before = up_to_next f body.lines;
      records = parts.records;
      lines_are = parts.lines_are;
      none = parts.none;
      begun = parts.begun;
      of = subst (AreOf IsOf parts.records) (ap items_of head.2 ∙ are) parts.of;
    }

pub file-reads : (f : Form ItemRead) (V Begins : List ℕ → Type 0) (IsOf : List (List ℕ) → NavItem → Type 0) → Decides f V → Agrees f Begins IsOf → (bytes : List ℕ) (items : List NavItem)
    → IsFile V Begins IsOf (lines_of bytes) items → (given : List ItemRead) × (file_reads f bytes ≡ Ok given) × (items_of given ≡ items)
file-reads f V Begins IsOf decides law bytes items h =
    let body = h.body in (
      reads f body.number body.lines,
      ap (reads_behind f) (header-reads f V decides (lines_of bytes) body h.header),
      ap (λ (ls : List (List ℕ)). items_of (reads f body.number ls)) h.lines_are
          ∙ before-read law h.before (joined h.records) body.number h.none
          ∙ records-read law h.records (body.number + length h.before) items h.begun h.of,
    )

pub agrees4 : Seen → Agrees rinex4 (λ line. columns 0 1 line ≡ codes ">") IsTitled
agrees4 laws = record {
  judge = judged;
  is = λ n lines. refl;
  begun = λ l h. mark_is l h;
  marked = λ l h. mark_begins l h;
  says = λ l ls item first h. judged-says laws l ls item first h;
  gives = λ l ls item h. judged-reads laws l ls item h;
}

blank_is : (l : List ℕ) → (get_or l 0 32 == 32) ≡ true → columns 0 1 l ≡ codes " "
unfolding columns
blank_is l h = ap (λ (c : ℕ). c ∷ []) (eqb-true (get_or l 0 32) 32 h)

blank_test : (l : List ℕ) → columns 0 1 l ≡ codes " " → (get_or l 0 32 == 32) ≡ true
unfolding columns
blank_test l h = eq-eqb (get_or l 0 32) 32 (ap (λ (c : List ℕ). get_or c 0 0) h)

shown_first : (l : List ℕ) → not (get_or l 0 32 == 32) ≡ true → columns 0 1 l ≡ codes " " → ⊥
shown_first l h e = let yes : not (get_or l 0 32 == 32) ≡ false = ap not (blank_test l e) in cc

first_shown : (l : List ℕ) → (columns 0 1 l ≡ codes " " → ⊥) → not (get_or l 0 32 == 32) ≡ true
first_shown l never = go (get_or l 0 32 == 32) refl
  where
    go : (b : Bool) → (get_or l 0 32 == 32) ≡ b → not b ≡ true
    go true e = absurd (never (blank_is l e))
    go false e = refl

pub agrees3 : Seen → Agrees rinex3 (λ line. columns 0 1 line ≡ codes " " → ⊥) IsRecord3
agrees3 laws = record {
  judge = judged3;
  is = λ n lines. refl;
  begun = λ l h. shown_first l h;
  marked = λ l h. first_shown l h;
  says = λ l ls item first h. judged3-says laws (l ∷ ls) item h;
  gives = λ l ls item h. judged3-reads laws (l ∷ ls) item h;
}
