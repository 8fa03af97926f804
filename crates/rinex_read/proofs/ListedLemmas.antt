-- The items that are read of a file are consistent.
use Rattle.std.proofs.Common.{◌≡◌, ℕ, ◌+◌, Bool, true, false, if◌then◌else◌, List, [], ◌∷◌, Result, Ok, Err, refl}
use Rattle.rinex_read.specs.declared.judged.HeaderFault.{HeaderFault}
use Rattle.rinex_read.specs.declared.judged.Judged.{Judged}
use Rattle.rinex_read.specs.declared.judged.Judged.TheVariants as judgments
use Rattle.rinex_read.specs.declared.judged.ItemRead.{ItemRead}
use Rattle.rinex_read.specs.declared.judged.ItemRead.TheVariants.{Item, Refused, PassedOver}
use Rattle.nav_eph.specs.declared.items.NavItem.{NavItem}
use Rattle.nav_eph.specs.Ranges.{IsItem}
use Rattle.rinex_read.specs.Lines.{lines_of}
use Rattle.rinex_read.specs.Forms.{Form, GivesWhole, begins, read_at}
use Rattle.rinex_read.specs.Files.{Body, header_of, up_to_next, reads, items_of, items_read, reads_behind, list_by}
use Rattle.rinex_read.specs.RoundTrip.{AreItems, IsWholeRead}

-- a judgment whose item is consistent
pub whole_at : (n : ℕ) (j : Judged) → ((item : NavItem) → j ≡ judgments.Item item → IsItem item) → IsWholeRead (read_at n j)
whole_at n (judgments.Item item) law = law item refl
whole_at n (judgments.Refused reason) law = tt
whole_at n judgments.PassedOver law = tt

items_more : (read : ItemRead) (rs : List ItemRead) → IsWholeRead read → AreItems (items_of rs) → AreItems (items_of (read ∷ rs))
items_more (Item line item) rs whole h = (whole, h)
items_more (Refused line reason) rs whole h = h
items_more (PassedOver line) rs whole h = h

reads_whole : (f : Form ItemRead) → GivesWhole f IsWholeRead → (n : ℕ) (ls : List (List ℕ)) → AreItems (items_of (reads f n ls))
reads_whole f law n [] = tt
reads_whole f law n (l ∷ ls) = go (begins f l) (reads_whole f law (n + 1) ls)
  where
    go : (b : Bool) → AreItems (items_of (reads f (n + 1) ls)) → AreItems (items_of (if b then f.judged (n + 1) (l ∷ up_to_next f ls) ∷ reads f (n + 1) ls else reads f (n + 1) ls))
    go true h = items_more (f.judged (n + 1) (l ∷ up_to_next f ls)) (reads f (n + 1) ls) (law (n + 1) (l ∷ up_to_next f ls)) h
    go false h = h

pub list_whole : (f : Form ItemRead) → GivesWhole f IsWholeRead → (bytes : List ℕ) → AreItems (list_by f bytes)
list_whole f law bytes = go (header_of f 0 (lines_of bytes))
  where
    go : (r : Result Body HeaderFault) → AreItems (items_read (reads_behind f r))
    go (Ok body) = reads_whole f law body.number body.lines
    go (Err fault) = tt
