-- What is written and reported when the ephemerides of records are transmitted, with one record more.
use Rattle.std.proofs.Common.{◌≡◌, ℕ, ◌+◌, ◌<◌, ◌^◌, List, [], ◌∷◌, ◌++◌, length, sym, ap, subst, ◌∙◌, arith}
use Rattle.std.specs.Prelude.{Option}
use Rattle.std.specs.List.{flat_map}
use Rattle.std.specs.Io.KnownBytes.{Appends}
use Rattle.std.proofs.lemmas.Grind.{flat_map-append}
use Rattle.nav_io.specs.Prefix.{AppendsPrefix, IsPrefix}
use Rattle.rinex_read.specs.declared.judged.ItemRead.{ItemRead}
use Rattle.one_run.specs.Runs.{AppendsBetween}
use Rattle.one_run.proofs.Surface.{prefix_after}
use Rattle.nav_files.specs.declared.counts.RinexCounts.{RinexCounts}
use Rattle.nav_files.proofs.Surface.{grew_between, grew_more}
use Rattle.sent_captures.specs.Sendable.{sent_head, sent_text}
use Rattle.nav_files.specs.declared.outcome.SendOutcome.{SendOutcome}
use Rattle.nav_files.specs.Following.{counted}
use Rattle.nav_files.specs.Sends.{counts_of_outcomes, sends_text, slot_behind, slots_behind, told, outcome_text, send_outcomes}
use Rattle.nav_files.proofs.Tolds.{counts_more, slots_more, texts_are, tolds_append, tolds_length, tolds_more}

-- the text that is sent of what was read
pub sent_is : (r : ℕ) (reads : List ItemRead) → sent_head ++ flat_map outcome_text (send_outcomes r 0 reads) ≡ sends_text r reads
unfolding sent_text
sent_is r reads = ap (λ t. sent_head ++ t) (texts_are r 0 reads)

-- a text of each record, and of more
pub text_prefix : (r : ℕ) (text : SendOutcome → List ℕ) (some more : List ItemRead) → IsPrefix (flat_map text (send_outcomes r 0 some)) (flat_map text (send_outcomes r 0 (some ++ more)))
text_prefix r text some more =
    (flat_map text (send_outcomes r (slots_behind r 0 some) more), ap (flat_map text) (tolds_append r 0 some more) ∙ flat_map-append text (send_outcomes r 0 some) (send_outcomes r (slots_behind r 0 some) more))

pub sent_prefix : (r : ℕ) (some more : List ItemRead) → IsPrefix (sent_head ++ flat_map outcome_text (send_outcomes r 0 some)) (sends_text r (some ++ more))
sent_prefix r some more =
    subst (IsPrefix (sent_head ++ flat_map outcome_text (send_outcomes r 0 some))) (sent_is r (some ++ more)) (prefix_after sent_head _ _ (text_prefix r outcome_text some more))

-- what becomes of records and of one more
tolds_with : (r slot : ℕ) (given : List ItemRead) (read : ItemRead) (x : SendOutcome) → slot ≡ slots_behind r 0 given → x ≡ told r slot read
    → send_outcomes r 0 given ++ x ∷ [] ≡ send_outcomes r 0 (given ++ read ∷ [])
tolds_with r slot given read x is told_is =
    sym (tolds_more r 0 given read ∙ ap (λ t. send_outcomes r 0 given ++ t ∷ []) (sym (told_is ∙ ap (λ s. told r s read) is)))

pub slot_with : (r slot : ℕ) (given : List ItemRead) (read : ItemRead) (x : SendOutcome) → slot ≡ slots_behind r 0 given → x ≡ told r slot read
    → slot_behind slot x ≡ slots_behind r 0 (given ++ read ∷ [])
slot_with r slot given read x is told_is =
    ap (slot_behind slot) told_is ∙ ap (λ s. slot_behind s (told r s read)) is ∙ sym (slots_more r 0 given read)

pub reported_more : (prefix : List ℕ) (text : SendOutcome → List ℕ) (r slot : ℕ) (given : List ItemRead) (read : ItemRead) (x : SendOutcome) (start w w1 : Option (List ℕ)) → slot ≡ slots_behind r 0 given → x ≡ told r slot read
    → Appends start w (prefix ++ flat_map text (send_outcomes r 0 given)) → Appends w w1 (text x) → Appends start w1 (prefix ++ flat_map text (send_outcomes r 0 (given ++ read ∷ [])))
reported_more prefix text r slot given read x start w w1 is told_is so_far more =
    subst (λ ts. Appends start w1 (prefix ++ flat_map text ts)) (tolds_with r slot given read x is told_is) (grew_more prefix text (send_outcomes r 0 given) x start w w1 so_far more)

pub told_between : (prefix : List ℕ) (text : SendOutcome → List ℕ) (r slot : ℕ) (given : List ItemRead) (read : ItemRead) (x : SendOutcome) (start w w1 : Option (List ℕ)) → slot ≡ slots_behind r 0 given → x ≡ told r slot read
    → Appends start w (prefix ++ flat_map text (send_outcomes r 0 given)) → AppendsPrefix w w1 (text x)
    → AppendsBetween start w1 (prefix ++ flat_map text (send_outcomes r 0 given)) (prefix ++ flat_map text (send_outcomes r 0 (given ++ read ∷ [])))
told_between prefix text r slot given read x start w w1 is told_is so_far more =
    subst (λ ts. AppendsBetween start w1 (prefix ++ flat_map text (send_outcomes r 0 given)) (prefix ++ flat_map text ts)) (tolds_with r slot given read x is told_is) (grew_between prefix text (send_outcomes r 0 given) x start w w1 so_far more)

pub counts_with : (r slot : ℕ) (given : List ItemRead) (read : ItemRead) (x : SendOutcome) (c : RinexCounts) → slot ≡ slots_behind r 0 given → x ≡ told r slot read → c ≡ counts_of_outcomes (send_outcomes r 0 given)
    → counted c x ≡ counts_of_outcomes (send_outcomes r 0 (given ++ read ∷ []))
counts_with r slot given read x c is told_is counts_are =
    ap (λ (k : RinexCounts). counted k x) counts_are ∙ counts_more (send_outcomes r 0 given) x ∙ ap counts_of_outcomes (tolds_with r slot given read x is told_is)

pub counts_room : (r : ℕ) (given : List ItemRead) (c : RinexCounts) → c ≡ counts_of_outcomes (send_outcomes r 0 given) → length given + 1 < 2 ^ 64 → c.records + 1 < 2 ^ 64
counts_room r given c is few = omega (arith, few, ap (λ (k : RinexCounts). k.records) is, tolds_length r 0 given)
