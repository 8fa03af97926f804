-- What words yield, one after another.
use Rattle.std.proofs.Common.{◌≡◌, ℕ, ◌+◌, List, [], ◌∷◌, ◌++◌, take, drop, Some, refl, sym, ap, ◌∙◌, add-one, append-nil}
use Rattle.std.specs.List.{slice_get}
use Rattle.std.proofs.Math.Seq.{take-suc}
use Rattle.std.proofs.lemmas.Grind.{flat_map-append}
use Rattle.std.proofs.lemmas.List.{take-append-drop}
use Rattle.std.proofs.lemmas.Option.{slice_get_within, get_or_from_slice_get}
use Rattle.nav_eph.specs.Satellite.{Satellite}
use Rattle.inav.specs.Reading.{reading_of}
use Rattle.capture_log.specs.Events.{of_word}
use Rattle.capture_log.specs.Log.{Noted, noted}
use Rattle.capture_log.specs.declared.event.Event.{Event}
use Rattle.captures.specs.Notes.{of_received}
use Rattle.captures.proofs.Weighing.{noted-append}

take_word_more : (words : List (List ℕ)) (i : ℕ) (word : List ℕ) → slice_get words i ≡ Some word → take (i + 1) words ≡ take i words ++ word ∷ []
take_word_more words i word is =
    ap (λ (n : ℕ). take n words) (add-one i) ∙ take-suc words i word (slice_get_within words i word is)
    ∙ ap (λ (w : List ℕ). take i words ++ w ∷ []) (get_or_from_slice_get words i word word is)

pub of_received-append : (sat : Satellite) (stamp : ℕ) (some more : List (List ℕ)) → of_received sat stamp (some ++ more) ≡ of_received sat stamp some ++ of_received sat stamp more
of_received-append sat stamp some more = flat_map-append (λ (word : List ℕ). of_word (reading_of word sat stamp)) some more

of_received-one : (sat : Satellite) (stamp : ℕ) (word : List ℕ) → of_received sat stamp (word ∷ []) ≡ of_word (reading_of word sat stamp)
of_received-one sat stamp word = append-nil (of_word (reading_of word sat stamp))

-- one word more
pub heard_one : (number : ℕ) (sat : Satellite) (stamp : ℕ) (words : List (List ℕ)) (i : ℕ) (word : List ℕ) → slice_get words i ≡ Some word
    → noted number (of_received sat stamp (take (i + 1) words)) ≡ noted number (of_received sat stamp (take i words)) ++ noted number (of_word (reading_of word sat stamp))
heard_one number sat stamp words i word is =
    ap (noted number)
    (ap (of_received sat stamp) (take_word_more words i word is) ∙ of_received-append sat stamp (take i words) (word ∷ [])
    ∙ ap (λ (es : List Event). of_received sat stamp (take i words) ++ es) (of_received-one sat stamp word))
    ∙ noted-append number (of_received sat stamp (take i words)) (of_word (reading_of word sat stamp))

-- a list of words is those before one, that one, and those after it
pub heard_split : (number : ℕ) (sat : Satellite) (stamp : ℕ) (words : List (List ℕ)) (i : ℕ) (word : List ℕ) → slice_get words i ≡ Some word
    → noted number (of_received sat stamp words)
    ≡ (noted number (of_received sat stamp (take i words)) ++ noted number (of_word (reading_of word sat stamp))) ++ noted number (of_received sat stamp (drop (i + 1) words))
heard_split number sat stamp words i word is =
    ap (λ (ws : List (List ℕ)). noted number (of_received sat stamp ws)) (sym (take-append-drop (i + 1) words))
    ∙ ap (noted number) (of_received-append sat stamp (take (i + 1) words) (drop (i + 1) words))
    ∙ noted-append number (of_received sat stamp (take (i + 1) words)) (of_received sat stamp (drop (i + 1) words))
    ∙ ap (λ (l : List Noted). l ++ noted number (of_received sat stamp (drop (i + 1) words))) (heard_one number sat stamp words i word is)

-- where there are words, their second counts
pub received_at : (sat : Satellite) (s t : ℕ) (words : List (List ℕ)) → ((words ≡ [] → ⊥) → s ≡ t) → of_received sat s words ≡ of_received sat t words
received_at sat s t [] e = refl
received_at sat s t (w ∷ ws) e = ap (λ (n : ℕ). of_received sat n (w ∷ ws)) (e (λ k. cc))
