use Rattle.std.proofs.Common.{ℕ, List, Option, ◌≤◌, length, map, sym, ap, subst, arith}
use Rattle.std.proofs.lemmas.List.{length-map}
use Rattle.std.specs.Prelude.{Contains}
use Rattle.nav_eph.specs.declared.sat.System.TheVariants.{Gal}
use Rattle.inav.specs.declared.half.HalfKind.{HalfKind}
use Rattle.inav.specs.Pages.{kind_of}
use Rattle.inav.specs.Received.{AreWordsWith, word_by}
use Rattle.inav.specs.Keeping.{stamped}
use Rattle.inav.specs.Mirrors.{half_of, place_of, AreWordsIn, HasPartnerStamp}
use Rattle.inav.specs.Kept.{keys_in}
use Rattle.inav.proofs.Partners.{no_words_at_ends, no_words_of_none, words_of_second}
use Rattle.inav.proofs.Placing.{are_keys}
use Rattle.inav.proofs.joining.join_with_kept.Goals as goal

pub words-requires-clause-keys : goal.words-requires-clause-keys
words-requires-clause-keys c = λ key h. are_keys c.args.kept.now c.requires.seconds key ((c.in-Some-find.ensures.there.0 key).0 h).0

pub returns-in_default-clause-words : goal.returns-in_default-clause-words
returns-in_default-clause-words c =
    let half = c.args.half.now in
    let keys = keys_in c.args.kept.now in
    let P : HalfKind → Type 0 = λ k. HasPartnerStamp k c.args.stamp c.partner_stamp.result in
    let Q : Option ℕ → Type 0 = HasPartnerStamp (kind_of half) c.args.stamp in
    let R : List (List ℕ) → Type 0 = AreWordsWith (Contains (map half_of keys)) (stamped c.args.stamp (record { system = Gal; number = c.args.number }) c.args.signal half) in
    subst R (sym c.none.ensures)
    (no_words_at_ends keys c.args.stamp c.args.number c.args.signal half (are_keys c.args.kept.now c.requires.seconds)
    (subst Q c.in_default.is (subst P c.kind-kind.ensures c.partner_stamp.ensures)))

pub returns-in_default-find-clause-words : goal.returns-in_default-find-clause-words
returns-in_default-find-clause-words c =
    let half = c.args.half.now in
    let keys = keys_in c.args.kept.now in
    let P : HalfKind → Type 0 = λ k. HasPartnerStamp k c.args.stamp c.partner_stamp.result in
    let Q : Option ℕ → Type 0 = HasPartnerStamp (kind_of half) c.args.stamp in
    let R : List (List ℕ) → Type 0 = AreWordsWith (Contains (map half_of keys)) (stamped c.args.stamp (record { system = Gal; number = c.args.number }) c.args.signal half) in
    subst R (sym c.none-in_default-find.ensures)
    (no_words_of_none keys c.args.stamp c.args.number c.args.signal half c.in-Some.other c.requires.number
    (subst Q c.in-Some.is (subst P c.kind-kind.ensures c.partner_stamp.ensures)) c.in_default-find.ensures.none)

pub returns-clause-words : goal.returns-clause-words
returns-clause-words c =
    let half = c.args.half.now in
    let keys = keys_in c.args.kept.now in
    let second = c.in-Some-find.second.now in
    let other = c.in-Some.other in
    let P : HalfKind → Type 0 = λ k. HasPartnerStamp k c.args.stamp c.partner_stamp.result in
    let Q : Option ℕ → Type 0 = HasPartnerStamp (kind_of half) c.args.stamp in
    let R : List (List ℕ) → Type 0 = AreWordsWith (Contains (map half_of keys)) (stamped c.args.stamp (record { system = Gal; number = c.args.number }) c.args.signal half) in
    let At : ℕ → Type 0 = λ stamp. AreWordsIn second.keys (place_of stamp c.args.number c.args.signal) half c.in_ok-words.words.items in
    subst R (sym c.new.ensures.words)
    (words_of_second keys second.keys c.args.stamp c.args.number c.args.signal half other c.in_ok-words.words.items
    c.in-Some-find.ensures.there c.requires.number (subst Q c.in-Some.is (subst P c.kind-kind.ensures c.partner_stamp.ensures))
    (subst At c.in-Some-find.ensures.stamp c.in_ok-words.ensures))

pub returns-clause-count : goal.returns-clause-count
returns-clause-count c =
    let half = c.args.half.now in
    let are = c.in_ok-words.ensures in
    let those = c.in-Some-find.ensures.there.1 in
    let words = c.new.ensures.words in
    let shown = ap length are.words_are in
    let mapped = length-map are.partners (λ (key : ℕ × ℕ). word_by (kind_of half) half key.1) in
    let fewer = are.fewer in
    let P : List (List ℕ) → Type 0 = λ ws. length ws ≤ length (keys_in c.args.kept.now) in
    subst P (sym words) (omega (arith, those, shown, mapped, fewer))
