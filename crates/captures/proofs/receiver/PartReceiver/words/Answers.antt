use Rattle.std.proofs.Common.{◌≡◌, ℕ, ◌+◌, ◌<◌, ◌≤◌, List, [], ◌++◌, take, drop, length, refl, sym, ap, subst, ◌∙◌, arith}
use Rattle.inav.specs.Reading.{reading_of}
use Rattle.capture_log.specs.Events.{of_word}
use Rattle.capture_log.specs.Log.{Noted, noted}
use Rattle.captures.specs.Hearings.{Receives}
use Rattle.captures.specs.Notes.{of_received}
use Rattle.captures.proofs.PartReceivers.{hears_more, hears_none, open_after, total_heard, unheard_within, weights_some}
use Rattle.captures.proofs.WordsReceived.{heard_one, heard_split}
use Rattle.captures.proofs.receiver.PartReceiver.words.Goals as goal

pub taking-init : goal.taking-init
taking-init g c = record { heard = hears_none c.args.self.now (g.U.Sink.written c.args.report.now); faults = refl; stamp = c.stamp-stamp.ensures }

pub word-requires-in-taking-clause-open : goal.word-requires-in-taking-clause-open
word-requires-in-taking-clause-open g c =
    let within : c.taking.i < length c.args.joined.now.words = omega (arith, c.taking-test.true, c.len-i-end.ensures) in
    let some : c.args.joined.now.words ≡ [] → ⊥ = λ none. omega (arith, within, ap length none) in
    let s = open_after c.args.self.now c.taking.self _ _ _ (λ (m : ℕ). m ≤ c.args.joined.now.stamp) c.taking.invariant.heard (c.requires.open some) in
    (s.0, s.1, omega (arith, s.2, c.taking.invariant.stamp))

pub word-requires-in-taking-clause-room : goal.word-requires-in-taking-clause-room
word-requires-in-taking-clause-room g c =
    let words = c.args.joined.now.words in
    let i = c.taking.i in
    let within : c.taking.i < length c.args.joined.now.words = omega (arith, c.taking-test.true, c.len-i-end.ensures) in
    omega (
      arith,
      c.requires.room,
      within,
      total_heard c.args.self.now c.taking.self _ _ c.args.number (of_received c.args.sat c.args.joined.now.stamp (take i words)) c.taking.invariant.heard,
      weights_some c.args.sat c.args.joined.now.stamp i words,
    )

pub taking-preserved : goal.taking-preserved
taking-preserved g c =
    let number = c.args.number in
    let sat = c.args.sat in
    let stamp = c.args.joined.now.stamp in
    let words = c.args.joined.now.words in
    let i = c.taking.i in
    let word = c.word.result.now in
    let invariant = c.taking.invariant in
    let before = noted number (of_received sat stamp (take i words)) in
    let log =
    heard_one number sat stamp words i word c.word.ensures ∙ ap (λ (s : ℕ). before ++ noted number (of_word (reading_of word sat s))) (sym invariant.stamp) in
    record {
      heard =
          subst (λ (l : List Noted). Receives c.args.self.now c.word-in-taking.new.self (g.U.Sink.written c.args.report.now) (g.U.Sink.written c.word-in-taking.new.report) l)
          (sym log) (hears_more _ _ _ _ _ _ _ _ invariant.heard c.in-Ok.ensures.0);
      faults = c.in-Ok.ensures.1 ∙ invariant.faults;
      stamp = invariant.stamp;
    }

pub returns-in-Err : goal.returns-in-Err
returns-in-Err g c =
    let number = c.args.number in
    let sat = c.args.sat in
    let stamp = c.args.joined.now.stamp in
    let words = c.args.joined.now.words in
    let i = c.taking.i in
    let word = c.word.result.now in
    let before = noted number (of_received sat stamp (take i words)) in
    let after = noted number (of_received sat stamp (drop (i + 1) words)) in
    let log =
    heard_split number sat stamp words i word c.word.ensures
    ∙ ap (λ (s : ℕ). (before ++ noted number (of_word (reading_of word sat s))) ++ after) (sym c.taking.invariant.stamp) in
    unheard_within c.args.self.now c.taking.self _ _ _ _ _ _ before (noted number (of_word (reading_of word sat c.stamp-stamp.result))) after
    (noted number (of_received sat stamp words)) c.in-Err.fault log c.taking.invariant.heard c.taking.invariant.faults c.in-Err.ensures
