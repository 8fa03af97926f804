use Rattle.std.proofs.Common.{true, refl, sym, ap, ◌∙◌, inl}
use Rattle.std.specs.Prelude.{Ok}
use Rattle.std.proofs.KnownBytes.{Appends-nil}
use Rattle.streams.proofs.Surface.{Laws, adds_nothing, is_known}
use Rattle.all_systems.specs.Readings.{reading_by}
use Rattle.framing.specs.State.{payload_of}
use Rattle.all_systems.proofs.Taking.{gives_item, gives_report, holds_item, was_item}
use Rattle.all_systems.proofs.run.Systems.again.Goals as goal

pub returns-clause-held : goal.returns-clause-held
returns-clause-held c =
    let laws : Laws c.args.self.now.week = record {
      gives = λ payload. c.item_function.ensures.answer c.args.self.now.week payload c.value-reference.ensures.fits;
      whole = λ payload. c.item_function.ensures.whole c.args.self.now.week payload c.value-reference.ensures.fits;
      fields_gps = c.message_bytes.ensures.fields_1019;
      fields_gal = c.message_bytes.ensures.fields_1046;
      size_gps = c.message_bytes.ensures.size_1019;
      size_gal = c.message_bytes.ensures.size_1046;
      read_gps = c.sent_1019_is_read.ensures;
      read_gal = c.sent_1046_is_read.ensures;
      decides = c.equality_is_decided.ensures.items;
    } in
    λ past far.
    let known = is_known c.args.self.now.week c.args.state.now.given (payload_of c.args.frame.now) c.requires.stands far.known in
    holds_item c.args.self.now.kinds c.args.self.now.week c.args.state.now _ c.args.frame.now known.item true laws known.is (sym known.given) refl (adds_nothing c.args.state.now.given known.item known.given) (inl refl, inl refl) refl past far

pub returns-clause-output : goal.returns-clause-output
returns-clause-output c =
    let laws : Laws c.args.self.now.week = record {
      gives = λ payload. c.item_function.ensures.answer c.args.self.now.week payload c.value-reference.ensures.fits;
      whole = λ payload. c.item_function.ensures.whole c.args.self.now.week payload c.value-reference.ensures.fits;
      fields_gps = c.message_bytes.ensures.fields_1019;
      fields_gal = c.message_bytes.ensures.fields_1046;
      size_gps = c.message_bytes.ensures.size_1019;
      size_gal = c.message_bytes.ensures.size_1046;
      read_gps = c.sent_1019_is_read.ensures;
      read_gal = c.sent_1046_is_read.ensures;
      decides = c.equality_is_decided.ensures.items;
    } in
    λ w past start far grew.
    let known = is_known c.args.self.now.week c.args.state.now.given (payload_of c.args.frame.now) c.requires.stands far.known in
    gives_item c.args.self.now.kinds c.args.self.now.to c.args.self.now.week c.args.state.now c.args.frame.now (inl known.item) true w w (ap (reading_by c.args.self.now.kinds c.args.self.now.week (payload_of c.args.frame.now)) known.is) (λ past far. sym known.given ∙ was_item c.args.self.now.kinds c.args.self.now.week c.args.state.now c.args.frame.now known.item laws known.is past far) (Appends-nil w) past start far grew

pub returns-clause-report : goal.returns-clause-report
returns-clause-report c = λ u past start far told.
    let known = is_known c.args.self.now.week c.args.state.now.given (payload_of c.args.frame.now) c.requires.stands far.known in
    gives_report c.args.self.now.kinds c.args.self.now.week c.args.state.now c.args.frame.now (Ok (inl known.item)) u u (ap (reading_by c.args.self.now.kinds c.args.self.now.week (payload_of c.args.frame.now)) known.is) (Appends-nil u) past start far told
