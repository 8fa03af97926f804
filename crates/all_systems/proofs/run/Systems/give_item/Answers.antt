use Rattle.std.proofs.Common.{true, false, refl, ap, subst, ◌∙◌, inl}
use Rattle.std.specs.Prelude.{Ok}
use Rattle.std.proofs.KnownBytes.{Appends-nil}
use Rattle.one_run.proofs.Surface.{no_prefix}
use Rattle.streams.specs.Mirrors.{KeptPlaces, is_given}
use Rattle.streams.proofs.Surface.{Laws, counts_are}
use Rattle.all_systems.specs.Readings.{reading_by}
use Rattle.framing.specs.State.{payload_of}
use Rattle.all_systems.proofs.Taking.{gives_item, gives_report, holds_item, is_new, is_old, part_of_gives, part_of_item, was_item}
use Rattle.all_systems.proofs.run.Systems.give_item.Goals as goal

pub returns-in-Err-clause-unwritten : goal.returns-in-Err-clause-unwritten
returns-in-Err-clause-unwritten g c =
    let laws : Laws c.args.self.now.week = record {
      gives = λ payload. c.item_function.ensures.answer c.args.self.now.week payload c.value-reference.ensures.fits;
      whole = λ payload. c.item_function.ensures.whole c.args.self.now.week payload c.value-reference.ensures.fits;
      fields_gps = c.message_bytes.ensures.fields_1019;
      fields_gal = c.message_bytes.ensures.fields_1046;
      size_gps = c.message_bytes.ensures.size_1019;
      size_gal = c.message_bytes.ensures.size_1046;
      read_gps = c.sent_1019_is_read.ensures;
      read_gal = c.sent_1046_is_read.ensures;
      decides = c.equality_is_decided.ensures.items;
    } in
    part_of_item c.args.self.now.kinds c.args.self.now.to c.args.self.now.week c.args.state.now c.args.frame.now (inl c.args.item.now) (is_given c.args.state.now.given c.args.item.now) _ _ (ap (reading_by c.args.self.now.kinds c.args.self.now.week (payload_of c.args.frame.now)) c.requires.read)
    (was_item c.args.self.now.kinds c.args.self.now.week c.args.state.now c.args.frame.now c.args.item.now laws c.requires.read) (no_prefix _ _)

pub returns-in-Err-clause-report : goal.returns-in-Err-clause-report
returns-in-Err-clause-report g c = λ u. gives_report c.args.self.now.kinds c.args.self.now.week c.args.state.now c.args.frame.now (Ok (inl c.args.item.now)) u u (ap (reading_by c.args.self.now.kinds c.args.self.now.week (payload_of c.args.frame.now)) c.requires.read) (Appends-nil u)

pub returns-in-Err-clause-unreported : goal.returns-in-Err-clause-unreported
returns-in-Err-clause-unreported g c = λ u. part_of_gives c.args.self.now.kinds c.args.self.now.week c.args.state.now c.args.frame.now u u (gives_report c.args.self.now.kinds c.args.self.now.week c.args.state.now c.args.frame.now (Ok (inl c.args.item.now)) u u (ap (reading_by c.args.self.now.kinds c.args.self.now.week (payload_of c.args.frame.now)) c.requires.read) (Appends-nil u))

pub returns-in-Ok-clause-held : goal.returns-in-Ok-clause-held
returns-in-Ok-clause-held g c =
    let laws : Laws c.args.self.now.week = record {
      gives = λ payload. c.item_function.ensures.answer c.args.self.now.week payload c.value-reference.ensures.fits;
      whole = λ payload. c.item_function.ensures.whole c.args.self.now.week payload c.value-reference.ensures.fits;
      fields_gps = c.message_bytes.ensures.fields_1019;
      fields_gal = c.message_bytes.ensures.fields_1046;
      size_gps = c.message_bytes.ensures.size_1019;
      size_gal = c.message_bytes.ensures.size_1046;
      read_gps = c.sent_1019_is_read.ensures;
      read_gal = c.sent_1046_is_read.ensures;
      decides = c.equality_is_decided.ensures.items;
    } in
    holds_item c.args.self.now.kinds c.args.self.now.week c.args.state.now _ c.args.frame.now c.args.item.now false laws c.requires.read (is_new _ _ c.in-Ok-true.ensures.added c.in-Ok-true.field-0-test)
    (counts_are _ _ _ _ _ _ refl refl refl refl c.with_item-state.ensures) c.in-Ok-true.ensures.adds
    (subst (KeptPlaces c.args.state.now.given c.add.new.self) c.payload.ensures.value c.in-Ok-true.ensures.kept) refl

pub returns-in-Ok-clause-output : goal.returns-in-Ok-clause-output
returns-in-Ok-clause-output g c =
    let laws : Laws c.args.self.now.week = record {
      gives = λ payload. c.item_function.ensures.answer c.args.self.now.week payload c.value-reference.ensures.fits;
      whole = λ payload. c.item_function.ensures.whole c.args.self.now.week payload c.value-reference.ensures.fits;
      fields_gps = c.message_bytes.ensures.fields_1019;
      fields_gal = c.message_bytes.ensures.fields_1046;
      size_gps = c.message_bytes.ensures.size_1019;
      size_gal = c.message_bytes.ensures.size_1046;
      read_gps = c.sent_1019_is_read.ensures;
      read_gal = c.sent_1046_is_read.ensures;
      decides = c.equality_is_decided.ensures.items;
    } in
    gives_item c.args.self.now.kinds c.args.self.now.to c.args.self.now.week c.args.state.now c.args.frame.now (inl c.args.item.now) false _ _ (ap (reading_by c.args.self.now.kinds c.args.self.now.week (payload_of c.args.frame.now)) c.requires.read)
    (λ past far. is_new _ _ c.in-Ok-true.ensures.added c.in-Ok-true.field-0-test ∙ was_item c.args.self.now.kinds c.args.self.now.week c.args.state.now c.args.frame.now c.args.item.now laws c.requires.read past far) c.in-Ok.ensures.bytes

pub returns-in-Ok-clause-report : goal.returns-in-Ok-clause-report
returns-in-Ok-clause-report g c = λ u. gives_report c.args.self.now.kinds c.args.self.now.week c.args.state.now c.args.frame.now (Ok (inl c.args.item.now)) u u (ap (reading_by c.args.self.now.kinds c.args.self.now.week (payload_of c.args.frame.now)) c.requires.read) (Appends-nil u)

pub returns-in-Ok-clause-unreported : goal.returns-in-Ok-clause-unreported
returns-in-Ok-clause-unreported g c = λ u. part_of_gives c.args.self.now.kinds c.args.self.now.week c.args.state.now c.args.frame.now u u (gives_report c.args.self.now.kinds c.args.self.now.week c.args.state.now c.args.frame.now (Ok (inl c.args.item.now)) u u (ap (reading_by c.args.self.now.kinds c.args.self.now.week (payload_of c.args.frame.now)) c.requires.read) (Appends-nil u))

pub returns-in-Err-put_item-clause-unwritten : goal.returns-in-Err-put_item-clause-unwritten
returns-in-Err-put_item-clause-unwritten g c =
    let laws : Laws c.args.self.now.week = record {
      gives = λ payload. c.item_function.ensures.answer c.args.self.now.week payload c.value-reference.ensures.fits;
      whole = λ payload. c.item_function.ensures.whole c.args.self.now.week payload c.value-reference.ensures.fits;
      fields_gps = c.message_bytes.ensures.fields_1019;
      fields_gal = c.message_bytes.ensures.fields_1046;
      size_gps = c.message_bytes.ensures.size_1019;
      size_gal = c.message_bytes.ensures.size_1046;
      read_gps = c.sent_1019_is_read.ensures;
      read_gal = c.sent_1046_is_read.ensures;
      decides = c.equality_is_decided.ensures.items;
    } in
    part_of_item c.args.self.now.kinds c.args.self.now.to c.args.self.now.week c.args.state.now c.args.frame.now (inl c.args.item.now) false _ _ (ap (reading_by c.args.self.now.kinds c.args.self.now.week (payload_of c.args.frame.now)) c.requires.read)
    (λ past far. is_new _ _ c.in-Ok-true.ensures.added c.in-Ok-true.field-0-test ∙ was_item c.args.self.now.kinds c.args.self.now.week c.args.state.now c.args.frame.now c.args.item.now laws c.requires.read past far) c.in-Err-put_item.ensures.bytes

pub returns-in-Err-put_item-clause-report : goal.returns-in-Err-put_item-clause-report
returns-in-Err-put_item-clause-report g c = λ u. gives_report c.args.self.now.kinds c.args.self.now.week c.args.state.now c.args.frame.now (Ok (inl c.args.item.now)) u u (ap (reading_by c.args.self.now.kinds c.args.self.now.week (payload_of c.args.frame.now)) c.requires.read) (Appends-nil u)

pub returns-in-Err-put_item-clause-unreported : goal.returns-in-Err-put_item-clause-unreported
returns-in-Err-put_item-clause-unreported g c = λ u. part_of_gives c.args.self.now.kinds c.args.self.now.week c.args.state.now c.args.frame.now u u (gives_report c.args.self.now.kinds c.args.self.now.week c.args.state.now c.args.frame.now (Ok (inl c.args.item.now)) u u (ap (reading_by c.args.self.now.kinds c.args.self.now.week (payload_of c.args.frame.now)) c.requires.read) (Appends-nil u))

pub returns-in-Ok-false-clause-held : goal.returns-in-Ok-false-clause-held
returns-in-Ok-false-clause-held g c =
    let laws : Laws c.args.self.now.week = record {
      gives = λ payload. c.item_function.ensures.answer c.args.self.now.week payload c.value-reference.ensures.fits;
      whole = λ payload. c.item_function.ensures.whole c.args.self.now.week payload c.value-reference.ensures.fits;
      fields_gps = c.message_bytes.ensures.fields_1019;
      fields_gal = c.message_bytes.ensures.fields_1046;
      size_gps = c.message_bytes.ensures.size_1019;
      size_gal = c.message_bytes.ensures.size_1046;
      read_gps = c.sent_1019_is_read.ensures;
      read_gal = c.sent_1046_is_read.ensures;
      decides = c.equality_is_decided.ensures.items;
    } in
    holds_item c.args.self.now.kinds c.args.self.now.week c.args.state.now _ c.args.frame.now c.args.item.now true laws c.requires.read (is_old _ _ c.in-Ok-false.ensures.added c.in-Ok-false.field-0-test)
    refl c.in-Ok-false.ensures.adds (subst (KeptPlaces c.args.state.now.given c.add.new.self) c.payload.ensures.value c.in-Ok-false.ensures.kept) refl

pub returns-in-Ok-false-clause-output : goal.returns-in-Ok-false-clause-output
returns-in-Ok-false-clause-output g c =
    let laws : Laws c.args.self.now.week = record {
      gives = λ payload. c.item_function.ensures.answer c.args.self.now.week payload c.value-reference.ensures.fits;
      whole = λ payload. c.item_function.ensures.whole c.args.self.now.week payload c.value-reference.ensures.fits;
      fields_gps = c.message_bytes.ensures.fields_1019;
      fields_gal = c.message_bytes.ensures.fields_1046;
      size_gps = c.message_bytes.ensures.size_1019;
      size_gal = c.message_bytes.ensures.size_1046;
      read_gps = c.sent_1019_is_read.ensures;
      read_gal = c.sent_1046_is_read.ensures;
      decides = c.equality_is_decided.ensures.items;
    } in
    gives_item c.args.self.now.kinds c.args.self.now.to c.args.self.now.week c.args.state.now c.args.frame.now (inl c.args.item.now) true _ _ (ap (reading_by c.args.self.now.kinds c.args.self.now.week (payload_of c.args.frame.now)) c.requires.read)
    (λ past far. is_old _ _ c.in-Ok-false.ensures.added c.in-Ok-false.field-0-test ∙ was_item c.args.self.now.kinds c.args.self.now.week c.args.state.now c.args.frame.now c.args.item.now laws c.requires.read past far) (Appends-nil _)

pub returns-in-Ok-false-clause-report : goal.returns-in-Ok-false-clause-report
returns-in-Ok-false-clause-report g c = λ u. gives_report c.args.self.now.kinds c.args.self.now.week c.args.state.now c.args.frame.now (Ok (inl c.args.item.now)) u u (ap (reading_by c.args.self.now.kinds c.args.self.now.week (payload_of c.args.frame.now)) c.requires.read) (Appends-nil u)

pub returns-in-Ok-false-clause-unreported : goal.returns-in-Ok-false-clause-unreported
returns-in-Ok-false-clause-unreported g c = λ u. part_of_gives c.args.self.now.kinds c.args.self.now.week c.args.state.now c.args.frame.now u u (gives_report c.args.self.now.kinds c.args.self.now.week c.args.state.now c.args.frame.now (Ok (inl c.args.item.now)) u u (ap (reading_by c.args.self.now.kinds c.args.self.now.week (payload_of c.args.frame.now)) c.requires.read) (Appends-nil u))
