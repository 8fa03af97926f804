use Rattle.std.proofs.Common.{refl, sym, ap, subst, ◌∙◌}
use Rattle.rtcm_eph.specs.Reading.{item_in}
use Rattle.framing.specs.State.{payload_of}
use Rattle.streams.specs.Mirrors.{KeptPlaces, StandsIn}
use Rattle.streams.proofs.AlikeLemmas.{Laws, looked_for, read_own}
use Rattle.streams.proofs.StreamLemmas.{broke_fault, broke_item, on_err1, on_ok2, on_ok4, so_far_again, so_far_fault, so_far_item}
use Rattle.streams.proofs.frames.convert_frame.Goals as goal

pub returns-in-Ok-clause-goes : goal.returns-in-Ok-clause-goes
returns-in-Ok-clause-goes g c =
    let reference = c.value-reference.ensures.fits in
    let laws : Laws c.args.r = record {
      gives = λ payload. c.item_function.ensures.answer c.args.r payload reference;
      whole = λ payload. c.item_function.ensures.whole c.args.r payload reference;
      fields_gps = c.message_bytes.ensures.fields_1019;
      fields_gal = c.message_bytes.ensures.fields_1046;
      size_gps = c.message_bytes.ensures.size_1019;
      size_gal = c.message_bytes.ensures.size_1046;
      read_gps = c.sent_1019_is_read.ensures;
      read_gal = c.sent_1046_is_read.ensures;
      decides = c.equality_is_decided.ensures.items;
    } in
    let is = ap (item_in c.args.r) (sym c.payload-payload.ensures.value) ∙ sym c.read_item.ensures.answer ∙ c.in-Ok.is in
    let own = read_own c.args.r (payload_of c.args.frame.now) c.in-Ok.item laws is in
    on_ok4 c.give_item.result c.give_item.ensures.output c.give_item.ensures.counts c.give_item.ensures.given c.give_item.ensures.kept
    (λ output counts adds kept past start begun far.
    so_far_item c.args.r _ _ past c.args.frame.now c.in-Ok.item _ _ _ _ _ _ _ _ _ _ is refl (looked_for c.args.r past (payload_of c.args.frame.now) c.in-Ok.item laws is) far output counts adds own (subst (KeptPlaces c.args.given.now c.give_item.new.given) c.payload-payload.ensures.value kept))

pub returns-in-Ok-clause-breaks : goal.returns-in-Ok-clause-breaks
returns-in-Ok-clause-breaks g c =
    let reference = c.value-reference.ensures.fits in
    let laws : Laws c.args.r = record {
      gives = λ payload. c.item_function.ensures.answer c.args.r payload reference;
      whole = λ payload. c.item_function.ensures.whole c.args.r payload reference;
      fields_gps = c.message_bytes.ensures.fields_1019;
      fields_gal = c.message_bytes.ensures.fields_1046;
      size_gps = c.message_bytes.ensures.size_1019;
      size_gal = c.message_bytes.ensures.size_1046;
      read_gps = c.sent_1019_is_read.ensures;
      read_gal = c.sent_1046_is_read.ensures;
      decides = c.equality_is_decided.ensures.items;
    } in
    let is = ap (item_in c.args.r) (sym c.payload-payload.ensures.value) ∙ sym c.read_item.ensures.answer ∙ c.in-Ok.is in
    on_err1 c.give_item.result c.give_item.ensures.part
    (λ output past start begun far.
    broke_item c.args.r _ _ past c.args.frame.now c.in-Ok.item _ _ _ _ _ _ _ _ is refl (looked_for c.args.r past (payload_of c.args.frame.now) c.in-Ok.item laws is) far output)

pub returns-in-Err-clause-goes : goal.returns-in-Err-clause-goes
returns-in-Err-clause-goes g c =
    let is = ap (item_in c.args.r) (sym c.payload-payload.ensures.value) ∙ sym c.read_item.ensures.answer ∙ c.in-Err.is in
    on_ok2 c.report_fault.result c.report_fault.ensures.report c.report_fault.ensures.counts
    (λ report counts past start begun far.
    so_far_fault c.args.r _ _ past c.args.frame.now c.in-Err.fault _ _ _ _ _ _ _ _ _ is refl far report counts)

pub returns-in-Err-clause-breaks : goal.returns-in-Err-clause-breaks
returns-in-Err-clause-breaks g c =
    let is = ap (item_in c.args.r) (sym c.payload-payload.ensures.value) ∙ sym c.read_item.ensures.answer ∙ c.in-Err.is in
    on_err1 c.report_fault.result c.report_fault.ensures.part
    (λ report past start begun far.
    broke_fault c.args.r _ _ past c.args.frame.now c.in-Err.fault _ _ _ _ _ _ _ _ is refl far report)

pub returns-then-knows-clause-goes : goal.returns-then-knows-clause-goes
returns-then-knows-clause-goes g c =
    let reference = c.value-reference.ensures.fits in
    let laws : Laws c.args.r = record {
      gives = λ payload. c.item_function.ensures.answer c.args.r payload reference;
      whole = λ payload. c.item_function.ensures.whole c.args.r payload reference;
      fields_gps = c.message_bytes.ensures.fields_1019;
      fields_gal = c.message_bytes.ensures.fields_1046;
      size_gps = c.message_bytes.ensures.size_1019;
      size_gal = c.message_bytes.ensures.size_1046;
      read_gps = c.sent_1019_is_read.ensures;
      read_gal = c.sent_1046_is_read.ensures;
      decides = c.equality_is_decided.ensures.items;
    } in
    λ past start begun far.
    so_far_again c.args.r _ _ past c.args.frame.now _ _ _ _ _ _ _ laws (subst (StandsIn c.args.given.now) c.payload-payload.ensures.value (c.knows.ensures c.if-knows.true)) far (λ item. refl)
