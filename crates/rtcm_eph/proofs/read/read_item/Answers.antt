use Rattle.std.proofs.Common.{◌≡◌, IfOk, Ok, Err, refl, sym, subst, ◌∙◌}
use Rattle.nav_eph.specs.Ranges.{IsItem}
use Rattle.rtcm_eph.specs.Reading.{GivesItem, content_of, item_in}
use Rattle.rtcm_eph.proofs.Items.{item_only, item_whole}
use Rattle.rtcm_eph.proofs.read.read_item.Goals as goal

pub returns-in-Ok-clause-answer : goal.returns-in-Ok-clause-answer
returns-in-Ok-clause-answer c =
    let e : content_of c.args.payload.now ≡ Ok c.in-Ok.content = sym c.read_content.ensures.content ∙ c.in-Ok.is in
    item_only c.args.r c.args.payload.now (Ok c.item_of.result)
    (subst (λ x. GivesItem c.args.r x (Ok c.item_of.result)) (sym e) c.item_of.ensures)

pub returns-in-Ok-clause-whole : goal.returns-in-Ok-clause-whole
returns-in-Ok-clause-whole c =
    let e : content_of c.args.payload.now ≡ Ok c.in-Ok.content = sym c.read_content.ensures.content ∙ c.in-Ok.is in
    let is : Ok c.item_of.result ≡ item_in c.args.r c.args.payload.now =
    item_only c.args.r c.args.payload.now (Ok c.item_of.result)
    (subst (λ x. GivesItem c.args.r x (Ok c.item_of.result)) (sym e) c.item_of.ensures) in
    subst (λ x. IfOk x IsItem) (sym is) (item_whole c.args.r c.args.payload.now c.value-reference.ensures.fits)

pub returns-in-Err-clause-answer : goal.returns-in-Err-clause-answer
returns-in-Err-clause-answer c =
    let e : content_of c.args.payload.now ≡ Err c.in-Err.fault = sym c.read_content.ensures.content ∙ c.in-Err.is in
    item_only c.args.r c.args.payload.now (Err c.in-Err.fault) (subst (λ x. GivesItem c.args.r x (Err c.in-Err.fault)) (sym e) refl)
