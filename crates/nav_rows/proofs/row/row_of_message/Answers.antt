use Rattle.std.proofs.Common.{length, sym, ap, subst, ◌∙◌, ◌≡◌, true, false}
use Rattle.nav_tables.specs.Links.{AreFit, are_links, columns_of}
use Rattle.rinex_write.specs.Columns.{AreFields}
use Rattle.nav_rows.specs.Times.{HasTimes, IsSatellite}
use Rattle.nav_rows.specs.Rows.{SisaInside, has_spare_sisa}
use Rattle.nav_rows.proofs.RowLemmas.{good}
use Rattle.nav_rows.proofs.row.row_of_message.Goals as goal

pub has_spare_sisa-requires : goal.has_spare_sisa-requires
has_spare_sisa-requires c =
    let k = c.args.kind.now in
    subst (SisaInside k.sisa) (sym c.as_slice.ensures.value)
    (good k c.in-Ok.numbers.items c.requires c.in-Ok.ensures.range).sisa

pub times_stated-requires : goal.times_stated-requires
times_stated-requires c =
    let k = c.args.kind.now in
    subst (HasTimes k.clock) (sym c.as_slice-2.ensures.value)
    (good k c.in-Ok.numbers.items c.requires c.in-Ok.ensures.range).times

pub satellite_of-requires : goal.satellite_of-requires
satellite_of-requires c =
    subst IsSatellite (sym c.as_slice-3.ensures.value)
    (good c.args.kind.now c.in-Ok.numbers.items c.requires c.in-Ok.ensures.range).satellite

pub columns_of-requires-clause-links : goal.columns_of-requires-clause-links
columns_of-requires-clause-links c =
    let k = c.args.kind.now in
    subst (λ zs. are_links (length zs) k.parts.now k.links.now ≡ true)
    (sym c.as_slice-4.ensures.value)
    (good k c.in-Ok.numbers.items c.requires c.in-Ok.ensures.range).links

pub columns_of-requires-clause-fit : goal.columns_of-requires-clause-fit
columns_of-requires-clause-fit c =
    let k = c.args.kind.now in
    subst (AreFit k.parts.now k.links.now) (sym c.as_slice-4.ensures.value)
    (good k c.in-Ok.numbers.items c.requires c.in-Ok.ensures.range).fit

pub returns-clause-fields : goal.returns-clause-fields
returns-clause-fields c =
    let k = c.args.kind.now in
    let zs = c.in-Ok.numbers.items in
    let columns = c.columns_of.ensures
    ∙ ap (λ ns. columns_of k.parts.now k.links.now ns c.given_of-given.result)
    c.as_slice-4.ensures.value
    ∙ ap (λ given. columns_of k.parts.now k.links.now zs given) c.given_of-given.ensures in
    let sisa : has_spare_sisa k.sisa zs ≡ false
    = ap (has_spare_sisa k.sisa) (sym c.as_slice.ensures.value) ∙ sym c.has_spare_sisa.ensures
    ∙ c.if-has_spare_sisa.false in
    subst (AreFields k.layout.columns.now) (sym columns)
    ((good k zs c.requires c.in-Ok.ensures.range).fields c.in-Some.times
    c.in-Some.ensures.range sisa)
