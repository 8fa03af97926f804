use Rattle.std.proofs.Common.{◌≡◌, sym, ◌∙◌, ap}
use Rattle.nav_rows.specs.Reading.{are_in_columns}
use Rattle.nav_rows.proofs.ReadLemmas.{are_columns, columns_are}
use Rattle.nav_rows.proofs.read.has_fields.Goals as goal

pub returns : goal.returns
returns c =
    let cs = c.args.kind.now.layout.columns.now in
    let zs = c.args.row.now.columns.items in
    let same : c.are_in_columns.result ≡ are_in_columns cs zs
    = c.are_in_columns.ensures ∙ ap (are_in_columns cs) c.as_slice.ensures.value in
    (λ e. columns_are cs zs (sym same ∙ e), λ h. same ∙ are_columns cs zs h)
