use Rattle.std.proofs.Common.{◌≡◌, ℕ, List, length, map, Result, ℤ, sym, ap, ◌∙◌, subst}
use Rattle.rinex_write.specs.declared.columns.Column.{Column}
use Rattle.rinex_write.specs.Columns.{joined_rows}
use Rattle.rinex_read.specs.declared.reason.RecordFault.{RecordFault}
use Rattle.rinex_read.specs.Fields.{read_rows}
use Rattle.rinex_read.specs.Mirrors.{Gives, IsLayout, flat_rows, kind_by}
use Rattle.rinex_read.proofs.RowLemmas.{flat_is}
use Rattle.rinex_read.proofs.TakenLemmas.{are_from, kind_zero, layout_is}
use Rattle.rinex_read.proofs.stated.fields_of.Goals as goal

laid_out : (rows : List (List Column)) (cs : List Column) (ns : List ℕ) → cs ≡ joined_rows rows → ns ≡ map length rows → IsLayout (joined_rows rows) (map length rows) → IsLayout cs ns
laid_out rows cs ns e f is = subst (λ ds. IsLayout ds ns) (sym e) (subst (λ ms. IsLayout (joined_rows rows) ms) (sym f) is)

given : {X : Type 0} (view : X → List ℤ) (result : Result X RecordFault) (rows : List (List Column)) (cs : List Column) (ns : List ℕ) (a : ℕ) (ls : List (List ℕ)) → cs ≡ joined_rows rows → ns ≡ map length rows
    → Gives view result (flat_rows ns cs a ls) → Gives view result (read_rows rows a ls)
given view result rows cs ns a ls e f is =
    subst (Gives view result) (ap (λ ms. flat_rows ms cs a ls) f ∙ ap (λ ds. flat_rows (map length rows) ds a ls) e ∙ flat_is rows a ls) is

pub read_fields-requires-clause-layout : goal.read_fields-requires-clause-layout
read_fields-requires-clause-layout c = laid_out (kind_by c.args.kind).rows _ _ c.layout_of-layout.ensures.columns c.layout_of-layout.ensures.rows (layout_is c.args.kind)

pub returns-clause-read : goal.returns-clause-read
returns-clause-read c =
    given (λ fields. fields.items) c.read_fields.result (kind_by c.args.kind).rows c.layout_of-layout.result.columns.now c.layout_of-layout.result.rows.now 23 c.args.lines.now
    c.layout_of-layout.ensures.columns c.layout_of-layout.ensures.rows c.read_fields.ensures

pub returns-clause-are : goal.returns-clause-are
returns-clause-are c =
    are_from (λ fields. fields.items) c.read_fields.result (kind_by c.args.kind).rows 23 c.args.lines.now (kind_zero c.args.kind)
    (given (λ fields. fields.items) c.read_fields.result (kind_by c.args.kind).rows c.layout_of-layout.result.columns.now c.layout_of-layout.result.rows.now 23 c.args.lines.now
    c.layout_of-layout.ensures.columns c.layout_of-layout.ensures.rows c.read_fields.ensures)
