use Rattle.std.proofs.Common.{◌≡◌, ℕ, ◌+◌, ◌*◌, List, drop, sym, ap, ◌∙◌, Result, arith, ℤ, rules, SFits, to_z, of_z, w64, [], ◌∷◌, ◌++◌}
use Rattle.std.proofs.lemmas.Int.{to_z-of_z}
use Rattle.rinex_write.specs.declared.columns.Column.{Column}
use Rattle.rinex_write.proofs.Surface.{no_column}
use Rattle.rinex_read.specs.declared.reason.RecordFault.{RecordFault}
use Rattle.rinex_read.specs.Lines.{columns}
use Rattle.rinex_read.specs.Fields.{field_of, field_at, read_row}
use Rattle.rinex_read.specs.Mirrors.{with_prefix}
use Rattle.rinex_read.proofs.FieldLemmas.{good_at}
use Rattle.rinex_read.proofs.RowLemmas.{row_more}
use Rattle.rinex_read.proofs.fields.read_row.Goals as goal

field_is : (col : Column) (t : List ℕ) (a : ℕ) (line : List ℕ) (r : Result ℤ RecordFault) → t ≡ columns a 19 line → r ≡ field_of col t → field_at col a line ≡ r
field_is col t a line r e f = sym (f ∙ ap (field_of col) e)

pub field-requires-clause-scale : goal.field-requires-clause-scale
field-requires-clause-scale c = (good_at c.args.columns_of_row.now c.loop-i.i no_column c.requires.good c.loop-i-test.true).0

pub field-requires-clause-rule : goal.field-requires-clause-rule
field-requires-clause-rule c = (good_at c.args.columns_of_row.now c.loop-i.i no_column c.requires.good c.loop-i-test.true).1

pub loop-i-preserved : goal.loop-i-preserved
loop-i-preserved c =
    let cs = c.args.columns_of_row.now in
    let i = c.loop-i.i in
    let place = c.args.place in
    let line = c.args.line.now in
    let is = field_is _ c.columns.result.now (place + 19 * i) line _ c.columns.ensures.text c.in_ok-field.ensures in
    let step = row_more _ cs c.loop-i.fields.items i no_column place line c.in_ok-field.field c.loop-i-test.true is c.loop-i.invariant.0 in
    let fits : SFits w64 c.in_ok-field.field = search rules in
    let same : to_z w64 (of_z w64 c.in_ok-field.field) ≡ c.in_ok-field.field = to_z-of_z w64 c.in_ok-field.field fits in (
      step ∙ ap (λ z. with_prefix (c.loop-i.fields.items ++ z ∷ []) (read_row (drop (i + 1) cs) (place + 19 * (i + 1)) line)) (sym same) ∙ ap (λ xs. with_prefix xs (read_row (drop (i + 1) cs) (place + 19 * (i + 1)) line)) (sym c.push.ensures.items),
      omega (arith, c.loop-i.invariant.1, c.push.ensures.len),
    )
