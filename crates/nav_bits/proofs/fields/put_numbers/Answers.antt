use Rattle.std.proofs.Common.{◌≡◌, ◌<◌, ◌+◌, ℕ, List, ◌∷◌, length, drop, slice_index_or, add-one, drop-cons, refl, subst, arith}
use Rattle.nav_bits.proofs.PutFields.{ArePut, ArePut-more}
use Rattle.nav_bits.proofs.fields.put_numbers.Goals as goal

pub loop-field-preserved : goal.loop-field-preserved
loop-field-preserved c =
    let i = c.loop-field.field-index in
    let fields = c.args.fields.now in
    let field = slice_index_or fields i (0, 0) in
    let inside : i < length fields = omega arith in
    let e : drop i fields ≡ field ∷ drop (i + 1) fields = rw (add-one, drop-cons fields i (0, 0)) refl in
    let P : List (ℕ × ℕ) → Type 0 = λ rest. ArePut c.args.bytes.now c.loop-field.bytes c.args.at c.loop-field.place fields rest in
    ArePut-more c.args.bytes.now c.loop-field.bytes c.put_number.new.bytes c.args.at c.loop-field.place fields (drop (i + 1) fields) field
    (subst P e c.loop-field.invariant) c.put_number.ensures
