-- The date of a line is what the reading of a record with no columns says.
use Rattle.std.proofs.Common.{◌≡◌, ℕ, List, [], ◌∷◌, Ok, Err, refl, ap, ◌∙◌, sym}
use Rattle.std.specs.Prelude.{Result}
use Rattle.rinex_read.specs.Fields.{◌>>=◌}
use Rattle.rinex_read.specs.Judging.{moment_at}
use Rattle.rinex_read.specs.RowReads.{RowContent, flat_said}
use Rattle.rinex_read.specs.declared.reason.RecordFault.{RecordFault}

abbrev with_no_columns : Result ℕ RecordFault → Result RowContent RecordFault
with_no_columns (Ok m) = Ok (record { moment = m; fields = [] })
with_no_columns (Err e) = Err e

abbrev without : ℕ → Result RowContent RecordFault
without m = Ok (record { moment = m; fields = [] })

no_columns : (r : Result ℕ RecordFault) → r >>= without ≡ with_no_columns r
no_columns (Ok m) = refl
no_columns (Err e) = refl

said_is : (line : List ℕ) → flat_said (0 ∷ []) [] (line ∷ []) ≡ with_no_columns (moment_at line)
unfolding flat_said
said_is line = no_columns (moment_at line)

moment_from : (r : Result ℕ RecordFault) (c : RowContent) → with_no_columns r ≡ Ok c → r ≡ Ok c.moment
moment_from (Ok m) c e = ap (λ (x : Result RowContent RecordFault). moment_of x) e
  where
    moment_of : Result RowContent RecordFault → Result ℕ RecordFault
    moment_of (Ok y) = Ok y.moment
    moment_of (Err e) = Err e
moment_from (Err f) c e = absurd (cc)

none_from : (r : Result ℕ RecordFault) (f : RecordFault) → with_no_columns r ≡ Err f → r ≡ Err f
none_from (Ok m) f e = absurd (cc)
none_from (Err g) f e = ap (λ (x : Result RowContent RecordFault). moment_of x) e
  where
    moment_of : Result RowContent RecordFault → Result ℕ RecordFault
    moment_of (Ok y) = Ok y.moment
    moment_of (Err e) = Err e

pub date_said : (line : List ℕ) (c : RowContent) → flat_said (0 ∷ []) [] (line ∷ []) ≡ Ok c → moment_at line ≡ Ok c.moment
date_said line c e = moment_from (moment_at line) c (sym (said_is line) ∙ e)

pub no_date : (line : List ℕ) (f : RecordFault) → flat_said (0 ∷ []) [] (line ∷ []) ≡ Err f → moment_at line ≡ Err f
no_date line f e = none_from (moment_at line) f (sym (said_is line) ∙ e)
