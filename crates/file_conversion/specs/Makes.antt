-- The format under which a file is read, and what is made and counted of it.
use Rattle.std.specs.Prelude.{◌≡◌, ◌<◌, ◌^◌, ℕ, List, length, Option, None, Some, IfSome}
use Rattle.file_conversion.specs.declared.done.Done.{Done}
use Rattle.whole_file.specs.Kinds.{form_of, kind_of}
use Rattle.whole_file.specs.declared.kinds.Kind.{Kind}
use Rattle.whole_file.specs.Files.{Publishes, Puts}
use Rattle.file_conversion.specs.Logs.{read_as}
use Rattle.file_conversion.specs.Table.{task_for}
use Rattle.file_conversion.specs.Tasks.{accepts, counts_by, makes_by}
use Rattle.file_conversion.specs.declared.table.Plan.{Plan}
use Rattle.file_conversion.specs.declared.table.Task.{Task}

-- the format under which a file with these bytes is read: the one that is named, or that which they
-- show
abbrev pub kind_under : Plan → List ℕ → Kind
kind_under plan bytes = form_of plan.form (kind_of bytes)

-- a source with these bytes is read under this format
abbrev pub ReadsUnder : Plan → Option (List ℕ) → Kind → Type 0
ReadsUnder plan source kind = IfSome source (λ bytes. kind ≡ kind_under plan bytes)

-- what is read of a file with these bytes: of a log its capture
abbrev pub read_under : Plan → List ℕ → List ℕ
read_under plan bytes = read_as (kind_under plan bytes) bytes

-- what is done with a file with these bytes
abbrev pub task_under : Plan → List ℕ → Option Task
task_under plan bytes = task_for plan (kind_under plan bytes)

-- what is made of what is read, what is counted of it, and whether it is accepted, if something is
-- done with it
abbrev pub MakesBy : Option Task → List ℕ → List ℕ → Type 0
MakesBy None read made = ⊥
MakesBy (Some task) read made = made ≡ makes_by task read

abbrev pub CountsBy : Option Task → List ℕ → Option Done → Type 0
CountsBy None read counted = ⊥
CountsBy (Some task) read counted = counted ≡ counts_by task read

abbrev pub AcceptsBy : Option Task → List ℕ → Type 0
AcceptsBy None read = ⊥
AcceptsBy (Some task) read = accepts task read

-- what is read is not accepted by what is done with it
abbrev pub RejectsBy : Option Task → List ℕ → Type 0
RejectsBy None read = ⊥
RejectsBy (Some task) read = ¬ accepts task read

-- What is made of the bytes of a file, under the format that they show or the plan names: the
-- complete output of the conversion for it. A log is converted as its capture, and to a capture it
-- is that capture itself.
abbrev pub Makes : Plan → List ℕ → List ℕ → Type 0
Makes plan bytes made = MakesBy (task_under plan bytes) (read_under plan bytes) made

-- What is counted of them: what the conversion counts.
abbrev pub CountsAs : Plan → List ℕ → Option Done → Type 0
CountsAs plan bytes counted = CountsBy (task_under plan bytes) (read_under plan bytes) counted

-- the bytes of a file are accepted, under the format that they show or the plan names, and are not
-- too many
abbrev pub CanConvert : Plan → List ℕ → Type 0
CanConvert plan bytes = AcceptsBy (task_under plan bytes) (read_under plan bytes) × (length (read_under plan bytes) < 2 ^ 32)

-- The file of the one name was there, and that of the other has what is made of its bytes; the part is gone, and every other
-- name has what it had.
abbrev pub ConvertsAs : Plan → Option (List ℕ → Option (List ℕ)) → Option (List ℕ → Option (List ℕ)) → List ℕ → List ℕ → List ℕ → Type 0
ConvertsAs plan None new from part name = Unit {0}
ConvertsAs plan (Some old) None from part name = ⊥
ConvertsAs plan (Some old) (Some new) from part name =
    (bytes : List ℕ) × (old from ≡ Some bytes) × ((made : List ℕ) × Makes plan bytes made × Puts old new part name made)

-- the same of a source with these bytes
abbrev pub PutsAs : Plan → List ℕ → Option (List ℕ → Option (List ℕ)) → Option (List ℕ → Option (List ℕ)) → List ℕ → List ℕ → Type 0
PutsAs plan bytes old new part name = (made : List ℕ) × Makes plan bytes made × Publishes old new part name (Some made)
