-- Invariants and helper definitions of private functions; no public clause cites them.
use Rattle.std.specs.Prelude.{◌≡◌, ℕ, ◌+◌, ◌-◌, ◌*◌, ◌/◌, ◌^◌, ◌<◌, ◌≤◌, nat_lt, nat_le, ◌==◌, ◌&&◌, Bool, true, false, if◌then◌else◌, List, [], ◌∷◌, ◌++◌, length, take, drop, sum, Option, Some, None, Result, Ok, Err, ℤ, pos, negsuc, ◌≤ℤ◌}
use Rattle.nav_eph.specs.Steps.{IsSisa}
use Rattle.nav_bits.specs.Signed.{IsSigned}
use Rattle.rinex_write.specs.declared.columns.Column.{Column}
use Rattle.rinex_write.specs.Columns.{are_good}
use Rattle.rinex_write.specs.Layouts.{Kind, gps_kind, galileo_kind, gps_ionosphere_kind, galileo_ionosphere_kind}
use Rattle.rinex_read.specs.declared.reason.RecordFault.{RecordFault}
use Rattle.rinex_read.specs.declared.reason.RecordFault.TheVariants as reasons
use Rattle.rinex_read.specs.declared.title.RecordKind.{RecordKind}
use Rattle.rinex_read.specs.declared.title.RecordKind.TheVariants.{GpsEphemeris, GalileoEphemeris, GpsIonosphere, GalileoIonosphere}
use Rattle.rinex_read.specs.Fields.{◌>>=◌, read_row}
use Rattle.rinex_read.specs.declared.judged.HeaderState.{HeaderState}
use Rattle.rinex_read.specs.declared.judged.HeaderState.TheVariants.{New, Open, Passed, NotRinexNav, OtherVersion}
use Rattle.rinex_read.specs.Judging.{field, natural, Stated}
use Rattle.rinex_read.specs.Files.{is_navigation, ends_header}
use Rattle.rinex_read.specs.Forms.{Form, is_version}
use Rattle.nav_io.specs.LinesState.{LinesState}
use Rattle.rinex_read.specs.declared.judged.HeaderFault.{HeaderFault}
use Rattle.rinex_read.specs.declared.judged.HeaderFault.TheVariants as faults
use Rattle.rinex_read.specs.States.{RecordsState, held_reads}
use Rattle.rinex_read.specs.declared.stated.RecordStated.{RecordStated}

-- the definition of each kind of record
abbrev pub kind_by : RecordKind → Kind
kind_by GpsEphemeris = gps_kind
kind_by GalileoEphemeris = galileo_kind
kind_by GpsIonosphere = gps_ionosphere_kind
kind_by GalileoIonosphere = galileo_ionosphere_kind

-- the result, seen by view, is the expected one
abbrev pub Gives : {X Y : Type 0} → (X → Y) → Result X RecordFault → Result Y RecordFault → Type 0
Gives view (Ok x) read = read ≡ Ok (view x)
Gives view (Err e) read = read ≡ Err e

-- the text begins with a minus
abbrev pub is_minus : List ℕ → Bool
is_minus [] = false
is_minus (c ∷ cs) = c == 45

-- fields before those that are read
abbrev pub with_prefix : List ℤ → Result (List ℤ) RecordFault → Result (List ℤ) RecordFault
with_prefix zs (Ok ws) = Ok (zs ++ ws)
with_prefix zs (Err e) = Err e

-- all was read, or the reason is the expected one
abbrev pub ReadsTo : {T : Type 0} → Result T RecordFault → List ℤ → Result (List ℤ) RecordFault → Type 0
ReadsTo (Ok x) new read = read ≡ Ok new
ReadsTo (Err e) new read = read ≡ Err e

-- the fields of lines with these numbers of columns, the columns of all lines being one list
abbrev pub flat_rows : List ℕ → List Column → ℕ → List (List ℕ) → Result (List ℤ) RecordFault
flat_rows [] cs a ls = Ok []
flat_rows (n ∷ ns) cs a [] = Err reasons.Short
flat_rows (n ∷ ns) cs a (l ∷ ls) = read_row (take n cs) a l >>= λ zs. flat_rows ns (drop n cs) 4 ls >>= λ ws. Ok (zs ++ ws)

-- each line's columns end by column 80
abbrev pub do_fit : ℕ → List ℕ → Bool
do_fit a [] = true
do_fit a (n ∷ ns) = nat_le (a + 19 * n) 80 && do_fit 4 ns

-- a table: its columns, and how many each line has
pub record IsLayout (columns : List Column) (rows : List ℕ) : Type 0 where
  pub good : are_good columns ≡ true
  pub count : sum rows ≡ length columns
  pub few : length columns ≤ 29
  pub fit : do_fit 23 rows ≡ true

-- the least SISA index whose value is at least n, for n up to 600
abbrev pub sisa_index : ℕ → ℕ
sisa_index n =
    if nat_lt n 50 then n
    else if nat_lt n 100 then 50 + (n - 49) / 2
    else if nat_lt n 200 then 75 + (n - 97) / 4
    else 100 + (n - 185) / 16

-- field k is an unsigned number of w bits, or one in two's complement
pub record IsUnsignedAt (w : ℕ) (zs : List ℤ) (k : ℕ) : Type 0 where
  pub within : k < length zs
  pub low : pos 0 ≤ℤ field zs k
  pub high : natural zs k < 2 ^ w

pub record IsSignedAt (w : ℕ) (zs : List ℤ) (k : ℕ) : Type 0 where
  pub within : k < length zs
  pub is : IsSigned w (field zs k)

-- field k is a number below n, a week, a SISA index, a transmission time or unknown
pub record IsBelowAt (n : ℕ) (zs : List ℤ) (k : ℕ) : Type 0 where
  pub within : k < length zs
  pub low : pos 0 ≤ℤ field zs k
  pub high : natural zs k < n

pub record IsWeekAt (zs : List ℤ) (k : ℕ) : Type 0 where
  pub within : k < length zs
  pub low : pos 1 ≤ℤ field zs k
  pub high : field zs k ≤ℤ pos 16382

pub record IsSisaAt (zs : List ℤ) (k : ℕ) : Type 0 where
  pub within : k < length zs
  pub low : pos 0 ≤ℤ field zs k
  pub high : IsSisa (natural zs k)

pub record IsSentAt (zs : List ℤ) (k : ℕ) : Type 0 where
  pub within : k < length zs
  pub low : negsuc 302399 ≤ℤ field zs k

-- the contents of a record as the definitions have them
abbrev pub view_stated : RecordStated → Stated
view_stated s = record { sat = s.sat; moment = s.moment; fields = s.fields.items }

-- the fields of a GPS ephemeris are within their widths
pub record AreGpsFields (zs : List ℤ) : Type 0 where
  pub af0 : IsSignedAt 22 zs 0
  pub af1 : IsSignedAt 16 zs 1
  pub af2 : IsSignedAt 8 zs 2
  pub iode : IsUnsignedAt 8 zs 3
  pub crs : IsSignedAt 16 zs 4
  pub delta_n : IsSignedAt 16 zs 5
  pub m0 : IsSignedAt 32 zs 6
  pub cuc : IsSignedAt 16 zs 7
  pub e : IsUnsignedAt 32 zs 8
  pub cus : IsSignedAt 16 zs 9
  pub root_a : IsUnsignedAt 32 zs 10
  pub toe : IsBelowAt 37800 zs 11
  pub cic : IsSignedAt 16 zs 12
  pub omega0 : IsSignedAt 32 zs 13
  pub cis : IsSignedAt 16 zs 14
  pub i0 : IsSignedAt 32 zs 15
  pub crc : IsSignedAt 16 zs 16
  pub omega : IsSignedAt 32 zs 17
  pub omega_dot : IsSignedAt 24 zs 18
  pub idot : IsSignedAt 14 zs 19
  pub l2_code : IsUnsignedAt 2 zs 20
  pub toe_week : IsWeekAt zs 21
  pub l2p : IsUnsignedAt 1 zs 22
  pub ura : IsUnsignedAt 4 zs 23
  pub health : IsUnsignedAt 6 zs 24
  pub tgd : IsSignedAt 8 zs 25
  pub iodc : IsUnsignedAt 10 zs 26
  pub sent : IsSentAt zs 27
  pub fit : IsUnsignedAt 1 zs 28

-- the fields of a Galileo ephemeris are within their widths
pub record AreGalileoFields (zs : List ℤ) : Type 0 where
  pub af0 : IsSignedAt 31 zs 0
  pub af1 : IsSignedAt 21 zs 1
  pub af2 : IsSignedAt 6 zs 2
  pub iodnav : IsUnsignedAt 10 zs 3
  pub crs : IsSignedAt 16 zs 4
  pub delta_n : IsSignedAt 16 zs 5
  pub m0 : IsSignedAt 32 zs 6
  pub cuc : IsSignedAt 16 zs 7
  pub e : IsUnsignedAt 32 zs 8
  pub cus : IsSignedAt 16 zs 9
  pub root_a : IsUnsignedAt 32 zs 10
  pub toe : IsBelowAt 10080 zs 11
  pub cic : IsSignedAt 16 zs 12
  pub omega0 : IsSignedAt 32 zs 13
  pub cis : IsSignedAt 16 zs 14
  pub i0 : IsSignedAt 32 zs 15
  pub crc : IsSignedAt 16 zs 16
  pub omega : IsSignedAt 32 zs 17
  pub omega_dot : IsSignedAt 24 zs 18
  pub idot : IsSignedAt 14 zs 19
  pub toe_week : IsWeekAt zs 21
  pub sisa : IsSisaAt zs 22
  pub health : IsUnsignedAt 9 zs 23
  pub bgd_a : IsSignedAt 10 zs 24
  pub bgd_b : IsSignedAt 10 zs 25
  pub sent : IsSentAt zs 26

-- the ionosphere parameters are within their widths
pub record AreGpsIonosphereFields (zs : List ℤ) : Type 0 where
  pub alpha0 : IsSignedAt 8 zs 0
  pub alpha1 : IsSignedAt 8 zs 1
  pub alpha2 : IsSignedAt 8 zs 2
  pub alpha3 : IsSignedAt 8 zs 3
  pub beta0 : IsSignedAt 8 zs 4
  pub beta1 : IsSignedAt 8 zs 5
  pub beta2 : IsSignedAt 8 zs 6
  pub beta3 : IsSignedAt 8 zs 7

pub record AreGalileoIonosphereFields (zs : List ℤ) : Type 0 where
  pub ai0 : IsUnsignedAt 11 zs 0
  pub ai1 : IsSignedAt 11 zs 1
  pub ai2 : IsSignedAt 14 zs 2
  pub regions : IsUnsignedAt 5 zs 3

-- A line was processed: the old state with it and any further lines gives these records, then those of the new state. No
-- record is given unless another is in progress.
pub record TakesLine {R : Type 0} (f : Form R) (kept : List (List ℕ)) (first : ℕ) (kept_new : List (List ℕ)) (first_new : ℕ) (line : List ℕ) (number : ℕ) (given : List R) : Type 0 where
  pub answers : (n : ℕ) (more : List (List ℕ)) → number ≡ n + 1 → held_reads f kept first n (line ∷ more) ≡ given ++ held_reads f kept_new first_new number more
  pub begun : kept_new ≡ [] → given ≡ []

-- No line is left: the record in progress gives these records.
pub record TakesEnd {R : Type 0} (f : Form R) (kept : List (List ℕ)) (first : ℕ) (given : List R) : Type 0 where
  pub answers : (n : ℕ) → held_reads f kept first n [] ≡ given

-- the record in progress, if there was one
abbrev pub EndsWith : {R : Type 0} → Form R → List (List ℕ) → ℕ → Option R → Type 0
EndsWith f [] first read = read ≡ None
EndsWith f (k ∷ ks) first read = read ≡ Some (f.judged first (k ∷ ks))

-- the state of the header after one more line
abbrev pub header_after : {R : Type 0} → Form R → HeaderState → List ℕ → HeaderState
header_after f New line = if is_navigation line then (if is_version f line then Open else OtherVersion) else NotRinexNav
header_after f Open line = if ends_header line then Passed else Open
header_after f Passed line = Passed
header_after f NotRinexNav line = NotRinexNav
header_after f OtherVersion line = OtherVersion

-- the state of a reader from its parts
abbrev pub state_of : HeaderState → List (List ℕ) → ℕ → LinesState → RecordsState
state_of header kept first lines = record { header = header; kept = kept; first = first; lines = lines }

-- the error of a header that was rejected
abbrev pub HeaderRefused : HeaderState → HeaderFault → Type 0
HeaderRefused header faults.NotRinexNav = header ≡ NotRinexNav
HeaderRefused header faults.Version = header ≡ OtherVersion
HeaderRefused header (faults.Line fault) = ⊥
