-- The first whole unit of bytes that more bytes follow.
use Rattle.std.proofs.Common.{◌≡◌, ◌⊎◌, ℕ, ◌+◌, ◌-◌, ◌<◌, ◌≤◌, ◌&&◌, ◌||◌, nat_lt, Bool, true, false, if◌then◌else◌, List, [], ◌∷◌, ◌++◌, Option, None, Some, IfSome, unwrap_or, length, take, drop, refl, sym, ap, subst, ◌∙◌, inl, inr, arith, append-nil}
use Rattle.std.proofs.Math.Seq.{take-append-add}
use Rattle.std.proofs.lemmas.Bool.{or_parts, false≢true, lt-ltb}
use Rattle.std.proofs.lemmas.List.{drop_all, drop_more, take-append-le}
use Rattle.framing.specs.Headings.{Heading, IsHeading, format_of, opens_by, size_by}
use Rattle.framing.specs.Messages.{IsFormat}
use Rattle.framing.specs.SbfForm.{sbf}
use Rattle.framing.specs.SbfFormLaws.{sbf_is_heading}
use Rattle.framing.specs.UbxForm.{ubx}
use Rattle.framing.specs.UbxFormLaws.{ubx_is_heading}
use Rattle.framing.specs.Frames.{frame_size, is_open}
use Rattle.whole_file.proofs.FrameForms.{frame-append}
use Rattle.whole_file.specs.Kinds.{is_head, kind_of, prefix_kind, decided_by}
use Rattle.whole_file.specs.Units.{IsPast, first_of, first_unit, opens_unit, unit_of}
use Rattle.whole_file.specs.declared.kinds.Kind.{Kind}
use Rattle.whole_file.specs.declared.kinds.Kind.TheVariants.{Stream, Ubx, Sbf}

-- ---- one unit

-- each heading is a format
abbrev pub Formats : Type 0
Formats = (h : Heading) → IsHeading h → IsFormat (format_of h)

unit_by : ℕ → ℕ → ℕ → Option Kind
unit_by message block frame = if nat_lt 0 message then Some Ubx else if nat_lt 0 block then Some Sbf else if nat_lt 0 frame then Some Stream else None

unit_append : Formats → (x : ℕ) (xs ys : List ℕ) → opens_unit (x ∷ xs) ≡ false → unit_of (x ∷ (xs ++ ys)) ≡ unit_of (x ∷ xs)
unfolding unit_by
unit_append formats x xs ys closed =
    let whole = x ∷ (xs ++ ys) in
    let part = x ∷ xs in
    let all = or_parts (opens_by ubx part || opens_by sbf part) (is_open part) closed in
    let two = or_parts (opens_by ubx part) (opens_by sbf part) all.0 in
    let messages : size_by ubx whole ≡ size_by ubx part = (formats ubx ubx_is_heading).size_append x xs ys two.0 in
    let blocks : size_by sbf whole ≡ size_by sbf part = (formats sbf sbf_is_heading).size_append x xs ys two.1 in
    let frames : frame_size whole ≡ frame_size part = frame-append x xs ys all.1 in
    ap (λ n. unit_by n (size_by sbf whole) (frame_size whole)) messages
    ∙ ap (λ n. unit_by (size_by ubx part) n (frame_size whole)) blocks
    ∙ ap (λ n. unit_by (size_by ubx part) (size_by sbf part) n) frames

-- ---- the first of all

-- no incomplete unit begins, or no bytes follow
abbrev IsClosed : List ℕ → List ℕ → Type 0
IsClosed bytes following = (opens_unit bytes ≡ false) ⊎ (following ≡ [])

first_by : Formats → (x : ℕ) (xs following : List ℕ) → IsClosed (x ∷ xs) following
    → first_unit ((x ∷ xs) ++ following) ≡ first_of (unit_of (x ∷ xs)) (first_unit (xs ++ following))
first_by formats x xs following (inl closed) =
    ap (λ (unit : Option Kind). first_of unit (first_unit (xs ++ following))) (unit_append formats x xs following closed)
first_by formats x xs following (inr none) =
    let same : xs ++ following ≡ xs = ap (λ (s : List ℕ). xs ++ s) none ∙ append-nil xs in
    ap (λ (s : List ℕ). first_of (unit_of (x ∷ s)) (first_unit (xs ++ following))) same

first_at : Formats → (bytes following : List ℕ) (place : ℕ) → place < length bytes → IsClosed (drop place bytes) following
    → first_unit (drop place bytes ++ following) ≡ first_of (unit_of (drop place bytes)) (first_unit (drop (place + 1) bytes ++ following))
first_at formats bytes following place some closed =
    let at = drop_more bytes place 0 some in
    let rest = first_unit (drop (place + 1) bytes ++ following) in
    subst (λ (s : List ℕ). first_unit (s ++ following) ≡ first_of (unit_of s) rest) (sym at)
    (first_by formats _ (drop (place + 1) bytes) following (subst (λ (s : List ℕ). IsClosed s following) at closed))

closed_by : (more opens : Bool) (following : List ℕ) → (more && opens) ≡ false → (more ≡ false → following ≡ [])
    → (opens ≡ false) ⊎ (following ≡ [])
closed_by true opens following closed last = inl closed
closed_by false opens following closed last = inr (last refl)

-- an offset where no unit begins is passed
pub unit_passed : Formats → (bytes : List ℕ) (place : ℕ) (more : Bool) → place < length bytes → (more && opens_unit (drop place bytes)) ≡ false
    → unit_of (drop place bytes) ≡ None → (following : List ℕ) → (more ≡ false → following ≡ [])
    → first_unit (drop place bytes ++ following) ≡ first_unit (drop (place + 1) bytes ++ following)
unit_passed formats bytes place more some closed none following last =
    first_at formats bytes following place some (closed_by more (opens_unit (drop place bytes)) following closed last)
    ∙ ap (λ (unit : Option Kind). first_of unit (first_unit (drop (place + 1) bytes ++ following))) none

-- the whole unit that begins at an offset is the first one from there on
pub unit_found : Formats → (bytes : List ℕ) (place : ℕ) (more : Bool) (kind : Kind) → place < length bytes
    → (more && opens_unit (drop place bytes)) ≡ false → unit_of (drop place bytes) ≡ Some kind → (following : List ℕ)
    → (more ≡ false → following ≡ []) → first_unit (drop place bytes ++ following) ≡ Some kind
unit_found formats bytes place more kind some closed found following last =
    first_at formats bytes following place some (closed_by more (opens_unit (drop place bytes)) following closed last)
    ∙ ap (λ (unit : Option Kind). first_of unit (first_unit (drop (place + 1) bytes ++ following))) found

-- ---- the form of a file

-- the first unit of bytes that no bytes follow, by where the search for it ended
pub unit_told : (bytes : List ℕ) (place : ℕ) (unit : Option Kind)
    → ((following : List ℕ) → (false ≡ false → following ≡ []) → first_unit (bytes ++ following) ≡ first_unit (drop place bytes ++ following))
    → IfSome unit (λ kind. (following : List ℕ) → (false ≡ false → following ≡ []) → first_unit (drop place bytes ++ following) ≡ Some kind)
    → (unit ≡ None → place ≡ length bytes) → unit ≡ first_unit bytes
unit_told bytes place (Some kind) passed whole end =
    sym (ap first_unit (sym (append-nil bytes)) ∙ passed [] (λ _. refl) ∙ whole [] (λ _. refl))
unit_told bytes place None passed whole end =
    sym (ap first_unit (sym (append-nil bytes)) ∙ passed [] (λ _. refl)
    ∙ ap first_unit (append-nil (drop place bytes) ∙ drop_all place bytes (omega (arith, end refl))))

-- what the head and the first unit tell, where the head alone tells nothing
pub told_by_unit : (bytes : List ℕ) (head : Kind) (unit : Option Kind) → head ≡ prefix_kind (take 80 bytes) → is_head head ≡ false
    → unit ≡ first_unit (take 65536 bytes) → unwrap_or unit head ≡ kind_of bytes
unfolding kind_of
told_by_unit bytes head unit is none first =
    sym (ap (λ (h : Kind). decided_by h (first_unit (take 65536 bytes))) (sym is) ∙ ap (decided_by head) (sym first)
    ∙ ap (λ (b : Bool). if b then head else unwrap_or unit head) none)

-- what the head tells alone
pub told_by_head : (bytes : List ℕ) (head : Kind) → head ≡ prefix_kind (take 80 bytes) → is_head head ≡ true → head ≡ kind_of bytes
unfolding kind_of
told_by_head bytes head is some =
    sym (ap (λ (h : Kind). decided_by h (first_unit (take 65536 bytes))) (sym is)
    ∙ ap (λ (b : Bool). if b then head else unwrap_or (first_unit (take 65536 bytes)) head) some)

-- the head of bytes that more bytes follow
pub same_head : (prefix following : List ℕ) (head : Kind) → 80 ≤ length prefix → head ≡ prefix_kind (take 80 prefix)
    → head ≡ prefix_kind (take 80 (prefix ++ following))
same_head prefix following head many is = is ∙ ap prefix_kind (sym (take-append-le 80 prefix following many))

-- the first unit of bytes that more bytes follow, where one is whole at an offset before which none begins
pub same_unit : (prefix following : List ℕ) (old place : ℕ) (kind : Kind) → length prefix ≤ 65536 → IsPast prefix old
    → ((following : List ℕ) → (true ≡ false → following ≡ []) → first_unit (drop old prefix ++ following) ≡ first_unit (drop place prefix ++ following))
    → ((following : List ℕ) → (true ≡ false → following ≡ []) → first_unit (drop place prefix ++ following) ≡ Some kind)
    → Some kind ≡ first_unit (take 65536 (prefix ++ following))
same_unit prefix following old place kind few past passed whole =
    let n = 65536 - length prefix in
    let more = take n following in
    let all : length prefix + n ≡ 65536 = omega (arith, few) in
    let front : take 65536 (prefix ++ following) ≡ prefix ++ more =
    ap (λ (m : ℕ). take m (prefix ++ following)) (sym all) ∙ take-append-add prefix following n in
    sym (ap first_unit front ∙ past more ∙ passed more (λ no. absurd (false≢true (sym no))) ∙ whole more (λ no. absurd (false≢true (sym no))))

-- what bytes tell of a file that begins with them, where a search in them found this unit or none
pub told_so_far : (prefix : List ℕ) (old place : ℕ) (head : Kind) (unit : Option Kind) → 80 ≤ length prefix → length prefix ≤ 65536
    → head ≡ prefix_kind (take 80 prefix) → is_head head ≡ false → IsPast prefix old
    → ((following : List ℕ) → (true ≡ false → following ≡ []) → first_unit (drop old prefix ++ following) ≡ first_unit (drop place prefix ++ following))
    → IfSome unit (λ kind. (following : List ℕ) → (true ≡ false → following ≡ []) → first_unit (drop place prefix ++ following) ≡ Some kind)
    → IfSome unit (λ kind. (following : List ℕ) → kind ≡ kind_of (prefix ++ following))
told_so_far prefix old place head None many few is none past passed whole = tt
told_so_far prefix old place head (Some kind) many few is none past passed whole = λ following.
    told_by_unit (prefix ++ following) head (Some kind) (same_head prefix following head many is) none
    (same_unit prefix following old place kind few past passed whole)

-- ---- a frame

-- bytes that begin with a whole frame begin with no message
pub frame_first : (xs : List ℕ) → 0 < frame_size (211 ∷ xs) → first_unit (211 ∷ xs) ≡ Some Stream
unfolding unit_by
frame_first xs whole =
    let all = 211 ∷ xs in
    let message : ubx.begins all ≡ false = ubx_is_heading.starts 211 xs (λ e. absurd (omega (arith, e))) in
    let block : sbf.begins all ≡ false = sbf_is_heading.starts 211 xs (λ e. absurd (omega (arith, e))) in
    let none : size_by ubx all ≡ 0 = unbegun ubx all message in
    let no : size_by sbf all ≡ 0 = unbegun sbf all block in
    let some : nat_lt 0 (frame_size all) ≡ true = lt-ltb _ _ whole in
    ap (λ unit. first_of unit (first_unit xs))
    (ap (λ n. unit_by n (size_by sbf all) (frame_size all)) none ∙ ap (λ n. unit_by 0 n (frame_size all)) no
    ∙ ap (λ (b : Bool). if b then Some Stream else None) some) where
      unbegun : (h : Heading) (bytes : List ℕ) → h.begins bytes ≡ false → size_by h bytes ≡ 0
      unbegun h bytes e = rw e refl
