-- A text of lines cut where one ends, and the records of its lines.
use Rattle.std.proofs.Common.{◌≡◌, ◌⊎◌, inl, inr, ◌+◌, ◌<◌, ◌≤◌, ◌++◌, ℕ, suc, Bool, true, false, List, [], ◌∷◌, length, take, drop, map, refl, sym, ap, ◌∙◌, subst, arith, append_assoc, append-nil, length-append, length-drop}
use Rattle.std.specs.Prelude.{if◌then◌else◌, Result, Ok, Err}
use Rattle.std.proofs.lemmas.List.{take-append-drop, take-take, take_all, drop_all, drop-take, drop-drop, map-append}
use Rattle.nav_io.specs.Lines.{ends, pieces, without_cr}
use Rattle.nav_io.specs.Mirrors.{EndsAt}
use Rattle.nav_io.proofs.Surface.{no_pieces, pieces-line}
use Rattle.rinex_read.specs.Files.{Body, ends_header, header_passed, up_to_next}
use Rattle.rinex_read.specs.Forms.{Form, begins}
use Rattle.rinex_read.specs.Lines.{ended_lines, lines_of}
use Rattle.rinex_read.specs.declared.judged.HeaderFault.{HeaderFault}
use Rattle.rinex_read.specs.declared.judged.HeaderFault.TheVariants.{NotRinexNav}
use Rattle.c_calls.specs.RecordEnds.{AreOfOne, BeginsOne, EndsHeader, EndsRecord, MayFollow}
use Rattle.c_calls.proofs.LinesOfText.{line_last}

-- ---- whole lines

-- their pieces are the same whatever follows
abbrev pub AreWhole : List ℕ → Type 0
AreWhole text = (more : Bool) (rest : List ℕ) → pieces more (text ++ rest) ≡ pieces false text ++ pieces more rest

pub none_whole : AreWhole []
none_whole more rest = refl

one_more_whole : (text p : List ℕ) → AreWhole text → ends p ≡ false → AreWhole (text ++ (p ++ 10 ∷ []))
one_more_whole text p whole none more rest =
    let line : List ℕ = p ++ 10 ∷ [] in
    let nil : List ℕ = [] in
    ap (pieces more) (append_assoc text line rest ∙ ap (λ (l : List ℕ). text ++ l) (append_assoc p (10 ∷ []) rest))
    ∙ whole more (p ++ 10 ∷ rest)
    ∙ ap (λ (ls : List (List ℕ)). pieces false text ++ ls) (pieces-line more p rest none)
    ∙ sym (append_assoc (pieces false text) (p ∷ []) (pieces more rest))
    ∙ ap (λ (ls : List (List ℕ)). ls ++ pieces more rest)
    (sym (whole false line ∙ ap (λ (ls : List (List ℕ)). pieces false text ++ ls) (pieces-line false p nil none)))

-- the text up to the end of its next line
up_to_end : (text : List ℕ) (at n : ℕ) → EndsAt (drop at text) n → take (at + (n + 1)) text ≡ take at text ++ (take n (drop at text) ++ 10 ∷ [])
up_to_end text at n h =
    let d : List ℕ = drop at text in
    let k : ℕ = n + 1 in
    let cut : take (at + k) text ≡ take at text ++ take k d =
    sym (take-append-drop at (take (at + k) text))
    ∙ ap (λ (l : List ℕ). l ++ drop at (take (at + k) text)) (take-take at (at + k) text (omega arith))
    ∙ ap (λ (l : List ℕ). take at text ++ l) (drop-take at k text) in
    let one : take 1 (drop n d) ≡ 10 ∷ [] = ap (take 1) h.at in
    let line : take k d ≡ take n d ++ 10 ∷ [] =
    sym (take-append-drop n (take k d))
    ∙ ap (λ (l : List ℕ). l ++ drop n (take k d)) (take-take n k d (omega arith))
    ∙ ap (λ (l : List ℕ). take n d ++ l) (drop-take n 1 d ∙ one) in
    cut ∙ ap (λ (l : List ℕ). take at text ++ l) line

pub next_whole : (text : List ℕ) (at n : ℕ) → AreWhole (take at text) → EndsAt (drop at text) n → AreWhole (take (at + (n + 1)) text)
next_whole text at n whole h = subst AreWhole (sym (up_to_end text at n h)) (one_more_whole (take at text) (take n (drop at text)) whole h.none)

-- and their lines
pub next_lines : (text line : List ℕ) (at n : ℕ) → AreWhole (take at text) → EndsAt (drop at text) n → line ≡ without_cr (take n (drop at text))
    → lines_of (take (at + (n + 1)) text) ≡ lines_of (take at text) ++ line ∷ []
next_lines text line at n whole h is =
    let p : List ℕ = take n (drop at text) in
    let nil : List ℕ = [] in
    ap lines_of (up_to_end text at n h)
    ∙ ap (map without_cr) (whole false (p ++ 10 ∷ nil) ∙ ap (λ (ls : List (List ℕ)). pieces false (take at text) ++ ls) (pieces-line false p nil h.none))
    ∙ map-append without_cr (pieces false (take at text)) (p ∷ [])
    ∙ ap (λ (l : List ℕ). lines_of (take at text) ++ l ∷ []) (sym is)

-- ---- a text cut behind whole lines

pub cut_lines : (text following : List ℕ) (at : ℕ) → AreWhole (take at text) → lines_of (text ++ following) ≡ lines_of (take at text) ++ lines_of (drop at text ++ following)
cut_lines text following at whole =
    ap lines_of (ap (λ (l : List ℕ). l ++ following) (sym (take-append-drop at text)) ∙ append_assoc (take at text) (drop at text) following)
    ∙ ap (map without_cr) (whole false (drop at text ++ following))
    ∙ map-append without_cr (pieces false (take at text)) (pieces false (drop at text ++ following))

-- where no line ends behind them, they are the lines that have ended
pub cut_ended : (text : List ℕ) (at : ℕ) → AreWhole (take at text) → ends (drop at text) ≡ false → ended_lines text ≡ lines_of (take at text)
cut_ended text at whole none =
    ap ended_lines (sym (take-append-drop at text))
    ∙ ap (map without_cr) (whole true (drop at text) ∙ ap (λ (ls : List (List ℕ)). pieces false (take at text) ++ ls) (no_pieces (drop at text) none)
    ∙ append-nil (pieces false (take at text)))

-- the line that follows, whatever follows it
pub line_then : (rest following line : List ℕ) (n : ℕ) → EndsAt rest n → line ≡ without_cr (take n rest)
    → lines_of (rest ++ following) ≡ line ∷ lines_of (drop (n + 1) rest ++ following)
line_then rest following line n h is =
    let behind : List ℕ = drop (n + 1) rest in
    let split : rest ≡ take n rest ++ 10 ∷ behind = sym (take-append-drop n rest) ∙ ap (λ (l : List ℕ). take n rest ++ l) h.at in
    ap lines_of (ap (λ (l : List ℕ). l ++ following) split ∙ append_assoc (take n rest) (10 ∷ behind) following)
    ∙ ap (map without_cr) (pieces-line false (take n rest) (behind ++ following) h.none)
    ∙ ap (λ (l : List ℕ). l ∷ lines_of (behind ++ following)) (sym is)

-- ---- one record

up_tail : (b : Bool) (l : List ℕ) (us ls : List (List ℕ)) → (if b then [] else l ∷ us) ≡ l ∷ ls → (b ≡ false) × (us ≡ ls)
up_tail true l us ls e = absurd cc
up_tail false l us ls e = (refl, ap (drop 1) e)

up_more : {R : Type 0} (f : Form R) (ls : List (List ℕ)) (line : List ℕ) → up_to_next f ls ≡ ls → begins f line ≡ false → up_to_next f (ls ++ line ∷ []) ≡ ls ++ line ∷ []
up_more f [] line same other = ap (λ (b : Bool). if b then [] else line ∷ []) other
up_more f (l ∷ ls) line same other =
    let tail = up_tail (begins f l) l (up_to_next f ls) ls same in
    ap (λ (b : Bool). if b then [] else l ∷ up_to_next f (ls ++ line ∷ [])) tail.0
    ∙ ap (λ (us : List (List ℕ)). l ∷ us) (up_more f ls line tail.1 other)

-- a further line of it
pub one_longer : {R : Type 0} (f : Form R) (ls : List (List ℕ)) (line : List ℕ) → AreOfOne f ls → (ls ≡ []) ⊎ (begins f line ≡ false) → AreOfOne f (ls ++ line ∷ [])
one_longer f [] line one other = refl
one_longer f (l ∷ ls) line one (inl none) = absurd cc
one_longer f (l ∷ ls) line one (inr other) = up_more f ls line one other

-- ---- a header

passed_by : (b : Bool) (body : Body) (number : ℕ) (more : List (List ℕ)) → (if b then Ok body else header_passed number more) ≡ Err NotRinexNav
    → (b ≡ false) × (header_passed number more ≡ Err NotRinexNav)
passed_by true body number more e = absurd cc
passed_by false body number more e = (refl, e)

passed_on : (ls rest : List (List ℕ)) (number : ℕ) → header_passed number ls ≡ Err NotRinexNav → header_passed number (ls ++ rest) ≡ header_passed (number + length ls) rest
passed_on [] rest number none =
    let same : number ≡ number + 0 = omega arith in
    ap (λ (n : ℕ). header_passed n rest) same
passed_on (l ∷ ls) rest number none =
    let one : length (l ∷ ls) ≡ suc (length ls) = refl in
    let sum : number + 1 + length ls ≡ number + length (l ∷ ls) = omega (arith, one) in
    let parts = passed_by (ends_header l) (record { number = number + 1; lines = ls }) (number + 1) ls none in
    ap (λ (b : Bool). if b then Ok (record { number = number + 1; lines = ls ++ rest }) else header_passed (number + 1) (ls ++ rest)) parts.0
    ∙ passed_on ls rest (number + 1) parts.1 ∙ ap (λ (n : ℕ). header_passed n rest) sum

-- no line ends it, and none of one line more
pub still_open : (ls : List (List ℕ)) (line : List ℕ) → ((number : ℕ) → header_passed number ls ≡ Err NotRinexNav) → ends_header line ≡ false
    → (number : ℕ) → header_passed number (ls ++ line ∷ []) ≡ Err NotRinexNav
still_open ls line none other number =
    passed_on ls (line ∷ []) number (none number)
    ∙ ap (λ (b : Bool). if b then Ok (record { number = number + length ls + 1; lines = [] }) else header_passed (number + length ls + 1) []) other

-- one line more ends it
pub header_ends : (ls rest : List (List ℕ)) (line : List ℕ) (number : ℕ) → header_passed number ls ≡ Err NotRinexNav → ends_header line ≡ true
    → header_passed number (ls ++ line ∷ rest) ≡ Ok (record { number = number + length (ls ++ line ∷ []); lines = rest })
header_ends ls rest line number none is =
    let sum : number + length ls + 1 ≡ number + length (ls ++ line ∷ []) = omega (arith, length-append ls (line ∷ [])) in
    passed_on ls (line ∷ rest) number none
    ∙ ap (λ (b : Bool). if b then Ok (record { number = number + length ls + 1; lines = rest }) else header_passed (number + length ls + 1) rest) is
    ∙ ap (λ (n : ℕ). Ok (record { number = n; lines = rest })) sum

-- ---- the ends that are found

-- the line behind `at` begins the next record
pub next_ends : {R : Type 0} (f : Form R) (text line : List ℕ) (is_end : Bool) (at n : ℕ) → 0 < at → at ≤ length text → AreWhole (take at text) → AreOfOne f (lines_of (take at text))
    → EndsAt (drop at text) n → line ≡ without_cr (take n (drop at text)) → begins f line ≡ true → EndsRecord f text is_end at
next_ends f text line is_end at n some within whole one h is first = record {
  within = within;
  lines = λ _ following may. cut_lines text following at whole;
  one = one;
  next = λ _ following may. inr (subst (BeginsOne f) (sym (line_then (drop at text) following line n h is)) first);
  more = λ none _. absurd (omega (arith, none, some));
  none = λ none _. absurd (omega (arith, none, some));
}

-- the last line, which has no end, does
pub last_ends : {R : Type 0} (f : Form R) (text line : List ℕ) (is_end : Bool) (at : ℕ) → 0 < at → at < length text → AreWhole (take at text) → AreOfOne f (lines_of (take at text))
    → ends (drop at text) ≡ false → line ≡ without_cr (drop at text) → begins f line ≡ true → is_end ≡ true → EndsRecord f text is_end at
last_ends f text line is_end at some within whole one none is first end = record {
  within = omega (arith, within);
  lines = λ _ following may. cut_lines text following at whole;
  one = one;
  next = λ _ following may. inr (subst (λ (l : List ℕ). BeginsOne f (lines_of (drop at text ++ l))) (sym (may end))
      (subst (λ (l : List ℕ). BeginsOne f (lines_of l)) (sym (append-nil (drop at text)))
      (subst (BeginsOne f) (sym (line_last (drop at text) line none (omega (arith, within, length-drop at text)) is)) first)));
  more = λ zero _. absurd (omega (arith, zero, some));
  none = λ zero _. absurd (omega (arith, zero, some));
}

-- no line that has ended does, and more bytes may come
pub not_yet : {R : Type 0} (f : Form R) (text : List ℕ) (is_end : Bool) (at : ℕ) → AreWhole (take at text) → AreOfOne f (lines_of (take at text)) → ends (drop at text) ≡ false
    → is_end ≡ false → EndsRecord f text is_end 0
not_yet f text is_end at whole one none more = record {
  within = omega arith;
  lines = λ some _ _. absurd (omega (arith, some));
  one = tt;
  next = λ some _ _. absurd (omega (arith, some));
  more = λ _ _. subst (AreOfOne f) (sym (cut_ended text at whole none)) one;
  none = λ _ end. let both : true ≡ false = sym end ∙ more in absurd cc;
}

rest_one : {R : Type 0} (f : Form R) (rest : List ℕ) (ls : List (List ℕ)) → AreOfOne f ls → ends rest ≡ false → (length rest ≡ 0) ⊎ ((ls ≡ []) ⊎ (begins f (without_cr rest) ≡ false))
    → AreOfOne f (ls ++ lines_of rest)
rest_one f rest ls one none (inr other) = by_length rest none other where
  by_length : (r : List ℕ) → ends r ≡ false → (ls ≡ []) ⊎ (begins f (without_cr r) ≡ false) → AreOfOne f (ls ++ lines_of r)
  by_length [] h o = subst (AreOfOne f) (sym (append-nil ls)) one
  by_length (x ∷ r) h o = subst (λ (l : List (List ℕ)). AreOfOne f (ls ++ l)) (sym (line_last (x ∷ r) (without_cr (x ∷ r)) h (omega arith) refl)) (one_longer f ls (without_cr (x ∷ r)) one o)
rest_one f [] ls one none (inl empty) = subst (AreOfOne f) (sym (append-nil ls)) one
rest_one f (x ∷ rest) ls one none (inl empty) = absurd (omega (arith, empty))

-- all is one record
pub all_ends : {R : Type 0} (f : Form R) (text : List ℕ) (is_end : Bool) (at : ℕ) → at ≤ length text → AreWhole (take at text) → AreOfOne f (lines_of (take at text)) → ends (drop at text) ≡ false
    → is_end ≡ true → (length text ≤ at) ⊎ ((at ≡ 0) ⊎ (begins f (without_cr (drop at text)) ≡ false)) → EndsRecord f text is_end (length text)
all_ends f text is_end at within whole one none end other =
    let nil : List ℕ = [] in
    let full : take (length text) text ≡ text = take_all (length text) text (omega arith) in
    let empty : drop (length text) text ≡ [] = drop_all (length text) text (omega arith) in
    let split : lines_of text ≡ lines_of (take at text) ++ lines_of (drop at text) =
    ap lines_of (sym (append-nil text)) ∙ cut_lines text nil at whole ∙ ap (λ (l : List ℕ). lines_of (take at text) ++ lines_of l) (append-nil (drop at text)) in
    record {
      within = omega arith;
      lines = λ _ following may.
          subst (λ (l : List ℕ). lines_of (text ++ l) ≡ lines_of (take (length text) text) ++ lines_of (drop (length text) text ++ l)) (sym (may end))
          (rw full (rw empty (ap lines_of (append-nil text) ∙ sym (append-nil (lines_of text)))));
      one = subst (λ (l : List ℕ). AreOfOne f (lines_of l)) (sym full)
          (subst (AreOfOne f) (sym split) (rest_one f (drop at text) (lines_of (take at text)) one none (which other)));
      next = λ _ following may. inl (end, refl);
      more = λ _ not. let both : true ≡ false = sym end ∙ not in absurd cc;
      none = λ zero _. length_zero text zero;
    }
  where
    which : (length text ≤ at) ⊎ ((at ≡ 0) ⊎ (begins f (without_cr (drop at text)) ≡ false))
        → (length (drop at text) ≡ 0) ⊎ ((lines_of (take at text) ≡ []) ⊎ (begins f (without_cr (drop at text)) ≡ false))
    which (inl past) = inl (omega (arith, past, length-drop at text))
    which (inr (inl zero)) = inr (inl (ap (λ (n : ℕ). lines_of (take n text)) zero))
    which (inr (inr no_record)) = inr (inr no_record)

    length_zero : (t : List ℕ) → length t ≡ 0 → t ≡ []
    length_zero [] e = refl
    length_zero (x ∷ t) e = absurd (omega (arith, e))

-- the line behind `at` is the last of the header
pub header_found : (text line : List ℕ) (at n : ℕ) → at ≤ length text → AreWhole (take at text) → ((number : ℕ) → header_passed number (lines_of (take at text)) ≡ Err NotRinexNav)
    → EndsAt (drop at text) n → line ≡ without_cr (take n (drop at text)) → ends_header line ≡ true → EndsHeader text (at + (n + 1))
header_found text line at n within whole none h is end = record {
  within = omega (arith, within, h.within, length-drop at text);
  header = λ _ number following.
      ap (header_passed number) (cut_lines text following at whole ∙ ap (λ (ls : List (List ℕ)). lines_of (take at text) ++ ls) (line_then (drop at text) following line n h is))
      ∙ header_ends (lines_of (take at text)) (lines_of (drop (n + 1) (drop at text) ++ following)) line number (none number) end
      ∙ ap (λ (ls : List (List ℕ)). Ok (record { number = number + length ls; lines = lines_of (drop (n + 1) (drop at text) ++ following) })) (sym (next_lines text line at n whole h is))
      ∙ ap (λ (l : List ℕ). Ok (record { number = number + length (lines_of (take (at + (n + 1)) text)); lines = lines_of (l ++ following) })) (drop-drop (n + 1) at text);
  none = λ zero. absurd (omega (arith, zero));
}

-- no line that has ended is
pub header_open : (text : List ℕ) (at : ℕ) → AreWhole (take at text) → ((number : ℕ) → header_passed number (lines_of (take at text)) ≡ Err NotRinexNav)
    → ends (drop at text) ≡ false → EndsHeader text 0
header_open text at whole none open_rest = record {
  within = omega arith;
  header = λ some. absurd (omega (arith, some));
  none = λ _ number. ap (header_passed number) (cut_ended text at whole open_rest) ∙ none number;
}
