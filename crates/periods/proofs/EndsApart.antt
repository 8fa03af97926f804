-- Two sets of stamps, the second more than a window after the first: the ends of the union are those of either.
use Rattle.std.proofs.Common.{ℕ, ◌+◌, ◌<◌, ◌≤◌, ◌⊎◌, inl, inr, arith}
use Rattle.periods.specs.Ends.{IsEnd, IsEndOf}

-- the stamps of the first set lie more than a window below the watermark, and each has an end there; those of the second lie from
-- the watermark on
pub record AreApart (w watermark : ℕ) (first second all : ℕ → Type 0) : Type 0 where
  pub low : (s : ℕ) → first s → s + w < watermark
  pub high : (s : ℕ) → second s → watermark ≤ s
  pub left : (s : ℕ) → first s → all s
  pub right : (s : ℕ) → second s → all s
  pub cases : (s : ℕ) → all s → first s ⊎ second s
  pub ends : (s : ℕ) → first s → (e : ℕ) × IsEndOf w first e s

pub left_end : (w watermark : ℕ) (first second all : ℕ → Type 0) (e : ℕ) → AreApart w watermark first second all → IsEnd w first e → IsEnd w all e
left_end w watermark first second all e apart h = record {
  heard = apart.left e h.heard;
  quiet = λ s hs l. elim (apart.cases s hs) [
    | inl a ↦ h.quiet s a l
    | inr b ↦ omega (arith, apart.low e h.heard, apart.high s b)
  ];
}

pub right_end : (w watermark : ℕ) (first second all : ℕ → Type 0) (e : ℕ) → AreApart w watermark first second all → IsEnd w second e → IsEnd w all e
right_end w watermark first second all e apart h = record {
  heard = apart.right e h.heard;
  quiet = λ s hs l. elim (apart.cases s hs) [
    | inl a ↦ absurd (omega (arith, apart.low s a, apart.high e h.heard))
    | inr b ↦ h.quiet s b l
  ];
}

pub end_cases : (w watermark : ℕ) (first second all : ℕ → Type 0) (e : ℕ) → AreApart w watermark first second all → IsEnd w all e → IsEnd w first e ⊎ IsEnd w second e
end_cases w watermark first second all e apart h = elim (apart.cases e h.heard) [
  | inl a ↦ inl (record { heard = a; quiet = λ s hs. h.quiet s (apart.left s hs) })
  | inr b ↦ inr (record { heard = b; quiet = λ s hs. h.quiet s (apart.right s hs) })
]

pub left_end_of : (w watermark : ℕ) (first second all : ℕ → Type 0) (e s : ℕ) → AreApart w watermark first second all → IsEndOf w first e s → IsEndOf w all e s
left_end_of w watermark first second all e s apart h = record {
  is_end = left_end w watermark first second all e apart h.is_end;
  after = h.after;
  first = λ o io l. elim (end_cases w watermark first second all o apart io) [
    | inl a ↦ h.first o a l
    | inr b ↦ omega (arith, apart.low e h.is_end.heard, apart.high o b.heard)
  ];
}

pub end_of_left : (w watermark : ℕ) (first second all : ℕ → Type 0) (e s : ℕ) → AreApart w watermark first second all → IsEnd w first e → IsEndOf w all e s → IsEndOf w first e s
end_of_left w watermark first second all e s apart he h = record {
  is_end = he;
  after = h.after;
  first = λ o io l. h.first o (left_end w watermark first second all o apart io) l;
}

pub right_end_of : (w watermark : ℕ) (first second all : ℕ → Type 0) (e s : ℕ) → AreApart w watermark first second all → watermark ≤ s → IsEndOf w second e s → IsEndOf w all e s
right_end_of w watermark first second all e s apart m h = record {
  is_end = right_end w watermark first second all e apart h.is_end;
  after = h.after;
  first = λ o io l. elim (end_cases w watermark first second all o apart io) [
    | inl a ↦ absurd (omega (arith, apart.low o a.heard))
    | inr b ↦ h.first o b l
  ];
}

pub end_of_right : (w watermark : ℕ) (first second all : ℕ → Type 0) (e s : ℕ) → AreApart w watermark first second all → IsEnd w second e → IsEndOf w all e s → IsEndOf w second e s
end_of_right w watermark first second all e s apart he h = record {
  is_end = he;
  after = h.after;
  first = λ o io l. h.first o (right_end w watermark first second all o apart io) l;
}

-- no stamp of the first set has its end in the second
pub none_across : (w watermark : ℕ) (first second all : ℕ → Type 0) (e s : ℕ) → AreApart w watermark first second all → first s → IsEnd w second e → IsEndOf w all e s → ⊥
none_across w watermark first second all e s apart hs he h =
    let f = apart.ends s hs in
    omega (arith, h.first f.0 (left_end w watermark first second all f.0 apart f.1.is_end) f.1.after, apart.low f.0 f.1.is_end.heard, apart.high e he.heard)
