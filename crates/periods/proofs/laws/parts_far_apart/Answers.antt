use Rattle.std.proofs.Common.{Contains, ◌++◌, inl, inr}
use Rattle.periods.proofs.ApartLemmas.{splits_lists, left_period, right_period, period_cases, found_left, found_right}
use Rattle.periods.proofs.laws.parts_far_apart.Goals as goal

pub returns : goal.returns
returns c = record {
  periods = λ w watermark some more q low high.
      let s = splits_lists w watermark some more low high in (
        λ h. period_cases w watermark (Contains some) (Contains more) (Contains (some ++ more)) q s h,
        λ h. elim h [
          | inl a ↦ left_period w watermark (Contains some) (Contains more) (Contains (some ++ more)) q s a
          | inr b ↦ right_period w watermark (Contains some) (Contains more) (Contains (some ++ more)) q s b
        ],
      );
  first = λ r w watermark some more q f low high hq.
      let s = found_left r w watermark (Contains some) (Contains more) (Contains (some ++ more)) q (splits_lists w watermark some more low high) hq in
      (s.from f, s.to f);
  second = λ r w watermark some more q f low high hq.
      let s = found_right r w watermark (Contains some) (Contains more) (Contains (some ++ more)) q (splits_lists w watermark some more low high) hq in
      (s.from f, s.to f);
}
