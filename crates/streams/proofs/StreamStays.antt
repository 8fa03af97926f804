-- What is written and reported of the first bytes of a stream stays as more come.
use Rattle.std.proofs.Common.{◌≡◌, ℕ, List, ◌++◌, sym, ap, ◌∙◌, subst, append_assoc}
use Rattle.nav_io.specs.Prefix.{IsPrefix}
use Rattle.nav_eph.specs.declared.items.NavItem.{NavItem}
use Rattle.framing.specs.Frames.{decided, frames, undecided}
use Rattle.streams.specs.Streams.{Reading, flushed_output_by, flushed_readings, readings, readings_output, readings_report, stream_counts, stream_counts_text, stream_output_by, stream_report}
use Rattle.streams.proofs.DecidedLemmas.{decided_behind}
use Rattle.streams.proofs.StreamEnds.{output_longer, readings_append, report_longer}

-- of frames, and of these and more
module _ (prefix : List ℕ) (text : NavItem → List ℕ) (r : ℕ) (few all rest : List (List ℕ)) (are : all ≡ few ++ rest) where
  split : readings r all ≡ readings r few ++ readings r rest
  split = ap (readings r) are ∙ readings_append r few rest

  output_of_frames : IsPrefix (readings_output prefix text (readings r few)) (readings_output prefix text (readings r all))
  output_of_frames =
      subst (λ (l : List Reading). IsPrefix (readings_output prefix text (readings r few)) (readings_output prefix text l)) (sym split) (output_longer prefix text (readings r rest) (readings r few))

  report_of_frames : IsPrefix (readings_report 1 (readings r few)) (readings_report 1 (readings r all))
  report_of_frames = subst (λ (l : List Reading). IsPrefix (readings_report 1 (readings r few)) (readings_report 1 l)) (sym split) (report_longer 1 (readings r few) (readings r rest))

module _ (prefix : List ℕ) (text : NavItem → List ℕ) (r : ℕ) (bytes more : List ℕ) where
  -- while more may come
  pub of_pieces : IsPrefix (flushed_output_by prefix text r bytes) (flushed_output_by prefix text r (bytes ++ more))
      × IsPrefix (readings_report 1 (flushed_readings r bytes)) (readings_report 1 (flushed_readings r (bytes ++ more)))
  of_pieces =
      let are = decided_behind bytes more in
      let rest = decided (undecided bytes ++ more) in
      (output_of_frames prefix text r (decided bytes) (decided (bytes ++ more)) rest are, report_of_frames prefix text r (decided bytes) (decided (bytes ++ more)) rest are)

  -- of the whole
  pub of_whole : ((some following : List ℕ) → frames (some ++ following) ≡ decided some ++ frames (undecided some ++ following))
      → IsPrefix (flushed_output_by prefix text r bytes) (stream_output_by prefix text r (bytes ++ more))
      × IsPrefix (readings_report 1 (flushed_readings r bytes)) (stream_report r (bytes ++ more))
  of_whole stay =
      let are = stay bytes more in
      let rest = frames (undecided bytes ++ more) in
      let told = report_of_frames prefix text r (decided bytes) (frames (bytes ++ more)) rest are in
      let counts = stream_counts_text (stream_counts r (bytes ++ more)) in (
        output_of_frames prefix text r (decided bytes) (frames (bytes ++ more)) rest are,
        (told.0 ++ counts, ap (λ (l : List ℕ). l ++ counts) told.1 ∙ append_assoc (readings_report 1 (flushed_readings r bytes)) told.0 counts),
      )
