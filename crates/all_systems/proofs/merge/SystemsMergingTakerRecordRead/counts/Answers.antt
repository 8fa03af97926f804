use Rattle.std.proofs.Common.{length, ap, ◌∙◌}
use Rattle.all_systems.specs.Merging.{outlet_of}
use Rattle.all_systems.specs.declared.counts.SystemCounts.{SystemCounts}
use Rattle.all_systems.proofs.Merges.{counts_are, kept_is}
use Rattle.all_systems.proofs.merge.SystemsMergingTakerRecordRead.counts.Goals as goal

pub returns : goal.returns
returns c = λ reads held.
    let s = c.args.state.now in
    let kept = kept_is reads c.len.result c.len-2.result s.counts.records c.sum_within.result
    (c.len.ensures ∙ ap length held.2) (c.len-2.ensures ∙ ap length held.3)
    (ap (λ (x : SystemCounts). x.records) held.0) c.sum_within.ensures in
    counts_are (outlet_of c.args.self.now.to c.args.self.now.words) reads s.counts c.sum_within.result held.0 kept
