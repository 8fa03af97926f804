use Rattle.nav_lists.specs.Ranks.{ranked_of}
use Rattle.all_systems.specs.Merging.{outlet_of}
use Rattle.all_systems.proofs.merge.run_system_merge.Goals as goal

pub run_file-requires : goal.run_file-requires
unfolding ranked_of
run_file-requires g c = record {
  nothing = (c.new-4.ensures.counts (outlet_of c.args.to c.args.words.now), c.new-4.ensures.counted, c.new.ensures, c.new-2.ensures, c.new-3.ensures);
  known = λ read h. h;
}
