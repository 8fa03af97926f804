use Rattle.all_systems.proofs.file_run.run_system_file.Goals as goal

pub run_file-requires : goal.run_file-requires
run_file-requires g c = record {
  nothing = (c.new.ensures.counts c.args.to.now, c.new.ensures.counted, c.new-2.ensures.items);
  known = λ read h. h;
}
