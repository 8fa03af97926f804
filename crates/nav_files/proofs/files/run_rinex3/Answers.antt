use Rattle.nav_files.proofs.files.run_rinex3.Goals as goal

pub returns : goal.returns
returns g c = rw c.target.ensures at c.run_file.ensures
