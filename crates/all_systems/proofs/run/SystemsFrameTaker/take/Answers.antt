use Rattle.all_systems.proofs.Taking.{room_of}
use Rattle.all_systems.proofs.run.SystemsFrameTaker.take.Goals as goal

pub take_frame-requires : goal.take_frame-requires
take_frame-requires g c = record { room = room_of c.args.self.now.kinds c.args.self.now.week c.args.state.now c.requires.few }
