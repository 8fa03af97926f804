use Rattle.std.proofs.Common.{subst}
use Rattle.std.specs.Io.KnownBytes.{Appends}
use Rattle.nav_files.proofs.SentLemmas.{sent_is}
use Rattle.nav_files.proofs.sending.SendingTakerItemRead.finish.Goals as goal

pub returns-clause-output : goal.returns-clause-output
returns-clause-output g c = λ reads start held so_far. subst (Appends start (g.T.Sink.written c.args._output.now)) (sent_is c.args.self.now.r reads) so_far
