use Rattle.std.proofs.Common.{◌^◌}
use Rattle.std.proofs.lemmas.Nat.{same_from_place}
use Rattle.nav_bits.proofs.laws.one_split.Goals as goal

pub returns : goal.returns
returns c = λ l high low high' low'. same_from_place high low high' low' (2 ^ l)
