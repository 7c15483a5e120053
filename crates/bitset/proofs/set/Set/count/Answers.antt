use Rattle.std.proofs.Common.{arith}
use Rattle.bitset.specs.Room.{how_many}
use Rattle.bitset.proofs.Sets.{ones_members}
use Rattle.bitset.proofs.set.Set.count.Goals as goal

pub returns : goal.returns
unfolding how_many
returns g c = ones_members 64 c.args.self.word (omega arith)
