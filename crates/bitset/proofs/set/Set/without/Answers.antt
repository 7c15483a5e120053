use Rattle.std.proofs.Common.{◌∙◌, arith}
use Rattle.bitset.proofs.Sets.{and_complement}
use Rattle.bitset.proofs.set.Set.without.Goals as goal

pub returns : goal.returns
returns g c = c.from.ensures ∙ and_complement 64 c.args.self.word c.args.other.word (omega arith) (omega arith)
