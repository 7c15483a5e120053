use Rattle.nets.proofs.Filling.{take-set}
use Rattle.nets.proofs.fixed_vec.FixedVec.set.Goals as goal

pub returns-then-index-self : goal.returns-then-index-self
returns-then-index-self g c = take-set c.args.self.now.count c.args.self.now.items c.args.index c.args.item
