use Rattle.std.proofs.lemmas.List.{take-replicate}
use Rattle.nets.proofs.fixed_vec.FixedVec.filled.Goals as goal

pub returns : goal.returns
returns g c = take-replicate c.args.count g.row.N c.args.item c.requires
