use Rattle.nets.proofs.Filling.{nothing_filled}
use Rattle.nets.proofs.net.Net.blank.Goals as goal

pub returns : goal.returns
returns c = nothing_filled c.args.counts _ _ _ c.unconnected.result c.empty.ensures c.filled.ensures c.filled-2.ensures c.unconnected.ensures
