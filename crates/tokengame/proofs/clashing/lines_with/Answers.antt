use Rattle.std.proofs.Common.{rules}
use Rattle.std.proofs.iter.runs.Made.{chains}
use Rattle.nets.specs.Clashes.{lines_of_both}
use Rattle.tokengame.proofs.Searched.{first_is}
use Rattle.tokengame.proofs.clashing.lines_with.Goals as goal

pub returns : goal.returns
returns c = first_is (lines_of_both c.args.term) c.args.others.now c.find_map.result (search (rules, chains))
