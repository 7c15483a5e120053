use Rattle.std.proofs.Common.{rules}
use Rattle.std.proofs.iter.runs.Made.{chains}
use Rattle.nets.specs.Clashes.{lines_with}
use Rattle.tokengame.proofs.Searched.{first_is}
use Rattle.tokengame.proofs.clashing.lines_for.Goals as goal

pub returns : goal.returns
returns c = first_is (λ t. lines_with t c.args.others.now) c.args.terms.now c.find_map.result (search (rules, chains))
