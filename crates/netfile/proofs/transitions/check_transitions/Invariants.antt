use Rattle.std.proofs.Common.{◌≡◌, []}
use Rattle.nets.specs.Nets.{at}
use Rattle.nets.specs.Stored.{net_of}
use Rattle.netfile.specs.Rules.{each_below, transition_broken}
use Rattle.netfile.proofs.transitions.check_transitions.Given as goal

abbrev pub invariant-loop-i : goal.invariant-loop-i
invariant-loop-i l = each_below (λ t. transition_broken (at (net_of l.net) t) t) l.i ≡ []
