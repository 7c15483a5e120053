use Rattle.std.proofs.Common.{◌≡◌, drop}
use Rattle.ladders.specs.Grammar.{from, grammar}
use Rattle.ladders.proofs.grammar.first_fault.Given as goal

abbrev pub invariant-loop-index : goal.invariant-loop-index
invariant-loop-index l = from l.position l.index (drop l.index l.steps) ≡ grammar l.steps
