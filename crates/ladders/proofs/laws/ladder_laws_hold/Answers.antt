use Rattle.ladders.proofs.Judged.{grammar_tells}
use Rattle.ladders.proofs.RungRuns.{rungs_in_turn}
use Rattle.ladders.proofs.laws.ladder_laws_hold.Goals as goal

pub returns-clause-grammar : goal.returns-clause-grammar
returns-clause-grammar g c = grammar_tells

pub returns-clause-rungs : goal.returns-clause-rungs
returns-clause-rungs g c = rungs_in_turn g.L.Level.operations
