use Rattle.std.proofs.Common.{◌≡◌, drop}
use Rattle.ladders.specs.Flows.{through, ran}
use Rattle.ladders.proofs.run.run_steps.Given as goal

abbrev pub invariant-loop-step : goal.invariant-loop-step
invariant-loop-step g l =
    let o = g.L.Level.operations in
    through o l.coils l.flow (drop l.step-index l.steps) ≡ ran o l.steps l.initial.coils
