use Rattle.std.proofs.Common.{arith}
use Rattle.ladders.proofs.Named.{named_within}
use Rattle.ladders.proofs.run.run_steps.Goals as goal

pub take_step-flow-requires : goal.take_step-flow-requires
take_step-flow-requires g c =
    named_within c.args.steps.now _ c.loop-step.step-index _ c.requires.whole (omega arith) c.loop-step-test.true
