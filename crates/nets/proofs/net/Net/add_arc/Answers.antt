use Rattle.std.proofs.Common.{ap, ◌∙◌, arith}
use Rattle.nets.proofs.Filling.{arc_put}
use Rattle.nets.specs.Stored.{with_arc}
use Rattle.nets.proofs.net.Net.add_arc.Goals as goal

pub returns-in-Some : goal.returns-in-Some
returns-in-Some c =
    let held = c.in-Some.ensures in
    arc_put c.args.self.now c.args.transition c.with_arc-joined.result _ c.set.ensures c.args.kind c.args.place held.0
    (omega (arith, c.len.ensures.count, c.if-place-len.false)) (c.with_arc-joined.ensures ∙ ap (λ t. with_arc t c.args.kind c.args.place) held.1)
