use Rattle.std.proofs.Common.{ap, ◌∙◌}
use Rattle.bitset.specs.Room.{word_of}
use Rattle.nets.proofs.Items.{item_at}
use Rattle.nets.specs.Nets.{at}
use Rattle.nets.specs.Stored.{net_of}
use Rattle.tokengame.proofs.Unions.{union_more, union_same}
use Rattle.tokengame.proofs.one_round.fire_all.Goals as goal
use Rattle.tokengame.proofs.one_round.fire_all.Goals.{then-has, else-has}

pub loop-number-preserved : goal.loop-number-preserved
loop-number-preserved c =
    let n = net_of c.args.net.now in
    let r = word_of c.args.fired in
    let k = c.loop-number.number in
    let here = item_at n _ c.transitions-transition-items.ensures.items k c.transition-item.result c.loop-number-test.true c.transition-item.is in
    elim c.if-has.branch [
      | then-has w ↦ (
        ap word_of w.consumed-is ∙ w.union-consumed.ensures
            ∙ union_more (λ t. (at n t).consumes) r k _ c.loop-number.invariant.0 _ (ap (λ x. x.consumes) here) w.if-has.ensures,
        ap word_of w.produced-is ∙ w.union-produced.ensures
            ∙ union_more (λ t. (at n t).produces) r k _ c.loop-number.invariant.1 _ (ap (λ x. x.produces) here) w.if-has.ensures,
      )
      | else-has w ↦ (
        ap word_of w.consumed-is ∙ union_same (λ t. (at n t).consumes) r k _ c.loop-number.invariant.0 w.if-has.ensures,
        ap word_of w.produced-is ∙ union_same (λ t. (at n t).produces) r k _ c.loop-number.invariant.1 w.if-has.ensures,
      )
    ]
