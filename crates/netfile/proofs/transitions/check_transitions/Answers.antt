use Rattle.std.proofs.Common.{◌≡◌, ℕ, ◌<◌, length, Some, sym, ap, ◌∙◌, subst, arith}
use Rattle.std.specs.Result.{result_err}
use Rattle.std.proofs.lemmas.Result.{err_from_is_err_and}
use Rattle.nets.specs.Nets.{at}
use Rattle.bitset.specs.Lists.{first_of}
use Rattle.nets.specs.Stored.{net_of}
use Rattle.netfile.specs.Rules.{each_below, transition_broken}
use Rattle.nets.proofs.Items.{item_at, as_long}
use Rattle.netfile.proofs.Lists.{none_more, first_at}
use Rattle.netfile.proofs.transitions.check_transitions.Goals as goal

pub returns-in_err-check_transition : goal.returns-in_err-check_transition
returns-in_err-check_transition c =
    let p = err_from_is_err_and c.from_residual.result c.from_residual.ensures.1 in
    let n = net_of c.args.net.now in
    let here = item_at n _ c.transitions-transition-items.ensures.items c.loop-i.i c.transition-item.result c.loop-i-test.true c.transition-item.is in
    let long = as_long n _ c.transitions-transition-items.ensures.items in
    ap result_err p.1
    ∙ sym (first_at (λ t. transition_broken (at n t) t) c.loop-i.i (length n.transitions) p.0
    (subst (λ (k : ℕ). c.loop-i.i < k) long c.loop-i-test.true) c.loop-i.invariant
    (ap (λ x. first_of (transition_broken x c.loop-i.i)) (sym here) ∙ sym c.in_err-check_transition.ensures ∙ ap Some (sym p.2)))

pub loop-i-preserved : goal.loop-i-preserved
loop-i-preserved c =
    let n = net_of c.args.net.now in
    let here = item_at n _ c.transitions-transition-items.ensures.items c.loop-i.i c.transition-item.result c.loop-i-test.true c.transition-item.is in
    none_more (λ t. transition_broken (at n t) t) c.loop-i.i c.loop-i.invariant
    (ap (λ x. first_of (transition_broken x c.loop-i.i)) (sym here) ∙ sym c.in_ok-check_transition.ensures)

pub returns : goal.returns
returns c =
    let n = net_of c.args.net.now in
    let long = as_long n _ c.transitions-transition-items.ensures.items in
    let all : c.loop-i.i ≡ length n.transitions = omega (arith, c.loop-i-test.false, c.loop-i.auto.i-end) in
    sym (ap first_of (subst (λ (k : ℕ). each_below (λ t. transition_broken (at n t) t) k ≡ _) all c.loop-i.invariant))
