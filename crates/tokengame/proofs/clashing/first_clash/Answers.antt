use Rattle.std.proofs.Common.{◌≡◌, min, length, get_or, rules, sym, ap, ◌∙◌, subst, arith}
use Rattle.std.proofs.iter.runs.Made.{chains}
use Rattle.nets.proofs.Items.{at_item, as_long, some_transition}
use Rattle.nets.specs.Clashes.{clash_with, clash_below, first_below, first_clash, Told}
use Rattle.nets.specs.Nets.{at}
use Rattle.nets.specs.Stored.{net_of, transition_of}
use Rattle.tokengame.proofs.Clashes.{first_told}
use Rattle.tokengame.proofs.Searched.{first_below_is, first_same}
use Rattle.tokengame.proofs.clashing.first_clash.Goals as goal

pub returns : goal.returns
returns c =
    let n = net_of c.args.net.now in
    let d = some_transition in
    let all = c.transitions.result.now in
    let same = c.transitions.ensures.items in
    let full : length all ≡ length n.transitions = as_long n all same in
    let told : c.find_map.result ≡ first_below (λ j. clash_with n (transition_of (get_or all j d)) j (min j (length n.transitions))) (length all) =
    first_below_is (λ j. clash_with n (transition_of (get_or all j d)) j (min j (length n.transitions))) (length all) c.find_map.result (search (rules, chains)) in
    let first : c.find_map.result ≡ first_clash n =
    told ∙ first_same (λ j. clash_with n (transition_of (get_or all j d)) j (min j (length n.transitions))) (clash_below n) (length all)
    (λ j h. ap (λ t. clash_with n t j (min j (length n.transitions))) (at_item n all same j d h) ∙ ap (clash_with n (at n j) j) (omega (arith, full, h)))
    ∙ ap (first_below (clash_below n)) full in
    record { answer = first; law = subst (Told n) (sym first) (first_told n) }
