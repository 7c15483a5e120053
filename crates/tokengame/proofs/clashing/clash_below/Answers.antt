use Rattle.std.proofs.Common.{◌≡◌, ℕ, ◌<◌, min, length, get_or, take, rules, ap, ◌∙◌, arith}
use Rattle.std.proofs.iter.runs.Made.{chains}
use Rattle.std.proofs.lemmas.List.{get_or-take, length-take-le}
use Rattle.nets.proofs.Items.{at_item, as_long}
use Rattle.nets.specs.Clashes.{clash_between, clash_with}
use Rattle.nets.specs.Nets.{at}
use Rattle.nets.specs.Stored.{net_of, transition_of}
use Rattle.tokengame.proofs.Searched.{first_below_is, first_same}
use Rattle.tokengame.proofs.clashing.clash_below.Goals as goal

pub returns : goal.returns
unfolding clash_with
returns c =
    let n = net_of c.args.net.now in
    let d = c.args.other.now in
    let u = transition_of d in
    let j = c.args.higher in
    let all = c.transitions-transitions.result.now in
    let same = c.transitions-transitions.ensures.items in
    let k = min j (length all) in
    let full : length all ≡ length n.transitions = as_long n all same in
    let long : length (take k all) ≡ k = length-take-le k all (omega arith) in
    let here : (i : ℕ) → i < k → transition_of (get_or (take k all) i d) ≡ at n i =
    λ i h. ap transition_of (get_or-take k all i d h) ∙ at_item n all same i d (omega (arith, h)) in
    let below : c.find_map.result ≡ clash_with n u j k =
    first_below_is (λ i. clash_between (transition_of (get_or (take k all) i d)) u i j) k c.find_map.result (search (rules, chains, long))
    ∙ first_same (λ i. clash_between (transition_of (get_or (take k all) i d)) u i j) (λ i. clash_between (at n i) u i j) k
    (λ i h. ap (λ t. clash_between t u i j) (here i h)) in
    below ∙ ap (λ (m : ℕ). clash_with n u j (min j m)) full
