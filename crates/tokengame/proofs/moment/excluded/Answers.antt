use Rattle.std.proofs.Common.{◌≡◌, ℕ, ◌<◌, ◌&&◌, true, false, length, get_or, take, rules, ap, ◌∙◌, subst, arith}
use Rattle.std.proofs.iter.runs.Made.{chains}
use Rattle.std.proofs.lemmas.List.{get_or-take, length-take-le}
use Rattle.std.specs.Bool.{MatchBool}
use Rattle.bitset.specs.Room.{word_of}
use Rattle.bitset.specs.Sets.{has}
use Rattle.nets.proofs.Items.{at_item, as_long}
use Rattle.nets.specs.Firing.{conflict}
use Rattle.nets.specs.Nets.{at}
use Rattle.nets.specs.Rounds.{conflicts_below}
use Rattle.nets.specs.Stored.{net_of, transition_of}
use Rattle.tokengame.proofs.Searched.{conflicts_first_is}
use Rattle.tokengame.proofs.moment.excluded.Goals as goal

pub returns : goal.returns
returns c =
    let all = c.transitions-transitions.result.now in
    let d = c.args.transition.now in
    let long : length (take c.min.result all) ≡ c.min.result = length-take-le c.min.result all (omega (arith, c.min.ensures)) in
    let found : MatchBool c.any.result
    ((i : ℕ) × (i < c.min.result) × ((has (word_of c.args.taken) i && conflict (transition_of (get_or (take c.min.result all) i d)) (transition_of d)) ≡ true))
    ((i : ℕ) → i < c.min.result → (has (word_of c.args.taken) i && conflict (transition_of (get_or (take c.min.result all) i d)) (transition_of d)) ≡ false) =
    search (rules, chains, long) in
    λ h.
    let n = net_of c.args.net.now in
    let r = word_of c.args.taken in
    let x = transition_of d in
    let same = c.transitions-transitions.ensures.items in
    let k = c.min.result in
    let full : length all ≡ length n.transitions = as_long n all same in
    let here : (i : ℕ) → i < k → transition_of (get_or (take k all) i d) ≡ at n i =
    λ i j. ap transition_of (get_or-take k all i d j) ∙ at_item n all same i d (omega (arith, j, c.min.ensures)) in
    let whole : k ≡ c.args.number = omega (arith, full, h, c.min.ensures) in
    subst (λ j. c.any.result ≡ conflicts_below n r x j) whole (conflicts_first_is n r x (take k all) d k here c.any.result found)
