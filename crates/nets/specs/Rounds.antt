-- Rounds: what a round reports, where it ends, and the laws that say the same in the words of the net.
use Rattle.std.specs.Prelude.{◌≡◌, ℕ, zero, suc, ◌+◌, ◌^◌, ◌<◌, Bool, true, false, cond, not, ◌&&◌, ◌||◌, List, [], ◌∷◌, length, ◌==◌, bit_and, bit_or, slice_index}
use Rattle.std.specs.List.Sorted.{IsPermutation}
use Rattle.bitset.specs.Sets.{has, without, only, below, members}
use Rattle.nets.specs.Nets.{Net, Transition, at}
use Rattle.nets.specs.Firing.{can_fire, fire, conflict}
use Rattle.nets.specs.WellFormed.{WellFormed}

-- where a round begins: at the start places, if no place is marked
abbrev pub begins : Net → ℕ → ℕ
begins n m = cond (m == 0) n.start m

-- some transition of r below k conflicts with this one
abbrev pub conflicts_below : Net → ℕ → Transition → ℕ → Bool
conflicts_below n r x zero = false
conflicts_below n r x (suc k) = (has r k && conflict (at n k) x) || conflicts_below n r x k

-- some transition of r below k conflicts with transition t
abbrev pub excluded : Net → ℕ → ℕ → ℕ → Bool
excluded n r t k = conflicts_below n r (at n t) k

-- r are those taken below t: and t, if it can fire and conflicts with none of them
abbrev pub take_next : Net → ℕ → ℕ → ℕ → ℕ → ℕ
take_next n m w t r = cond (can_fire m w (at n t) && not (excluded n r t t)) (bit_or r (only t)) r

-- the transitions below k that are taken at marking m under line word w, in rising number
abbrev pub taken : Net → ℕ → ℕ → ℕ → ℕ
taken n m w zero = 0
taken n m w (suc t) = take_next n m w t (taken n m w t)

-- what a round reports
abbrev pub report : Net → ℕ → ℕ → ℕ
report n m w = taken n (begins n m) w (length n.transitions)

-- the sets of the members of r below k, joined
abbrev pub union : (ℕ → ℕ) → ℕ → ℕ → ℕ
union f r zero = 0
union f r (suc k) = bit_or (cond (has r k) (f k) 0) (union f r k)

-- all that the transitions of r below a number consume
abbrev pub consumed : Net → ℕ → ℕ → ℕ
consumed n = union (λ t. (at n t).consumes)

-- all that they produce
abbrev pub produced : Net → ℕ → ℕ → ℕ
produced n = union (λ t. (at n t).produces)

-- all of r fire together
abbrev pub fire_all : Net → ℕ → ℕ → ℕ
fire_all n r m = bit_or (without m (consumed n r (length n.transitions))) (produced n r (length n.transitions))

-- where a round ends
abbrev pub ends : Net → ℕ → ℕ → ℕ
ends n m w = fire_all n (report n m w) (begins n m)

-- the outputs of a marking: all that its marked places raise
abbrev pub outputs_of : Net → ℕ → ℕ
outputs_of n m = union (λ p. slice_index n.raises p) m n.places

-- an output is one of a marking's exactly where a marked place raises it
pub record Raised (n : Net) (m : ℕ) : Type 0 where
  pub by_some : (o : ℕ) → has (outputs_of n m) o ≡ true → (p : ℕ) × (p < n.places) × (has m p ≡ true) × (has (slice_index n.raises p) o ≡ true)
  pub by_each : (o p : ℕ) → p < n.places → has m p ≡ true → has (slice_index n.raises p) o ≡ true → has (outputs_of n m) o ≡ true

-- THE LAWS OF A ROUND

-- fired one after the other, each can fire at its turn, and the last leaves the second marking
abbrev pub Fires : Net → ℕ → ℕ → List ℕ → ℕ → Type 0
Fires n w m [] m' = m ≡ m'
Fires n w m (t ∷ ts) m' = (can_fire m w (at n t) ≡ true) × Fires n w (fire m (at n t)) ts m'

-- a round from marking m under line word w, by its report r and its end m'
pub record Round (n : Net) (w m r m' : ℕ) : Type 0 where
  -- it reports transitions of the net only
  pub of_the_net : r < 2 ^ length n.transitions
  -- the reported ones, fired singly in any order from where it begins, can each fire at their turn and end where it ends
  pub any_order : (ts : List ℕ) → IsPermutation (members r (length n.transitions)) ts → Fires n w (begins n m) ts m'
  -- what could fire as it began and is not reported conflicts with a reported one of lower number
  pub lowest_first : (t : ℕ) → t < length n.transitions → can_fire (begins n m) w (at n t) ≡ true → has r t ≡ false
      → (u : ℕ) × (u < t) × (has r u ≡ true) × (conflict (at n u) (at n t) ≡ true)

-- the defined report and end keep the laws
abbrev pub RoundsKeepTheirLaws : Type 0
RoundsKeepTheirLaws = (n : Net) (m w : ℕ) → Round n w m (report n m w) (ends n m w)

-- and nothing else keeps them: the laws tell what a round reports and where it ends
abbrev pub LawsTellTheRound : Type 0
LawsTellTheRound = (n : Net) (w m r m' : ℕ) → Round n w m r m' → (r ≡ report n m w) × (m' ≡ ends n m w)

-- lines that a well-formed net lacks play no part in its rounds
abbrev pub LinesIgnored : Net → ℕ → ℕ → Type 0
LinesIgnored n m w =
    WellFormed n → (report n m w ≡ report n m (bit_and w (below n.lines))) × (ends n m w ≡ ends n m (bit_and w (below n.lines)))

-- WEIGHTS

-- x, or nothing
abbrev pub weigh : Bool → ℕ → ℕ
weigh true x = x
weigh false x = 0

-- what the places of m below k weigh together
abbrev pub weight : (ℕ → ℕ) → ℕ → ℕ → ℕ
weight f m zero = 0
weight f m (suc k) = weight f m k + weigh (has m k) (f k)

-- weights by which every transition takes what it gives
abbrev pub Balanced : Net → (ℕ → ℕ) → Type 0
Balanced n f = (t : ℕ) → t < length n.transitions → weight f (at n t).consumes n.places ≡ weight f (at n t).produces n.places

-- a round ends with the weight with which it began
abbrev pub RoundsKeepWeights : Type 0
RoundsKeepWeights = (n : Net) (f : ℕ → ℕ) → Balanced n f → (m w : ℕ) → weight f (ends n m w) n.places ≡ weight f (begins n m) n.places
