-- What every net that is accepted keeps.
use Rattle.std.specs.Prelude.{◌≡◌, ℕ, ◌+◌, ◌<◌, ◌≤◌, true, ◌≢◌, ◌⊎◌, length, slice_index, slice_index_or}
use Rattle.bitset.specs.Sets.{has, within, apart, below, tell}
use Rattle.nets.specs.declared.term.Term.{Term}
use Rattle.nets.specs.Nets.{Net, Transition, at}

-- a term has lines of the net only, and no line both high and low
pub record WellFormedTerm (n : Net) (c : Term) : Type 0 where
  pub high_of_the_net : within c.high (below n.lines) ≡ true
  pub low_of_the_net : within c.low (below n.lines) ≡ true
  pub high_or_low : apart c.high c.low ≡ true

-- how many arcs join the transition and place p
abbrev pub arcs_to : Transition → ℕ → ℕ
arcs_to t p = tell (has t.consumes p) + tell (has t.produces p) + tell (has t.tests p) + tell (has t.inhibits p)

-- a term that always holds
abbrev pub always : Term
always = record { high = 0; low = 0 }

-- a transition joins places of the net only, each by one arc at most; consumes or produces something; has one to four terms
pub record WellFormedTransition (n : Net) (t : Transition) : Type 0 where
  pub consumes_of_the_net : within t.consumes (below n.places) ≡ true
  pub produces_of_the_net : within t.produces (below n.places) ≡ true
  pub tests_of_the_net : within t.tests (below n.places) ≡ true
  pub inhibits_of_the_net : within t.inhibits (below n.places) ≡ true
  pub one_arc : (p : ℕ) → arcs_to t p ≤ 1
  pub moves_something : (t.consumes ≢ 0) ⊎ (t.produces ≢ 0)
  pub some_term : 1 ≤ length t.terms
  pub few_terms : length t.terms ≤ 4
  pub each_term : (k : ℕ) → k < length t.terms → WellFormedTerm n (slice_index_or t.terms k always)

-- a net has counts in their ranges, start places of its own and at least one, a raise word of its own outputs for each place, and such transitions
pub record WellFormed (n : Net) : Type 0 where
  pub places_in_range : (1 ≤ n.places) × (n.places ≤ 64)
  pub transitions_in_range : (1 ≤ length n.transitions) × (length n.transitions ≤ 64)
  pub lines_in_range : (1 ≤ n.lines) × (n.lines ≤ 32)
  pub outputs_in_range : (1 ≤ n.outputs) × (n.outputs ≤ 32)
  pub start_of_the_net : within n.start (below n.places) ≡ true
  pub some_start : n.start ≢ 0
  pub raises_of_each : length n.raises ≡ n.places
  pub raises_of_the_net : (p : ℕ) → p < n.places → within (slice_index n.raises p) (below n.outputs) ≡ true
  pub each_transition : (t : ℕ) → t < length n.transitions → WellFormedTransition n (at n t)
