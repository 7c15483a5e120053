-- A signal interpreted Petri net. A set of places, lines or outputs is a word: number n is in it where bit n is 1.
use Rattle.std.specs.Prelude.{ℕ, ◌≤◌, List, [], slice_index_or}
use Rattle.nets.specs.declared.term.Term.{Term}

-- the places that it consumes, produces, tests and inhibits, and the terms of its condition
pub record Transition : Type 0 where
  pub consumes : ℕ
  pub produces : ℕ
  pub tests : ℕ
  pub inhibits : ℕ
  pub terms : List Term

-- how many places, lines and outputs it has; the start places; what each place raises; its transitions
pub record Net : Type 0 where
  pub places : ℕ
  pub lines : ℕ
  pub outputs : ℕ
  pub start : ℕ
  pub raises : List ℕ
  pub transitions : List Transition

-- counts are in their ranges
pub record CountsInRange (places transitions lines outputs : ℕ) : Type 0 where
  pub some_places : (1 ≤ places) × (places ≤ 64)
  pub some_transitions : (1 ≤ transitions) × (transitions ≤ 64)
  pub some_lines : (1 ≤ lines) × (lines ≤ 32)
  pub some_outputs : (1 ≤ outputs) × (outputs ≤ 32)

-- a transition with no arc and no term
abbrev pub unconnected : Transition
unconnected = record { consumes = 0; produces = 0; tests = 0; inhibits = 0; terms = [] }

-- transition t of the net
abbrev pub at : Net → ℕ → Transition
at n t = slice_index_or n.transitions t unconnected
