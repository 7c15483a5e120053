-- What a ladder is, by the form of its rungs, and where steps fail to be one.
use Rattle.std.specs.Prelude.{◌≡◌, ℕ, ◌+◌, ◌<◌, ◌≤◌, ◌⊎◌, List, ◌++◌, length, take, Ok, Err, Result}
use Rattle.std.specs.List.{AllByRecursion}
use Rattle.ladders.specs.declared.grammar.Fault.{Fault}
use Rattle.ladders.specs.declared.step.Step.{Step}
use Rattle.ladders.specs.Grammar.{fault, grammar}
use Rattle.ladders.specs.Rungs.{Rung, RungExists, rungs_steps}

-- the steps are whole rungs with coils that exist
abbrev pub Whole : List Step → Type 0
Whole ss = (rs : List Rung) × AllByRecursion RungExists rs × (ss ≡ rungs_steps rs)

-- a ladder: whole rungs, at most 2,048 steps, perhaps none
abbrev pub IsLadder : List Step → Type 0
IsLadder ss = Whole ss × (length ss ≤ 2048)

-- some whole rungs begin with these steps
abbrev pub Begun : List Step → Type 0
Begun ss = (rest : List Step) × Whole (ss ++ rest)

-- the steps fail to be a ladder at the index i, and not before
pub record FailsAt (ss : List Step) (i : ℕ) : Type 0 where
  pub in_range : (i ≤ length ss) × (i ≤ 2048)
  -- some whole rungs begin with the steps before it
  pub not_before : Begun (take i ss)
  -- the steps end there in mid-rung; or the step there is the 2,049th; or no whole rungs begin with the steps up to it
  pub here : ((i ≡ length ss) × (Whole ss → ⊥)) ⊎ ((i < length ss) × ((i ≡ 2048) ⊎ (Begun (take (i + 1) ss) → ⊥)))

-- an answer tells whether steps are a ladder, and where they fail to be one
pub record Judged (ss : List Step) (r : Result (Unit {0}) Fault) : Type 0 where
  pub accepted : r ≡ Ok tt → IsLadder ss
  pub each_accepted : IsLadder ss → r ≡ Ok tt
  pub refused : (i : ℕ) → r ≡ Err (fault i) → FailsAt ss i
  pub each_refused : (i : ℕ) → FailsAt ss i → r ≡ Err (fault i)

-- the grammar tells of any steps whether they are a ladder, and where they fail to be one
abbrev pub GrammarTells : Type 0
GrammarTells = (ss : List Step) → Judged ss (grammar ss)
