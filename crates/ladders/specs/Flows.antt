-- What flows along a rung, what a step stores, and the run of steps, step by step. Rungs.antt says what a whole rung does.
use Rattle.std.specs.Prelude.{ℕ, if◌then◌else◌, List, [], ◌∷◌, Some, None, Option, slice_index_or, slice_set}
use Rattle.levels.specs.Levels.{Operations}
use Rattle.ladders.specs.declared.flow.Flow.{Flow}
use Rattle.ladders.specs.declared.step.Op.{Op}
use Rattle.ladders.specs.declared.step.Op.TheVariants.{St, S, R}
use Rattle.ladders.specs.declared.step.Role.{Role}
use Rattle.ladders.specs.declared.step.Role.TheVariants.{Loads, Joins, Opens, Closes, Stores}
use Rattle.ladders.specs.declared.step.Step.{Step}
use Rattle.ladders.specs.Steps.{role_of, inverts}

-- a result, and an open group or none
abbrev pub flow : {L : Type 0} → L → Option L → Flow L
flow r g = record { result = r; group = g }

-- before the first rung
abbrev pub no_flow : {L : Type 0} → Operations L → Flow L
no_flow o = flow o.low None

-- x joined to the open group, or to the result where none is open
abbrev pub joined_to : {L : Type 0} → Operations L → L → L → Option L → Flow L
joined_to o x r (Some g) = flow r (Some (o.both g x))
joined_to o x r None = flow (o.both r x) None

-- the same of a flow
abbrev pub joined_flow : {L : Type 0} → Operations L → L → Flow L → Flow L
joined_flow o x f = joined_to o x f.result f.group

-- either of a result and the open group
abbrev pub closed_by : {L : Type 0} → Operations L → L → Option L → Flow L
closed_by o r (Some g) = flow (o.either r g) None
closed_by o r None = flow r None

-- the same of a flow
abbrev pub closed_flow : {L : Type 0} → Operations L → Flow L → Flow L
closed_flow o f = closed_by o f.result f.group

-- the level that an operation takes of a coil at level x
abbrev pub taken : {L : Type 0} → Operations L → Op → L → L
taken o op x = if inverts op then o.inverse x else x

-- the flow after an operation of a role, which takes the level y
abbrev pub flowing_by : {L : Type 0} → Operations L → Role → L → Flow L → Flow L
flowing_by o Loads y f = flow y None
flowing_by o Joins y f = joined_flow o y f
flowing_by o Opens y f = flow f.result (Some y)
flowing_by o Closes y f = closed_flow o f
flowing_by o Stores y f = f

-- the flow after an operation on a coil at level x
abbrev pub flowing : {L : Type 0} → Operations L → Op → L → Flow L → Flow L
flowing o op x f = flowing_by o (role_of op) (taken o op x) f

-- what an operation stores in a coil at level x, at the result r, if it stores
abbrev pub stored : {L : Type 0} → Operations L → Op → L → L → Option L
stored o St r x = Some r
stored o S r x = Some (o.either x r)
stored o R r x = Some (o.both x (o.inverse r))
stored o _ r x = None

-- the level of the coil of a number
abbrev pub level_at : {L : Type 0} → Operations L → List L → ℕ → L
level_at o xs n = slice_index_or xs n o.low

-- the flow after a step
abbrev pub flow_past : {L : Type 0} → Operations L → Step → List L → Flow L → Flow L
flow_past o s xs f = flowing o s.op (level_at o xs s.coil) f

-- the coils with that of a number at a level, if it is given one
abbrev pub with_stored : {L : Type 0} → List L → ℕ → Option L → List L
with_stored xs n (Some y) = slice_set xs n y
with_stored xs n None = xs

-- the coils after a step
abbrev pub written : {L : Type 0} → Operations L → Step → List L → Flow L → List L
written o s xs f = with_stored xs s.coil (stored o s.op f.result (level_at o xs s.coil))

-- the coils after the steps, from the coils xs and the flow f on
abbrev pub through : {L : Type 0} → Operations L → List L → Flow L → List Step → List L
through o xs f [] = xs
through o xs f (s ∷ ss) = through o (written o s xs f) (flow_past o s xs f) ss

-- the coils after the steps
abbrev pub ran : {L : Type 0} → Operations L → List Step → List L → List L
ran o ss xs = through o xs (no_flow o) ss
