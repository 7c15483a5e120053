-- Rungs by their form: which steps they are written as, and what they do to the coils.
use Rattle.std.specs.Prelude.{◌≡◌, ℕ, ◌<◌, ◌≤◌, Bool, if◌then◌else◌, List, [], ◌∷◌, ◌++◌, map, fold, slice_set}
use Rattle.std.specs.List.{flat_map, AllByRecursion}
use Rattle.levels.specs.Levels.{Operations}
use Rattle.ladders.specs.declared.step.Op.{Op}
use Rattle.ladders.specs.declared.step.Op.TheVariants.{Ld, Ldn, And, Andn, Or, Orn, Close, St, S, R}
use Rattle.ladders.specs.declared.step.Step.{Step}
use Rattle.ladders.specs.Flows.{level_at, ran}
use Rattle.ladders.specs.Steps.{step}

-- THE FORM OF A RUNG

-- a contact: a coil, inverted or not
pub record Contact : Type 0 where
  pub inverted : Bool
  pub coil : ℕ

-- contacts in series: one, and any number more
pub record Row : Type 0 where
  pub first : Contact
  pub others : List Contact

-- what becomes of a rung's result: it is stored, or it sets or resets the coil
pub data Store : Type 0 where
  puts : Store
  sets : Store
  resets : Store

-- a rung: a row, any number of groups, which are rows beside it, and what becomes of the result in which coil
pub record Rung : Type 0 where
  pub row : Row
  pub groups : List Row
  pub store : Store
  pub coil : ℕ

-- THE STEPS OF A RUNG

-- one of two operations, the second for a contact that is inverted
abbrev pub contact_step : Op → Op → Contact → Step
contact_step plain inverse c = step (if c.inverted then inverse else plain) c.coil

-- the contacts that are joined to the first of a row
abbrev pub joined_steps : List Contact → List Step
joined_steps cs = map (contact_step And Andn) cs

-- a group is opened with its first contact, and closed
abbrev pub group_steps : Row → List Step
group_steps g = contact_step Or Orn g.first ∷ (joined_steps g.others ++ (step Close 0 ∷ []))

-- the operation of a store
abbrev pub store_op : Store → Op
store_op puts = St
store_op sets = S
store_op resets = R

-- the first contact is loaded, the row's others joined, then come the groups and the store
abbrev pub rung_steps : Rung → List Step
rung_steps r =
    contact_step Ld Ldn r.row.first
    ∷ (joined_steps r.row.others ++ (flat_map group_steps r.groups ++ (step (store_op r.store) r.coil ∷ [])))

-- rungs one after the other
abbrev pub rungs_steps : List Rung → List Step
rungs_steps rs = flat_map rung_steps rs

-- the coil of a contact exists
abbrev pub ContactExists : Contact → Type 0
ContactExists c = c.coil < 193

-- the coils of a row exist
abbrev pub RowExists : Row → Type 0
RowExists g = ContactExists g.first × AllByRecursion ContactExists g.others

-- the coils of a rung exist, and its result goes into no line
abbrev pub RungExists : Rung → Type 0
RungExists r = RowExists r.row × AllByRecursion RowExists r.groups × (32 ≤ r.coil) × (r.coil < 193)

-- WHAT A RUNG DOES

-- the level of a contact: that of its coil, or the inverse
abbrev pub contact_level : {L : Type 0} → Operations L → List L → Contact → L
contact_level o xs c = if c.inverted then o.inverse (level_at o xs c.coil) else level_at o xs c.coil

-- both of a level and each of some contacts
abbrev pub in_series : {L : Type 0} → Operations L → List L → L → List Contact → L
in_series o xs x cs = fold (λ y c. o.both y (contact_level o xs c)) x cs

-- the level of a row: both of all its contacts
abbrev pub row_level : {L : Type 0} → Operations L → List L → Row → L
row_level o xs g = in_series o xs (contact_level o xs g.first) g.others

-- either of a level and each of some rows
abbrev pub beside : {L : Type 0} → Operations L → List L → L → List Row → L
beside o xs x gs = fold (λ y g. o.either y (row_level o xs g)) x gs

-- the result of a rung: either of its row and its groups
abbrev pub rung_result : {L : Type 0} → Operations L → List L → Rung → L
rung_result o xs r = beside o xs (row_level o xs r.row) r.groups

-- what becomes of a coil at level x, by a result y
abbrev pub kept_by : {L : Type 0} → Operations L → Store → L → L → L
kept_by o puts y x = y
kept_by o sets y x = o.either x y
kept_by o resets y x = o.both x (o.inverse y)

-- the coils after a rung
abbrev pub after_rung : {L : Type 0} → Operations L → Rung → List L → List L
after_rung o r xs = slice_set xs r.coil (kept_by o r.store (rung_result o xs r) (level_at o xs r.coil))

-- the coils after rungs, one after the other
abbrev pub after_rungs : {L : Type 0} → Operations L → List Rung → List L → List L
after_rungs o rs xs = fold (λ ys r. after_rung o r ys) xs rs

-- the run of the steps of any rungs does what the rungs do, one after the other
abbrev pub RungsInTurn : {L : Type 0} → Operations L → Type 0
RungsInTurn {L} o = (rs : List Rung) (xs : List L) → ran o (rungs_steps rs) xs ≡ after_rungs o rs xs
