-- The operations of steps.
use Rattle.std.specs.Prelude.{ℕ, Bool, true, false}
use Rattle.ladders.specs.declared.step.Op.{Op}
use Rattle.ladders.specs.declared.step.Op.TheVariants.{Ld, Ldn, And, Andn, Or, Orn, Close, St, S, R}
use Rattle.ladders.specs.declared.step.Role.{Role}
use Rattle.ladders.specs.declared.step.Role.TheVariants.{Loads, Joins, Opens, Closes, Stores}
use Rattle.ladders.specs.declared.step.Step.{Step}

-- what an operation does in a rung
abbrev pub role_of : Op → Role
role_of Ld = Loads
role_of Ldn = Loads
role_of And = Joins
role_of Andn = Joins
role_of Or = Opens
role_of Orn = Opens
role_of Close = Closes
role_of St = Stores
role_of S = Stores
role_of R = Stores

-- whether an operation takes the inverse of its coil
abbrev pub inverts : Op → Bool
inverts Ldn = true
inverts Andn = true
inverts Orn = true
inverts _ = false

-- a step, by its operation and its coil
abbrev pub step : Op → ℕ → Step
step o n = record { op = o; coil = n }
