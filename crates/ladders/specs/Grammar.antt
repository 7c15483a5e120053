-- Where steps fail to be a ladder, found step by step. Ladders.antt says the same by the form of rungs.
use Rattle.std.specs.Prelude.{ℕ, ◌+◌, Bool, if◌then◌else◌, ◌&&◌, List, [], ◌∷◌, Some, None, Ok, Err, Option, Result, ◌==◌, nat_le, nat_lt}
use Rattle.ladders.specs.declared.grammar.Fault.{Fault}
use Rattle.ladders.specs.declared.grammar.Position.{Position}
use Rattle.ladders.specs.declared.grammar.Position.TheVariants.{First, Series, Group, Groups}
use Rattle.ladders.specs.declared.step.Role.{Role}
use Rattle.ladders.specs.declared.step.Role.TheVariants.{Loads, Joins, Opens, Closes, Stores}
use Rattle.ladders.specs.declared.step.Step.{Step}
use Rattle.ladders.specs.Steps.{role_of}

-- a step of this role may name the coil of this number
abbrev pub coil_fits : Role → ℕ → Bool
coil_fits Closes n = n == 0
coil_fits Stores n = nat_le 32 n && nat_lt n 193
coil_fits _ n = nat_lt n 193

-- where the step after one of this role stands, if such a step may stand here
abbrev pub position_after : Position → Role → Option Position
position_after First Loads = Some Series
position_after Series Joins = Some Series
position_after Series Opens = Some Group
position_after Series Stores = Some First
position_after Group Joins = Some Group
position_after Group Closes = Some Groups
position_after Groups Opens = Some Group
position_after Groups Stores = Some First
position_after _ _ = None

-- where the step after this one stands, if this one may stand here
abbrev pub next : Position → Step → Option Position
next p s = if coil_fits (role_of s.op) s.coil then position_after p (role_of s.op) else None

-- the same for the step of index i, which has to be below the most
abbrev pub next_at : ℕ → Position → Step → Option Position
next_at i p s = if nat_lt i 2048 then next p s else None

-- a fault at an index
abbrev pub fault : ℕ → Fault
fault i = record { index = i }

-- the answer where the steps end, n of them
abbrev pub ended : Position → ℕ → Result (Unit {0}) Fault
ended First n = Ok tt
ended _ n = Err (fault n)

-- the answer at the step of index i, which may have no place
abbrev pub onward : Option Position → ℕ → (Position → Result (Unit {0}) Fault) → Result (Unit {0}) Fault
onward None i rest = Err (fault i)
onward (Some p) i rest = rest p

-- the answer from the step of index i on, which stands at p
abbrev pub from : Position → ℕ → List Step → Result (Unit {0}) Fault
from p i [] = ended p i
from p i (s ∷ ss) = onward (next_at i p s) i (λ q. from q (i + 1) ss)

-- Ok of a ladder, else the index of the first step that cannot stand, or the count where the last rung is cut off
abbrev pub grammar : List Step → Result (Unit {0}) Fault
grammar ss = from First 0 ss
