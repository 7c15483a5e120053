-- The coils by name and by number.
use Rattle.std.specs.Prelude.{◌≡◌, ℕ, ◌+◌, ◌-◌, if◌then◌else◌, is_some, Some, None, Option, nat_lt}
use Rattle.ladders.specs.declared.coil.Coil.{Coil}
use Rattle.ladders.specs.declared.coil.Coil.TheVariants.{Line, Start, Place, Transition, Output}
use Rattle.ladders.specs.declared.coil.NoSuchCoil.{NoSuchCoil}

-- a number, if there are so many
abbrev pub if_below : ℕ → ℕ → ℕ → Option ℕ
if_below count n number = if nat_lt n count then Some number else None

-- the number of a coil, if there is such a coil: 32 lines, the start coil, 64 places, 64 transitions, 32 outputs
abbrev pub number_of : Coil → Option ℕ
number_of (Line n) = if_below 32 n n
number_of Start = Some 32
number_of (Place n) = if_below 64 n (33 + n)
number_of (Transition n) = if_below 64 n (97 + n)
number_of (Output n) = if_below 32 n (161 + n)

-- the coil of a number, if there is one
abbrev pub coil_numbered : ℕ → Option Coil
coil_numbered k =
    if nat_lt k 32 then Some (Line k)
    else if nat_lt k 33 then Some Start
    else if nat_lt k 97 then Some (Place (k - 33))
    else if nat_lt k 161 then Some (Transition (k - 97))
    else if nat_lt k 193 then Some (Output (k - 161))
    else None

-- the error where there is no such coil
abbrev pub no_such_coil : NoSuchCoil
no_such_coil = record {}

-- each number below 193 is that of one coil, and each coil has a number of its own
pub record CoilNames : Type 0 where
  pub every_number : (k : ℕ) → is_some (coil_numbered k) ≡ nat_lt k 193
  pub number_of_coil : (k : ℕ) (c : Coil) → coil_numbered k ≡ Some c → number_of c ≡ Some k
  pub coil_of_number : (k : ℕ) (c : Coil) → number_of c ≡ Some k → coil_numbered k ≡ Some c
