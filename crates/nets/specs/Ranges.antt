-- How many places, transitions, lines and outputs a net may have.
use Rattle.std.specs.Prelude.{ℕ, Bool, cond, ◌&&◌, List, [], ◌∷◌, ◌++◌, nat_le}
use Rattle.nets.specs.declared.quantity.Quantity.{Quantity}
use Rattle.nets.specs.declared.quantity.Quantity.TheVariants.{Places, Transitions, Lines, Outputs}

-- the most that a net may have of each
abbrev pub most : Quantity → ℕ
most Places = 64
most Transitions = 64
most Lines = 32
most Outputs = 32

-- whether a net may have so many: one at least
abbrev pub in_range : Quantity → ℕ → Bool
in_range q n = nat_le 1 n && nat_le n (most q)

-- the quantity, where a net may not have so many
abbrev pub unless_in_range : Quantity → ℕ → List Quantity
unless_in_range q n = cond (in_range q n) [] (q ∷ [])

-- the quantities whose counts are out of range, in this order
abbrev pub out_of_range : ℕ → ℕ → ℕ → ℕ → List Quantity
out_of_range places transitions lines outputs =
    unless_in_range Places places ++ (unless_in_range Transitions transitions ++ (unless_in_range Lines lines ++ unless_in_range Outputs outputs))
