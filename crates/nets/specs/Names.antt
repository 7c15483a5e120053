-- What texts call what a net has a count of.
use Rattle.std.specs.Prelude.{ℕ, List, codes}
use Rattle.nets.specs.declared.quantity.Quantity.{Quantity}
use Rattle.nets.specs.declared.quantity.Quantity.TheVariants.{Places, Transitions, Lines, Outputs}

-- the name of a quantity
abbrev pub quantity_name : Quantity → List ℕ
quantity_name Places = codes "places"
quantity_name Transitions = codes "transitions"
quantity_name Lines = codes "lines"
quantity_name Outputs = codes "outputs"
