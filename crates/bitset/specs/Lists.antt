-- Lists of whatever.
use Rattle.std.specs.Prelude.{Bool, true, false, List, [], ◌∷◌, Some, None, Option}

-- the first of a list
abbrev pub first_of : {X : Type 0} → List X → Option X
first_of [] = None
first_of (x ∷ xs) = Some x

-- whether a list is empty
abbrev pub none_in : {X : Type 0} → List X → Bool
none_in [] = true
none_in (x ∷ xs) = false
