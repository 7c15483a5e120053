-- What comes first of a list, and of two joined.
use Rattle.std.proofs.Common.{◌≡◌, List, [], ◌∷◌, ◌++◌, Some, None, refl, ap}
use Rattle.bitset.specs.Lists.{first_of}

-- nothing comes first of an empty list only
pub none_first : {X : Type 0} (xs : List X) → first_of xs ≡ None → xs ≡ []
none_first [] e = refl
none_first (x ∷ xs) e = cc

pub first_joined : {X : Type 0} (xs ys : List X) (x : X) → first_of xs ≡ Some x → first_of (xs ++ ys) ≡ Some x
first_joined [] ys x e = cc
first_joined (y ∷ xs) ys x e = e

pub first_past : {X : Type 0} (xs ys : List X) → first_of xs ≡ None → first_of (xs ++ ys) ≡ first_of ys
first_past xs ys e = ap (λ l. first_of (l ++ ys)) (none_first xs e)
