-- Lists in arrays of so many items.
use Rattle.std.specs.Prelude.{ℕ, cond, List, [], ◌∷◌, ◌++◌, length, take, nat_lt}
use Rattle.nets.specs.declared.fixed_vec.FixedVec.{FixedVec}

-- the list that is held: of the array as many items as are counted
abbrev pub listed : {T : Type 0} {N : ℕ} → FixedVec T N → List T
listed v = take v.count v.items

-- one item more, where there are fewer than n
abbrev pub pushed : {T : Type 0} → ℕ → List T → T → List T
pushed n xs x = cond (nat_lt (length xs) n) (xs ++ x ∷ []) xs
