-- A word as a set of numbers: n is in w where bit n of w is 1. A word may have any number of bits.
use Rattle.std.specs.Prelude.{ℕ, zero, suc, ◌+◌, ◌-◌, ◌/◌, ◌%◌, ◌^◌, Bool, true, false, cond, List, [], ◌∷◌, ◌++◌, ◌==◌, bit_and}

-- n is in w
unfoldable pub has : ℕ → ℕ → Bool
has w n = w / 2 ^ n % 2 == 1

-- each member of a is in w
unfoldable pub within : ℕ → ℕ → Bool
within a w = bit_and a w == a

-- a and w have no member in common
unfoldable pub apart : ℕ → ℕ → Bool
apart a w = bit_and a w == 0

-- the members of w that are not in a
unfoldable pub without : ℕ → ℕ → ℕ
without w a = w - bit_and w a

-- the set of one number
unfoldable pub only : ℕ → ℕ
only n = 2 ^ n

-- the set of all numbers below k
unfoldable pub below : ℕ → ℕ
below k = 2 ^ k - 1

-- the members of w below n, in rising order
abbrev pub members : ℕ → ℕ → List ℕ
members w zero = []
members w (suc n) = cond (has w n) (members w n ++ n ∷ []) (members w n)

-- 1 for true, 0 for false
abbrev pub tell : Bool → ℕ
tell true = 1
tell false = 0

-- how often x stands in a list
abbrev pub count : ℕ → List ℕ → ℕ
count x [] = 0
count x (y ∷ ys) = tell (x == y) + count x ys
