-- What the calls of the code's sets answer, which have room for the numbers below 64.
use Rattle.std.specs.Prelude.{ℕ, cond, length, Option, bit_or, nat_lt}
use Rattle.bitset.specs.Lists.{first_of}
use Rattle.bitset.specs.Sets.{only, members}
use Rattle.bitset.specs.declared.set.Set.{Set}

-- a set as a word: the bits of its members are 1
abbrev pub word_of : {K : Type 0} → Set K → ℕ
word_of s = s.word

-- the set of the members whose bits are 1 in w
abbrev pub set_of : {K : Type 0} → ℕ → Set K
set_of w = record { word = w; of = record {} }

-- how many members a set has room for
abbrev pub room : ℕ
room = 64

-- w and number n, where there is room for it
abbrev pub with_member : ℕ → ℕ → ℕ
with_member w n = cond (nat_lt n room) (bit_or w (only n)) w

-- the lowest member of w
unfoldable pub lowest_in : ℕ → Option ℕ
lowest_in w = first_of (members w room)

-- how many members w has
unfoldable pub how_many : ℕ → ℕ
how_many w = length (members w room)
