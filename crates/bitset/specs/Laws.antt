-- The laws of words as sets, at any width.
use Rattle.std.specs.Prelude.{◌≡◌, ℕ, ◌^◌, ◌<◌, true, false, not, ◌&&◌, ◌||◌, length, Some, ◌==◌, bit_and, bit_or, count_ones, nat_lt}
use Rattle.bitset.specs.Lists.{first_of}
use Rattle.bitset.specs.Sets.{has, within, apart, without, only, below, members, tell, count}

-- what each operation has as members, when two words are one, and what the tests and the list of members say
pub record SetLaws : Type 0 where
  pub none : (n : ℕ) → has 0 n ≡ false
  pub one : (k n : ℕ) → has (only k) n ≡ (n == k)
  pub first : (k n : ℕ) → has (below k) n ≡ nat_lt n k
  pub common : (a b n : ℕ) → has (bit_and a b) n ≡ (has a n && has b n)
  pub joined : (a b n : ℕ) → has (bit_or a b) n ≡ (has a n || has b n)
  pub taken_away : (a b n : ℕ) → has (without a b) n ≡ (has a n && not (has b n))
  pub same_members : (a b : ℕ) → ((n : ℕ) → has a n ≡ has b n) → a ≡ b
  pub within_members : (a w : ℕ) → within a w ≡ true → (n : ℕ) → has a n ≡ true → has w n ≡ true
  pub members_within : (a w : ℕ) → ((n : ℕ) → has a n ≡ true → has w n ≡ true) → within a w ≡ true
  pub apart_members : (a w : ℕ) → apart a w ≡ true → (n : ℕ) → has a n ≡ true → has w n ≡ false
  pub members_apart : (a w : ℕ) → ((n : ℕ) → has a n ≡ true → has w n ≡ false) → apart a w ≡ true
  pub each_once : (x w k : ℕ) → count x (members w k) ≡ tell (nat_lt x k && has w x)
  pub lowest_first : (w k p : ℕ) → first_of (members w k) ≡ Some p → (has w p ≡ true) × ((q : ℕ) → q < p → has w q ≡ false)
  pub counted : (k w : ℕ) → w < 2 ^ k → count_ones w ≡ length (members w k)
