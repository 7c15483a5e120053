-- What the code's shifts and masks say of the sets.
use Rattle.std.proofs.Common.{◌≡◌, ℕ, ◌-◌, ◌*◌, ◌/◌, ◌%◌, ◌^◌, ◌<◌, ◌≤◌, min, eqb, ap, ◌∙◌, arith, pow_pos, pow_mono}
use lib.Bits.{bit_and}
use Rattle.std.proofs.lemmas.Nat.Bits.{shr_and_one}
use Rattle.std.proofs.lemmas.Nat.{one_shl}
use Rattle.bitset.specs.Sets.{has, only, below}

-- `w >> n & 1 == 1`
pub bit_is : (w n : ℕ) → eqb (bit_and (w / 2 ^ n) 1) 1 ≡ has w n
unfolding has
bit_is w n = ap (λ (x : ℕ). eqb x 1) (shr_and_one w n)

-- `1 << n` at a width of k bits
pub only_shl : (k n : ℕ) → n < k → (1 * 2 ^ n) % 2 ^ k ≡ only n
unfolding only
only_shl k n h = one_shl n k h

-- `(1 << n) - 1`, where there is room for n, and else all that there is room for
pub below_shl : (k n : ℕ) → n < k → (1 * 2 ^ n) % 2 ^ k - 1 ≡ below (min n k)
unfolding below
below_shl k n h =
    let m : n ≡ min n k = omega arith in
    ap (λ (x : ℕ). x - 1) (one_shl n k h) ∙ ap (λ (x : ℕ). 2 ^ x - 1) m

pub below_all : (k n : ℕ) → k ≤ n → 2 ^ k - 1 ≡ below (min n k)
unfolding below
below_all k n h =
    let m : k ≡ min n k = omega arith in ap (λ (x : ℕ). 2 ^ x - 1) m

-- so many numbers fit so many bits
pub below_fits : (k n : ℕ) → n ≤ k → below n < 2 ^ k
unfolding below
below_fits k n h = let p : 2 ^ n ≤ 2 ^ k = pow_mono h in let q : 0 < 2 ^ k = pow_pos k in omega arith
