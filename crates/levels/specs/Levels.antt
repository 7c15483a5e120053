-- What any kind of level is: its operations, and the laws that tie them to what levels admit.
use Rattle.std.proofs.Common.{rules}
use Rattle.std.specs.Prelude.{◌≡◌, Bool, true, false, not, ◌&&◌, ◌||◌, Some, None, Option}

-- the operations on levels of the kind L
pub record Operations (L : Type 0) : Type 0 where
  pub low : L
  pub high : L
  pub both : L → L → L
  pub either : L → L → L
  pub inverse : L → L

-- two plain levels are the same
abbrev pub same : Bool → Bool → Bool
same true b = b
same false b = not b

-- c is what an operation makes of some plain level that p admits and some that q admits
abbrev pub results : (Bool → Bool → Bool) → (Bool → Bool) → (Bool → Bool) → Bool → Bool
results op p q c =
    ((p false && (q false && same (op false false) c)) || (p false && (q true && same (op false true) c)))
    || ((p true && (q false && same (op true false) c)) || (p true && (q true && same (op true true) c)))

-- a level admits low, high or both, and each operation exactly the plain results over what its operands admit
pub record LevelLaws {L : Type 0} (admits : L → Bool → Bool) (o : Operations L) : Type 0 where
  pub never_neither : (x : L) → (admits x false || admits x true) ≡ true
  pub of_low : (c : Bool) → admits o.low c ≡ same false c
  pub of_high : (c : Bool) → admits o.high c ≡ same true c
  pub of_both : (x y : L) (c : Bool) → admits (o.both x y) c ≡ results ◌&&◌ (admits x) (admits y) c
  pub of_either : (x y : L) (c : Bool) → admits (o.either x y) c ≡ results ◌||◌ (admits x) (admits y) c
  pub of_inverse : (x : L) (c : Bool) → admits (o.inverse x) c ≡ admits x (not c)

-- the one plain level that is admitted, by whether low and whether high are
abbrev pub one_of : Bool → Bool → Option Bool
one_of true true = None
one_of true false = Some false
one_of false true = Some true
one_of false false = None

-- the one plain level that p admits, if it admits just one
abbrev pub the_only : (Bool → Bool) → Option Bool
the_only p = one_of (p false) (p true)

-- the operations on plain levels, of which each admits itself alone
abbrev pub plain_operations : Operations Bool
plain_operations = record { low = false; high = true; both = ◌&&◌; either = ◌||◌; inverse = not }

-- plain levels keep the laws
pub plain_laws : LevelLaws same plain_operations
plain_laws = search rules
