-- Sets that are joined one after the other.
use Rattle.std.proofs.Common.{◌≡◌, ℕ, zero, suc, ◌+◌, ◌<◌, Bool, true, false, cond, get_or, sym, refl, ap, ◌∙◌, subst, ap₂, ⊎_elim, add-one, arith}
use mathlib.Core.Bool.{false≢true}
use lib.Bits.{bit_or, or_zero_l}
use Rattle.std.proofs.lemmas.Bool.{or_cases, or_left, or_right, cases_lt}
use Rattle.bitset.proofs.Sets.{has_none, has_or}
use Rattle.bitset.specs.Sets.{has}
use Rattle.nets.specs.Nets.{Net}
use Rattle.nets.specs.Rounds.{union, Raised}

module _ (f : ℕ → ℕ) (r k u : ℕ) (e : u ≡ union f r k) where
  -- one set more, where k is a member
  pub union_more : (x : ℕ) → x ≡ f k → true ≡ has r k → bit_or x u ≡ union f r (k + 1)
  union_more x g h = rw add-one (ap₂ bit_or g e ∙ ap (λ (b : Bool). bit_or (cond b (f k) 0) (union f r k)) h)

  -- the same sets, where it is none
  pub union_same : false ≡ has r k → u ≡ union f r (k + 1)
  union_same h = rw add-one (e ∙ sym (or_zero_l (union f r k)) ∙ ap (λ (b : Bool). bit_or (cond b (f k) 0) (union f r k)) h)

  -- either
  pub union_next : (x v : ℕ) → x ≡ f k → v ≡ bit_or (cond (has r k) x 0) u → v ≡ union f r (k + 1)
  union_next x v g h = rw add-one (h ∙ ap₂ (λ (y z : ℕ). bit_or (cond (has r k) y 0) z) g e)

-- what is in the sets joined is in one of them, and the other way round
pub union_some : (f : ℕ → ℕ) (r k x : ℕ) → has (union f r k) x ≡ true → (p : ℕ) × (p < k) × (has r p ≡ true) × (has (f p) x ≡ true)
union_some f r zero x h = absurd (false≢true (sym (has_none x) ∙ h))
union_some f r (suc k) x h = ⊎_elim (here (has r k) refl) (λ e. let p = union_some f r k x e in (p.0, omega arith, p.2, p.3))
    (or_cases (has (cond (has r k) (f k) 0) x) (has (union f r k) x) (sym (has_or (cond (has r k) (f k) 0) (union f r k) x) ∙ h))
  where
    here : (b : Bool) → has r k ≡ b → has (cond b (f k) 0) x ≡ true → (p : ℕ) × (p < suc k) × (has r p ≡ true) × (has (f p) x ≡ true)
    here true e g = (k, omega arith, e, g)
    here false e g = absurd (false≢true (sym (has_none x) ∙ g))

pub union_each : (f : ℕ → ℕ) (r k x p : ℕ) → p < k → has r p ≡ true → has (f p) x ≡ true → has (union f r k) x ≡ true
union_each f r zero x p l h g = absurd (omega arith)
union_each f r (suc k) x p l h g = has_or (cond (has r k) (f k) 0) (union f r k) x ∙ ⊎_elim
    (λ j. or_right (has (cond (has r k) (f k) 0) x) (has (union f r k) x) (union_each f r k x p j h g))
    (λ j. let q : p ≡ k = omega arith in
    or_left (has (cond (has r k) (f k) 0) x) (has (union f r k) x)
    (ap (λ (b : Bool). has (cond b (f k) 0) x) (subst (λ y. has r y ≡ true) q h) ∙ subst (λ y. has (f y) x ≡ true) q g))
    (cases_lt p k)

pub raised : (n : Net) (m : ℕ) → Raised n m
raised n m = record { by_some = union_some (λ p. get_or n.raises p 0) m n.places; by_each = union_each (λ p. get_or n.raises p 0) m n.places }
