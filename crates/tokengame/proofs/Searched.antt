-- The first answer over a list, as a search through it ends.
use Rattle.std.proofs.Common.{◌≡◌, ℕ, zero, suc, ◌<◌, List, [], ◌∷◌, length, get_or, Some, None, Option, refl, ap, ap₂, ◌∙◌, sym, arith, Bool, true, false, ◌&&◌, ⊎_elim}
use Rattle.std.specs.Option.{MatchOption}
use Rattle.nets.specs.Clashes.{or_else, first_below, first_over}
use Rattle.nets.specs.Firing.{conflict}
use Rattle.nets.specs.Nets.{Net, Transition, at}
use Rattle.nets.specs.Stored.{transition_of}
use Rattle.nets.specs.declared.transition.Transition.{Transition as StoredTransition}
use Rattle.nets.specs.Rounds.{conflicts_below}
use Rattle.bitset.specs.Sets.{has}
use Rattle.std.specs.Bool.{MatchBool}
use Rattle.std.proofs.lemmas.Bool.{or_from, or_left, or_right, cases_lt}
use Rattle.tokengame.proofs.Clashes.{found_at}

module _ {X Y : Type 0} (f : X → Option Y) where
  -- no element of a list has an answer, or element i has the first
  abbrev pub Searched : List X → Option Y → Type 0
  Searched xs r = MatchOption r ((k : ℕ) (d : X) → k < length xs → f (get_or xs k d) ≡ None)
      (λ y. (i : ℕ) × (i < length xs) × ((d : X) → f (get_or xs i d) ≡ Some y) × ((k : ℕ) (d : X) → k < i → f (get_or xs k d) ≡ None))

  none_over : (xs : List X) → ((k : ℕ) (d : X) → k < length xs → f (get_or xs k d) ≡ None) → None ≡ first_over f xs
  none_over [] h = refl
  none_over (x ∷ xs) h = none_over xs (λ k d l. h (suc k) d (omega arith)) ∙ ap (λ o. or_else o (first_over f xs)) (sym (h 0 x (omega arith)))

  some_over : (xs : List X) (y : Y) (i : ℕ) → i < length xs → ((d : X) → f (get_or xs i d) ≡ Some y) → ((k : ℕ) (d : X) → k < i → f (get_or xs k d) ≡ None) → Some y ≡ first_over f xs
  some_over [] y i l e h = absurd (omega arith)
  some_over (x ∷ xs) y zero l e h = ap (λ o. or_else o (first_over f xs)) (sym (e x))
  some_over (x ∷ xs) y (suc i) l e h =
      some_over xs y i (omega arith) e (λ k d m. h (suc k) d (omega arith)) ∙ ap (λ o. or_else o (first_over f xs)) (sym (h 0 x (omega arith)))

  pub first_is : (xs : List X) (r : Option Y) → Searched xs r → r ≡ first_over f xs
  first_is xs None h = none_over xs h
  first_is xs (Some y) h = some_over xs y h.0 h.1 h.2 h.3

-- the same by number
module _ {Y : Type 0} (f : ℕ → Option Y) where
  abbrev pub SearchedBelow : ℕ → Option Y → Type 0
  SearchedBelow n r = MatchOption r ((k : ℕ) → k < n → f k ≡ None) (λ y. (i : ℕ) × (i < n) × (f i ≡ Some y) × ((k : ℕ) → k < i → f k ≡ None))

  none_below : (n : ℕ) → ((k : ℕ) → k < n → f k ≡ None) → first_below f n ≡ None
  none_below zero h = refl
  none_below (suc n) h = ap (λ o. or_else o (f n)) (none_below n (λ k l. h k (omega arith))) ∙ h n (omega arith)

  pub first_below_is : (n : ℕ) (r : Option Y) → SearchedBelow n r → r ≡ first_below f n
  first_below_is n None h = sym (none_below n h)
  first_below_is n (Some y) h = sym (found_at f h.0 n y h.1 (none_below h.0 h.3) h.2)

  -- where g is the same below n
  pub first_same : (g : ℕ → Option Y) (n : ℕ) → ((k : ℕ) → k < n → f k ≡ g k) → first_below f n ≡ first_below g n
  first_same g zero h = refl
  first_same g (suc n) h = ap₂ or_else (first_same g n (λ k l. h k (omega arith))) (h n (omega arith))

-- whether a transition of r below k conflicts with this one
module _ (n : Net) (r : ℕ) (x : Transition) where
  abbrev conflicts : ℕ → Bool
  conflicts i = has r i && conflict (at n i) x

  some_conflicts : (k i : ℕ) → i < k → conflicts i ≡ true → conflicts_below n r x k ≡ true
  some_conflicts zero i l e = absurd (omega arith)
  some_conflicts (suc k) i l e = ⊎_elim
      (λ j. or_right (conflicts k) (conflicts_below n r x k) (some_conflicts k i j e))
      (λ j. let s : i ≡ k = omega arith in or_left (conflicts k) (conflicts_below n r x k) (ap conflicts (sym s) ∙ e))
      (cases_lt i k)

  none_conflicts : (k : ℕ) → ((i : ℕ) → i < k → conflicts i ≡ false) → conflicts_below n r x k ≡ false
  none_conflicts zero h = refl
  none_conflicts (suc k) h = or_from (conflicts k) (conflicts_below n r x k) (h k (omega arith)) (none_conflicts k (λ i l. h i (omega arith)))

  pub conflicts_below_is : (k : ℕ) (b : Bool) → MatchBool b ((i : ℕ) × (i < k) × (conflicts i ≡ true)) ((i : ℕ) → i < k → conflicts i ≡ false) → b ≡ conflicts_below n r x k
  conflicts_below_is k true h = sym (some_conflicts k h.0 h.1 h.2)
  conflicts_below_is k false h = sym (none_conflicts k h)

  -- the same, where the transitions below k are looked at as they are held
  pub conflicts_first_is : (xs : List StoredTransition) (d : StoredTransition) (k : ℕ) → ((i : ℕ) → i < k → transition_of (get_or xs i d) ≡ at n i) → (b : Bool)
      → MatchBool b ((i : ℕ) × (i < k) × ((has r i && conflict (transition_of (get_or xs i d)) x) ≡ true))
      ((i : ℕ) → i < k → (has r i && conflict (transition_of (get_or xs i d)) x) ≡ false)
      → b ≡ conflicts_below n r x k
  conflicts_first_is xs d k here true h =
      conflicts_below_is k true (h.0, h.1, ap (λ t. has r h.0 && conflict t x) (sym (here h.0 h.1)) ∙ h.2)
  conflicts_first_is xs d k here false h =
      conflicts_below_is k false (λ i j. ap (λ t. has r i && conflict t x) (sym (here i j)) ∙ h i j)
