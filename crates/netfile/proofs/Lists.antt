-- The first of what is broken, over lists that are joined and over numbers in rising order.
use Rattle.std.proofs.Common.{◌≡◌, ℕ, zero, suc, ◌+◌, ◌<◌, Bool, true, false, List, [], ◌∷◌, ◌++◌, Some, None, refl, ap, ◌∙◌, subst, ⊎_elim, add-one, arith}
use Rattle.std.proofs.lemmas.Bool.{cases_lt}
use Rattle.bitset.specs.Lists.{first_of}
use Rattle.bitset.proofs.Lists.{none_first, first_joined, first_past}
use Rattle.netlayout.specs.declared.refusal.Refusal.{Refusal}
use Rattle.netfile.specs.Rules.{each_below}
use Rattle.netlayout.specs.Rules.{where_broken}

-- nothing is broken below i, nor at i
pub none_more : (f : ℕ → List Refusal) (i : ℕ) → each_below f i ≡ [] → first_of (f i) ≡ None → each_below f (i + 1) ≡ []
none_more f i e h = rw add-one (ap (λ l. l ++ f i) e ∙ none_first (f i) h)

-- what is broken at i comes first, if nothing is below it
pub first_at : (f : ℕ → List Refusal) (i n : ℕ) (r : Refusal) → i < n → each_below f i ≡ [] → first_of (f i) ≡ Some r → first_of (each_below f n) ≡ Some r
first_at f i zero r h e g = absurd (omega arith)
first_at f i (suc n) r h e g = ⊎_elim
    (λ l. first_joined (each_below f n) (f n) r (first_at f i n r l e g))
    (λ l. let s : i ≡ n = omega arith in
    subst (λ (x : ℕ). first_of (each_below f (suc x)) ≡ Some r) s (first_past (each_below f i) (f i) (ap first_of e) ∙ g)) (cases_lt i n)

-- a joined list is empty where both are
pub both_empty : {X : Type 0} (xs ys : List X) → xs ++ ys ≡ [] → (xs ≡ []) × (ys ≡ [])
both_empty [] ys e = (refl, e)
both_empty (x ∷ xs) ys e = cc

-- two lists of which the same comes first, and then two more, that may rest on the second being empty
pub joined_same : {X : Type 0} (a b c d : List X) → first_of a ≡ first_of b → (b ≡ [] → first_of c ≡ first_of d) → first_of (a ++ c) ≡ first_of (b ++ d)
joined_same [] [] c d e h = h refl
joined_same [] (y ∷ b) c d e h = cc
joined_same (x ∷ a) [] c d e h = cc
joined_same (x ∷ a) (y ∷ b) c d e h = e

-- what is broken at each number in turn, told in two ways that agree as long as nothing was broken before
pub each_same : (f g : ℕ → List Refusal) (k : ℕ) → ((i : ℕ) → i < k → each_below g i ≡ [] → f i ≡ g i) → first_of (each_below f k) ≡ first_of (each_below g k)
each_same f g zero h = refl
each_same f g (suc k) h =
    joined_same (each_below f k) (each_below g k) (f k) (g k) (each_same f g k (λ i l e. h i (omega arith) e)) (λ e. ap first_of (h k (omega arith) e))

-- nothing is broken at any number below k
pub none_at : (f : ℕ → List Refusal) (k : ℕ) → each_below f k ≡ [] → (i : ℕ) → i < k → f i ≡ []
none_at f zero e i h = absurd (omega arith)
none_at f (suc k) e i h =
    let both = both_empty (each_below f k) (f k) e in
    ⊎_elim (λ l. none_at f k both.0 i l) (λ l. let s : k ≡ i = omega arith in subst (λ (x : ℕ). f x ≡ []) s both.1) (cases_lt i k)

-- a rule that is not broken, with those after it
pub kept_rule : (b : Bool) (r : Refusal) (rest : List Refusal) → where_broken b r ++ rest ≡ [] → (b ≡ false) × (rest ≡ [])
kept_rule true r rest e = cc
kept_rule false r rest e = (refl, e)

pub kept_last : (b : Bool) (r : Refusal) → where_broken b r ≡ [] → b ≡ false
kept_last true r e = cc
kept_last false r e = refl
