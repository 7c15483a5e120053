-- Lists that are made from a function of the index, and one entry of them changed.
use Rattle.std.proofs.Common.{◌≡◌, ℕ, zero, suc, ◌<◌, map, length, get_or, set, replicate, sym, refl, ap, ◌∙◌, ⊎_elim, arith, length-set}
use Rattle.std.specs.List.{range_with_len}
use Rattle.std.proofs.lemmas.List.FromFn.{fill_by_all, length-map-range_with_len, get_or-map-range_with_len}
use Rattle.std.proofs.lemmas.List.{get_or-set_same, get_or-set_other, length-replicate, get_or-replicate}
use Rattle.std.proofs.lemmas.Bool.{cases_eq}

module _ {X : Type 0} where
  -- the entry at i
  pub counted_at : (f : ℕ → X) (n i : ℕ) (d : X) → i < n → get_or (map f (range_with_len 0 n)) i d ≡ f i
  counted_at f n i d h = get_or-map-range_with_len f 0 n i i d h (omega arith)

  pub counted_same : (f g : ℕ → X) (n : ℕ) → ((i : ℕ) → i < n → f i ≡ g i) → map f (range_with_len 0 n) ≡ map g (range_with_len 0 n)
  counted_same f g zero h = refl
  counted_same f g (suc n) h =
      fill_by_all g (map f (range_with_len 0 (suc n))) (suc n) (f 0) (length-map-range_with_len f 0 (suc n))
      (λ i l. counted_at f (suc n) i (f 0) l ∙ h i l)

  -- all entries the same
  pub counted_all : (f : ℕ → X) (x : X) (n : ℕ) → ((i : ℕ) → f i ≡ x) → replicate n x ≡ map f (range_with_len 0 n)
  counted_all f x n h = fill_by_all f (replicate n x) n x (length-replicate n x) (λ i l. get_or-replicate n i x x l ∙ sym (h i))

  -- the entry at i changed
  pub counted_set : (f g : ℕ → X) (n i : ℕ) (x : X) → i < n → x ≡ g i → ((k : ℕ) → (k ≡ i → ⊥) → f k ≡ g k) → set (map f (range_with_len 0 n)) i x ≡ map g (range_with_len 0 n)
  counted_set f g n i x h e same =
      fill_by_all g (set (map f (range_with_len 0 n)) i x) n x (length-set (map f (range_with_len 0 n)) i x ∙ length-map-range_with_len f 0 n)
      (λ k l. ⊎_elim (at k l) (other k l) (cases_eq k i))
    where
      long : i < length (map f (range_with_len 0 n))
      long = let s = length-map-range_with_len f 0 n in omega arith

      at : (k : ℕ) → k < n → k ≡ i → get_or (set (map f (range_with_len 0 n)) i x) k x ≡ g k
      at k l s = ap (λ (j : ℕ). get_or (set (map f (range_with_len 0 n)) i x) j x) s ∙ get_or-set_same (map f (range_with_len 0 n)) i x x long ∙ e ∙ ap g (sym s)

      other : (k : ℕ) → k < n → (k ≡ i → ⊥) → get_or (set (map f (range_with_len 0 n)) i x) k x ≡ g k
      other k l s = get_or-set_other (map f (range_with_len 0 n)) i k x x s ∙ counted_at f n k x l ∙ same k s
