-- A round: what is taken, and that it can be fired in any order.
use Rattle.std.proofs.Common.{◌≡◌, ℕ, zero, suc, ◌+◌, ◌<◌, ◌≤◌, Bool, true, false, cond, not, ◌&&◌, ◌||◌, eqb, ltb, List, [], ◌∷◌, ◌++◌, length, sum_by, sym, refl, ap, ◌∙◌, subst, ap₂, ⊎_elim, true≢false, arith}
use mathlib.Core.Bool.{false≢true}
use lib.Bits.{bit_and, bit_or}
use Rattle.std.specs.List.Sorted.{IsPermutation}
use Rattle.std.proofs.lemmas.List.Sums.{sum_by-cons}
use Rattle.std.proofs.lemmas.List.Sorted.{sum_by-IsPermutation, IsPermutation-refl}
use Rattle.std.proofs.lemmas.Bool.{and_parts, or_parts, or_cases, not-true, eq-eqb, ne_eqb, cases_lt, cases_order, cases_Bool}
use Rattle.std.proofs.lemmas.Bool.Decides.{nat_tests}
use Rattle.bitset.specs.Sets.{has, without, only, below, members, tell, count}
use Rattle.nets.specs.Nets.{Net, at, Transition}
use Rattle.nets.specs.Firing.{enabled, can_fire, condition, fire, conflict}
use Rattle.nets.specs.Rounds.{begins, excluded, taken, union, fire_all, ends, Fires, weigh, weight, Balanced, LinesIgnored, RoundsKeepTheirLaws, RoundsKeepWeights}
use Rattle.bitset.proofs.Sets.{below_from_has, has_or, has-without, has_none, has-only, same_word, count-members}
use Rattle.nets.specs.WellFormed.{WellFormed}
use Rattle.tokengame.proofs.Conditions.{condition_cut}
use Rattle.tokengame.proofs.Firings.{Ready, ready, conflict_comm, tokens, still_fires}

-- SUMS OVER A LIST

abbrev total : (ℕ → ℕ) → List ℕ → ℕ
total f [] = 0
total f (x ∷ xs) = f x + total f xs

total_is : (f : ℕ → ℕ) (xs : List ℕ) → total f xs ≡ sum_by f xs
total_is f [] = refl
total_is f (x ∷ xs) = omega (arith, total_is f xs, sum_by-cons f x xs)

total-append : (f : ℕ → ℕ) (xs ys : List ℕ) → total f (xs ++ ys) ≡ total f xs + total f ys
total-append f [] ys = omega arith
total-append f (x ∷ xs) ys = omega (arith, total-append f xs ys)

total_shuffled : (f : ℕ → ℕ) (xs ys : List ℕ) → IsPermutation xs ys → total f ys ≡ total f xs
total_shuffled f xs ys s = total_is f ys ∙ sum_by-IsPermutation f xs ys s ∙ sym (total_is f xs)

count_is : (x : ℕ) (xs : List ℕ) → count x xs ≡ total (λ y. tell (eqb x y)) xs
count_is x [] = refl
count_is x (y ∷ ys) = ap (λ k. tell (eqb x y) + k) (count_is x ys)

pub count_shuffled : (x : ℕ) (xs ys : List ℕ) → IsPermutation xs ys → count x ys ≡ count x xs
count_shuffled x xs ys s = count_is x ys ∙ total_shuffled (λ y. tell (eqb x y)) xs ys s ∙ sym (count_is x xs)

total_none : (f : ℕ → ℕ) (xs : List ℕ) → ((x : ℕ) → 0 < count x xs → f x ≡ 0) → total f xs ≡ 0
total_none f [] h = refl
total_none f (x ∷ xs) h =
    omega (arith, h x (let e = eq-eqb x x refl in grind arith), total_none f xs (λ y k. h y (omega arith)))

-- FIRING ONE AFTER THE OTHER

module _ (n : Net) (w : ℕ) where
  abbrev pub after : ℕ → List ℕ → ℕ
  after m [] = m
  after m (t ∷ ts) = after (fire m (at n t)) ts

  -- each once, each can fire, and no two conflict: then each can fire at its turn
  serial : (ts : List ℕ) (m : ℕ) → ((x : ℕ) → count x ts ≤ 1)
      → ((x : ℕ) → 0 < count x ts → can_fire m w (at n x) ≡ true)
      → ((x y : ℕ) → 0 < count x ts → 0 < count y ts → (x ≡ y → ⊥) → conflict (at n x) (at n y) ≡ false)
      → Fires n w m ts (after m ts)
  serial [] m o a c = refl
  serial (t ∷ ts) m o a c =
      let here : 0 < count t (t ∷ ts) = (let e = eq-eqb t t refl in grind arith) in
      let other : (x : ℕ) → 0 < count x ts → t ≡ x → ⊥ = λ x h e. (let f = eq-eqb x t (sym e) in let q = o x in grind arith) in (
        a t here,
        serial ts (fire m (at n t)) (λ x. omega (arith, o x))
            (λ x h. still_fires m w (at n t) (at n x) (a x (omega arith)) (c t x here (omega arith) (other x h)))
            (λ x y h k. c x y (omega arith) (omega arith)),
      )

  tokens_after : (ts : List ℕ) (m m' p : ℕ) → Fires n w m ts m'
      → tell (has m' p) + total (λ t. tell (has (at n t).consumes p)) ts ≡ tell (has m p) + total (λ t. tell (has (at n t).produces p)) ts
  tokens_after [] m m' p e = ap (λ k. tell (has k p) + 0) (sym e)
  tokens_after (t ∷ ts) m m' p h =
      omega (arith, tokens m (at n t) p (and_parts (enabled m (at n t)) (condition w (at n t).terms) h.0).0, tokens_after ts (fire m (at n t)) m' p h.1)

-- FIRING TOGETHER

has-union : (f : ℕ → ℕ) (r k p : ℕ) → has (union f r k) p ≡ ltb 0 (total (λ t. tell (has (f t) p)) (members r k))
has-union f r zero p = has_none p
has-union f r (suc k) p =
    has_or (cond (has r k) (f k) 0) (union f r k) p ∙ go (has r k) (has-union f r k p)
  where
    go : (b : Bool) → has (union f r k) p ≡ ltb 0 (total (λ t. tell (has (f t) p)) (members r k))
        → (has (cond b (f k) 0) p || has (union f r k) p) ≡ ltb 0 (total (λ t. tell (has (f t) p)) (cond b (members r k ++ k ∷ []) (members r k)))
    go true ih = let s = total-append (λ t. tell (has (f t) p)) (members r k) (k ∷ []) in grind (arith, nat_tests)
    go false ih = let z = has_none p in grind (arith, nat_tests)

-- WHAT IS TAKEN

module _ (n : Net) (m w : ℕ) where
  pub taken_next : (k x : ℕ) → has (taken n m w (suc k)) x ≡ (has (taken n m w k) x || (eqb x k && (can_fire m w (at n k) && not (excluded n (taken n m w k) k k))))
  taken_next k x = go (can_fire m w (at n k) && not (excluded n (taken n m w k) k k))
    where
      go : (b : Bool) → has (cond b (bit_or (taken n m w k) (only k)) (taken n m w k)) x ≡ (has (taken n m w k) x || (eqb x k && b))
      go true = has_or (taken n m w k) (only k) x ∙ (let e = has-only k x in grind arith)
      go false = grind arith

  pub taken_past : (k x : ℕ) → k ≤ x → has (taken n m w k) x ≡ false
  taken_past zero x h = has_none x
  taken_past (suc k) x h =
      taken_next k x ∙ (let a = taken_past k x (omega arith) in let b = ne_eqb x k (λ e. omega arith) in grind arith)

  pub excluded_same : (r s t k : ℕ) → ((x : ℕ) → x < k → has r x ≡ has s x) → excluded n r t k ≡ excluded n s t k
  excluded_same r s t zero h = refl
  excluded_same r s t (suc k) h =
      ap₂ (λ a b. (a && conflict (at n k) (at n t)) || b) (h k (omega arith)) (excluded_same r s t k (λ x l. h x (omega arith)))

  -- a transition below k is taken where it can fire and none taken below it conflicts with it
  pub greedy : (k x : ℕ) → x < k → has (taken n m w k) x ≡ (can_fire m w (at n x) && not (excluded n (taken n m w k) x x))
  greedy zero x h = absurd (omega arith)
  greedy (suc k) x h = ⊎_elim (earlier (greedy k x)) now (cases_lt x k)
    where
      kept : (y : ℕ) → y < k → has (taken n m w (suc k)) y ≡ has (taken n m w k) y
      kept y l = taken_next k y ∙ (let b = ne_eqb y k (λ e. omega arith) in grind arith)

      same : (y : ℕ) → y ≤ k → excluded n (taken n m w k) y y ≡ excluded n (taken n m w (suc k)) y y
      same y l = excluded_same (taken n m w k) (taken n m w (suc k)) y y (λ z j. sym (kept z (omega arith)))

      earlier : (x < k → has (taken n m w k) x ≡ (can_fire m w (at n x) && not (excluded n (taken n m w k) x x))) → x < k
          → has (taken n m w (suc k)) x ≡ (can_fire m w (at n x) && not (excluded n (taken n m w (suc k)) x x))
      earlier ih l = kept x l ∙ ih l ∙ ap (λ b. can_fire m w (at n x) && not b) (same x (omega arith))

      last : has (taken n m w (suc k)) k ≡ (can_fire m w (at n k) && not (excluded n (taken n m w (suc k)) k k))
      last = taken_next k k ∙ ap₂ (λ a b. a || (b && (can_fire m w (at n k) && not (excluded n (taken n m w k) k k)))) (taken_past k k (omega arith)) (eq-eqb k k refl)
          ∙ ap (λ b. can_fire m w (at n k) && not b) (same k (omega arith))

      now : k ≤ x → has (taken n m w (suc k)) x ≡ (can_fire m w (at n x) && not (excluded n (taken n m w (suc k)) x x))
      now l = let e : k ≡ x = omega arith in subst (λ y. has (taken n m w (suc k)) y ≡ (can_fire m w (at n y) && not (excluded n (taken n m w (suc k)) y y))) e last

module _ (n : Net) (r t : ℕ) where
  pub excluded_some : (k : ℕ) → excluded n r t k ≡ true → (u : ℕ) × (u < k) × (has r u ≡ true) × (conflict (at n u) (at n t) ≡ true)
  excluded_some zero h = absurd (false≢true h)
  excluded_some (suc k) h = ⊎_elim here (λ e. let p = excluded_some k e in (p.0, omega arith, p.2, p.3)) (or_cases (has r k && conflict (at n k) (at n t)) (excluded n r t k) h)
    where
      here : (has r k && conflict (at n k) (at n t)) ≡ true → (u : ℕ) × (u < suc k) × (has r u ≡ true) × (conflict (at n u) (at n t) ≡ true)
      here e = let p = and_parts (has r k) (conflict (at n k) (at n t)) e in (k, omega arith, p.0, p.1)

  pub excluded_none : (k : ℕ) → excluded n r t k ≡ false → (u : ℕ) → u < k → has r u ≡ true → conflict (at n u) (at n t) ≡ false
  excluded_none zero h u l e = absurd (omega arith)
  excluded_none (suc k) h u l e = ⊎_elim (λ j. excluded_none k p.1 u j e) here (cases_lt u k)
    where
      p : ((has r k && conflict (at n k) (at n t)) ≡ false) × (excluded n r t k ≡ false)
      p = or_parts (has r k && conflict (at n k) (at n t)) (excluded n r t k) h

      here : k ≤ u → conflict (at n u) (at n t) ≡ false
      here j = let q : u ≡ k = omega arith in
          let a : has r k ≡ true = subst (λ x. has r x ≡ true) q e in
          let b : conflict (at n k) (at n t) ≡ false = ap (λ x. x && conflict (at n k) (at n t)) (sym a) ∙ p.0 in
          subst (λ x. conflict (at n x) (at n t) ≡ false) (sym q) b

  pub excluded_from : (k u : ℕ) → u < k → has r u ≡ true → conflict (at n u) (at n t) ≡ true → excluded n r t k ≡ true
  excluded_from k u l h c =
      ⊎_elim (λ e. e) (λ e. absurd (false≢true (sym (excluded_none k e u l h) ∙ c))) (cases_Bool (excluded n r t k))

-- THE LAWS OF A ROUND

module _ (n : Net) (m w : ℕ) where
  -- what is reported from the marking m
  told : ℕ
  told = taken n m w (length n.transitions)

  inside_net : (x : ℕ) → has told x ≡ true → x < length n.transitions
  unfolding told
  inside_net x h = ⊎_elim (λ l. l) (λ l. absurd (false≢true (sym (taken_past n m w (length n.transitions) x l) ∙ h))) (cases_lt x (length n.transitions))

  parts : (x : ℕ) → has told x ≡ true → (can_fire m w (at n x) ≡ true) × (excluded n told x x ≡ false)
  unfolding told
  parts x h =
      let p = and_parts (can_fire m w (at n x)) (not (excluded n told x x)) (sym (greedy n m w (length n.transitions) x (inside_net x h)) ∙ h) in
      (p.0, not-true (excluded n told x x) p.1)

  no_conflict : (x y : ℕ) → has told x ≡ true → has told y ≡ true → (x ≡ y → ⊥) → conflict (at n x) (at n y) ≡ false
  no_conflict x y h k ne = ⊎_elim (λ e. absurd (ne e)) (λ o. ⊎_elim
      (λ l. excluded_none n told y y (parts y k).1 x l h)
      (λ l. conflict_comm (at n x) (at n y) ∙ excluded_none n told x x (parts x h).1 y l k) o) (cases_order x y)

  lowest : (t : ℕ) → t < length n.transitions → can_fire m w (at n t) ≡ true → has told t ≡ false
      → (u : ℕ) × (u < t) × (has told u ≡ true) × (conflict (at n u) (at n t) ≡ true)
  unfolding told
  lowest t l c h = excluded_some n told t t
      (let g = greedy n m w (length n.transitions) t l in grind arith)

  module _ (ts : List ℕ) (s : IsPermutation (members told (length n.transitions)) ts) where
    once : (x : ℕ) → count x ts ≤ 1
    once x = let e = count_shuffled x (members told (length n.transitions)) ts s in let f = count-members x told (length n.transitions) in grind arith

    inside : (x : ℕ) → 0 < count x ts → has told x ≡ true
    inside x h = let e = count_shuffled x (members told (length n.transitions)) ts s in let f = count-members x told (length n.transitions) in grind arith

    in_turn : Fires n w m ts (after n w m ts)
    in_turn = serial n w ts m once (λ x h. (parts x (inside x h)).0) (λ x y h k. no_conflict x y (inside x h) (inside y k))

    together : after n w m ts ≡ fire_all n told m
    together = same_word (after n w m ts) (fire_all n told m) (λ p.
        let size = length n.transitions in
        let f = λ (t : ℕ). tell (has (at n t).consumes p) in
        let g = λ (t : ℕ). tell (has (at n t).produces p) in
        bits (has (after n w m ts) p) (has m p) (total f ts) (total g ts) (tokens_after n w ts m (after n w m ts) p in_turn)
        (λ e. total_none f ts (λ x h. tell_none (has (at n x).consumes p) (λ k. true≢false (sym ((is_ready x h).consumes p k) ∙ e))))
        (λ e. total_none g ts (λ x h. tell_none (has (at n x).produces p) (λ k. true≢false (sym e ∙ (is_ready x h).produces p k))))
        ∙ sym (has_or (without m (union (λ t. (at n t).consumes) told size)) (union (λ t. (at n t).produces) told size) p
        ∙ ap₂ ◌||◌ (has-without m (union (λ t. (at n t).consumes) told size) p ∙ ap (λ b. has m p && not b) (has-union (λ t. (at n t).consumes) told size p ∙ ap (ltb 0) (sym (total_shuffled f (members told size) ts s))))
        (has-union (λ t. (at n t).produces) told size p ∙ ap (ltb 0) (sym (total_shuffled g (members told size) ts s)))))
      where
        bits : (a b : Bool) (st sg : ℕ) → tell a + st ≡ tell b + sg → (b ≡ false → st ≡ 0) → (b ≡ true → sg ≡ 0) → a ≡ ((b && not (ltb 0 st)) || ltb 0 sg)
        bits a b st sg e f g = grind (arith, nat_tests)

        tell_none : (b : Bool) → (b ≡ true → ⊥) → tell b ≡ 0
        tell_none true f = absurd (f refl)
        tell_none false f = refl

        is_ready : (x : ℕ) → 0 < count x ts → Ready m (at n x)
        is_ready x h = ready m (at n x) (and_parts (enabled m (at n x)) (condition w (at n x).terms) (parts x (inside x h)).0).0

    any_order : Fires n w m ts (fire_all n told m)
    any_order = subst (Fires n w m ts) together in_turn

pub rounds_keep_their_laws : RoundsKeepTheirLaws
unfolding told
rounds_keep_their_laws n m w = record {
  of_the_net = below_from_has (length n.transitions) (told n (begins n m) w) (λ x l. taken_past n (begins n m) w (length n.transitions) x l);
  any_order = any_order n (begins n m) w;
  lowest_first = lowest n (begins n m) w;
}

-- LINES THAT A NET LACKS

taken_cut : (n : Net) → WellFormed n → (m w k : ℕ) → taken n m w k ≡ taken n m (bit_and w (below n.lines)) k
taken_cut n f m w zero = refl
taken_cut n f m w (suc t) =
    ap₂ (λ (c : Bool) (r : ℕ). cond ((enabled m (at n t) && c) && not (excluded n r t t)) (bit_or r (only t)) r) (condition_cut n f w t) (taken_cut n f m w t)

pub lines_ignored : (n : Net) (m w : ℕ) → LinesIgnored n m w
lines_ignored n m w f =
    let e = taken_cut n f (begins n m) w (length n.transitions) in (e, ap (λ (r : ℕ). fire_all n r (begins n m)) e)

-- WEIGHTS

weight_fire : (f : ℕ → ℕ) (m : ℕ) (t : Transition) (k : ℕ) → enabled m t ≡ true
    → weight f (fire m t) k + weight f t.consumes k ≡ weight f m k + weight f t.produces k
weight_fire f m t zero e = refl
weight_fire f m t (suc k) e =
    let h = tokens m t k e in
    let one = bits (has (fire m t) k) (has t.consumes k) (has m k) (has t.produces k) h in
    omega (arith, weight_fire f m t k e)
  where
    bits : (a b c d : Bool) → tell a + tell b ≡ tell c + tell d → weigh a (f k) + weigh b (f k) ≡ weigh c (f k) + weigh d (f k)
    bits a b c d h = grind arith

-- what is fired one after the other keeps the weight
pub weight_fires : (n : Net) (w : ℕ) (f : ℕ → ℕ) → Balanced n f → (ts : List ℕ) (m m' : ℕ) → ((x : ℕ) → 0 < count x ts → x < length n.transitions)
    → Fires n w m ts m' → weight f m' n.places ≡ weight f m n.places
weight_fires n w f b [] m m' l h = ap (λ x. weight f x n.places) (sym h)
weight_fires n w f b (t ∷ ts) m m' l h =
    let rest = weight_fires n w f b ts (fire m (at n t)) m' (λ x k. l x (omega arith)) h.1 in
    let first = weight_fire f m (at n t) n.places (and_parts (enabled m (at n t)) (condition w (at n t).terms) h.0).0 in
    let same = b t (l t (let e = eq-eqb t t refl in grind arith)) in
    omega arith

pub rounds_keep_weights : RoundsKeepWeights
unfolding told
rounds_keep_weights n f b m w =
    let c = begins n m in
    let ts = members (told n c w) (length n.transitions) in
    let s = IsPermutation-refl ts in
    weight_fires n w f b ts c (ends n m w) (λ x h. inside_net n c w x (inside n c w ts s x h)) (any_order n c w ts s)
