-- Words as sets: what is in each, and that a word is known by what is in it.
use Rattle.std.proofs.Common.{◌≡◌, ℕ, zero, suc, ◌+◌, ◌-◌, ◌/◌, ◌%◌, ◌^◌, ◌<◌, ◌≤◌, min, Bool, true, false, cond, not, ◌&&◌, ◌||◌, eqb, ltb, List, [], ◌∷◌, ◌++◌, length, Some, None, sym, refl, ap, ◌∙◌, subst, ap₂, ⊎_elim, pow-suc, arith, length-append}
use lib.Bits.{bit_and, bit_or, and_step, and_le_l, and_comm}
use lib.Count.{count_trailing_zeros, under, ones, ones_step}
use lib.Dec.{leb-suc-suc}
use Rattle.std.specs.Int.{bit_at}
use Rattle.std.proofs.lemmas.Nat.Bits.{bit_at_lowest, bit_at-suc, bit_at-zero, bit_at_and, bit_at_or, bit_at-pow_same, bit_at-pow_other, bit_at_ones, bit_at_ones_above, bit_at-lt, bit_at_above, same_from_bits}
use Rattle.std.proofs.lemmas.Bool.{eq-eqb, eqb-true, lt-ltb, le-ltb, cases_lt, cases_eq}
use Rattle.std.proofs.lemmas.Bool.Decides.{nat_tests}
use Rattle.bitset.specs.Lists.{first_of}
use Rattle.bitset.proofs.Lists.{first_joined}
use Rattle.bitset.specs.Sets.{has, within, apart, without, only, below, members, tell, count}

-- ONE BIT: has w n is that bit n of w is 1

-- a test of bits, by what the library says of the bits
pub has_first : (w : ℕ) → has w 0 ≡ eqb (w % 2) 1
unfolding has
has_first w = ap (λ (x : ℕ). eqb x 1) (bit_at_lowest w)

pub has_next : (w n : ℕ) → has w (suc n) ≡ has (w / 2) n
unfolding has
has_next w n = ap (λ (x : ℕ). eqb x 1) (bit_at-suc w n)

-- WHAT IS IN EACH

pub has_and : (a b n : ℕ) → has (bit_and a b) n ≡ (has a n && has b n)
unfolding has
has_and a b n = let s = bit_at_and a b n in let l = bit_at-lt a n in let m = bit_at-lt b n in grind (arith, nat_tests)

pub has_or : (a b n : ℕ) → has (bit_or a b) n ≡ (has a n || has b n)
unfolding has
has_or a b n = let s = bit_at_or a b n in let l = bit_at-lt a n in let m = bit_at-lt b n in grind (arith, nat_tests)

pub has-without : (a b n : ℕ) → has (without a b) n ≡ (has a n && not (has b n))
unfolding without
has-without a b zero =
    let s = and_step a b in
    let l = and_le_l (a / 2) (b / 2) in
    let x = has_first a in
    let y = has_first b in
    let e : without a b % 2 ≡ a % 2 - min (a % 2) (b % 2) = omega arith in
    has_first (without a b) ∙ grind (arith, nat_tests)
has-without a b (suc n) =
    let s = and_step a b in
    let l = and_le_l (a / 2) (b / 2) in
    let e : without a b / 2 ≡ without (a / 2) (b / 2) = omega arith in
    has_next (without a b) n ∙ ap (λ (x : ℕ). has x n) e ∙ has-without (a / 2) (b / 2) n
    ∙ ap₂ (λ x y. x && not y) (sym (has_next a n)) (sym (has_next b n))

pub has_none : (n : ℕ) → has 0 n ≡ false
unfolding has
has_none n = ap (λ (x : ℕ). eqb x 1) (bit_at-zero n)

pub has-only : (k n : ℕ) → has (only k) n ≡ eqb n k
unfolding has only
has-only k n = ⊎_elim
    (λ e. subst (λ (x : ℕ). eqb (bit_at (2 ^ k) x) 1 ≡ eqb x k) (sym e) (let b = bit_at-pow_same k in grind (arith, nat_tests)))
    (λ e. let b = bit_at-pow_other k n e in grind (arith, nat_tests))
    (cases_eq n k)

-- A WORD IS KNOWN BY WHAT IS IN IT

pub same_word : (a b : ℕ) → ((n : ℕ) → has a n ≡ has b n) → a ≡ b
unfolding has
same_word a b h = same_from_bits a b (λ n. let e = h n in let l = bit_at-lt a n in let m = bit_at-lt b n in grind (arith, nat_tests))

empty : (b : ℕ) → ((n : ℕ) → has b n ≡ false) → b ≡ 0
empty b h = same_word b 0 (λ n. h n ∙ sym (has_none n))

-- BOUNDS

pub has_past : (w k n : ℕ) → w < 2 ^ k → k ≤ n → has w n ≡ false
unfolding has
has_past w k n h l = ap (λ (x : ℕ). eqb x 1) (bit_at_above w k n h l)

pub below_from_has : (k w : ℕ) → ((n : ℕ) → k ≤ n → has w n ≡ false) → w < 2 ^ k
below_from_has zero w h = let e = empty w (λ n. h n (omega arith)) in omega arith
below_from_has (suc k) w h =
    let p : w / 2 < 2 ^ k = below_from_has k (w / 2) (λ n l. sym (has_next w n) ∙ h (suc n) (omega arith)) in
    omega (arith, pow-suc 2 k)

-- TESTS

pub within_each : (a w : ℕ) → within a w ≡ true → (n : ℕ) → has a n ≡ true → has w n ≡ true
unfolding within
within_each a w e n h =
    let s : (has a n && has w n) ≡ has a n = sym (has_and a w n) ∙ ap (λ (x : ℕ). has x n) (eqb-true (bit_and a w) a e) in
    grind arith

pub within_from : (a w : ℕ) → ((n : ℕ) → has a n ≡ true → has w n ≡ true) → within a w ≡ true
unfolding within
within_from a w h = eq-eqb (bit_and a w) a (same_word (bit_and a w) a (λ n. has_and a w n ∙ bits (has a n) (has w n) (h n)))
  where
    bits : (x y : Bool) → (x ≡ true → y ≡ true) → (x && y) ≡ x
    bits true y f = f refl
    bits false y f = refl

pub apart_each : (a w : ℕ) → apart a w ≡ true → (n : ℕ) → has a n ≡ true → has w n ≡ false
unfolding apart
apart_each a w e n h =
    let s : (has a n && has w n) ≡ false = sym (has_and a w n) ∙ ap (λ (x : ℕ). has x n) (eqb-true (bit_and a w) 0 e) ∙ has_none n in
    grind arith

pub apart_from : (a w : ℕ) → ((n : ℕ) → has a n ≡ true → has w n ≡ false) → apart a w ≡ true
unfolding apart
apart_from a w h = eq-eqb (bit_and a w) 0 (empty (bit_and a w) (λ n. has_and a w n ∙ bits (has a n) (has w n) (h n)))
  where
    bits : (x y : Bool) → (x ≡ true → y ≡ false) → (x && y) ≡ false
    bits true y f = f refl
    bits false y f = refl

-- MEMBERS

pub count-append : (x : ℕ) (xs ys : List ℕ) → count x (xs ++ ys) ≡ count x xs + count x ys
count-append x [] ys = omega arith
count-append x (y ∷ xs) ys = omega (arith, count-append x xs ys)

-- each member below k stands once in the list, and nothing else
pub count-members : (x w k : ℕ) → count x (members w k) ≡ tell (ltb x k && has w x)
count-members x w zero = grind (arith, nat_tests)
count-members x w (suc k) = go (has w k) refl (count-members x w k)
  where
    go : (b : Bool) → has w k ≡ b → count x (members w k) ≡ tell (ltb x k && has w x) → count x (cond b (members w k ++ k ∷ []) (members w k)) ≡ tell (ltb x (suc k) && has w x)
    go true e ih = let s = count-append x (members w k) (k ∷ []) in grind (arith, nat_tests)
    go false e ih = grind (arith, nat_tests)

-- THE TESTS TOGETHER

pub apart_comm : (a b : ℕ) → apart a b ≡ apart b a
unfolding apart
apart_comm a b = ap (λ (x : ℕ). eqb x 0) (and_comm a b)

pub within_left : (a b : ℕ) → within a (bit_or a b) ≡ true
within_left a b = within_from a (bit_or a b) (λ n h. has_or a b n ∙ grind arith)

pub within_right : (a b : ℕ) → within b (bit_or a b) ≡ true
within_right a b = within_from b (bit_or a b) (λ n h. has_or a b n ∙ grind arith)

pub within_both : (a b w : ℕ) → within a w ≡ true → within b w ≡ true → within (bit_or a b) w ≡ true
within_both a b w e f = within_from (bit_or a b) w (λ n h. let s = has_or a b n in let p = within_each a w e n in let q = within_each b w f n in grind arith)

pub apart_both : (a b w : ℕ) → apart a w ≡ true → apart b w ≡ true → apart (bit_or a b) w ≡ true
apart_both a b w e f = apart_from (bit_or a b) w (λ n h. let s = has_or a b n in let p = apart_each a w e n in let q = apart_each b w f n in grind arith)

-- parts of two sets that are apart are apart
pub apart_parts : (a b a' b' : ℕ) → within a a' ≡ true → within b b' ≡ true → apart a' b' ≡ true → apart a b ≡ true
apart_parts a b a' b' e f g = apart_from a b (λ n h. let p = within_each a a' e n in let q = within_each b b' f n in let r = apart_each a' b' g n in grind arith)

-- what is in w is apart from what has nothing in common with w
pub apart_by : (a b w : ℕ) → within a w ≡ true → apart b w ≡ true → apart a b ≡ true
apart_by a b w e f = apart_from a b (λ n h. let p = within_each a w e n in let q = apart_each b w f n in grind arith)

-- COMPLEMENTS, AND WHAT THE PROCESSOR COUNTS

pub has-below : (k n : ℕ) → has (below k) n ≡ ltb n k
unfolding has below
has-below k n = ⊎_elim
    (λ l. let b = bit_at_ones k n l in grind (arith, nat_tests))
    (λ l. let b = bit_at_ones_above k n l in grind (arith, nat_tests))
    (cases_lt n k)

-- what `!a` holds, at any width
pub has_complement : (k a n : ℕ) → a < 2 ^ k → has (2 ^ k - 1 - a) n ≡ (ltb n k && not (has a n))
has_complement zero a n h = let e : 2 ^ 0 - 1 - a ≡ 0 = omega arith in ap (λ (x : ℕ). has x n) e ∙ has_none n ∙ ap (λ b. b && not (has a n)) (sym (le-ltb n 0 (omega arith)))
has_complement (suc k) a zero h =
    let p = pow-suc 2 k in
    let e : (2 ^ suc k - 1 - a) % 2 ≡ 1 - a % 2 = omega arith in
    let f = has_first (2 ^ suc k - 1 - a) in
    let g = has_first a in
    let l = lt-ltb 0 (suc k) (omega arith) in
    grind (arith, nat_tests)
has_complement (suc k) a (suc n) h =
    let p = pow-suc 2 k in
    let e : (2 ^ suc k - 1 - a) / 2 ≡ 2 ^ k - 1 - a / 2 = omega arith in
    has_next (2 ^ suc k - 1 - a) n ∙ ap (λ (x : ℕ). has x n) e ∙ has_complement k (a / 2) n (omega arith)
    ∙ ap₂ (λ b c. b && not c) (sym (leb-suc-suc (suc n) k)) (sym (has_next a n))

-- `m & !a`
pub and_complement : (k m a : ℕ) → m < 2 ^ k → a < 2 ^ k → bit_and m (2 ^ k - 1 - a) ≡ without m a
and_complement k m a h l = same_word (bit_and m (2 ^ k - 1 - a)) (without m a) (λ n.
    has_and m (2 ^ k - 1 - a) n ∙ ap (λ b. has m n && b) (has_complement k a n l) ∙ ⊎_elim
    (λ j. ap (λ b. has m n && (b && not (has a n))) (lt-ltb n k j))
    (λ j. let e = has_past m k n h j in grind arith) (cases_lt n k)
    ∙ sym (has-without m a n))

-- `trailing_zeros` names the least member
pub trailing_least : (k w : ℕ) → ((x : ℕ) → x < count_trailing_zeros k w → has w x ≡ false) × (count_trailing_zeros k w < k → has w (count_trailing_zeros k w) ≡ true)
unfolding count_trailing_zeros
trailing_least zero w = (λ x h. absurd (omega arith), λ h. absurd (omega arith))
trailing_least (suc k) w = go (w % 2) refl (trailing_least k (w / 2))
  where
    go : (d : ℕ) → w % 2 ≡ d → ((x : ℕ) → x < count_trailing_zeros k (w / 2) → has (w / 2) x ≡ false) × (count_trailing_zeros k (w / 2) < k → has (w / 2) (count_trailing_zeros k (w / 2)) ≡ true)
        → ((x : ℕ) → x < under d (count_trailing_zeros k (w / 2)) → has w x ≡ false) × (under d (count_trailing_zeros k (w / 2)) < suc k → has w (under d (count_trailing_zeros k (w / 2))) ≡ true)
    go zero e ih = (below, λ h. has_next w (count_trailing_zeros k (w / 2)) ∙ ih.1 (omega arith))
      where
        below : (x : ℕ) → x < suc (count_trailing_zeros k (w / 2)) → has w x ≡ false
        below zero h = has_first w ∙ ap (λ (y : ℕ). eqb y 1) e
        below (suc x) h = has_next w x ∙ ih.0 x (omega arith)
    go (suc d) e ih = (λ x h. absurd (omega arith), λ h. has_first w ∙ eq-eqb (w % 2) 1 (omega arith))

pub trailing_below : (k w : ℕ) → w < 2 ^ k → (w ≡ 0 → ⊥) → count_trailing_zeros k w < k
trailing_below k w h ne = ⊎_elim (λ l. l) (λ l. absurd (ne (empty w (λ n. ⊎_elim (λ j. (trailing_least k w).0 n (omega arith)) (λ j. has_past w k n h j) (cases_lt n k))))) (cases_lt (count_trailing_zeros k w) k)

-- one more place, above or below
length_more : (w k : ℕ) → length (members w (suc k)) ≡ length (members w k) + tell (has w k)
length_more w k = go (has w k)
  where
    go : (b : Bool) → length (cond b (members w k ++ k ∷ []) (members w k)) ≡ length (members w k) + tell b
    go true = length-append (members w k) (k ∷ [])
    go false = omega arith

length_low : (k w : ℕ) → length (members w (suc k)) ≡ tell (has w 0) + length (members (w / 2) k)
length_low zero w = omega (arith, length_more w 0)
length_low (suc k) w = omega (arith, length_more w (suc k), length_low k w, length_more (w / 2) k, ap tell (has_next w k))

-- `count_ones` counts the members
pub ones_members : (k w : ℕ) → w < 2 ^ k → ones w ≡ length (members w k)
unfolding ones
ones_members zero w h = let e : w ≡ 0 = omega arith in ap ones e
ones_members (suc k) w h =
    let p = pow-suc 2 k in
    let s = ones_step w in
    let i = ones_members k (w / 2) (omega arith) in
    let l = length_low k w in
    let f = has_first w in
    grind (arith, nat_tests)

-- THE LOWEST MEMBER

no_members : (w k : ℕ) → ((x : ℕ) → x < k → has w x ≡ false) → members w k ≡ []
no_members w zero h = refl
no_members w (suc k) h = rw (h k (omega arith)) (no_members w k (λ x l. h x (omega arith)))

pub first_none : (k : ℕ) → first_of (members 0 k) ≡ None
first_none k = ap first_of (no_members 0 k (λ x h. has_none x))

-- the first of the members is the one below which there is none
pub first_member : (w p k : ℕ) → p < k → has w p ≡ true → ((x : ℕ) → x < p → has w x ≡ false) → first_of (members w k) ≡ Some p
first_member w p zero h e least = absurd (omega arith)
first_member w p (suc k) h e least = ⊎_elim
    (λ l. go (has w k) (first_member w p k l e least))
    (λ l. let s : p ≡ k = omega arith in subst (λ (x : ℕ). first_of (members w (suc x)) ≡ Some p) s last) (cases_lt p k)
  where
    go : (b : Bool) → first_of (members w k) ≡ Some p → first_of (cond b (members w k ++ k ∷ []) (members w k)) ≡ Some p
    go true ih = first_joined (members w k) (k ∷ []) p ih
    go false ih = ih

    last : first_of (members w (suc p)) ≡ Some p
    last = rw (e, no_members w p least) refl

-- nothing is in w below k, where the list of its members below k is empty
none_below : (w k : ℕ) → members w k ≡ [] → (q : ℕ) → q < k → has w q ≡ false
none_below w k e q h =
    let c : tell (ltb q k && has w q) ≡ 0 = sym (count-members q w k) ∙ ap (count q) e in
    let l = lt-ltb q k h in
    grind arith

-- what comes first of the members is in w, and nothing below it is
pub first_lowest : (w k p : ℕ) → first_of (members w k) ≡ Some p → (has w p ≡ true) × ((q : ℕ) → q < p → has w q ≡ false)
first_lowest w zero p e = cc
first_lowest w (suc k) p e = go (has w k) refl (members w k) refl (first_lowest w k p) e
  where
    go : (b : Bool) → has w k ≡ b → (l : List ℕ) → members w k ≡ l
        → (first_of (members w k) ≡ Some p → (has w p ≡ true) × ((q : ℕ) → q < p → has w q ≡ false))
        → first_of (cond b (l ++ k ∷ []) l) ≡ Some p → (has w p ≡ true) × ((q : ℕ) → q < p → has w q ≡ false)
    go true h [] m ih f =
        let s : k ≡ p = cc in
        subst (λ (x : ℕ). (has w x ≡ true) × ((q : ℕ) → q < x → has w q ≡ false)) s (h, none_below w k m)
    go true h (x ∷ l) m ih f = ih (ap first_of m ∙ f)
    go false h l m ih f = ih (ap first_of m ∙ f)

-- WORDS CUT TO A SET

pub common_cut : (a b w : ℕ) → within a b ≡ true → bit_and a (bit_and w b) ≡ bit_and a w
common_cut a b w e = same_word (bit_and a (bit_and w b)) (bit_and a w) (λ n.
    has_and a (bit_and w b) n ∙ (let s = has_and w b n in let t = has_and a w n in let p = within_each a b e n in grind arith))

-- where a lies in b, no member of w outside b counts
pub within_cut : (a b w : ℕ) → within a b ≡ true → within a (bit_and w b) ≡ within a w
unfolding within
within_cut a b w e = ap (λ (x : ℕ). eqb x a) (common_cut a b w e)

pub apart_cut : (a b w : ℕ) → within a b ≡ true → apart a (bit_and w b) ≡ apart a w
unfolding apart
apart_cut a b w e = ap (λ (x : ℕ). eqb x 0) (common_cut a b w e)
