-- The first clash: it is one, it is the first, and none is left out.
use Rattle.std.proofs.Common.{◌≡◌, ℕ, zero, suc, ◌+◌, ◌<◌, Bool, true, false, cond, ◌&&◌, ◌⊎◌, List, [], ◌∷◌, length, get_or, drop, Some, None, Option, sym, refl, ap, ◌∙◌, subst, inl, inr, ⊎_elim, add-one, arith}
use mathlib.Core.Bool.{false≢true}
use lib.Bits.{bit_or}
use Rattle.std.proofs.lemmas.List.{drop_more}
use Rattle.std.proofs.lemmas.Bool.{and_parts, and_from, or_cases, or_left, or_right, cases_lt}
use Rattle.bitset.specs.Room.{set_of}
use Rattle.bitset.specs.Sets.{within, apart, below}
use Rattle.bitset.proofs.Sets.{apart_comm, within_left, within_right, within_both, apart_both, apart_parts, apart_by}
use Rattle.nets.specs.declared.clash.Clash.{Clash}
use Rattle.nets.specs.declared.term.Term.{Term}
use Rattle.nets.specs.Nets.{Net, at, Transition}
use Rattle.nets.specs.Firing.{term_holds, condition, needs, forbids, enabled, can_fire, conflict}
use Rattle.nets.specs.Clashes.{or_else, first_below, first_over, lines_of_both, lines_with, lines_for, needs_of_both, both_enabled, named, clash_between, clash_with, clash_below, first_clash, Clashing, First, Told}
use Rattle.nets.specs.WellFormed.{always, WellFormed}

-- ANSWERS

one_of_two : {X : Type 0} (o p : Option X) (x : X) → or_else o p ≡ Some x → (o ≡ Some x) ⊎ (p ≡ Some x)
one_of_two None p x e = inr e
one_of_two (Some y) p x e = inl e

neither : {X : Type 0} (o p : Option X) → or_else o p ≡ None → (o ≡ None) × (p ≡ None)
neither None p e = (refl, e)
neither (Some y) p e = cc

-- what the answer at the least number below k says
abbrev Least : {X : Type 0} → (ℕ → Option X) → ℕ → Option X → Type 0
Least f k None = (i : ℕ) → i < k → f i ≡ None
Least f k (Some x) = (i : ℕ) × (i < k) × (f i ≡ Some x) × ((j : ℕ) → j < i → f j ≡ None)

least : {X : Type 0} (f : ℕ → Option X) (k : ℕ) → Least f k (first_below f k)
least f zero = λ i h. absurd (omega arith)
least {X} f (suc k) = go (first_below f k) (least f k)
  where
    here : (o : Option X) → f k ≡ o → ((i : ℕ) → i < k → f i ≡ None) → Least f (suc k) o
    here None e h = λ i l. ⊎_elim (h i) (λ j. let q : k ≡ i = omega arith in subst (λ x. f x ≡ None) q e) (cases_lt i k)
    here (Some x) e h = (k, omega arith, e, h)

    go : (o : Option X) → Least f k o → Least f (suc k) (or_else o (f k))
    go None h = here (f k) refl h
    go (Some x) h = (h.0, omega arith, h.2, h.3)

-- looked through by number: the first answer ends it, and else it goes on
pub found_at : {X : Type 0} (f : ℕ → Option X) (i k : ℕ) (x : X) → i < k → first_below f i ≡ None → f i ≡ Some x → first_below f k ≡ Some x
found_at f i (suc k) x h e g = ⊎_elim
    (λ l. ap (λ o. or_else o (f k)) (found_at f i k x l e g))
    (λ l. let q : i ≡ k = omega arith in subst (λ j. or_else (first_below f j) (f j) ≡ Some x) q (ap (λ o. or_else o (f i)) e ∙ g))
    (cases_lt i k)
found_at f i zero x h e g = absurd (omega arith)

pub none_yet : {X : Type 0} (f : ℕ → Option X) (i : ℕ) → first_below f i ≡ None → f i ≡ None → first_below f (i + 1) ≡ None
none_yet f i e g = rw add-one (ap (λ o. or_else o (f i)) e ∙ g)

-- a list looked through from element i on
pub next_over : {X Y : Type 0} (f : X → Option Y) (xs : List X) (i : ℕ) (d : X) (o : Option Y) → i < length xs → o ≡ f (get_or xs i d)
    → or_else o (first_over f (drop (i + 1) xs)) ≡ first_over f (drop i xs)
next_over f xs i d o h e = ap (λ x. or_else x (first_over f (drop (i + 1) xs))) e ∙ sym (ap (first_over f) (drop_more xs i d h))

-- LINE WORDS UNDER WHICH TWO CONDITIONS HOLD

-- both hold at the word of the lines that they want high
both_hold : (c d : Term) → apart (bit_or c.high d.high) (bit_or c.low d.low) ≡ true
    → (term_holds (bit_or c.high d.high) c ≡ true) × (term_holds (bit_or c.high d.high) d ≡ true)
both_hold c d e =
    let h = bit_or c.high d.high in
    let l = bit_or c.low d.low in
    let all = within_both c.high d.high h (within_left c.high d.high) (within_right c.high d.high) in (
      and_from (within c.high h) (apart c.low h) (within_left c.high d.high)
          (apart_comm c.low h ∙ apart_parts h c.low h l all (within_left c.low d.low) e),
      and_from (within d.high h) (apart d.low h) (within_right c.high d.high)
          (apart_comm d.low h ∙ apart_parts h d.low h l all (within_right c.low d.low) e),
    )

-- the high lines of each term are in b
abbrev Highs : ℕ → List Term → Type 0
Highs b cs = (k : ℕ) → k < length cs → within (get_or cs k always).high b ≡ true

both_told : (c d : Term) (w : ℕ) → lines_of_both c d ≡ Some w
    → (term_holds w c ≡ true) × (term_holds w d ≡ true) × ((b : ℕ) → within c.high b ≡ true → within d.high b ≡ true → within w b ≡ true)
both_told c d w = go (apart (bit_or c.high d.high) (bit_or c.low d.low)) refl
  where
    go : (b : Bool) → apart (bit_or c.high d.high) (bit_or c.low d.low) ≡ b → cond b (Some (bit_or c.high d.high)) None ≡ Some w
        → (term_holds w c ≡ true) × (term_holds w d ≡ true) × ((b : ℕ) → within c.high b ≡ true → within d.high b ≡ true → within w b ≡ true)
    go false e f = cc
    go true e f = let same : bit_or c.high d.high ≡ w = cc in subst (λ x. (term_holds x c ≡ true) × (term_holds x d ≡ true) × ((b : ℕ) → within c.high b ≡ true → within d.high b ≡ true → within x b ≡ true))
        same ((both_hold c d e).0, (both_hold c d e).1, within_both c.high d.high)

with_told : (c : Term) (ds : List Term) (w : ℕ) → lines_with c ds ≡ Some w
    → (term_holds w c ≡ true) × (condition w ds ≡ true) × ((b : ℕ) → within c.high b ≡ true → Highs b ds → within w b ≡ true)
with_told c [] w e = cc
with_told c (d ∷ ds) w e = ⊎_elim
    (λ f. let r = both_told c d w f in (r.0, or_left (term_holds w d) (condition w ds) r.1, λ b x y. r.2 b x (y 0 (omega arith))))
    (λ f. let r = with_told c ds w f in (r.0, or_right (term_holds w d) (condition w ds) r.1, λ b x y. r.2 b x (λ k l. y (suc k) (omega arith))))
    (one_of_two (lines_of_both c d) (lines_with c ds) w e)

for_told : (cs ds : List Term) (w : ℕ) → lines_for cs ds ≡ Some w
    → (condition w cs ≡ true) × (condition w ds ≡ true) × ((b : ℕ) → Highs b cs → Highs b ds → within w b ≡ true)
for_told [] ds w e = cc
for_told (c ∷ cs) ds w e = ⊎_elim
    (λ f. let r = with_told c ds w f in (or_left (term_holds w c) (condition w cs) r.0, r.1, λ b x y. r.2 b (x 0 (omega arith)) y))
    (λ f. let r = for_told cs ds w f in (or_right (term_holds w c) (condition w cs) r.0, r.1, λ b x y. r.2 b (λ k l. x (suc k) (omega arith)) y))
    (one_of_two (lines_with c ds) (lines_for cs ds) w e)

-- what is wanted by both, and what is kept from both, at one word
split : (a b c d m : ℕ) → (within a m && apart b m) ≡ true → (within c m && apart d m) ≡ true → apart (bit_or a c) (bit_or b d) ≡ true
split a b c d m e f =
    let p = and_parts (within a m) (apart b m) e in
    let q = and_parts (within c m) (apart d m) f in
    apart_by (bit_or a c) (bit_or b d) m (within_both a c m p.0 q.0) (apart_both b d m p.1 q.1)

none_with : (c : Term) (ds : List Term) → lines_with c ds ≡ None → (w : ℕ) → term_holds w c ≡ true → condition w ds ≡ true → ⊥
none_with c [] e w h k = false≢true k
none_with c (d ∷ ds) e w h k =
    let n = neither (lines_of_both c d) (lines_with c ds) e in
    ⊎_elim
    (λ f. let told = sym n.0 ∙ ap (λ b. cond b (Some (bit_or c.high d.high)) None) (split c.high c.low d.high d.low w h f) in cc)
    (λ f. none_with c ds n.1 w h f)
    (or_cases (term_holds w d) (condition w ds) k)

none_for : (cs ds : List Term) → lines_for cs ds ≡ None → (w : ℕ) → condition w cs ≡ true → condition w ds ≡ true → ⊥
none_for [] ds e w h k = false≢true h
none_for (c ∷ cs) ds e w h k =
    let n = neither (lines_with c ds) (lines_for cs ds) e in
    ⊎_elim (λ f. none_with c ds n.0 w f k) (λ f. none_for cs ds n.1 w f k) (or_cases (term_holds w c) (condition w cs) h)

-- TWO TRANSITIONS

-- both are enabled at the marking of the places that have to be marked for them
enabled_there : (t u : Transition) → both_enabled t u ≡ true → (enabled (needs_of_both t u) t ≡ true) × (enabled (needs_of_both t u) u ≡ true)
enabled_there t u e =
    let m = needs_of_both t u in
    let o = bit_or (forbids t) (forbids u) in
    let all = within_both (needs t) (needs u) m (within_left (needs t) (needs u)) (within_right (needs t) (needs u)) in (
      and_from (within (needs t) m) (apart (forbids t) m) (within_left (needs t) (needs u))
          (apart_comm (forbids t) m ∙ apart_parts m (forbids t) m o all (within_left (forbids t) (forbids u)) e),
      and_from (within (needs u) m) (apart (forbids u) m) (within_right (needs t) (needs u))
          (apart_comm (forbids u) m ∙ apart_parts m (forbids u) m o all (within_right (forbids t) (forbids u)) e),
    )

abbrev clash_at : ℕ → ℕ → ℕ → ℕ → Clash
clash_at i j m w = record { lower = i; higher = j; marking = set_of m; lines = w }

between : (t u : Transition) (i j : ℕ) (c : Clash) → clash_between t u i j ≡ Some c
    → (w : ℕ) × (clash_at i j (needs_of_both t u) w ≡ c) × (conflict t u ≡ true) × (both_enabled t u ≡ true) × (lines_for t.terms u.terms ≡ Some w)
between t u i j c = go (conflict t u && both_enabled t u) refl
  where
    at_lines : (o : Option ℕ) → lines_for t.terms u.terms ≡ o → (conflict t u && both_enabled t u) ≡ true → named i j (needs_of_both t u) o ≡ Some c
        → (w : ℕ) × (clash_at i j (needs_of_both t u) w ≡ c) × (conflict t u ≡ true) × (both_enabled t u ≡ true) × (lines_for t.terms u.terms ≡ Some w)
    at_lines None f e g = cc
    at_lines (Some w) f e g = let p = and_parts (conflict t u) (both_enabled t u) e in (w, cc, p.0, p.1, f)

    go : (b : Bool) → (conflict t u && both_enabled t u) ≡ b → cond b (named i j (needs_of_both t u) (lines_for t.terms u.terms)) None ≡ Some c
        → (w : ℕ) × (clash_at i j (needs_of_both t u) w ≡ c) × (conflict t u ≡ true) × (both_enabled t u ≡ true) × (lines_for t.terms u.terms ≡ Some w)
    go false e f = cc
    go true e f = at_lines (lines_for t.terms u.terms) refl e f

none_between : (t u : Transition) (i j : ℕ) → clash_between t u i j ≡ None → (m w : ℕ)
    → conflict t u ≡ true → can_fire m w t ≡ true → can_fire m w u ≡ true → ⊥
none_between t u i j e m w k f g =
    let p = and_parts (enabled m t) (condition w t.terms) f in
    let q = and_parts (enabled m u) (condition w u.terms) g in
    let b = split (needs t) (forbids t) (needs u) (forbids u) m p.0 q.0 in
    go (lines_for t.terms u.terms) refl p.1 q.1
    (ap (λ x. cond x (named i j (needs_of_both t u) (lines_for t.terms u.terms)) None) (sym (and_from (conflict t u) (both_enabled t u) k b)) ∙ e)
  where
    go : (o : Option ℕ) → lines_for t.terms u.terms ≡ o → condition w t.terms ≡ true → condition w u.terms ≡ true
        → named i j (needs_of_both t u) o ≡ None → ⊥
    go None f h k g = none_for t.terms u.terms f w h k
    go (Some x) f h k g = cc

-- THE FIRST

module _ (n : Net) where
  none_below : (j : ℕ) → clash_below n j ≡ None → (i m w : ℕ) → Clashing n i j m w → ⊥
  unfolding clash_with
  none_below j e i m w c =
      none_between (at n i) (at n j) i j (subst (Least (λ x. clash_between (at n x) (at n j) x j) j) e (least (λ x. clash_between (at n x) (at n j) x j) j) i c.in_order)
      m w c.conflicting c.lower_fires c.higher_fires

  -- the places and high lines of a well-formed transition are the net's
  needs_of_net : WellFormed n → (t : ℕ) → t < length n.transitions → within (needs (at n t)) (below n.places) ≡ true
  needs_of_net f t l =
      within_both (at n t).consumes (at n t).tests (below n.places) (f.each_transition t l).consumes_of_the_net (f.each_transition t l).tests_of_the_net

  highs_of_net : WellFormed n → (t : ℕ) → t < length n.transitions → Highs (below n.lines) (at n t).terms
  highs_of_net f t l k h = ((f.each_transition t l).each_term k h).high_of_the_net

  first_is : (i j w : ℕ) → i < j → j < length n.transitions → conflict (at n i) (at n j) ≡ true → both_enabled (at n i) (at n j) ≡ true
      → lines_for (at n i).terms (at n j).terms ≡ Some w
      → ((k : ℕ) → k < j → clash_below n k ≡ None) → ((k : ℕ) → k < i → clash_between (at n k) (at n j) k j ≡ None)
      → First n (clash_at i j (needs_of_both (at n i) (at n j)) w)
  first_is i j w l h k b e none-higher none-lower =
      let m = needs_of_both (at n i) (at n j) in
      let p = enabled_there (at n i) (at n j) b in
      let q = for_told (at n i).terms (at n j).terms w e in
      record {
        clashing = record {
          in_order = l;
          of_the_net = h;
          conflicting = k;
          lower_fires = and_from (enabled m (at n i)) (condition w (at n i).terms) p.0 q.0;
          higher_fires = and_from (enabled m (at n j)) (condition w (at n j).terms) p.1 q.1;
        };
        marking_of_the_net = λ f. within_both (needs (at n i)) (needs (at n j)) (below n.places) (needs_of_net f i (omega arith)) (needs_of_net f j h);
        lines_of_the_net = λ f. q.2 (below n.lines) (highs_of_net f i (omega arith)) (highs_of_net f j h);
        least_higher = λ i' j' m' w' c. ⊎_elim (λ s. absurd (none_below j' (none-higher j' s) i' m' w' c)) (λ s. s) (cases_lt j' j);
        least_lower = λ i' m' w' c. ⊎_elim
            (λ s. absurd (none_between (at n i') (at n j) i' j (none-lower i' s) m' w' c.conflicting c.lower_fires c.higher_fires)) (λ s. s) (cases_lt i' i);
      }

  pub first_told : Told n (first_clash n)
  unfolding clash_with
  first_told = go (first_clash n) (least (clash_below n) (length n.transitions))
    where
      go : (o : Option Clash) → Least (clash_below n) (length n.transitions) o → Told n o
      go None h = λ i j m w c. none_below j (h j c.of_the_net) i m w c
      go (Some c) h =
          let j = h.0 in
          let g = subst (Least (λ x. clash_between (at n x) (at n j) x j) j) h.2 (least (λ x. clash_between (at n x) (at n j) x j) j) in
          let i = g.0 in
          let r = between (at n i) (at n j) i j c g.2 in
          subst (First n) r.1 (first_is i j r.0 g.1 h.1 r.2 r.3 r.4 h.3 g.3)
