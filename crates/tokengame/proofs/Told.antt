-- The laws of a round say which transitions it reports, and where it ends.
use Rattle.std.proofs.Common.{◌≡◌, ℕ, zero, suc, ◌<◌, ◌≤◌, Bool, true, false, not, ◌&&◌, List, [], ◌∷◌, length, sym, refl, ap, ◌∙◌, subst, ap₂, ⊎_elim, arith}
use mathlib.Core.Bool.{false≢true}
use Rattle.std.specs.List.Sorted.{IsPermutation}
use Rattle.std.proofs.lemmas.List.Sorted.{IsPermutation-refl, IsPermutation-cons, IsPermutation-trans, IsPermutation-swap}
use Rattle.std.proofs.lemmas.Bool.{and_parts, ne_eqb, lt-ltb, cases_lt, cases_eq, cases_Bool}
use Rattle.bitset.specs.Sets.{has, members, tell, count}
use Rattle.nets.specs.Nets.{Net, at, Transition}
use Rattle.nets.specs.Firing.{enabled, can_fire, condition, fire, conflict, ConflictsHinder}
use Rattle.nets.specs.Rounds.{begins, excluded, report, ends, Fires, Round, LawsTellTheRound}
use Rattle.bitset.proofs.Sets.{has_past, same_word, count-members}
use Rattle.tokengame.proofs.Firings.{Ready, ready, conflict_from, conflict_comm, has-fire, still_fires, turn}
use Rattle.tokengame.proofs.Rounds.{taken_past, excluded_same, greedy, count_shuffled, excluded_some, excluded_from, rounds_keep_their_laws}

-- A LIST WITH ONE OF ITS ELEMENTS IN FRONT

to_front : (t : ℕ) (l : List ℕ) → 0 < count t l → (rest : List ℕ) × IsPermutation l (t ∷ rest)
to_front t [] h = absurd (omega arith)
to_front t (y ∷ ys) h = ⊎_elim here (λ ne. there (to_front t ys (let e = ne_eqb t y (λ q. ne (sym q)) in grind arith))) (cases_eq y t)
  where
    here : y ≡ t → (rest : List ℕ) × IsPermutation (y ∷ ys) (t ∷ rest)
    here e = (ys, subst (λ x. IsPermutation (y ∷ ys) (x ∷ ys)) e (IsPermutation-refl (y ∷ ys)))

    there : (rest : List ℕ) × IsPermutation ys (t ∷ rest) → (rest : List ℕ) × IsPermutation (y ∷ ys) (t ∷ rest)
    there p = (
      y ∷ p.0,
      IsPermutation-trans (y ∷ ys) (y ∷ t ∷ p.0) (t ∷ y ∷ p.0) (IsPermutation-cons y ys (t ∷ p.0) p.1)
          (IsPermutation-swap (y ∷ t ∷ p.0) (t ∷ y ∷ p.0) 0 1 (omega arith) (omega arith) refl),
    )

-- TWO THAT CAN FIRE IN EITHER ORDER DO NOT CONFLICT

after_ready : (m w : ℕ) (t : Transition) → can_fire m w t ≡ true → Ready m t
after_ready m w t e = ready m t (and_parts (enabled m t) (condition w t.terms) e).0

-- where t fired, what it took is unmarked and what it gave is marked
took : (m w : ℕ) (t : Transition) (p : ℕ) → can_fire m w t ≡ true → has t.consumes p ≡ true → has (fire m t) p ≡ false
took m w t p e h = has-fire m t p ∙ (let r = after_ready m w t e in let a = r.consumes p h in let b = r.produces p in grind arith)

gave : (m w : ℕ) (t : Transition) (p : ℕ) → has t.produces p ≡ true → has (fire m t) p ≡ true
gave m w t p h = has-fire m t p ∙ grind arith

ruled_out : (x : Bool) {y : Bool} → y ≡ false → (x ≡ true → y ≡ true) → x ≡ false
ruled_out x e f = grind arith

ruled_out' : (x : Bool) {y : Bool} → y ≡ true → (x ≡ true → y ≡ false) → x ≡ false
ruled_out' x e f = grind arith

either_order : (m w : ℕ) (t u : Transition) → can_fire m w t ≡ true → can_fire (fire m t) w u ≡ true → can_fire m w u ≡ true → can_fire (fire m u) w t ≡ true
    → conflict t u ≡ false
either_order m w t u a b c d =
    let r = after_ready (fire m t) w u b in
    let s = after_ready (fire m u) w t d in
    conflict_from t u record {
      consumes_consumes = λ p h. ruled_out (has u.consumes p) (took m w t p a h) (r.consumes p);
      produces_produces = λ p h. ruled_out' (has u.produces p) (gave m w t p h) (r.produces p);
      consumes_tests = λ p h. ruled_out (has u.tests p) (took m w t p a h) (r.tests p);
      tests_consumes = λ p h. turn (λ k. ruled_out (has t.tests p) (took m w u p c k) (s.tests p)) h;
      produces_inhibits = λ p h. ruled_out' (has u.inhibits p) (gave m w t p h) (r.inhibits p);
      inhibits_produces = λ p h. turn (λ k. ruled_out' (has t.inhibits p) (gave m w u p k) (s.inhibits p)) h;
    }

pub conflicts_hinder : ConflictsHinder
conflicts_hinder m w t u a c = (
  λ k. (still_fires m w t u c k, still_fires m w u t a (conflict_comm u t ∙ k)),
  λ h. either_order m w t u a h.0 c h.1,
)

fires_same : (n : Net) (w m : ℕ) (ts : List ℕ) (a b : ℕ) → Fires n w m ts a → Fires n w m ts b → a ≡ b
fires_same n w m [] a b h k = sym h ∙ k
fires_same n w m (t ∷ ts) a b h k = fires_same n w (fire m (at n t)) ts a b h.1 k.1

-- WHAT IS TAKEN IN RISING NUMBER IS ONE SET

abbrev Greedy : Net → ℕ → ℕ → ℕ → Type 0
Greedy n m w r = (x : ℕ) → x < length n.transitions → has r x ≡ (can_fire m w (at n x) && not (excluded n r x x))

one_set : (n : Net) (m w r s : ℕ) → Greedy n m w r → Greedy n m w s → (k : ℕ) → k ≤ length n.transitions → (x : ℕ) → x < k → has r x ≡ has s x
one_set n m w r s g h zero l x j = absurd (omega arith)
one_set n m w r s g h (suc k) l x j = let ih = one_set n m w r s g h k (omega arith) in ⊎_elim (ih x) (last ih) (cases_lt x k)
  where
    last : ((y : ℕ) → y < k → has r y ≡ has s y) → k ≤ x → has r x ≡ has s x
    last ih i = g x (omega arith) ∙ ap (λ b. can_fire m w (at n x) && not b) (excluded_same n m w r s x x (λ y q. ih y (omega arith))) ∙ sym (h x (omega arith))

module _ (n : Net) (w m r m' : ℕ) (laws : Round n w m r m') where
  listed : List ℕ
  listed = members r (length n.transitions)

  inside : (x : ℕ) → has r x ≡ true → count x listed ≡ 1
  unfolding listed
  inside x h = count-members x r (length n.transitions) ∙ ⊎_elim
      (λ l. ap₂ (λ a b. tell (a && b)) (lt-ltb x (length n.transitions) l) h)
      (λ l. absurd (false≢true (sym (has_past r (length n.transitions) x laws.of_the_net l) ∙ h)))
      (cases_lt x (length n.transitions))

  fires : (x : ℕ) → has r x ≡ true → can_fire (begins n m) w (at n x) ≡ true
  unfolding listed
  fires x h = let p = to_front x listed (omega (arith, inside x h)) in (laws.any_order (x ∷ p.0) p.1).0

  fires_next : (x y : ℕ) → has r x ≡ true → has r y ≡ true → (x ≡ y → ⊥) → can_fire (fire (begins n m) (at n x)) w (at n y) ≡ true
  unfolding listed
  fires_next x y h k ne =
      let p = to_front x listed (omega (arith, inside x h)) in
      let c = count_shuffled y listed (x ∷ p.0) p.1 in
      let e = ne_eqb y x (λ q. ne (sym q)) in
      let i = inside y k in
      let d : 0 < count y p.0 = grind arith in
      let q = to_front y p.0 d in
      (laws.any_order (x ∷ y ∷ q.0) (IsPermutation-trans listed (x ∷ p.0) (x ∷ y ∷ q.0) p.1 (IsPermutation-cons x p.0 (y ∷ q.0) q.1))).1.0

  no_conflict : (x y : ℕ) → has r x ≡ true → has r y ≡ true → (x ≡ y → ⊥) → conflict (at n x) (at n y) ≡ false
  no_conflict x y h k ne = either_order (begins n m) w (at n x) (at n y) (fires x h) (fires_next x y h k ne) (fires y k) (fires_next y x k h (λ q. ne (sym q)))

  is_greedy : Greedy n (begins n m) w r
  is_greedy x l = ⊎_elim reported left_out (cases_Bool (has r x))
    where
      reported : has r x ≡ true → has r x ≡ (can_fire (begins n m) w (at n x) && not (excluded n r x x))
      reported h =
          let free : excluded n r x x ≡ false = ⊎_elim
          (λ e. let u = excluded_some n r x x e in absurd (false≢true (sym (no_conflict u.0 x u.2 h (λ q. omega arith)) ∙ u.3))) (λ e. e)
          (cases_Bool (excluded n r x x)) in
          let f = fires x h in
          grind arith

      left_out : has r x ≡ false → has r x ≡ (can_fire (begins n m) w (at n x) && not (excluded n r x x))
      left_out h = ⊎_elim
          (λ e. let u = laws.lowest_first x l e h in let k = excluded_from n r x x u.0 u.1 u.2 u.3 in grind arith)
          (λ e. grind arith) (cases_Bool (can_fire (begins n m) w (at n x)))

  is_report : r ≡ report n m w
  is_report = same_word r (report n m w) (λ x. ⊎_elim
      (λ l. one_set n (begins n m) w r (report n m w) is_greedy (greedy n (begins n m) w (length n.transitions)) (length n.transitions) (omega arith) x l)
      (λ l. has_past r (length n.transitions) x laws.of_the_net l ∙ sym (taken_past n (begins n m) w (length n.transitions) x l))
      (cases_lt x (length n.transitions)))

  is_end : m' ≡ ends n m w
  unfolding listed
  is_end =
      let ts = members (report n m w) (length n.transitions) in
      fires_same n w (begins n m) ts m' (ends n m w)
      (laws.any_order ts (subst (λ x. IsPermutation (members x (length n.transitions)) ts) (sym is_report) (IsPermutation-refl ts)))
      ((rounds_keep_their_laws n m w).any_order ts (IsPermutation-refl ts))

pub laws_tell_the_round : LawsTellTheRound
laws_tell_the_round n w m r m' l = (is_report n w m r m' l, is_end n w m r m' l)
