-- A net whose tables break no rule is well formed.
use Rattle.std.proofs.Common.{◌≡◌, ℕ, zero, suc, ◌+◌, ◌<◌, ◌≤◌, Bool, true, false, cond, ◌&&◌, ◌||◌, eqb, ◌≢◌, ◌⊎◌, List, [], ◌∷◌, ◌++◌, length, get_or, sym, refl, ap, ◌∙◌, subst, ap₂, inl, inr, ⊎_elim, arith, length-append}
use lib.Bits.{bit_or}
use Rattle.std.specs.List.{AllByRecursion}
use Rattle.std.proofs.lemmas.List.FromFn.{length-map-range_with_len}
use Rattle.std.proofs.ByRecursion.{All-push, All-get_or}
use Rattle.std.proofs.lemmas.Bool.{eqb-true, eqb-false, and_cases}
use Rattle.std.proofs.lemmas.Bool.Decides.{nat_tests}
use Rattle.bitset.specs.Sets.{has, within, only, below, tell}
use Rattle.bitset.proofs.Sets.{has-only, has-below, has_none, within_from, within_both}
use Rattle.nets.specs.Nets.{Net, unconnected, at}
use Rattle.nets.specs.WellFormed.{WellFormedTerm, WellFormedTransition, WellFormed, always}
use Rattle.nets.specs.declared.counts.Counts.{Counts}
use Rattle.netlayout.specs.declared.refusal.Refusal.{Refusal}
use Rattle.netlayout.specs.declared.refusal.Refusal.TheVariants.{MovesNothing, NoTerm, NoStartPlace}
use Rattle.netlayout.specs.declared.table.Table.TheVariants.{Places, Arcs, Terms}
use Rattle.netfile.specs.Files.{records, place_record, arc_record, term_record, start_places, arc_of, arc_places, term_list, transition_said, net_said}
use Rattle.bitset.specs.Lists.{none_in}
use Rattle.netfile.specs.Rules.{place_broken, transition_broken, places_broken, arcs_broken, terms_broken, transitions_broken, start_broken, net_broken, tables_broken, joined_before}
use Rattle.netfile.proofs.Counted.{counted_at}
use Rattle.netfile.proofs.Joined.{has_arc, eqb_comm}
use Rattle.netfile.proofs.Kept.{TermKept, WordsKept, place_kept, arcs_kept, terms_kept}
use Rattle.netfile.proofs.Lists.{both_empty, none_at, kept_rule, kept_last}

-- one place of the net
only_within : (p k : ℕ) → p < k → within (only p) (below k) ≡ true
only_within p k h = within_from (only p) (below k) (λ n e. let o = has-only p n in let b = has-below k n in grind (arith, nat_tests))

none_within : (w : ℕ) → within 0 w ≡ true
none_within w = within_from 0 w (λ n e. let z = has_none n in grind arith)

-- one member more, or the set as it was
more_within : (b : Bool) (s p k : ℕ) → within s (below k) ≡ true → (b ≡ true → p < k) → within (cond b (bit_or s (only p)) s) (below k) ≡ true
more_within true s p k e h = within_both s (only p) (below k) e (only_within p k (h refl))
more_within false s p k e h = e

start_within : (ps : List ℕ) (k i : ℕ) → i ≤ k → within (start_places ps i) (below k) ≡ true
start_within ps k zero h = none_within (below k)
start_within ps k (suc i) h = more_within (eqb (place_record ps i).mark 1) (start_places ps i) i k (start_within ps k i (omega arith)) (λ e. omega arith)

module _ (p t : ℕ) (ars : List ℕ) where
  set_within : (q kind k : ℕ) → arcs_broken p t ars k ≡ [] → within (arc_places ars q kind k) (below p) ≡ true
  set_within q kind zero e = none_within (below p)
  set_within q kind (suc i) e =
      more_within (arc_of (arc_record ars i) q kind) (arc_places ars q kind i) (arc_record ars i).place p
      (set_within q kind i (both_empty (arcs_broken p t ars i) _ e).0) (λ h. (arcs_kept p t ars (suc i) e i (omega arith)).place)

  -- how many arcs below k join transition q and place x
  abbrev arcs_below : ℕ → ℕ → ℕ → ℕ
  arcs_below q x k = tell (has (arc_places ars q 0 k) x) + tell (has (arc_places ars q 1 k) x) + tell (has (arc_places ars q 2 k) x) + tell (has (arc_places ars q 3 k) x)

  counts : (T P : Bool) (k : ℕ) (a b c d j : Bool) → k ≤ 3 → tell a + tell b + tell c + tell d ≡ tell j → (T ≡ true → P ≡ true → j ≡ false)
      → tell (((T && eqb k 0) && P) || a) + tell (((T && eqb k 1) && P) || b) + tell (((T && eqb k 2) && P) || c) + tell (((T && eqb k 3) && P) || d) ≡ tell ((T && P) || j)
  counts true true zero a b c d j h s alone = let e = alone refl refl in grind arith
  counts true true (suc zero) a b c d j h s alone = let e = alone refl refl in grind arith
  counts true true (suc (suc zero)) a b c d j h s alone = let e = alone refl refl in grind arith
  counts true true (suc (suc (suc zero))) a b c d j h s alone = let e = alone refl refl in grind arith
  counts true true (suc (suc (suc (suc k)))) a b c d j h s alone = absurd (omega arith)
  counts true false k a b c d j h s alone = grind arith
  counts false P k a b c d j h s alone = s

  arcs_counted : (q x k : ℕ) → arcs_broken p t ars k ≡ [] → arcs_below q x k ≡ tell (joined_before ars q x k)
  arcs_counted q x zero e = let n = has_none x in grind arith
  arcs_counted q x (suc i) e =
      let kept = arcs_kept p t ars (suc i) e i (omega arith) in
      rw (has_arc ars q 0 i x, has_arc ars q 1 i x, has_arc ars q 2 i x, has_arc ars q 3 i x, eqb_comm x (arc_record ars i).place)
      (counts (eqb (arc_record ars i).transition q) (eqb (arc_record ars i).place x) (arc_record ars i).kind _ _ _ _ _ kept.kind
      (arcs_counted q x i (both_empty (arcs_broken p t ars i) _ e).0)
      (λ f g. ap₂ (λ a b. joined_before ars a b i) (sym (eqb-true (arc_record ars i).transition q f)) (sym (eqb-true (arc_record ars i).place x g)) ∙ kept.alone))

  one_arc_at_most : (q x k : ℕ) → arcs_broken p t ars k ≡ [] → arcs_below q x k ≤ 1
  one_arc_at_most q x k e = let s = arcs_counted q x k e in at_most (joined_before ars q x k) s
    where
      at_most : (b : Bool) → arcs_below q x k ≡ tell b → arcs_below q x k ≤ 1
      at_most b s = grind arith

module _ (t l : ℕ) (ts : List ℕ) where
  few : (q k : ℕ) → terms_broken t l ts k ≡ [] → length (term_list ts q k) ≤ 4
  few q zero e = omega arith
  few q (suc k) e =
      go (terms_kept t l ts (suc k) e k (omega arith)) (few q k (both_empty (terms_broken t l ts k) _ e).0) (eqb (term_record ts k).transition q) refl
    where
      go : TermKept t l (length (term_list ts (term_record ts k).transition k)) (term_record ts k) → length (term_list ts q k) ≤ 4
          → (b : Bool) → eqb (term_record ts k).transition q ≡ b → length (cond b (term_list ts q k ++ (term_record ts k).term ∷ []) (term_list ts q k)) ≤ 4
      go kept before true s =
          let m : length (term_list ts q k) < 4 = subst (λ (x : ℕ). length (term_list ts x k) < 4) (eqb-true (term_record ts k).transition q s) kept.few in
          omega (arith, length-append (term_list ts q k) ((term_record ts k).term ∷ []))
      go kept before false s = before

  all_words : (q k : ℕ) → terms_broken t l ts k ≡ [] → AllByRecursion (WordsKept l) (term_list ts q k)
  all_words q zero e = tt
  all_words q (suc k) e =
      go (terms_kept t l ts (suc k) e k (omega arith)).words (all_words q k (both_empty (terms_broken t l ts k) _ e).0) (eqb (term_record ts k).transition q)
    where
      go : WordsKept l (term_record ts k).term → AllByRecursion (WordsKept l) (term_list ts q k)
          → (b : Bool) → AllByRecursion (WordsKept l) (cond b (term_list ts q k ++ (term_record ts k).term ∷ []) (term_list ts q k))
      go kept before true = All-push (WordsKept l) (term_list ts q k) (term_record ts k).term before kept
      go kept before false = before

-- a list that is not empty
pub some_in : {X : Type 0} (xs : List X) → none_in xs ≡ false → 1 ≤ length xs
some_in [] e = cc
some_in (x ∷ xs) e = omega arith

-- not both are empty
moves : (a b : ℕ) → (eqb a 0 && eqb b 0) ≡ false → (a ≢ 0) ⊎ (b ≢ 0)
moves a b e = ⊎_elim (λ f. inl (eqb-false a 0 f)) (λ f. inr (eqb-false b 0 f)) (and_cases (eqb a 0) (eqb b 0) e)

module _ (c : Counts) (ps ars ts : List ℕ) (whole : records Places ps ≡ c.places)
    (right : tables_broken c.places c.transitions c.lines c.outputs ps ars ts ≡ []) where
  -- the net that the tables say
  abbrev said : Net
  said = net_said c.places c.transitions c.lines c.outputs ps ars ts

  -- what each part breaks
  abbrev by_places : List Refusal
  by_places = places_broken c.outputs ps

  abbrev by_arcs : List Refusal
  by_arcs = arcs_broken c.places c.transitions ars (records Arcs ars)

  abbrev by_terms : List Refusal
  by_terms = terms_broken c.transitions c.lines ts (records Terms ts)

  places_right : by_places ≡ []
  places_right = (both_empty by_places (by_arcs ++ (by_terms ++ net_broken said)) right).0

  after_places : by_arcs ++ (by_terms ++ net_broken said) ≡ []
  after_places = (both_empty by_places (by_arcs ++ (by_terms ++ net_broken said)) right).1

  pub arcs_right : by_arcs ≡ []
  arcs_right = (both_empty by_arcs (by_terms ++ net_broken said) after_places).0

  after_arcs : by_terms ++ net_broken said ≡ []
  after_arcs = (both_empty by_arcs (by_terms ++ net_broken said) after_places).1

  pub terms_right : by_terms ≡ []
  terms_right = (both_empty by_terms (net_broken said) after_arcs).0

  net_right : net_broken said ≡ []
  net_right = (both_empty by_terms (net_broken said) after_arcs).1

  transitions_right : transitions_broken said ≡ []
  transitions_right = (both_empty (transitions_broken said) (start_broken said) net_right).0

  start_right : start_broken said ≡ []
  start_right = (both_empty (transitions_broken said) (start_broken said) net_right).1

  long : length said.transitions ≡ c.transitions
  long = length-map-range_with_len (transition_said ars ts (records Arcs ars) (records Terms ts)) 0 c.transitions

  here : (t : ℕ) → t < c.transitions → at said t ≡ transition_said ars ts (records Arcs ars) (records Terms ts) t
  here t h = counted_at (transition_said ars ts (records Arcs ars) (records Terms ts)) c.transitions t unconnected h

  term_right : (t k : ℕ) → k < length (term_list ts t (records Terms ts)) → WellFormedTerm said (get_or (term_list ts t (records Terms ts)) k always)
  term_right t k h =
      let w = All-get_or (WordsKept c.lines) (term_list ts t (records Terms ts)) k always h (all_words c.transitions c.lines ts t (records Terms ts) terms_right) in
      record { high_of_the_net = w.high; low_of_the_net = w.low; high_or_low = w.both }

  transition_right : (t : ℕ) → transition_broken (transition_said ars ts (records Arcs ars) (records Terms ts) t) t ≡ []
      → WellFormedTransition said (transition_said ars ts (records Arcs ars) (records Terms ts) t)
  transition_right t e =
      let a = kept_rule (eqb (arc_places ars t 0 (records Arcs ars)) 0 && eqb (arc_places ars t 1 (records Arcs ars)) 0) (MovesNothing t) _ e in
      let b = kept_last (none_in (term_list ts t (records Terms ts))) (NoTerm t) a.1 in
      record {
        consumes_of_the_net = set_within c.places c.transitions ars t 0 (records Arcs ars) arcs_right;
        produces_of_the_net = set_within c.places c.transitions ars t 1 (records Arcs ars) arcs_right;
        tests_of_the_net = set_within c.places c.transitions ars t 2 (records Arcs ars) arcs_right;
        inhibits_of_the_net = set_within c.places c.transitions ars t 3 (records Arcs ars) arcs_right;
        one_arc = λ p. one_arc_at_most c.places c.transitions ars t p (records Arcs ars) arcs_right;
        moves_something = moves (arc_places ars t 0 (records Arcs ars)) (arc_places ars t 1 (records Arcs ars)) a.0;
        some_term = some_in (term_list ts t (records Terms ts)) b;
        few_terms = few c.transitions c.lines ts t (records Terms ts) terms_right;
        each_term = term_right t;
      }

  raise_right : (p : ℕ) → p < c.places → within (get_or said.raises p 0) (below c.outputs) ≡ true
  raise_right p h =
      ap (λ w. within w (below c.outputs)) (counted_at (λ i. (place_record ps i).raise) c.places p 0 h)
      ∙ (place_kept c.outputs (place_record ps p) p
      (none_at (λ i. place_broken c.outputs (place_record ps i) i) (records Places ps) places_right p (omega arith))).raise

  pub well_formed : WellFormed said
  well_formed =
      let places = c.places_in_range in
      let transitions = c.transitions_in_range in
      record {
        places_in_range = c.places_in_range;
        transitions_in_range = (omega (arith, long), omega (arith, long));
        lines_in_range = c.lines_in_range;
        outputs_in_range = c.outputs_in_range;
        start_of_the_net = start_within ps c.places c.places (omega arith);
        some_start = eqb-false (start_places ps c.places) 0 (kept_last (eqb (start_places ps c.places) 0) NoStartPlace start_right);
        raises_of_each = length-map-range_with_len (λ i. (place_record ps i).raise) 0 c.places;
        raises_of_the_net = raise_right;
        each_transition = λ t h. let inside : t < c.transitions = omega (arith, long) in
            subst (WellFormedTransition said) (sym (here t inside))
            (transition_right t (ap (λ x. transition_broken x t) (sym (here t inside)) ∙ none_at (λ i. transition_broken (at said i) i) (length said.transitions) transitions_right t h));
      }
