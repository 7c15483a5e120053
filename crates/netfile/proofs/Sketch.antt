-- The net after so many records of each table is the one that these records say.
use Rattle.std.proofs.Common.{◌≡◌, ℕ, zero, suc, ◌<◌, ◌≤◌, Bool, true, false, cond, ◌&&◌, eqb, ltb, List, [], map, length, set, Some, sym, refl, ap, ◌∙◌, ap₂, arith}
use lib.Bits.{bit_or}
use Rattle.std.specs.List.{range_with_len}
use Rattle.std.proofs.lemmas.List.FromFn.{length-map-range_with_len}
use Rattle.std.proofs.lemmas.Bool.{lt-ltb, le-ltb, eq-eqb, ne_eqb, and_from, and_left, and_right, cond-true, cond-false}
use Rattle.std.proofs.lemmas.Bool.Decides.{nat_tests}
use Rattle.bitset.specs.Room.{with_member}
use Rattle.bitset.specs.Sets.{only}
use Rattle.nets.specs.Kinds.{kind_number, kind_numbered}
use Rattle.nets.specs.Nets.{Net, unconnected, at, Transition}
use Rattle.nets.specs.Stored.{with_arc, given_term, blank_net}
use Rattle.nets.specs.declared.arc_kind.ArcKind.{ArcKind}
use Rattle.nets.specs.declared.arc_kind.ArcKind.TheVariants.{Consumes, Produces, Tests, Inhibits}
use Rattle.nets.specs.declared.term.Term.{Term}
use Rattle.nets.specs.declared.counts.Counts.{Counts}
use Rattle.netfile.specs.Files.{place_record, arc_record, term_record, start_places, arc_of, arc_places, term_list, transition_said}
use Rattle.netfile.specs.Rules.{arcs_broken, terms_broken}
use Rattle.netfile.specs.Steps.{put_below, put_place, put_arc, put_term, with_arc_as, arc_put, term_put, place_put}
use Rattle.netfile.proofs.Counted.{counted_at, counted_all, counted_set}
use Rattle.netfile.proofs.Kept.{ArcKept, TermKept, arcs_kept, terms_kept, joined_at, earlier_at}
use Rattle.netfile.proofs.Lists.{both_empty}

module _ (c : Counts) (ps ars ts : List ℕ) where
  -- what place q raises after i place records
  abbrev pub raised : ℕ → ℕ → ℕ
  raised i q = cond (ltb q i) (place_record ps q).raise 0

  -- the net after i places, j arcs and k terms
  abbrev pub sketch : ℕ → ℕ → ℕ → Net
  sketch i j k =
      record {
        places = c.places;
        lines = c.lines;
        outputs = c.outputs;
        start = start_places ps i;
        raises = map (raised i) (range_with_len 0 c.places);
        transitions = map (transition_said ars ts j k) (range_with_len 0 c.transitions);
      }

  -- with other start places, raise words and transitions
  abbrev parts : ℕ → List ℕ → List Transition → Net
  parts start raises transitions =
      record { places = c.places; lines = c.lines; outputs = c.outputs; start = start; raises = raises; transitions = transitions }

  pub sketch_long : (i j k : ℕ) → length (sketch i j k).transitions ≡ c.transitions
  sketch_long i j k = length-map-range_with_len (transition_said ars ts j k) 0 c.transitions

  pub sketch_at : (i j k t : ℕ) → t < c.transitions → at (sketch i j k) t ≡ transition_said ars ts j k t
  sketch_at i j k t h = counted_at (transition_said ars ts j k) c.transitions t unconnected h

  within_sketch : (i j k t : ℕ) → t < c.transitions → ltb t (length (sketch i j k).transitions) ≡ true
  within_sketch i j k t h = lt-ltb t (length (sketch i j k).transitions) (let l = sketch_long i j k in omega arith)

  pub sketch_blank : blank_net c ≡ sketch 0 0 0
  sketch_blank =
      ap₂ (parts 0) (counted_all (raised 0) 0 c.places (λ q. ap (λ b. cond b (place_record ps q).raise 0) (le-ltb q 0 (omega arith)))) (counted_all (transition_said ars ts 0 0) unconnected c.transitions (λ t. refl))

  -- PLACES

  place_step : (i : ℕ) → i < c.places → place_put (sketch i 0 0) (place_record ps i) i ≡ sketch (suc i) 0 0
  place_step i h =
      let small = c.places_in_range in
      cond-true (ltb i c.places) _ _ (lt-ltb i c.places h)
      ∙ ap₂ (λ s r. parts s r (sketch i 0 0).transitions)
      (start (eqb (place_record ps i).mark 1) (ltb i 64) (lt-ltb i 64 (omega arith)))
      (counted_set (raised i) (raised (suc i)) c.places i (place_record ps i).raise h
      (sym (ap (λ b. cond b (place_record ps i).raise 0) (lt-ltb i (suc i) (omega arith)))) (λ q ne. grind (arith, nat_tests)))
    where
      start : (a d : Bool) → d ≡ true
          → cond a (cond d (bit_or (start_places ps i) (only i)) (start_places ps i)) (start_places ps i)
          ≡ cond a (bit_or (start_places ps i) (only i)) (start_places ps i)
      start a d f = grind arith

  pub places_sketch : (i : ℕ) → i ≤ c.places → put_below (put_place ps) (blank_net c) i ≡ sketch i 0 0
  places_sketch zero h = sketch_blank
  places_sketch (suc i) h = ap (λ n. put_place ps n i) (places_sketch i (omega arith)) ∙ place_step i (omega arith)

  -- ARCS

  -- a transition by its parts
  abbrev made_of : ℕ → ℕ → ℕ → ℕ → List Term → Transition
  made_of consumes produces tests inhibits terms =
      record { consumes = consumes; produces = produces; tests = tests; inhibits = inhibits; terms = terms }

  same_parts : {a a' b b' d d' e e' : ℕ} (l : List Term) → a ≡ a' → b ≡ b' → d ≡ d' → e ≡ e' → made_of a b d e l ≡ made_of a' b' d' e' l
  same_parts {a} {a'} {b} {b'} {d} {d'} {e} {e'} l p q r s = ap₂ (λ x y. made_of x y d e l) p q ∙ ap₂ (λ x y. made_of a' b' x y l) r s

  module _ (j : ℕ) where
    -- whether arc j is one of transition t, of this kind
    abbrev is_of : ℕ → ℕ → Bool
    is_of t kind = arc_of (arc_record ars j) t kind

    one_more : (t kind : ℕ) → is_of t kind ≡ true → bit_or (arc_places ars t kind j) (only (arc_record ars j).place) ≡ arc_places ars t kind (suc j)
    one_more t kind e = sym (cond-true (is_of t kind) _ _ e)

    no_more : (t kind : ℕ) → is_of t kind ≡ false → arc_places ars t kind j ≡ arc_places ars t kind (suc j)
    no_more t kind e = sym (cond-false (is_of t kind) _ _ e)

    -- another transition stays
    arc_elsewhere : (k t : ℕ) → (t ≡ (arc_record ars j).transition → ⊥) → transition_said ars ts j k t ≡ transition_said ars ts (suc j) k t
    arc_elsewhere k t ne =
        let no-arc : (kind : ℕ) → is_of t kind ≡ false
        = λ kind. and_left (eqb (arc_record ars j).transition t) (eqb (arc_record ars j).kind kind) (ne_eqb (arc_record ars j).transition t (λ e. ne (sym e))) in
        same_parts (term_list ts t k) (no_more t 0 (no-arc 0)) (no_more t 1 (no-arc 1)) (no_more t 2 (no-arc 2)) (no_more t 3 (no-arc 3))

    module _ (k : ℕ) (small : (arc_record ars j).place < 64) where
      abbrev T : ℕ
      T = (arc_record ars j).transition

      here : (kind : ℕ) → (arc_record ars j).kind ≡ kind → is_of T kind ≡ true
      here kind e = and_from (eqb T T) (eqb (arc_record ars j).kind kind) (eq-eqb T T refl) (eq-eqb (arc_record ars j).kind kind e)

      other : (kind : ℕ) → ((arc_record ars j).kind ≡ kind → ⊥) → is_of T kind ≡ false
      other kind ne = and_right (eqb T T) (eqb (arc_record ars j).kind kind) (ne_eqb (arc_record ars j).kind kind ne)

      put : (kind : ℕ) → (arc_record ars j).kind ≡ kind → with_member (arc_places ars T kind j) (arc_record ars j).place ≡ arc_places ars T kind (suc j)
      put kind e = cond-true (ltb (arc_record ars j).place 64) _ _ (lt-ltb (arc_record ars j).place 64 small) ∙ one_more T kind (here kind e)

      -- its own transition has one place more, in the set of its kind
      arc_here : (kind : ArcKind) → (arc_record ars j).kind ≡ kind_number kind
          → with_arc (transition_said ars ts j k T) kind (arc_record ars j).place ≡ transition_said ars ts (suc j) k T
      arc_here Consumes e = same_parts (term_list ts T k) (put 0 e) (no_more T 1 (other 1 (λ f. omega arith))) (no_more T 2 (other 2 (λ f. omega arith))) (no_more T 3 (other 3 (λ f. omega arith)))
      arc_here Produces e = same_parts (term_list ts T k) (no_more T 0 (other 0 (λ f. omega arith))) (put 1 e) (no_more T 2 (other 2 (λ f. omega arith))) (no_more T 3 (other 3 (λ f. omega arith)))
      arc_here Tests e = same_parts (term_list ts T k) (no_more T 0 (other 0 (λ f. omega arith))) (no_more T 1 (other 1 (λ f. omega arith))) (put 2 e) (no_more T 3 (other 3 (λ f. omega arith)))
      arc_here Inhibits e = same_parts (term_list ts T k) (no_more T 0 (other 0 (λ f. omega arith))) (no_more T 1 (other 1 (λ f. omega arith))) (no_more T 2 (other 2 (λ f. omega arith))) (put 3 e)

  kind_of : (n : ℕ) → n ≤ 3 → (kind : ArcKind) × (n ≡ kind_number kind) × (kind_numbered n ≡ Some kind)
  kind_of zero h = (Consumes, refl, refl)
  kind_of (suc zero) h = (Produces, refl, refl)
  kind_of (suc (suc zero)) h = (Tests, refl, refl)
  kind_of (suc (suc (suc zero))) h = (Inhibits, refl, refl)
  kind_of (suc (suc (suc (suc n)))) h = absurd (omega arith)

  arc_step : (i j k : ℕ) (joined : Bool) → ArcKept c.places c.transitions joined (arc_record ars j)
      → arc_put (sketch i j k) (arc_record ars j) j ≡ sketch i (suc j) k
  arc_step i j k joined kept =
      let range = c.places_in_range in
      let kind = kind_of (arc_record ars j).kind kept.kind in
      let t = (arc_record ars j).transition in
      ap (with_arc_as (sketch i j k) (arc_record ars j)) kind.2
      ∙ cond-true (ltb t (length (sketch i j k).transitions) && ltb (arc_record ars j).place c.places) _ _
      (and_from (ltb t (length (sketch i j k).transitions)) (ltb (arc_record ars j).place c.places) (within_sketch i j k t kept.transition)
      (lt-ltb (arc_record ars j).place c.places kept.place))
      ∙ ap (parts (start_places ps i) (sketch i j k).raises)
      (ap (λ x. set (sketch i j k).transitions t (with_arc x kind.0 (arc_record ars j).place)) (sketch_at i j k t kept.transition)
      ∙ counted_set (transition_said ars ts j k) (transition_said ars ts (suc j) k) c.transitions t _ kept.transition
      (arc_here j k (omega (arith, kept.place)) kind.0 kind.1) (λ q ne. arc_elsewhere j k q ne))

  pub arcs_sketch : (i k j : ℕ) → arcs_broken c.places c.transitions ars j ≡ [] → put_below (put_arc ars) (sketch i 0 k) j ≡ sketch i j k
  arcs_sketch i k zero e = refl
  arcs_sketch i k (suc j) e =
      ap (λ n. put_arc ars n j) (arcs_sketch i k j (both_empty (arcs_broken c.places c.transitions ars j) _ e).0)
      ∙ arc_step i j k (joined_at ars j) (arcs_kept c.places c.transitions ars (suc j) e j (omega arith))

  -- TERMS

  term_elsewhere : (j k t : ℕ) → (t ≡ (term_record ts k).transition → ⊥) → transition_said ars ts j k t ≡ transition_said ars ts j (suc k) t
  term_elsewhere j k t ne =
      ap (made_of (arc_places ars t 0 j) (arc_places ars t 1 j) (arc_places ars t 2 j) (arc_places ars t 3 j))
      (sym (cond-false (eqb (term_record ts k).transition t) _ _ (ne_eqb (term_record ts k).transition t (λ e. ne (sym e)))))

  term_here : (j k : ℕ) → earlier_at ts k < 4
      → given_term (transition_said ars ts j k (term_record ts k).transition) (term_record ts k).term ≡ transition_said ars ts j (suc k) (term_record ts k).transition
  term_here j k few =
      let t = (term_record ts k).transition in
      ap (made_of (arc_places ars t 0 j) (arc_places ars t 1 j) (arc_places ars t 2 j) (arc_places ars t 3 j))
      (cond-true (ltb (length (term_list ts t k)) 4) _ _ (lt-ltb (length (term_list ts t k)) 4 few)
      ∙ sym (cond-true (eqb t t) _ _ (eq-eqb t t refl)))

  term_step : (i j k : ℕ) → TermKept c.transitions c.lines (earlier_at ts k) (term_record ts k)
      → term_put (sketch i j k) (term_record ts k) k ≡ sketch i j (suc k)
  term_step i j k kept =
      let t = (term_record ts k).transition in
      cond-true (ltb t (length (sketch i j k).transitions)) _ _ (within_sketch i j k t kept.transition)
      ∙ ap (parts (start_places ps i) (sketch i j k).raises)
      (ap (λ x. set (sketch i j k).transitions t (given_term x (term_record ts k).term)) (sketch_at i j k t kept.transition)
      ∙ counted_set (transition_said ars ts j k) (transition_said ars ts j (suc k)) c.transitions t _ kept.transition
      (term_here j k kept.few) (λ q ne. term_elsewhere j k q ne))

  pub terms_sketch : (i j k : ℕ) → terms_broken c.transitions c.lines ts k ≡ [] → put_below (put_term ts) (sketch i j 0) k ≡ sketch i j k
  terms_sketch i j zero e = refl
  terms_sketch i j (suc k) e =
      ap (λ n. put_term ts n k) (terms_sketch i j k (both_empty (terms_broken c.transitions c.lines ts k) _ e).0)
      ∙ term_step i j k (terms_kept c.transitions c.lines ts (suc k) e k (omega arith))
