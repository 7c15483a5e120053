-- What the reader finds broken as it fills the net is what the rules on the tables say.
use Rattle.std.proofs.Common.{◌≡◌, ℕ, zero, suc, ◌<◌, cond, eqb, List, [], length, sym, refl, ap, ◌∙◌, ap₂, ⊎_elim, arith}
use Rattle.std.proofs.lemmas.List.{get_or_past}
use Rattle.std.proofs.lemmas.Bool.{lt-ltb, ne_eqb, cases_lt, cond-false}
use Rattle.bitset.specs.Sets.{has}
use Rattle.bitset.proofs.Sets.{has_none}
use Rattle.nets.specs.Nets.{Net, unconnected, at}
use Rattle.bitset.specs.Lists.{first_of}
use Rattle.nets.specs.Stored.{joined_places, blank_net}
use Rattle.nets.specs.declared.counts.Counts.{Counts}
use Rattle.netlayout.specs.declared.table.Table.TheVariants.{Places, Arcs, Terms}
use Rattle.netfile.specs.Files.{records, place_record, arc_record, term_record, term_list, net_said}
use Rattle.netfile.specs.Rules.{place_broken, arc_broken, term_broken, places_broken, arcs_broken, terms_broken, net_broken, tables_broken, joined_before}
use Rattle.netfile.specs.Steps.{put_below, put_place, put_arc, put_term, place_wrong, arc_wrong, term_wrong, places_wrong, arcs_wrong, terms_wrong, with_places, with_arcs, with_terms, filled_net, filling_wrong}
use Rattle.netfile.proofs.Counted.{counted_same}
use Rattle.netfile.proofs.Joined.{said_joined, never_joined}
use Rattle.netfile.proofs.Kept.{arcs_kept, terms_kept, joined_at, earlier_at}
use Rattle.netfile.proofs.Lists.{joined_same, each_same}
use Rattle.netfile.proofs.Sketch.{sketch, raised, sketch_long, sketch_at, places_sketch, arcs_sketch, terms_sketch}

-- a transition that no record names has no term
no_terms : (ts : List ℕ) (t k : ℕ) → ((i : ℕ) → i < k → (term_record ts i).transition < t) → term_list ts t k ≡ []
no_terms ts t zero h = refl
no_terms ts t (suc k) h =
    cond-false (eqb (term_record ts k).transition t) _ _ (ne_eqb (term_record ts k).transition t (λ e. omega (arith, h k (omega arith))))
    ∙ no_terms ts t k (λ i l. h i (omega arith))

module _ (c : Counts) (ps ars ts : List ℕ) (whole : records Places ps ≡ c.places) where
  -- the net after all places, j arcs and k terms
  abbrev so_far : ℕ → ℕ → Net
  so_far = sketch c ps ars ts c.places

  -- PLACES

  places_agree : first_of (places_wrong (blank_net c) ps) ≡ first_of (places_broken c.outputs ps)
  places_agree = each_same
      (λ i. place_wrong (put_below (put_place ps) (blank_net c) i) (place_record ps i) i)
      (λ i. place_broken c.outputs (place_record ps i) i) (records Places ps)
      (λ i h e. ap (λ n. place_wrong n (place_record ps i) i) (places_sketch c ps ars ts i (omega arith)))

  placed : with_places (blank_net c) ps ≡ so_far 0 0
  placed = places_sketch c ps ars ts (records Places ps) (omega arith) ∙ ap (λ (i : ℕ). sketch c ps ars ts i 0 0) whole

  -- ARCS

  joined_agree : (j q t : ℕ) → arcs_broken c.places c.transitions ars j ≡ [] → has (joined_places (at (so_far j 0) t)) q ≡ joined_before ars t q j
  joined_agree j q t e = ⊎_elim
      (λ h. ap (λ x. has (joined_places x) q) (sketch_at c ps ars ts c.places j 0 t h)
      ∙ said_joined ars ts t q j 0 (λ i l. (arcs_kept c.places c.transitions ars j e i l).kind))
      (λ h. let long = sketch_long c ps ars ts c.places j 0 in
      ap (λ x. has (joined_places x) q) (get_or_past (so_far j 0).transitions t unconnected (omega arith))
      ∙ has_none q
      ∙ sym (never_joined ars t q j (λ i l. omega (arith, (arcs_kept c.places c.transitions ars j e i l).transition))))
      (cases_lt t c.transitions)

  arc_agree : (j : ℕ) → arcs_broken c.places c.transitions ars j ≡ []
      → arc_wrong (put_below (put_arc ars) (so_far 0 0) j) (arc_record ars j) j ≡ arc_broken c.places c.transitions (joined_at ars j) (arc_record ars j) j
  arc_agree j e =
      ap (λ n. arc_wrong n (arc_record ars j) j) (arcs_sketch c ps ars ts c.places 0 j e)
      ∙ ap₂ (λ t b. arc_broken c.places t b (arc_record ars j) j) (sketch_long c ps ars ts c.places j 0)
      (joined_agree j (arc_record ars j).place (arc_record ars j).transition e)

  arcs_agree : first_of (arcs_wrong (with_places (blank_net c) ps) ars) ≡ first_of (arcs_broken c.places c.transitions ars (records Arcs ars))
  arcs_agree =
      ap (λ n. first_of (arcs_wrong n ars)) placed
      ∙ each_same (λ j. arc_wrong (put_below (put_arc ars) (so_far 0 0) j) (arc_record ars j) j)
      (λ j. arc_broken c.places c.transitions (joined_at ars j) (arc_record ars j) j) (records Arcs ars) (λ j h e. arc_agree j e)

  module _ (arcs_right : arcs_broken c.places c.transitions ars (records Arcs ars) ≡ []) where
    joined : with_arcs (with_places (blank_net c) ps) ars ≡ so_far (records Arcs ars) 0
    joined = ap (λ n. with_arcs n ars) placed ∙ arcs_sketch c ps ars ts c.places 0 (records Arcs ars) arcs_right

    -- TERMS

    earlier_agree : (k t : ℕ) → terms_broken c.transitions c.lines ts k ≡ [] → length (at (so_far (records Arcs ars) k) t).terms ≡ length (term_list ts t k)
    earlier_agree k t e = ⊎_elim
        (λ h. ap (λ x. length x.terms) (sketch_at c ps ars ts c.places (records Arcs ars) k t h))
        (λ h. let long = sketch_long c ps ars ts c.places (records Arcs ars) k in
        ap (λ x. length x.terms) (get_or_past (so_far (records Arcs ars) k).transitions t unconnected (omega arith))
        ∙ ap length (sym (no_terms ts t k (λ i l. omega (arith, (terms_kept c.transitions c.lines ts k e i l).transition)))))
        (cases_lt t c.transitions)

    term_agree : (k : ℕ) → terms_broken c.transitions c.lines ts k ≡ []
        → term_wrong (put_below (put_term ts) (so_far (records Arcs ars) 0) k) (term_record ts k) k
        ≡ term_broken c.transitions c.lines (earlier_at ts k) (term_record ts k) k
    term_agree k e =
        ap (λ n. term_wrong n (term_record ts k) k) (terms_sketch c ps ars ts c.places (records Arcs ars) k e)
        ∙ ap₂ (λ t m. term_broken t c.lines m (term_record ts k) k) (sketch_long c ps ars ts c.places (records Arcs ars) k)
        (earlier_agree k (term_record ts k).transition e)

    terms_agree : first_of (terms_wrong (with_arcs (with_places (blank_net c) ps) ars) ts) ≡ first_of (terms_broken c.transitions c.lines ts (records Terms ts))
    terms_agree =
        ap (λ n. first_of (terms_wrong n ts)) joined
        ∙ each_same (λ k. term_wrong (put_below (put_term ts) (so_far (records Arcs ars) 0) k) (term_record ts k) k)
        (λ k. term_broken c.transitions c.lines (earlier_at ts k) (term_record ts k) k) (records Terms ts) (λ k h e. term_agree k e)

    -- the net that the tables fill is the one that they say
    pub filled_is : terms_broken c.transitions c.lines ts (records Terms ts) ≡ []
        → filled_net (blank_net c) ps ars ts ≡ net_said c.places c.transitions c.lines c.outputs ps ars ts
    filled_is terms_right =
        ap (λ n. with_terms n ts) joined
        ∙ terms_sketch c ps ars ts c.places (records Arcs ars) (records Terms ts) terms_right
        ∙ ap (λ r. record {
          places = c.places;
          lines = c.lines;
          outputs = c.outputs;
          start = (so_far 0 0).start;
          raises = r;
          transitions = (so_far (records Arcs ars) (records Terms ts)).transitions;
        })
        (counted_same (raised c ps ars ts c.places) (λ i. (place_record ps i).raise) c.places
        (λ q h. ap (λ b. cond b (place_record ps q).raise 0) (lt-ltb q c.places h)))

  -- the reader and the rules name the same first
  pub filling_agrees : first_of (filling_wrong (blank_net c) ps ars ts) ≡ first_of (tables_broken c.places c.transitions c.lines c.outputs ps ars ts)
  filling_agrees =
      joined_same (places_wrong (blank_net c) ps) (places_broken c.outputs ps) _ _ places_agree
      (λ e. joined_same (arcs_wrong (with_places (blank_net c) ps) ars) (arcs_broken c.places c.transitions ars (records Arcs ars)) _ _ arcs_agree
      (λ f. joined_same (terms_wrong (with_arcs (with_places (blank_net c) ps) ars) ts) (terms_broken c.transitions c.lines ts (records Terms ts)) _ _ (terms_agree f)
      (λ g. ap (λ n. first_of (net_broken n)) (filled_is f g))))
