-- The net that is defined from a file's bytes has what the file's records say, and nothing else.
use Rattle.std.proofs.Common.{◌≡◌, ℕ, zero, suc, ◌<◌, Bool, true, false, cond, ◌&&◌, ◌||◌, eqb, ltb, List, [], ◌∷◌, ◌++◌, map, length, Decides, filter, sym, refl, ap, ◌∙◌, ap₂, ⊎_elim, add-one, arith}
use lib.Bits.{bit_or}
use Rattle.std.specs.List.{range_with_len}
use Rattle.std.proofs.lemmas.List.FromFn.{length-map-range_with_len, filter_of_map_range_with_len_more}
use Rattle.std.proofs.lemmas.List.{map-append, append-nil}
use Rattle.std.proofs.lemmas.Bool.{eqb-true, eq-eqb, ltb-true, lt-ltb, and_parts, and_from, cases_eq}
use Rattle.std.proofs.lemmas.Bool.Decides.{nat_tests, Decides-at, Decides-below_or}
use Rattle.bitset.specs.Sets.{has, only}
use Rattle.bitset.proofs.Sets.{has_or, has-only, has_none}
use Rattle.nets.specs.Nets.{unconnected, at, Transition}
use Rattle.netfile.specs.declared.arcs.ArcRecord.{ArcRecord}
use Rattle.netlayout.specs.declared.table.Table.TheVariants.{Places, Arcs, Terms}
use Rattle.netlayout.specs.Layouts.{places_said, transitions_said, table_in}
use Rattle.netfile.specs.Files.{records, place_record, arc_record, term_record, start_places, arc_of, arc_places, term_list, transition_said, net_in}
use Rattle.netfile.specs.Says.{HasArc, Says}
use Rattle.netfile.proofs.Counted.{counted_at}
use Rattle.netfile.proofs.Joined.{has_arc}

-- ARCS

-- an arc is one of t, of this kind, and goes to q
arc_decides : (a : ArcRecord) (t q kind : ℕ) → Decides (arc_of a t kind && eqb q a.place) (a ≡ record { transition = t; place = q; kind = kind })
arc_decides a t q kind = (there, back)
  where
    there : (arc_of a t kind && eqb q a.place) ≡ true → a ≡ record { transition = t; place = q; kind = kind }
    there e =
        let x = and_parts (arc_of a t kind) (eqb q a.place) e in
        let y = and_parts (eqb a.transition t) (eqb a.kind kind) x.0 in
        ap₂ (λ u v. record { transition = u; place = v; kind = a.kind }) (eqb-true a.transition t y.0) (sym (eqb-true q a.place x.1))
        ∙ ap (λ w. record { transition = t; place = q; kind = w }) (eqb-true a.kind kind y.1)

    back : a ≡ record { transition = t; place = q; kind = kind } → (arc_of a t kind && eqb q a.place) ≡ true
    back e =
        and_from (arc_of a t kind) (eqb q a.place)
        (and_from (eqb a.transition t) (eqb a.kind kind) (eq-eqb a.transition t (ap (λ r. r.transition) e)) (eq-eqb a.kind kind (ap (λ r. r.kind) e)))
        (eq-eqb q a.place (sym (ap (λ r. r.place) e)))

set_decides : (file : List ℕ) (t q kind : ℕ) → Decides (has (arc_places (table_in file Arcs) t kind (records Arcs (table_in file Arcs))) q) (HasArc file t q kind)
set_decides file t q kind =
    Decides-below_or (λ i. arc_of (arc_record (table_in file Arcs) i) t kind && eqb q (arc_record (table_in file Arcs) i).place)
    (λ i. arc_record (table_in file Arcs) i ≡ record { transition = t; place = q; kind = kind })
    (λ k. has (arc_places (table_in file Arcs) t kind k) q)
    (λ i. arc_decides (arc_record (table_in file Arcs) i) t q kind)
    (has_none q) (λ i. has_arc (table_in file Arcs) t kind i q) (records Arcs (table_in file Arcs))

-- START PLACES

-- one place more
has_start_more : (ps : List ℕ) (q k : ℕ) → has (start_places ps (suc k)) q ≡ ((eqb (place_record ps k).mark 1 && eqb q k) || has (start_places ps k) q)
has_start_more ps q k = go (eqb (place_record ps k).mark 1)
  where
    go : (b : Bool) → has (cond b (bit_or (start_places ps k) (only k)) (start_places ps k)) q ≡ ((b && eqb q k) || has (start_places ps k) q)
    go true = let o = has_or (start_places ps k) (only k) q in let s = has-only k q in grind arith
    go false = refl

has_start : (ps : List ℕ) (q k : ℕ) → has (start_places ps k) q ≡ (ltb q k && eqb (place_record ps q).mark 1)
has_start ps q zero = let n = has_none q in grind (arith, nat_tests)
has_start ps q (suc k) =
    has_start_more ps q k
    ∙ ap (λ b. (eqb (place_record ps k).mark 1 && eqb q k) || b) (has_start ps q k)
    ∙ ⊎_elim (λ e. same (eqb (place_record ps k).mark 1) (eqb (place_record ps q).mark 1) (ap (λ (x : ℕ). eqb (place_record ps x).mark 1) e) e)
    (λ ne. other (eqb (place_record ps k).mark 1) (eqb (place_record ps q).mark 1) ne) (cases_eq q k)
  where
    same : (b d : Bool) → d ≡ b → q ≡ k → ((b && eqb q k) || (ltb q k && d)) ≡ (ltb q (suc k) && d)
    same b d f e = grind (arith, nat_tests)

    other : (b d : Bool) → (q ≡ k → ⊥) → ((b && eqb q k) || (ltb q k && d)) ≡ (ltb q (suc k) && d)
    other b d ne = grind (arith, nat_tests)

start_decides : (ps : List ℕ) (q k : ℕ) → Decides (has (start_places ps k) q) ((q < k) × ((place_record ps q).mark ≡ 1))
start_decides ps q k =
    Decides-at (has (start_places ps k) q) (ltb q k && eqb (place_record ps q).mark 1) (has_start ps q k) (
      λ e. let x = and_parts (ltb q k) (eqb (place_record ps q).mark 1) e in (ltb-true q k x.0, eqb-true (place_record ps q).mark 1 x.1),
      λ h. and_from (ltb q k) (eqb (place_record ps q).mark 1) (lt-ltb q k h.0) (eq-eqb (place_record ps q).mark 1 h.1),
    )

-- TERMS

terms_decided : (ts : List ℕ) (t k : ℕ) → term_list ts t k ≡ map (λ r. r.term) (filter (λ r. eqb r.transition t) (map (term_record ts) (range_with_len 0 k)))
terms_decided ts t zero = refl
terms_decided ts t (suc k) =
    go (eqb (term_record ts k).transition t)
    ∙ ap (λ l. l ++ map (λ r. r.term) (cond (eqb (term_record ts k).transition t) (term_record ts k ∷ []) [])) (terms_decided ts t k)
    ∙ sym (map-append (λ r. r.term) (filter (λ r. eqb r.transition t) (map (term_record ts) (range_with_len 0 k))) (cond (eqb (term_record ts k).transition t) (term_record ts k ∷ []) []))
    ∙ ap (map (λ r. r.term)) (sym (filter_of_map_range_with_len_more (λ r. eqb r.transition t) (term_record ts) 0 k k (omega arith)))
    ∙ ap (λ (n : ℕ). map (λ r. r.term) (filter (λ r. eqb r.transition t) (map (term_record ts) (range_with_len 0 n)))) (add-one k)
  where
    go : (b : Bool) → cond b (term_list ts t k ++ (term_record ts k).term ∷ []) (term_list ts t k) ≡ term_list ts t k ++ map (λ r. r.term) (cond b (term_record ts k ∷ []) [])
    go true = refl
    go false = sym (append-nil (term_list ts t k))

-- THE NET

module _ (file : List ℕ) where
  long : length (net_in file).transitions ≡ transitions_said file
  long = length-map-range_with_len (transition_said (table_in file Arcs) (table_in file Terms) (records Arcs (table_in file Arcs)) (records Terms (table_in file Terms))) 0 (transitions_said file)

  here : (t : ℕ) → t < length (net_in file).transitions
      → at (net_in file) t ≡ transition_said (table_in file Arcs) (table_in file Terms) (records Arcs (table_in file Arcs)) (records Terms (table_in file Terms)) t
  here t h =
      counted_at (transition_said (table_in file Arcs) (table_in file Terms) (records Arcs (table_in file Arcs)) (records Terms (table_in file Terms)))
      (transitions_said file) t unconnected (omega (arith, long))

  -- a set of places of transition t
  set_said : (set : Transition → ℕ) (kind : ℕ)
      → ((t : ℕ) → set (transition_said (table_in file Arcs) (table_in file Terms) (records Arcs (table_in file Arcs)) (records Terms (table_in file Terms)) t)
      ≡ arc_places (table_in file Arcs) t kind (records Arcs (table_in file Arcs)))
      → (t p : ℕ) → t < length (net_in file).transitions → Decides (has (set (at (net_in file) t)) p) (HasArc file t p kind)
  set_said set kind is t p h = Decides-at _ _ (ap (λ x. has (set x) p) (here t h) ∙ ap (λ (w : ℕ). has w p) (is t)) (set_decides file t p kind)

  pub says : Says file (net_in file)
  says =
      record {
        places = refl;
        transitions = long;
        lines = refl;
        outputs = refl;
        start = λ p. start_decides (table_in file Places) p (places_said file);
        raises = λ p h. counted_at (λ i. (place_record (table_in file Places) i).raise) (places_said file) p 0 h;
        consumes = set_said (λ x. x.consumes) 0 (λ t. refl);
        produces = set_said (λ x. x.produces) 1 (λ t. refl);
        tests = set_said (λ x. x.tests) 2 (λ t. refl);
        inhibits = set_said (λ x. x.inhibits) 3 (λ t. refl);
        terms = λ t h. ap (λ x. x.terms) (here t h) ∙ terms_decided (table_in file Terms) t (records Terms (table_in file Terms));
      }
