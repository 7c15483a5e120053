-- From the layout, the counts and the filled net to the file as a whole.
use Rattle.std.proofs.Common.{◌≡◌, ℕ, ◌*◌, ◌≤◌, min, true, not, ◌||◌, eqb, ltb, List, [], ◌∷◌, ◌++◌, map, length, drop, is_ok, IfOk, Some, None, Ok, Err, Result, sym, refl, ap, ◌∙◌, subst, ap₂, arith, length-drop, length-take}
use Rattle.std.proofs.lemmas.Result.{IfOk-weaker}
use Rattle.std.proofs.lemmas.Bool.{ltb-false, le-leb, eqb-true, not-false, or_parts}
use Rattle.std.specs.Result.{result_err}
use Rattle.bitset.specs.Lists.{first_of}
use Rattle.bitset.proofs.Lists.{none_first, first_joined, first_past}
use Rattle.nets.specs.Ranges.{out_of_range}
use Rattle.nets.specs.Stored.{blank_net, net_of}
use Rattle.nets.specs.WellFormed.{WellFormed}
use Rattle.nets.specs.declared.counts.Counts.{Counts}
use Rattle.nets.specs.declared.net.Net.{Net as StoredNet}
use Rattle.netlayout.specs.declared.refusal.PairFault.TheVariants.{StartsEarly, PassesEnd}
use Rattle.netlayout.specs.declared.refusal.Refusal.{Refusal}
use Rattle.netlayout.specs.declared.refusal.Refusal.TheVariants.{FileSize, Pair, Count, PlacesLength}
use Rattle.netlayout.specs.declared.table.Table.TheVariants.{Places, Arcs, Terms}
use Rattle.netlayout.specs.Layouts.{places_said, transitions_said, lines_said, outputs_said, table_start, table_length, table_end, earliest, table_in}
use Rattle.netfile.specs.Files.{records, net_said, net_in}
use Rattle.bitset.specs.Lists.{none_in}
use Rattle.netlayout.specs.Rules.{size_broken, pair_broken, pairs_broken, counts_broken, where_told, has_header}
use Rattle.netfile.specs.Rules.{tables_broken, records_broken, broken}
use Rattle.netfile.specs.Says.{Says}
use Rattle.netfile.specs.Steps.{filled_net, filling_wrong}
use Rattle.netfile.proofs.Agreement.{filling_agrees, filled_is}
use Rattle.netfile.proofs.Lawful.{arcs_right, terms_right, well_formed}
use Rattle.netfile.proofs.Says.{says}
use Rattle.netfile.proofs.Lists.{both_empty, kept_rule, kept_last}

-- a file of the right size has a header
header_there : (file : List ℕ) → size_broken file ≡ [] → has_header file ≡ true
header_there file e =
    let right = or_parts (ltb (length file) 16) (ltb 16384 (length file)) (kept_last (ltb (length file) 16 || ltb 16384 (length file)) FileSize e) in
    le-leb 16 (length file) (ltb-false (length file) 16 right.0)

-- what the layout breaks comes first of all
pub layout_first : (file : List ℕ) (x : Refusal) → first_of (size_broken file ++ pairs_broken file) ≡ Some x → first_of (broken file) ≡ Some x
layout_first file x e = go (size_broken file) (header_there file) e
  where
    rest : List Refusal
    rest = counts_broken file ++ where_told (none_in (pairs_broken file)) (records_broken file)

    go : (s : List Refusal) → (s ≡ [] → has_header file ≡ true) → first_of (s ++ pairs_broken file) ≡ Some x
        → first_of (s ++ where_told (has_header file) (pairs_broken file ++ rest)) ≡ Some x
    go [] h f = ap (λ b. first_of (where_told b (pairs_broken file ++ rest))) (h refl) ∙ first_joined (pairs_broken file) rest x f
    go (y ∷ s) h f = f

-- where the layout breaks nothing, the counts and the records tell
pub layout_past : (file : List ℕ) → first_of (size_broken file ++ pairs_broken file) ≡ None → broken file ≡ counts_broken file ++ records_broken file
layout_past file e =
    let both = both_empty (size_broken file) (pairs_broken file) (none_first (size_broken file ++ pairs_broken file) e) in
    ap (λ s. s ++ where_told (has_header file) (pairs_broken file ++ (counts_broken file ++ where_told (none_in (pairs_broken file)) (records_broken file)))) both.0
    ∙ ap (λ b. where_told b (pairs_broken file ++ (counts_broken file ++ where_told (none_in (pairs_broken file)) (records_broken file)))) (header_there file both.0)
    ∙ ap (λ p. p ++ (counts_broken file ++ where_told (none_in p) (records_broken file))) both.1

pub pairs_right : (file : List ℕ) → first_of (size_broken file ++ pairs_broken file) ≡ None → pairs_broken file ≡ []
pairs_right file e = (both_empty (size_broken file) (pairs_broken file) (none_first (size_broken file ++ pairs_broken file) e)).1

-- counts that are those of the file
pub record Tells (c : Counts) (file : List ℕ) : Type 0 where
  pub places : c.places ≡ places_said file
  pub transitions : c.transitions ≡ transitions_said file
  pub lines : c.lines ≡ lines_said file
  pub outputs : c.outputs ≡ outputs_said file

module _ (file : List ℕ) (c : Counts) (tells : Tells c file)
    (layout : first_of (size_broken file ++ pairs_broken file) ≡ None) (counts : first_of (counts_broken file) ≡ None) where
  -- the same of the counts and of what the file says
  same_counts : {X : Type 0} (f : ℕ → ℕ → ℕ → ℕ → X)
      → f c.places c.transitions c.lines c.outputs ≡ f (places_said file) (transitions_said file) (lines_said file) (outputs_said file)
  same_counts f =
      ap₂ (λ p t. f p t c.lines c.outputs) tells.places tells.transitions
      ∙ ap₂ (λ l o. f (places_said file) (transitions_said file) l o) tells.lines tells.outputs

  inside : table_end file Places ≤ length file
  inside =
      let pair = (both_empty (pair_broken file Places) _ (pairs_right file layout)).0 in
      let early = kept_rule (ltb (table_start file Places) (earliest file Places)) (Pair Places StartsEarly) _ pair in
      let past = kept_rule (ltb (length file) (table_end file Places)) (Pair Places PassesEnd) _ early.1 in
      ltb-false (length file) (table_end file Places) past.0

  whole : records Places (table_in file Places) ≡ c.places
  whole =
      let all = (both_empty (map Count (out_of_range (places_said file) (transitions_said file) (lines_said file) (outputs_said file))) _ (none_first (counts_broken file) counts)).1 in
      let same = eqb-true (table_length file Places) (5 * places_said file) (not-false (eqb (table_length file Places) (5 * places_said file)) (kept_last (not (eqb (table_length file Places) (5 * places_said file))) PlacesLength all)) in
      let long : length (table_in file Places) ≡ table_length file Places
      = length-take (table_length file Places) (drop (table_start file Places) file)
      ∙ ap (min (table_length file Places)) (length-drop (table_start file Places) file) ∙ omega (arith, inside) in
      omega (arith, long, same, tells.places)

  pub broken_is : broken file ≡ counts_broken file ++ records_broken file
  broken_is = layout_past file layout

  -- what the reader finds as it fills the net is what the file breaks
  pub reads : first_of (filling_wrong (blank_net c) (table_in file Places) (table_in file Arcs) (table_in file Terms)) ≡ first_of (broken file)
  reads =
      filling_agrees c (table_in file Places) (table_in file Arcs) (table_in file Terms) whole
      ∙ ap first_of (same_counts (λ p t l o. tables_broken p t l o (table_in file Places) (table_in file Arcs) (table_in file Terms)))
      ∙ sym (first_past (counts_broken file) (records_broken file) counts)
      ∙ ap first_of (sym broken_is)

  tables_right : first_of (broken file) ≡ None → tables_broken c.places c.transitions c.lines c.outputs (table_in file Places) (table_in file Arcs) (table_in file Terms) ≡ []
  tables_right e = none_first _ (sym (filling_agrees c (table_in file Places) (table_in file Arcs) (table_in file Terms) whole) ∙ reads ∙ e)

  -- the filled net is the one that the file says
  pub fills : first_of (broken file) ≡ None → filled_net (blank_net c) (table_in file Places) (table_in file Arcs) (table_in file Terms) ≡ net_in file
  fills e =
      filled_is c (table_in file Places) (table_in file Arcs) (table_in file Terms) whole
      (arcs_right c (table_in file Places) (table_in file Arcs) (table_in file Terms) whole (tables_right e))
      (terms_right c (table_in file Places) (table_in file Arcs) (table_in file Terms) whole (tables_right e))
      ∙ same_counts (λ p t l o. net_said p t l o (table_in file Places) (table_in file Arcs) (table_in file Terms))

  -- and is well formed
  pub lawful : first_of (broken file) ≡ None → WellFormed (net_in file)
  lawful e =
      subst WellFormed (same_counts (λ p t l o. net_said p t l o (table_in file Places) (table_in file Arcs) (table_in file Terms)))
      (well_formed c (table_in file Places) (table_in file Arcs) (table_in file Terms) whole (tables_right e))

-- a refusal that comes first, or none, tells whether the file is accepted
pub accepted_from : (r : Result StoredNet Refusal) (l : List Refusal) → result_err r ≡ first_of l → is_ok r ≡ none_in l
accepted_from (Ok n) [] e = refl
accepted_from (Ok n) (x ∷ l) e = cc
accepted_from (Err y) [] e = cc
accepted_from (Err y) (x ∷ l) e = refl

-- all that the reader promises, from the first of what is broken and from the net of an accepted file
pub record Promised (file : List ℕ) (r : Result StoredNet Refusal) : Type 0 where
  pub refused : result_err r ≡ first_of (broken file)
  pub accepted : is_ok r ≡ none_in (broken file)
  pub granted : IfOk r (λ n. net_of n ≡ net_in file)
  pub said : IfOk r (λ n. Says file (net_of n))
  pub lawful : IfOk r (λ n. WellFormed (net_of n))

pub promised : (file : List ℕ) (r : Result StoredNet Refusal) → result_err r ≡ first_of (broken file)
    → IfOk r (λ n. (first_of (broken file) ≡ None → net_of n ≡ net_in file) × (first_of (broken file) ≡ None → WellFormed (net_in file))) → Promised file r
promised file (Ok n) e h =
    let same = h.0 (sym e) in
    record { refused = e; accepted = accepted_from (Ok n) (broken file) e; granted = same; said = subst (Says file) (sym same) (says file); lawful = subst WellFormed (sym same) (h.1 (sym e)) }
promised file (Err x) e h = record { refused = e; accepted = accepted_from (Err x) (broken file) e; granted = tt; said = tt; lawful = tt }

-- what the counts break comes first, where the layout breaks nothing
pub counts_first : (file : List ℕ) (x : Refusal) → first_of (size_broken file ++ pairs_broken file) ≡ None → first_of (counts_broken file) ≡ Some x → first_of (broken file) ≡ Some x
counts_first file x layout e =
    ap first_of (layout_past file layout)
    ∙ first_joined (counts_broken file) (records_broken file) x e

-- the reader's answer, where neither the layout nor the counts break anything
pub finished : (file : List ℕ) (c : Counts) → Tells c file → first_of (size_broken file ++ pairs_broken file) ≡ None → first_of (counts_broken file) ≡ None
    → (ps ars ts : List ℕ) → ps ≡ table_in file Places → ars ≡ table_in file Arcs → ts ≡ table_in file Terms
    → (r : Result StoredNet Refusal) → result_err r ≡ first_of (filling_wrong (blank_net c) ps ars ts) → IfOk r (λ n. net_of n ≡ filled_net (blank_net c) ps ars ts) → Promised file r
finished file c tells layout counts ps ars ts p a t r e h =
    promised file r
    (e ∙ ap first_of (same_tables (filling_wrong (blank_net c))) ∙ reads file c tells layout counts)
    (IfOk-weaker r (λ n. net_of n ≡ filled_net (blank_net c) ps ars ts)
    (λ n. (first_of (broken file) ≡ None → net_of n ≡ net_in file) × (first_of (broken file) ≡ None → WellFormed (net_in file)))
    (λ n s. (λ g. s ∙ same_tables (filled_net (blank_net c)) ∙ fills file c tells layout counts g, lawful file c tells layout counts)) h)
  where
    same_tables : {X : Type 0} (f : List ℕ → List ℕ → List ℕ → X) → f ps ars ts ≡ f (table_in file Places) (table_in file Arcs) (table_in file Terms)
    same_tables f = ap₂ (λ x y. f x y ts) p a ∙ ap (f (table_in file Places) (table_in file Arcs)) t
