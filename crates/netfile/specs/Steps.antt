-- How far the reader has come: the net after so many records, and what is broken among these as the net then tells it.
use Rattle.std.specs.Prelude.{ℕ, zero, suc, ◌/◌, List, ◌++◌, length, Some, None, Option, ◌==◌}
use Rattle.bitset.specs.Sets.{has}
use Rattle.nets.specs.Kinds.{kind_numbered}
use Rattle.nets.specs.Nets.{Net, at}
use Rattle.nets.specs.Stored.{net_with_arc, net_with_term, with_place_record, joined_places}
use Rattle.nets.specs.declared.arc_kind.ArcKind.{ArcKind}
use Rattle.netfile.specs.declared.arcs.ArcRecord.{ArcRecord}
use Rattle.netfile.specs.declared.places.PlaceRecord.{PlaceRecord}
use Rattle.netfile.specs.declared.terms.TermRecord.{TermRecord}
use Rattle.netlayout.specs.declared.refusal.Refusal.{Refusal}
use Rattle.netfile.specs.Files.{record_bytes, place_said, arc_said, term_said}
use Rattle.netfile.specs.Rules.{each_below, place_broken, arc_broken, term_broken, net_broken}

-- the net with a place record more, as record i
abbrev pub place_put : Net → PlaceRecord → ℕ → Net
place_put n p i = with_place_record n i (p.mark == 1) p.raise

-- the net with an arc more between this transition and this place, if it is of a kind
abbrev pub with_arc_as : Net → ArcRecord → Option ArcKind → Net
with_arc_as n a None = n
with_arc_as n a (Some kind) = net_with_arc n a.transition kind a.place

-- the net with an arc record more
abbrev pub arc_put : Net → ArcRecord → ℕ → Net
arc_put n a i = with_arc_as n a (kind_numbered a.kind)

-- the net with a term record more
abbrev pub term_put : Net → TermRecord → ℕ → Net
term_put n r i = net_with_term n r.transition r.term

-- record i of a table put in, by what its bytes say
abbrev pub put_record : {R : Type 0} → (List ℕ → R) → (Net → R → ℕ → Net) → ℕ → List ℕ → Net → ℕ → Net
put_record said put size bs n i = put n (said (record_bytes size bs i)) i

-- what record i of a table breaks
abbrev pub record_wrong : {R : Type 0} → (List ℕ → R) → (Net → R → ℕ → List Refusal) → ℕ → List ℕ → Net → ℕ → List Refusal
record_wrong said wrong size bs n i = wrong n (said (record_bytes size bs i)) i

-- the net with what stands below k put in, one after the other
abbrev pub put_below : (Net → ℕ → Net) → Net → ℕ → Net
put_below put n zero = n
put_below put n (suc i) = put (put_below put n i) i

-- what is broken below k, where each is told by a net that has those before it
abbrev pub wrong_below : (Net → ℕ → Net) → (Net → ℕ → List Refusal) → Net → ℕ → List Refusal
wrong_below put wrong n = each_below (λ i. wrong (put_below put n i) i)

-- what record i breaks, as a net tells it that has the records before it
abbrev pub place_wrong : Net → PlaceRecord → ℕ → List Refusal
place_wrong n p i = place_broken n.outputs p i

abbrev pub arc_wrong : Net → ArcRecord → ℕ → List Refusal
arc_wrong n a i = arc_broken n.places (length n.transitions) (has (joined_places (at n a.transition)) a.place) a i

abbrev pub term_wrong : Net → TermRecord → ℕ → List Refusal
term_wrong n r i = term_broken (length n.transitions) n.lines (length (at n r.transition).terms) r i

-- the net with all records of a table put in
abbrev pub with_records : {R : Type 0} → (List ℕ → R) → (Net → R → ℕ → Net) → ℕ → Net → List ℕ → Net
with_records said put size n bs = put_below (put_record said put size bs) n (length bs / size)

-- what the records of a table break
abbrev pub records_wrong : {R : Type 0} → (List ℕ → R) → (Net → R → ℕ → Net) → (Net → R → ℕ → List Refusal) → ℕ → Net → List ℕ → List Refusal
records_wrong said put wrong size n bs = wrong_below (put_record said put size bs) (record_wrong said wrong size bs) n (length bs / size)

-- record i of each table put in
abbrev pub put_place : List ℕ → Net → ℕ → Net
put_place bs = put_record place_said place_put 5 bs

abbrev pub put_arc : List ℕ → Net → ℕ → Net
put_arc bs = put_record arc_said arc_put 3 bs

abbrev pub put_term : List ℕ → Net → ℕ → Net
put_term bs = put_record term_said term_put 9 bs

-- the net with the places, the arcs and the terms of a table put in
abbrev pub with_places : Net → List ℕ → Net
with_places n bs = with_records place_said place_put 5 n bs

abbrev pub with_arcs : Net → List ℕ → Net
with_arcs n bs = with_records arc_said arc_put 3 n bs

abbrev pub with_terms : Net → List ℕ → Net
with_terms n bs = with_records term_said term_put 9 n bs

-- what the records of each table break
abbrev pub places_wrong : Net → List ℕ → List Refusal
places_wrong n bs = records_wrong place_said place_put place_wrong 5 n bs

abbrev pub arcs_wrong : Net → List ℕ → List Refusal
arcs_wrong n bs = records_wrong arc_said arc_put arc_wrong 3 n bs

abbrev pub terms_wrong : Net → List ℕ → List Refusal
terms_wrong n bs = records_wrong term_said term_put term_wrong 9 n bs

-- the net that the three tables fill
abbrev pub filled_net : Net → List ℕ → List ℕ → List ℕ → Net
filled_net n places arcs terms = with_terms (with_arcs (with_places n places) arcs) terms

-- what the three tables and the filled net break
abbrev pub filling_wrong : Net → List ℕ → List ℕ → List ℕ → List Refusal
filling_wrong n places arcs terms =
    places_wrong n places
    ++ (arcs_wrong (with_places n places) arcs
    ++ (terms_wrong (with_arcs (with_places n places) arcs) terms
    ++ net_broken (filled_net n places arcs terms)))
