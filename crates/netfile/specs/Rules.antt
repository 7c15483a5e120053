-- The rules on a net file: every rule that a file breaks, in the order in which they are tested.
use Rattle.std.specs.Prelude.{ℕ, zero, suc, Bool, false, not, ◌&&◌, ◌||◌, List, [], ◌++◌, length, ◌==◌, nat_le, nat_lt}
use Rattle.bitset.specs.Sets.{within, apart, below}
use Rattle.nets.specs.Nets.{Net, at, Transition as NetTransition}
use Rattle.nets.specs.declared.term.Term.{Term}
use Rattle.netfile.specs.declared.arcs.ArcRecord.{ArcRecord}
use Rattle.netfile.specs.declared.places.PlaceRecord.{PlaceRecord}
use Rattle.netfile.specs.declared.terms.TermRecord.{TermRecord}
use Rattle.netlayout.specs.declared.refusal.RecordFault.TheVariants.{StartMark, Output, Transition, Place, Kind, HighLine, LowLine}
use Rattle.netlayout.specs.declared.refusal.Refusal.{Refusal}
use Rattle.netlayout.specs.declared.refusal.Refusal.TheVariants.{Record, RepeatedArc, LineInBothWords, FifthTerm, MovesNothing, NoTerm, NoStartPlace}
use Rattle.netlayout.specs.declared.table.Table.TheVariants.{Places, Arcs, Terms}
use Rattle.netlayout.specs.Layouts.{places_said, transitions_said, lines_said, outputs_said, table_in}
use Rattle.netfile.specs.Files.{records, place_record, arc_record, term_record, term_list, net_said}
use Rattle.bitset.specs.Lists.{none_in}
use Rattle.netlayout.specs.Rules.{where_broken, where_told, has_header, size_broken, pairs_broken, counts_broken}

-- what is broken for each number below k, in rising order
abbrev pub each_below : (ℕ → List Refusal) → ℕ → List Refusal
each_below f zero = []
each_below f (suc i) = each_below f i ++ f i

-- a place's start mark is 0 or 1, and it raises outputs of the net only
abbrev pub place_broken : ℕ → PlaceRecord → ℕ → List Refusal
place_broken outputs p i =
    where_broken (nat_lt 1 p.mark) (Record Places i StartMark)
    ++ where_broken (not (within p.raise (below outputs))) (Record Places i Output)

-- whether one of the arcs below k joins transition t and place p
abbrev pub joined_before : List ℕ → ℕ → ℕ → ℕ → Bool
joined_before arcs t p zero = false
joined_before arcs t p (suc i) = ((arc_record arcs i).transition == t && (arc_record arcs i).place == p) || joined_before arcs t p i

-- an arc joins a transition and a place of the net, is of one of the four kinds, and joins no two that an earlier arc joins
abbrev pub arc_broken : ℕ → ℕ → Bool → ArcRecord → ℕ → List Refusal
arc_broken places transitions joined a i =
    where_broken (nat_le transitions a.transition) (Record Arcs i Transition)
    ++ (where_broken (nat_le places a.place) (Record Arcs i Place)
    ++ (where_broken (nat_lt 3 a.kind) (Record Arcs i Kind)
    ++ where_broken joined (RepeatedArc i)))

-- a term has lines of the net only, and none in both words
abbrev pub words_broken : ℕ → Term → ℕ → List Refusal
words_broken lines c i =
    where_broken (not (within c.high (below lines))) (Record Terms i HighLine)
    ++ (where_broken (not (within c.low (below lines))) (Record Terms i LowLine)
    ++ where_broken (not (apart c.high c.low)) (LineInBothWords i))

-- a term is one of a transition of the net, its words are right, and it is no fifth term
abbrev pub term_broken : ℕ → ℕ → ℕ → TermRecord → ℕ → List Refusal
term_broken transitions lines earlier r i =
    where_broken (nat_le transitions r.transition) (Record Terms i Transition)
    ++ (words_broken lines r.term i
    ++ where_broken (nat_le 4 earlier) (FifthTerm i))

-- a transition consumes or produces something, and has a term
abbrev pub transition_broken : NetTransition → ℕ → List Refusal
transition_broken x t =
    where_broken (x.consumes == 0 && x.produces == 0) (MovesNothing t) ++ where_broken (none_in x.terms) (NoTerm t)

-- some place starts marked
abbrev pub start_broken : Net → List Refusal
start_broken n = where_broken (n.start == 0) NoStartPlace

-- what the records of the places break
abbrev pub places_broken : ℕ → List ℕ → List Refusal
places_broken outputs places = each_below (λ i. place_broken outputs (place_record places i) i) (records Places places)

-- what the arcs below a record break
abbrev pub arcs_broken : ℕ → ℕ → List ℕ → ℕ → List Refusal
arcs_broken places transitions arcs =
    each_below (λ i. arc_broken places transitions (joined_before arcs (arc_record arcs i).transition (arc_record arcs i).place i) (arc_record arcs i) i)

-- what the terms below a record break
abbrev pub terms_broken : ℕ → ℕ → List ℕ → ℕ → List Refusal
terms_broken transitions lines terms =
    each_below (λ i. term_broken transitions lines (length (term_list terms (term_record terms i).transition i)) (term_record terms i) i)

-- what the transitions of a net break
abbrev pub transitions_broken : Net → List Refusal
transitions_broken n = each_below (λ t. transition_broken (at n t) t) (length n.transitions)

-- what the net as a whole breaks
abbrev pub net_broken : Net → List Refusal
net_broken n = transitions_broken n ++ start_broken n

-- what the records of the three tables and the net that they say break, for these counts
abbrev pub tables_broken : ℕ → ℕ → ℕ → ℕ → List ℕ → List ℕ → List ℕ → List Refusal
tables_broken p t l o places arcs terms =
    places_broken o places
    ++ (arcs_broken p t arcs (records Arcs arcs)
    ++ (terms_broken t l terms (records Terms terms)
    ++ net_broken (net_said p t l o places arcs terms)))

-- what the records of a file break
abbrev pub records_broken : List ℕ → List Refusal
records_broken file =
    tables_broken (places_said file) (transitions_said file) (lines_said file) (outputs_said file)
    (table_in file Places) (table_in file Arcs) (table_in file Terms)

-- every rule that a file breaks, in the order in which they are tested; the pairs and counts are told by a header, and the records by right pairs
abbrev pub broken : List ℕ → List Refusal
broken file =
    size_broken file
    ++ where_told (has_header file) (pairs_broken file ++ (counts_broken file ++ where_told (none_in (pairs_broken file)) (records_broken file)))
