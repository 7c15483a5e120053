-- The records of a net file, and the net that its bytes say.
use Rattle.std.specs.Prelude.{ℕ, zero, suc, ◌+◌, ◌*◌, ◌/◌, Bool, cond, ◌&&◌, List, [], ◌∷◌, ◌++◌, map, length, take, drop, ◌==◌, bit_or}
use Rattle.std.specs.List.{range_with_len}
use Rattle.bitset.specs.Sets.{only}
use Rattle.nets.specs.Nets.{Net, Transition}
use Rattle.nets.specs.declared.term.Term.{Term}
use Rattle.netfile.specs.declared.arcs.ArcRecord.{ArcRecord}
use Rattle.netfile.specs.declared.places.PlaceRecord.{PlaceRecord}
use Rattle.netfile.specs.declared.terms.TermRecord.{TermRecord}
use Rattle.netlayout.specs.declared.table.Table.{Table}
use Rattle.netlayout.specs.declared.table.Table.TheVariants.{Places, Arcs, Terms}
use Rattle.netlayout.specs.Tables.{record_size}
use Rattle.netlayout.specs.Layouts.{byte, places_said, transitions_said, lines_said, outputs_said, table_in}

-- the number in four bytes, the highest byte first
abbrev pub four_bytes : List ℕ → ℕ → ℕ
four_bytes bs i = byte bs i * 16777216 + byte bs (i + 1) * 65536 + byte bs (i + 2) * 256 + byte bs (i + 3)

-- how many records the bytes of a table have
abbrev pub records : Table → List ℕ → ℕ
records t bs = length bs / record_size t

-- the bytes of record i, where a record has so many
abbrev pub record_bytes : ℕ → List ℕ → ℕ → List ℕ
record_bytes size bs i = take size (drop (size * i) bs)

-- what the bytes of a place, of an arc and of a term say
abbrev pub place_said : List ℕ → PlaceRecord
place_said bs = record { mark = byte bs 0; raise = four_bytes bs 1 }

abbrev pub arc_said : List ℕ → ArcRecord
arc_said bs = record { transition = byte bs 0; place = byte bs 1; kind = byte bs 2 }

abbrev pub term_said : List ℕ → TermRecord
term_said bs = record { transition = byte bs 0; term = record { high = four_bytes bs 1; low = four_bytes bs 5 } }

-- record i of the places
abbrev pub place_record : List ℕ → ℕ → PlaceRecord
place_record bs i = place_said (record_bytes 5 bs i)

-- record i of the arcs
abbrev pub arc_record : List ℕ → ℕ → ArcRecord
arc_record bs i = arc_said (record_bytes 3 bs i)

-- record i of the terms
abbrev pub term_record : List ℕ → ℕ → TermRecord
term_record bs i = term_said (record_bytes 9 bs i)

-- the places below k that start marked
abbrev pub start_places : List ℕ → ℕ → ℕ
start_places bs zero = 0
start_places bs (suc i) = cond ((place_record bs i).mark == 1) (bit_or (start_places bs i) (only i)) (start_places bs i)

-- whether an arc is one of transition t, of the kind with this number
abbrev pub arc_of : ArcRecord → ℕ → ℕ → Bool
arc_of a t kind = a.transition == t && a.kind == kind

-- the places to which the arcs below k join transition t, by arcs of this kind
abbrev pub arc_places : List ℕ → ℕ → ℕ → ℕ → ℕ
arc_places bs t kind zero = 0
arc_places bs t kind (suc i) =
    cond (arc_of (arc_record bs i) t kind) (bit_or (arc_places bs t kind i) (only (arc_record bs i).place)) (arc_places bs t kind i)

-- the terms of transition t below record k, in file order
abbrev pub term_list : List ℕ → ℕ → ℕ → List Term
term_list bs t zero = []
term_list bs t (suc i) = cond ((term_record bs i).transition == t) (term_list bs t i ++ (term_record bs i).term ∷ []) (term_list bs t i)

-- transition t as the first j arcs and the first k terms say it
abbrev pub transition_said : List ℕ → List ℕ → ℕ → ℕ → ℕ → Transition
transition_said arcs terms j k t =
    record {
      consumes = arc_places arcs t 0 j;
      produces = arc_places arcs t 1 j;
      tests = arc_places arcs t 2 j;
      inhibits = arc_places arcs t 3 j;
      terms = term_list terms t k;
    }

-- the net that the counts and the bytes of the three tables say
abbrev pub net_said : ℕ → ℕ → ℕ → ℕ → List ℕ → List ℕ → List ℕ → Net
net_said p t l o places arcs terms =
    record {
      places = p;
      lines = l;
      outputs = o;
      start = start_places places p;
      raises = map (λ i. (place_record places i).raise) (range_with_len 0 p);
      transitions = map (transition_said arcs terms (records Arcs arcs) (records Terms terms)) (range_with_len 0 t);
    }

-- the net that a file says
abbrev pub net_in : List ℕ → Net
net_in file =
    net_said (places_said file) (transitions_said file) (lines_said file) (outputs_said file)
    (table_in file Places) (table_in file Arcs) (table_in file Terms)
