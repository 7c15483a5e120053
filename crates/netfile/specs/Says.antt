-- What a file says of its net, record by record.
use Rattle.std.specs.Prelude.{◌≡◌, ℕ, ◌<◌, List, map, length, Decides, filter, nat_eq, slice_index}
use Rattle.std.specs.List.{range_with_len}
use Rattle.bitset.specs.Sets.{has}
use Rattle.nets.specs.Nets.{Net, at}
use Rattle.nets.specs.declared.term.Term.{Term}
use Rattle.netfile.specs.declared.terms.TermRecord.{TermRecord}
use Rattle.netlayout.specs.declared.table.Table.TheVariants.{Places, Arcs, Terms}
use Rattle.netlayout.specs.Layouts.{places_said, transitions_said, lines_said, outputs_said, table_in}
use Rattle.netfile.specs.Files.{records, place_record, arc_record, term_record}

-- the file has an arc of transition t and place p of the kind with this number
abbrev pub HasArc : List ℕ → ℕ → ℕ → ℕ → Type 0
HasArc file t p kind =
    (i : ℕ) × (i < records Arcs (table_in file Arcs)) × (arc_record (table_in file Arcs) i ≡ record { transition = t; place = p; kind = kind })

-- the records of the terms, in file order
abbrev pub term_records : List ℕ → List TermRecord
term_records file = map (term_record (table_in file Terms)) (range_with_len 0 (records Terms (table_in file Terms)))

-- the terms of transition t, in file order
abbrev pub terms_of : List ℕ → ℕ → List Term
terms_of file t = map (λ r. r.term) (filter (λ r. nat_eq r.transition t) (term_records file))

-- the net has the counts of the file, its start marks and raise words, an arc exactly where the file has one, and its terms in file order
pub record Says (file : List ℕ) (n : Net) : Type 0 where
  pub places : n.places ≡ places_said file
  pub transitions : length n.transitions ≡ transitions_said file
  pub lines : n.lines ≡ lines_said file
  pub outputs : n.outputs ≡ outputs_said file
  pub start : (p : ℕ) → Decides (has n.start p) ((p < n.places) × ((place_record (table_in file Places) p).mark ≡ 1))
  pub raises : (p : ℕ) → p < n.places → slice_index n.raises p ≡ (place_record (table_in file Places) p).raise
  pub consumes : (t p : ℕ) → t < length n.transitions → Decides (has (at n t).consumes p) (HasArc file t p 0)
  pub produces : (t p : ℕ) → t < length n.transitions → Decides (has (at n t).produces p) (HasArc file t p 1)
  pub tests : (t p : ℕ) → t < length n.transitions → Decides (has (at n t).tests p) (HasArc file t p 2)
  pub inhibits : (t p : ℕ) → t < length n.transitions → Decides (has (at n t).inhibits p) (HasArc file t p 3)
  pub terms : (t : ℕ) → t < length n.transitions → (at n t).terms ≡ terms_of file t
