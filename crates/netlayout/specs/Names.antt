-- What texts call a table, and what they say is wrong with a record.
use Rattle.std.specs.Prelude.{ℕ, List, codes}
use Rattle.netlayout.specs.declared.refusal.RecordFault.{RecordFault}
use Rattle.netlayout.specs.declared.refusal.RecordFault.TheVariants.{StartMark, Output, Transition, Place, Kind, HighLine, LowLine}
use Rattle.netlayout.specs.declared.table.Table.{Table}
use Rattle.netlayout.specs.declared.table.Table.TheVariants.{Places, Arcs, Terms}

-- the name of a table
abbrev pub table_name : Table → List ℕ
table_name Places = codes "places table"
table_name Arcs = codes "arcs table"
table_name Terms = codes "terms table"

-- what is wrong with a record
abbrev pub fault_text : RecordFault → List ℕ
fault_text StartMark = codes "its start mark is neither 0 nor 1"
fault_text Output = codes "its raise word has an output that the net lacks"
fault_text Transition = codes "its transition is one that the net lacks"
fault_text Place = codes "its place is one that the net lacks"
fault_text Kind = codes "its kind is not 0, 1, 2 or 3"
fault_text HighLine = codes "its high word has a line that the net lacks"
fault_text LowLine = codes "its low word has a line that the net lacks"
