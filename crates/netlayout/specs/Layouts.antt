-- The layout of a net file: what its header tells, and the bytes of its tables.
use Rattle.std.specs.Prelude.{ℕ, ◌+◌, ◌*◌, List, take, drop, slice_index}
use Rattle.netlayout.specs.declared.table.Table.{Table}
use Rattle.netlayout.specs.declared.table.Table.TheVariants.{Places, Arcs, Terms}
use Rattle.netlayout.specs.Tables.{pair_place}

-- byte i, and 0 past the end
abbrev pub byte : List ℕ → ℕ → ℕ
byte bs i = slice_index bs i

-- the number in two bytes, the higher byte first
abbrev pub two_bytes : List ℕ → ℕ → ℕ
two_bytes bs i = byte bs i * 256 + byte bs (i + 1)

-- how many places, transitions, lines and outputs the file says
abbrev pub places_said : List ℕ → ℕ
places_said file = byte file 0

abbrev pub transitions_said : List ℕ → ℕ
transitions_said file = byte file 1

abbrev pub lines_said : List ℕ → ℕ
lines_said file = byte file 2

abbrev pub outputs_said : List ℕ → ℕ
outputs_said file = byte file 3

-- where a table starts, how many bytes it has, and where it ends
abbrev pub table_start : List ℕ → Table → ℕ
table_start file t = two_bytes file (pair_place t)

abbrev pub table_length : List ℕ → Table → ℕ
table_length file t = two_bytes file (pair_place t + 2)

abbrev pub table_end : List ℕ → Table → ℕ
table_end file t = table_start file t + table_length file t

-- where a table may start at the earliest: at byte 16, or at the end of the table before
abbrev pub earliest : List ℕ → Table → ℕ
earliest file Places = 16
earliest file Arcs = table_end file Places
earliest file Terms = table_end file Arcs

-- the bytes of a table
abbrev pub table_in : List ℕ → Table → List ℕ
table_in file t = take (table_length file t) (drop (table_start file t) file)
