-- The three tables of a net file.
use Rattle.std.specs.Prelude.{ℕ}
use Rattle.netlayout.specs.declared.table.Table.{Table}
use Rattle.netlayout.specs.declared.table.Table.TheVariants.{Places, Arcs, Terms}

-- the number of a table, and of its pair
abbrev pub table_number : Table → ℕ
table_number Places = 1
table_number Arcs = 2
table_number Terms = 3

-- how many bytes a record has
abbrev pub record_size : Table → ℕ
record_size Places = 5
record_size Arcs = 3
record_size Terms = 9

-- where in the file its pair of offset and length stands
abbrev pub pair_place : Table → ℕ
pair_place Places = 4
pair_place Arcs = 8
pair_place Terms = 12
