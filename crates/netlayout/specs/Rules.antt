-- The rules on the layout of a net file, in the order in which they are tested.
use Rattle.std.specs.Prelude.{ℕ, ◌*◌, ◌%◌, Bool, true, false, not, ◌||◌, List, [], ◌∷◌, ◌++◌, map, length, ◌==◌, nat_le, nat_lt}
use Rattle.nets.specs.Ranges.{out_of_range}
use Rattle.netlayout.specs.declared.refusal.PairFault.TheVariants.{StartsEarly, PassesEnd, BrokenRecord}
use Rattle.netlayout.specs.declared.refusal.Refusal.{Refusal}
use Rattle.netlayout.specs.declared.refusal.Refusal.TheVariants.{FileSize, Pair, Count, PlacesLength}
use Rattle.netlayout.specs.declared.table.Table.{Table}
use Rattle.netlayout.specs.declared.table.Table.TheVariants.{Places, Arcs, Terms}
use Rattle.netlayout.specs.Layouts.{places_said, transitions_said, lines_said, outputs_said, table_start, table_length, table_end, earliest}
use Rattle.netlayout.specs.Tables.{record_size}

-- the refusal, where its rule is broken
abbrev pub where_broken : Bool → Refusal → List Refusal
where_broken true r = r ∷ []
where_broken false r = []

-- a file has 16 to 16,384 bytes
abbrev pub size_broken : List ℕ → List Refusal
size_broken file = where_broken (nat_lt (length file) 16 || nat_lt 16384 (length file)) FileSize

-- a table starts neither before byte 16 nor before the end of the table before, ends within the file, and has whole records
abbrev pub pair_broken : List ℕ → Table → List Refusal
pair_broken file t =
    where_broken (nat_lt (table_start file t) (earliest file t)) (Pair t StartsEarly)
    ++ (where_broken (nat_lt (length file) (table_end file t)) (Pair t PassesEnd)
    ++ where_broken (not (table_length file t % record_size t == 0)) (Pair t BrokenRecord))

-- the three pairs in turn
abbrev pub pairs_broken : List ℕ → List Refusal
pairs_broken file = pair_broken file Places ++ (pair_broken file Arcs ++ pair_broken file Terms)

-- each count is in its range, and the places table has a record for each place
abbrev pub counts_broken : List ℕ → List Refusal
counts_broken file =
    map Count (out_of_range (places_said file) (transitions_said file) (lines_said file) (outputs_said file))
    ++ where_broken (not (table_length file Places == 5 * places_said file)) PlacesLength

-- the list, where what it speaks of can be told from the file
abbrev pub where_told : Bool → List Refusal → List Refusal
where_told true rs = rs
where_told false rs = []

-- the file has a header
abbrev pub has_header : List ℕ → Bool
has_header file = nat_le 16 (length file)
