-- The four numbers of each refusal.
use Rattle.std.specs.Prelude.{ℕ}
use Rattle.nets.specs.Codes.{four}
use Rattle.nets.specs.declared.quantity.Quantity.{Quantity}
use Rattle.nets.specs.declared.quantity.Quantity.TheVariants.{Places, Transitions, Lines, Outputs}
use Rattle.nets.specs.declared.refusal_code.RefusalCode.{RefusalCode}
use Rattle.netlayout.specs.declared.refusal.Refusal.{Refusal}
use Rattle.netlayout.specs.declared.refusal.Refusal.TheVariants.{FileSize, Pair, Count, PlacesLength, Record, RepeatedArc, LineInBothWords, FifthTerm, MovesNothing, NoTerm, NoStartPlace, Clash}
use Rattle.netlayout.specs.Tables.{table_number}

-- the index of a quantity whose count is out of range
abbrev pub quantity_number : Quantity → ℕ
quantity_number Places = 1
quantity_number Transitions = 2
quantity_number Lines = 3
quantity_number Outputs = 4

-- the four numbers of a refusal
abbrev pub code_of : Refusal → RefusalCode
code_of FileSize = four 1 0 0 0
code_of (Pair table fault) = four 1 0 (table_number table) 0
code_of (Count quantity) = four 2 0 (quantity_number quantity) 0
code_of PlacesLength = four 2 0 5 0
code_of (Record table index fault) = four 3 (table_number table) index 0
code_of (RepeatedArc index) = four 4 2 index 0
code_of (LineInBothWords index) = four 5 3 index 0
code_of (FifthTerm index) = four 6 3 index 0
code_of (MovesNothing transition) = four 7 4 transition 0
code_of (NoTerm transition) = four 8 4 transition 0
code_of NoStartPlace = four 9 0 0 0
code_of (Clash clash) = four 10 0 clash.lower clash.higher
