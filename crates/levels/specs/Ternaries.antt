-- Three-valued levels.
use Rattle.std.proofs.Common.{rules}
use Rattle.std.specs.Prelude.{ℕ, Bool, true, false}
use Rattle.levels.specs.Levels.{Operations, LevelLaws, same}
use Rattle.levels.specs.declared.ternary.Ternary.{Ternary}
use Rattle.levels.specs.declared.ternary.Ternary.TheVariants.{Low, High, Unknown}

-- a level's place in the order from low to high
abbrev pub rank : Ternary → ℕ
rank Low = 0
rank Unknown = 1
rank High = 2

-- low and high admit themselves alone, and unknown admits both
abbrev pub ternary_admits : Ternary → Bool → Bool
ternary_admits Low b = same false b
ternary_admits High b = same true b
ternary_admits Unknown b = true

-- low where one of two is low, high where both are high, else unknown
abbrev pub ternary_both : Ternary → Ternary → Ternary
ternary_both Low y = Low
ternary_both High y = y
ternary_both Unknown Low = Low
ternary_both Unknown High = Unknown
ternary_both Unknown Unknown = Unknown

-- high where one of two is high, low where both are low, else unknown
abbrev pub ternary_either : Ternary → Ternary → Ternary
ternary_either High y = High
ternary_either Low y = y
ternary_either Unknown High = High
ternary_either Unknown Low = Unknown
ternary_either Unknown Unknown = Unknown

-- the inverse of unknown is unknown
abbrev pub ternary_inverse : Ternary → Ternary
ternary_inverse Low = High
ternary_inverse High = Low
ternary_inverse Unknown = Unknown

-- the operations on three-valued levels
abbrev pub ternary_operations : Operations Ternary
ternary_operations = record { low = Low; high = High; both = ternary_both; either = ternary_either; inverse = ternary_inverse }

-- three-valued levels keep the laws
pub ternary_laws : LevelLaws ternary_admits ternary_operations
ternary_laws = search rules
