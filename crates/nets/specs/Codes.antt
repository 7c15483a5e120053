-- The four numbers by which every refusal is told.
use Rattle.std.specs.Prelude.{ℕ}
use Rattle.nets.specs.declared.refusal_code.RefusalCode.{RefusalCode}

-- number, table, index and second
abbrev pub four : ℕ → ℕ → ℕ → ℕ → RefusalCode
four number table index second = record { number = number; table = table; index = index; second = second }
