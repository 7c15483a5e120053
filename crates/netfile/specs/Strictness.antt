-- Plain and strict checks: a strict one also finds a clash of the net.
use Rattle.std.specs.Prelude.{◌≡◌, ℕ, List, [], ◌∷◌, ◌++◌, Some, None, Option}
use Rattle.bitset.specs.Lists.{none_in}
use Rattle.nets.specs.declared.clash.Clash.{Clash as ClashFound}
use Rattle.nets.specs.Clashes.{first_clash, Clashing, First}
use Rattle.nets.specs.Nets.{Net}
use Rattle.netlayout.specs.declared.refusal.Refusal.{Refusal}
use Rattle.netlayout.specs.declared.refusal.Refusal.TheVariants.{Clash}
use Rattle.netlayout.specs.Rules.{where_told}
use Rattle.netfile.specs.Files.{net_in}
use Rattle.netfile.specs.Rules.{broken}
use Rattle.netfile.specs.declared.strictness.Strictness.{Strictness}
use Rattle.netfile.specs.declared.strictness.Strictness.TheVariants.{Plain, Strict}

-- a net has no clash
abbrev pub clash_broken : Option ClashFound → List Refusal
clash_broken None = []
clash_broken (Some c) = Clash c ∷ []

-- every rule that a check finds broken, in the order in which they are tested; a clash is told of a net that keeps the others
abbrev pub broken_under : Strictness → List ℕ → List Refusal
broken_under Plain file = broken file
broken_under Strict file = broken file ++ where_told (none_in (broken file)) (clash_broken (first_clash (net_in file)))

-- what a strict check answers of a net that keeps all other rules: no two of its transitions clash, or the refusal tells the first that do
abbrev pub ClashOrNone : Net → Option Refusal → Type 0
ClashOrNone n None = (i j m w : ℕ) → Clashing n i j m w → ⊥
ClashOrNone n (Some r) = (c : ClashFound) × (r ≡ Clash c) × First n c
