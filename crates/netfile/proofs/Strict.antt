-- What a strict check finds broken in a file that keeps the other rules.
use Rattle.std.proofs.Common.{◌≡◌, ℕ, true, List, [], ◌∷◌, ◌++◌, IfOk, Ok, Err, Result, sym, refl, ◌∙◌, subst}
use mathlib.Core.Bool.{false≢true}
use Rattle.bitset.specs.Lists.{none_in}
use Rattle.nets.specs.Stored.{net_of}
use Rattle.nets.specs.declared.net.Net.{Net as StoredNet}
use Rattle.nets.specs.Clashes.{first_clash}
use Rattle.nets.specs.WellFormed.{WellFormed}
use Rattle.netfile.specs.Says.{Says}
use Rattle.netfile.specs.declared.strictness.Strictness.TheVariants.{Strict}
use Rattle.netfile.specs.Files.{net_in}
use Rattle.netfile.specs.Rules.{broken}
use Rattle.netfile.specs.Strictness.{clash_broken, broken_under}
use Rattle.netlayout.specs.declared.refusal.Refusal.{Refusal}
use Rattle.netlayout.specs.Rules.{where_told}

-- where nothing else is broken, only a clash is
pub only_clash : (file : List ℕ) → true ≡ none_in (broken file) → broken_under Strict file ≡ clash_broken (first_clash (net_in file))
only_clash file = go (broken file)
  where
    go : (l : List Refusal) → true ≡ none_in l → l ++ where_told (none_in l) (clash_broken (first_clash (net_in file))) ≡ clash_broken (first_clash (net_in file))
    go [] e = refl
    go (x ∷ xs) e = absurd (false≢true (sym e))

-- a net that is the one read keeps what was promised of that
pub same_net : (file : List ℕ) (n : StoredNet) (r : Result StoredNet Refusal) → net_of n ≡ net_in file → Says file (net_of n) → WellFormed (net_of n)
    → IfOk r (λ x. net_of x ≡ net_of n)
    → IfOk r (λ x. net_of x ≡ net_in file) × IfOk r (λ x. Says file (net_of x)) × IfOk r (λ x. WellFormed (net_of x))
same_net file n (Ok x) e s f h = (h ∙ e, subst (Says file) (sym h) s, subst WellFormed (sym h) f)
same_net file n (Err y) e s f h = (tt, tt, tt)
