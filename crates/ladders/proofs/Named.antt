-- Each step of a ladder names one of the 193 coils.
use Rattle.std.proofs.Common.{◌≡◌, ℕ, zero, suc, ◌+◌, ◌<◌, Bool, true, false, cond, ltb, List, [], ◌∷◌, length, get_or, Some, None, Ok, Option, Result, refl, le_of_suc-le-suc, not-suc-le-zero, arith}
use Rattle.std.proofs.lemmas.Bool.Decides.{nat_tests}
use Rattle.ladders.specs.declared.grammar.Fault.{Fault}
use Rattle.ladders.specs.declared.grammar.Position.{Position}
use Rattle.ladders.specs.declared.grammar.Position.TheVariants.{First}
use Rattle.ladders.specs.declared.step.Role.{Role}
use Rattle.ladders.specs.declared.step.Step.{Step}
use Rattle.ladders.specs.Grammar.{coil_fits, position_after, next, next_at, onward, from, grammar}
use Rattle.ladders.specs.Steps.{role_of}

below : (r : Role) (n : ℕ) → coil_fits r n ≡ true → n < 193
below r n e = grind (arith, nat_tests)

-- a choice that is something was made
pub chosen : {X : Type 0} (b : Bool) (o : Option X) (x : X) → cond b o None ≡ Some x → (b ≡ true) × (o ≡ Some x)
chosen true o x e = (refl, e)
chosen false o x e = cc

-- where the walk goes on, the step stands
pub went_on : (o : Option Position) (i : ℕ) (rest : Position → Result (Unit {0}) Fault) → onward o i rest ≡ Ok tt → (q : Position) × ((o ≡ Some q) × (rest q ≡ Ok tt))
went_on (Some q) i rest e = (q, (refl, e))
went_on None i rest e = cc

named_below : (p : Position) (i : ℕ) (ss : List Step) → from p i ss ≡ Ok tt → (k : ℕ) (d : Step) → k < length ss → (get_or ss k d).coil < 193
named_below p i [] e k d h = absurd (not-suc-le-zero h)
named_below p i (s ∷ ss) e zero d h =
    let w = went_on (next_at i p s) i (λ q. from q (i + 1) ss) e in
    let stood = (chosen (ltb i 2048) (next p s) w.0 w.1.0).1 in
    below (role_of s.op) s.coil (chosen (coil_fits (role_of s.op) s.coil) (position_after p (role_of s.op)) w.0 stood).0
named_below p i (s ∷ ss) e (suc k) d h =
    let w = went_on (next_at i p s) i (λ q. from q (i + 1) ss) e in
    named_below w.0 (i + 1) ss w.1.1 k d (le_of_suc-le-suc h)

pub named_within : (ss : List Step) (n k : ℕ) (d : Step) → grammar ss ≡ Ok tt → n ≡ 193 → k < length ss → (get_or ss k d).coil < n
named_within ss n k d whole count h = let b = named_below First 0 ss whole k d h in omega arith
