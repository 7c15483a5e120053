-- The walk along steps from a position, free of indices.
use Rattle.std.proofs.Common.{rules, ◌≡◌, true, List, [], ◌∷◌, ◌++◌, Some, None, Option, refl, ap}
use Rattle.std.specs.Option.{option_and_then}
use Rattle.ladders.specs.declared.grammar.Position.{Position}
use Rattle.ladders.specs.declared.grammar.Position.TheVariants.{First, Series, Group, Groups}
use Rattle.ladders.specs.declared.step.Op.TheVariants.{Close, St}
use Rattle.ladders.specs.declared.step.Role.{Role}
use Rattle.ladders.specs.declared.step.Step.{Step}
use Rattle.ladders.specs.Grammar.{coil_fits, position_after, next}
use Rattle.ladders.specs.Steps.{role_of, step}

-- the position after the steps from p, if each of them stands
abbrev pub reach : Position → List Step → Option Position
reach p [] = Some p
reach p (s ∷ ss) = option_and_then (λ q. reach q ss) (next p s)

-- steps after steps
pub reach_append : (ss ts : List Step) (p : Position) → reach p (ss ++ ts) ≡ option_and_then (λ q. reach q ts) (reach p ss)
reach_append [] ts p = refl
reach_append (s ∷ ss) ts p = go (next p s) (reach_append ss ts)
  where
    go : (o : Option Position) → ((q : Position) → reach q (ss ++ ts) ≡ option_and_then (λ v. reach v ts) (reach q ss))
        → option_and_then (λ q. reach q (ss ++ ts)) o ≡ option_and_then (λ v. reach v ts) (option_and_then (λ q. reach q ss) o)
    go None ih = refl
    go (Some q) ih = ih q

-- a step of a role that may stand, with a coil that fits
pub next_is : (p q : Position) (s : Step) (r : Role) → role_of s.op ≡ r → coil_fits r s.coil ≡ true → position_after p r ≡ Some q → next p s ≡ Some q
next_is p q s r e fits after = rw (e, fits) after

-- the same, with the steps that follow
pub on_past : (p q : Position) (s : Step) (r : Role) (ss : List Step) → role_of s.op ≡ r → coil_fits r s.coil ≡ true → position_after p r ≡ Some q
    → reach p (s ∷ ss) ≡ reach q ss
on_past p q s r ss e fits after = ap (option_and_then (λ v. reach v ss)) (next_is p q s r e fits after)

-- steps that end the rung that a position is in
abbrev pub ending : Position → List Step
ending First = []
ending Series = step St 32 ∷ []
ending Group = step Close 0 ∷ (step St 32 ∷ [])
ending Groups = step St 32 ∷ []

pub ending_reaches : (p : Position) → reach p (ending p) ≡ Some First
ending_reaches p = search rules
