-- Steps that are walked along to the end are whole rungs.
use Rattle.std.proofs.Common.{rules, ◌≡◌, ℕ, ◌<◌, ◌≤◌, Bool, true, cond, ◌&&◌, ltb, leb, List, [], ◌∷◌, ◌++◌, Some, sym, refl, ap, ◌∙◌, subst, arith}
use Rattle.std.proofs.lemmas.List.{append_assoc}
use Rattle.std.proofs.lemmas.Bool.{eqb-true, ltb-true}
use Rattle.std.proofs.lemmas.Bool.Decides.{nat_tests}
use Rattle.std.proofs.lemmas.Option.{option_and_then_some}
use Rattle.std.specs.List.{flat_map, AllByRecursion}
use Rattle.ladders.specs.declared.grammar.Position.{Position}
use Rattle.ladders.specs.declared.grammar.Position.TheVariants.{First, Series, Group, Groups}
use Rattle.ladders.specs.declared.step.Op.{Op}
use Rattle.ladders.specs.declared.step.Op.TheVariants.{Ld, Ldn, And, Andn, Or, Orn, Close, S, R}
use Rattle.ladders.specs.declared.step.Role.{Role}
use Rattle.ladders.specs.declared.step.Role.TheVariants.{Loads, Joins, Opens, Closes, Stores}
use Rattle.ladders.specs.declared.step.Step.{Step}
use Rattle.ladders.specs.Grammar.{coil_fits, position_after, next}
use Rattle.ladders.specs.Ladders.{Whole}
use Rattle.ladders.specs.Rungs.{Contact, Row, Store, puts, sets, resets, Rung, joined_steps, group_steps, store_op, rungs_steps, ContactExists, RowExists, RungExists}
use Rattle.ladders.specs.Steps.{role_of, inverts, step}
use Rattle.ladders.proofs.Named.{chosen}
use Rattle.ladders.proofs.Walks.{reach}

-- what a storing operation makes of the result
abbrev store_of : Op → Store
store_of S = sets
store_of R = resets
store_of _ = puts

-- the operation of a role
abbrev spelled : Role → Bool → Store → Op
spelled Loads b s = cond b Ldn Ld
spelled Joins b s = cond b Andn And
spelled Opens b s = cond b Orn Or
spelled Closes b s = Close
spelled Stores b s = store_op s

is_spelled : (o : Op) → o ≡ spelled (role_of o) (inverts o) (store_of o)
is_spelled o = search rules

-- a step by its role
step_spelled : (s : Step) (r : Role) → role_of s.op ≡ r → s ≡ step (spelled r (inverts s.op) (store_of s.op)) s.coil
step_spelled s r e = ap (λ (o : Op). step o s.coil) (is_spelled s.op ∙ ap (λ (v : Role). spelled v (inverts s.op) (store_of s.op)) e)

-- the contact of a step
abbrev contact : Step → Contact
contact s = record { inverted = inverts s.op; coil = s.coil }

-- groups, a store and rungs: what is left after a row
record Tail : Type 0 where
  groups : List Row
  store : Store
  coil : ℕ
  rungs : List Rung

abbrev tail_steps : Tail → List Step
tail_steps t = flat_map group_steps t.groups ++ (step (store_op t.store) t.coil ∷ rungs_steps t.rungs)

abbrev TailExists : Tail → Type 0
TailExists t = AllByRecursion RowExists t.groups × (32 ≤ t.coil) × (t.coil < 193) × AllByRecursion RungExists t.rungs

-- contacts that are joined, and then what a tail is written as
abbrev Joined : (Tail → List Step) → List Step → Type 0
Joined f ss = (cs : List Contact) × (t : Tail) × AllByRecursion ContactExists cs × TailExists t × (ss ≡ joined_steps cs ++ f t)

-- what is left from a position on
abbrev Left : Position → List Step → Type 0
Left First ss = Whole ss
Left Series ss = Joined tail_steps ss
Left Group ss = Joined (λ t. step Close 0 ∷ tail_steps t) ss
Left Groups ss = (t : Tail) × TailExists t × (ss ≡ tail_steps t)

stores_fit : (n : ℕ) → (leb 32 n && ltb n 193) ≡ true → (32 ≤ n) × (n < 193)
stores_fit n e = (grind (arith, nat_tests), grind (arith, nat_tests))

cons : {X : Type 0} {x y : X} {xs ys : List X} → x ≡ y → xs ≡ ys → x ∷ xs ≡ y ∷ ys
cons e d = cc

-- a row, groups, a store and rungs
loaded : (s : Step) (ss : List Step) → role_of s.op ≡ Loads → ltb s.coil 193 ≡ true → Left Series ss → Left First (s ∷ ss)
loaded s ss e fits (cs, t, hs, ht, w) =
    let more = flat_map group_steps t.groups in
    let stores = step (store_op t.store) t.coil ∷ [] in (
      record { row = record { first = contact s; others = cs }; groups = t.groups; store = t.store; coil = t.coil } ∷ t.rungs,
      (((ltb-true s.coil 193 fits, hs), ht.0, ht.1, ht.2), ht.3),
      cons (step_spelled s Loads e)
          (w ∙ ap (λ (v : List Step). joined_steps cs ++ v) (sym (append_assoc more stores (rungs_steps t.rungs))) ∙ sym (append_assoc (joined_steps cs) (more ++ stores) (rungs_steps t.rungs))),
    )

-- the other steps
joined : (f : Tail → List Step) (s : Step) (ss : List Step) → role_of s.op ≡ Joins → ltb s.coil 193 ≡ true → Joined f ss → Joined f (s ∷ ss)
joined f s ss e fits (cs, t, hs, ht, w) = (contact s ∷ cs, t, (ltb-true s.coil 193 fits, hs), ht, cons (step_spelled s Joins e) w)

opened : (s : Step) (ss : List Step) → role_of s.op ≡ Opens → ltb s.coil 193 ≡ true → Left Group ss → Left Groups (s ∷ ss)
opened s ss e fits (cs, t, hs, ht, w) =
    let more = flat_map group_steps t.groups in
    let rest = step (store_op t.store) t.coil ∷ rungs_steps t.rungs in
    let closes = step Close 0 ∷ [] in (
      record { groups = record { first = contact s; others = cs } ∷ t.groups; store = t.store; coil = t.coil; rungs = t.rungs },
      (((ltb-true s.coil 193 fits, hs), ht.0), ht.1, ht.2, ht.3),
      cons (step_spelled s Opens e)
          (w ∙ sym (append_assoc (joined_steps cs) closes (more ++ rest)) ∙ sym (append_assoc (joined_steps cs ++ closes) more rest)),
    )

closed : (s : Step) (ss : List Step) → role_of s.op ≡ Closes → s.coil ≡ 0 → Left Groups ss → Left Group (s ∷ ss)
closed s ss e zero (t, ht, w) = ([], t, tt, ht, cons (step_spelled s Closes e ∙ ap (step Close) zero) w)

stored : (s : Step) (ss : List Step) → role_of s.op ≡ Stores → (leb 32 s.coil && ltb s.coil 193) ≡ true → Left First ss → Left Groups (s ∷ ss)
stored s ss e fits (rs, hs, w) = (
  record { groups = []; store = store_of s.op; coil = s.coil; rungs = rs },
  (let in_range = stores_fit s.coil fits in (tt, in_range.0, in_range.1, hs)),
  cons (step_spelled s Stores e) w,
)

-- after a row may come what comes after a group
no_more_joined : (ss : List Step) → Left Groups ss → Left Series ss
no_more_joined ss (t, ht, w) = ([], t, tt, ht, w)

-- one position is another
moved : (p q : Position) (ss : List Step) → Some p ≡ Some q → Left q ss → Left p ss
moved p q ss e h = let same : q ≡ p = cc in subst (λ (v : Position). Left v ss) same h

left_more : (p : Position) (r : Role) (s : Step) (ss : List Step) → role_of s.op ≡ r → coil_fits r s.coil ≡ true
    → (q : Position) → position_after p r ≡ Some q → Left q ss → Left p (s ∷ ss)
left_more First Loads s ss e fits q a h = loaded s ss e fits (moved Series q ss a h)
left_more First Joins s ss e fits q a h = cc
left_more First Opens s ss e fits q a h = cc
left_more First Closes s ss e fits q a h = cc
left_more First Stores s ss e fits q a h = cc
left_more Series Loads s ss e fits q a h = cc
left_more Series Joins s ss e fits q a h = joined tail_steps s ss e fits (moved Series q ss a h)
left_more Series Opens s ss e fits q a h = no_more_joined (s ∷ ss) (opened s ss e fits (moved Group q ss a h))
left_more Series Closes s ss e fits q a h = cc
left_more Series Stores s ss e fits q a h = no_more_joined (s ∷ ss) (stored s ss e fits (moved First q ss a h))
left_more Group Loads s ss e fits q a h = cc
left_more Group Joins s ss e fits q a h = joined (λ t. step Close 0 ∷ tail_steps t) s ss e fits (moved Group q ss a h)
left_more Group Opens s ss e fits q a h = cc
left_more Group Closes s ss e fits q a h = closed s ss e (eqb-true s.coil 0 fits) (moved Groups q ss a h)
left_more Group Stores s ss e fits q a h = cc
left_more Groups Loads s ss e fits q a h = cc
left_more Groups Joins s ss e fits q a h = cc
left_more Groups Opens s ss e fits q a h = opened s ss e fits (moved Group q ss a h)
left_more Groups Closes s ss e fits q a h = cc
left_more Groups Stores s ss e fits q a h = stored s ss e fits (moved First q ss a h)

-- where the steps end, the rung has ended
left_none : (p : Position) → Some p ≡ Some First → Left p []
left_none p e = moved p First [] e ([], tt, refl)

parsed : (ss : List Step) (p : Position) → reach p ss ≡ Some First → Left p ss
parsed [] p e = left_none p e
parsed (s ∷ ss) p e =
    option_and_then_some (λ q. reach q ss) (next p s) First e (λ q at on.
    let stood = chosen (coil_fits (role_of s.op) s.coil) (position_after p (role_of s.op)) q at in
    left_more p (role_of s.op) s ss refl stood.0 q stood.1 (parsed ss q on))

pub reached_whole : (ss : List Step) → reach First ss ≡ Some First → Whole ss
reached_whole ss e = parsed ss First e
