-- Whole rungs are walked along to the end.
use Rattle.std.proofs.Common.{rules, ◌≡◌, ℕ, ◌<◌, ◌≤◌, Bool, true, false, cond, ◌&&◌, ltb, leb, List, [], ◌∷◌, ◌++◌, Some, refl, ap, ◌∙◌, arith}
use Rattle.std.proofs.lemmas.List.{append_assoc}
use Rattle.std.proofs.lemmas.Bool.{lt-ltb}
use Rattle.std.proofs.lemmas.Bool.Decides.{nat_tests}
use Rattle.std.specs.List.{flat_map, AllByRecursion}
use Rattle.ladders.specs.declared.grammar.Position.{Position}
use Rattle.ladders.specs.declared.grammar.Position.TheVariants.{First, Series, Group, Groups}
use Rattle.ladders.specs.declared.step.Op.{Op}
use Rattle.ladders.specs.declared.step.Op.TheVariants.{Ld, Ldn, And, Andn, Or, Orn, Close}
use Rattle.ladders.specs.declared.step.Role.{Role}
use Rattle.ladders.specs.declared.step.Role.TheVariants.{Loads, Joins, Opens, Stores}
use Rattle.ladders.specs.declared.step.Step.{Step}
use Rattle.ladders.specs.Grammar.{position_after}
use Rattle.ladders.specs.Ladders.{Whole}
use Rattle.ladders.specs.Rungs.{Contact, Row, Store, Rung, contact_step, joined_steps, group_steps, store_op, rung_steps, rungs_steps, ContactExists, RowExists, RungExists}
use Rattle.ladders.specs.Steps.{role_of, step}
use Rattle.ladders.proofs.Walks.{reach, on_past}

role_either : (b : Bool) (plain inverse : Op) (r : Role) → role_of plain ≡ r → role_of inverse ≡ r → role_of (cond b inverse plain) ≡ r
role_either true plain inverse r e d = d
role_either false plain inverse r e d = e

role_store : (s : Store) → role_of (store_op s) ≡ Stores
role_store s = search rules

may_store : (n : ℕ) → 32 ≤ n → n < 193 → (leb 32 n && ltb n 193) ≡ true
may_store n l h = grind (arith, nat_tests)

reach_joined : (p : Position) → position_after p Joins ≡ Some p → (cs : List Contact) → AllByRecursion ContactExists cs → (rest : List Step)
    → reach p (joined_steps cs ++ rest) ≡ reach p rest
reach_joined p stays [] h rest = refl
reach_joined p stays (c ∷ cs) h rest =
    on_past p p (contact_step And Andn c) Joins (joined_steps cs ++ rest) (role_either c.inverted And Andn Joins refl refl) (lt-ltb c.coil 193 h.0) stays
    ∙ reach_joined p stays cs h.1 rest

reach_group : (p : Position) → position_after p Opens ≡ Some Group → (g : Row) → RowExists g → (rest : List Step)
    → reach p (group_steps g ++ rest) ≡ reach Groups rest
reach_group p opens g h rest =
    on_past p Group (contact_step Or Orn g.first) Opens ((joined_steps g.others ++ (step Close 0 ∷ [])) ++ rest)
    (role_either g.first.inverted Or Orn Opens refl refl) (lt-ltb g.first.coil 193 h.0) opens
    ∙ ap (reach Group) (append_assoc (joined_steps g.others) (step Close 0 ∷ []) rest)
    ∙ reach_joined Group refl g.others h.1 (step Close 0 ∷ rest)

reach_groups : (p : Position) → position_after p Opens ≡ Some Group → position_after p Stores ≡ Some First
    → (gs : List Row) → AllByRecursion RowExists gs → (s : Store) (n : ℕ) → 32 ≤ n → n < 193 → (rest : List Step)
    → reach p (flat_map group_steps gs ++ (step (store_op s) n ∷ rest)) ≡ reach First rest
reach_groups p opens stores [] h s n low high rest = on_past p First (step (store_op s) n) Stores rest (role_store s) (may_store n low high) stores
reach_groups p opens stores (g ∷ gs) h s n low high rest =
    ap (reach p) (append_assoc (group_steps g) (flat_map group_steps gs) (step (store_op s) n ∷ rest))
    ∙ reach_group p opens g h.0 (flat_map group_steps gs ++ (step (store_op s) n ∷ rest))
    ∙ reach_groups Groups refl refl gs h.1 s n low high rest

reach_rung : (r : Rung) → RungExists r → (rest : List Step) → reach First (rung_steps r ++ rest) ≡ reach First rest
reach_rung r h rest =
    let stores = step (store_op r.store) r.coil ∷ [] in
    let others = joined_steps r.row.others in
    let more = flat_map group_steps r.groups in
    on_past First Series (contact_step Ld Ldn r.row.first) Loads ((others ++ (more ++ stores)) ++ rest)
    (role_either r.row.first.inverted Ld Ldn Loads refl refl) (lt-ltb r.row.first.coil 193 h.0.0) refl
    ∙ ap (reach Series) (append_assoc others (more ++ stores) rest)
    ∙ reach_joined Series refl r.row.others h.0.1 ((more ++ stores) ++ rest)
    ∙ ap (reach Series) (append_assoc more stores rest)
    ∙ reach_groups Series refl refl r.groups h.1 r.store r.coil h.2 h.3 rest

reach_rungs : (rs : List Rung) → AllByRecursion RungExists rs → reach First (rungs_steps rs) ≡ Some First
reach_rungs [] h = refl
reach_rungs (r ∷ rs) h = reach_rung r h.0 (rungs_steps rs) ∙ reach_rungs rs h.1

pub whole_reaches : (ss : List Step) → Whole ss → reach First ss ≡ Some First
whole_reaches ss w = rw w.2 (reach_rungs w.0 w.1)
