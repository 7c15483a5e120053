-- The run of the steps of whole rungs does what the rungs do, one after the other.
use Rattle.std.proofs.Common.{rules, ◌≡◌, ℕ, Bool, true, false, cond, List, [], ◌∷◌, ◌++◌, set, Some, None, refl, ap, ◌∙◌}
use Rattle.std.proofs.lemmas.List.{append_assoc}
use Rattle.std.specs.List.{flat_map}
use Rattle.levels.specs.Levels.{Operations}
use Rattle.ladders.specs.declared.flow.Flow.{Flow}
use Rattle.ladders.specs.declared.step.Op.TheVariants.{Ld, Ldn, And, Andn, Or, Orn, Close}
use Rattle.ladders.specs.declared.step.Step.{Step}
use Rattle.ladders.specs.Flows.{flow, joined_flow, level_at, through, no_flow}
use Rattle.ladders.specs.Rungs.{Contact, Row, Store, Rung, joined_steps, group_steps, store_op, rung_steps, rungs_steps, contact_level, in_series, row_level, beside, rung_result, kept_by, after_rung, after_rungs, RungsInTurn}
use Rattle.ladders.specs.Steps.{step}

module _ {L : Type 0} (o : Operations L) where
  -- a contact that is loaded, or opens a group
  load : (xs : List L) (f : Flow L) (b : Bool) (n : ℕ) (rest : List Step)
      → through o xs f (step (cond b Ldn Ld) n ∷ rest) ≡ through o xs (flow (contact_level o xs (record { inverted = b; coil = n })) None) rest
  load xs f b n rest = search rules

  open_group : (xs : List L) (x : L) (b : Bool) (n : ℕ) (rest : List Step)
      → through o xs (flow x None) (step (cond b Orn Or) n ∷ rest) ≡ through o xs (flow x (Some (contact_level o xs (record { inverted = b; coil = n })))) rest
  open_group xs x b n rest = search rules

  -- a contact that is joined to a flow k y, which what is joined to it leaves a k
  join : (k : L → Flow L) → ((y z : L) → joined_flow o z (k y) ≡ k (o.both y z)) → (xs : List L) (y : L) (b : Bool) (n : ℕ) (rest : List Step)
      → through o xs (k y) (step (cond b Andn And) n ∷ rest) ≡ through o xs (k (o.both y (contact_level o xs (record { inverted = b; coil = n })))) rest
  join k stays xs y true n rest = ap (λ (f : Flow L). through o xs f rest) (stays y (o.inverse (level_at o xs n)))
  join k stays xs y false n rest = ap (λ (f : Flow L). through o xs f rest) (stays y (level_at o xs n))

  -- and any number of them
  series : (k : L → Flow L) → ((y z : L) → joined_flow o z (k y) ≡ k (o.both y z)) → (cs : List Contact) (xs : List L) (y : L) (rest : List Step)
      → through o xs (k y) (joined_steps cs ++ rest) ≡ through o xs (k (in_series o xs y cs)) rest
  series k stays [] xs y rest = refl
  series k stays (c ∷ cs) xs y rest =
      join k stays xs y c.inverted c.coil (joined_steps cs ++ rest) ∙ series k stays cs xs (o.both y (contact_level o xs c)) rest

  group : (g : Row) (xs : List L) (x : L) (rest : List Step)
      → through o xs (flow x None) (group_steps g ++ rest) ≡ through o xs (flow (o.either x (row_level o xs g)) None) rest
  group g xs x rest =
      open_group xs x g.first.inverted g.first.coil ((joined_steps g.others ++ (step Close 0 ∷ [])) ++ rest)
      ∙ ap (through o xs (flow x (Some (contact_level o xs g.first)))) (append_assoc (joined_steps g.others) (step Close 0 ∷ []) rest)
      ∙ series (λ (y : L). flow x (Some y)) (λ y z. refl) g.others xs (contact_level o xs g.first) (step Close 0 ∷ rest)

  groups : (gs : List Row) (xs : List L) (x : L) (rest : List Step)
      → through o xs (flow x None) (flat_map group_steps gs ++ rest) ≡ through o xs (flow (beside o xs x gs) None) rest
  groups [] xs x rest = refl
  groups (g ∷ gs) xs x rest =
      ap (through o xs (flow x None)) (append_assoc (group_steps g) (flat_map group_steps gs) rest)
      ∙ group g xs x (flat_map group_steps gs ++ rest)
      ∙ groups gs xs (o.either x (row_level o xs g)) rest

  store : (s : Store) (n : ℕ) (xs : List L) (x : L) (rest : List Step)
      → through o xs (flow x None) (step (store_op s) n ∷ rest) ≡ through o (set xs n (kept_by o s x (level_at o xs n))) (flow x None) rest
  store s n xs x rest = search rules

  rung : (r : Rung) (xs : List L) (f : Flow L) (rest : List Step)
      → through o xs f (rung_steps r ++ rest) ≡ through o (after_rung o r xs) (flow (rung_result o xs r) None) rest
  rung r xs f rest =
      let stores = step (store_op r.store) r.coil ∷ [] in
      let others = joined_steps r.row.others in
      let more = flat_map group_steps r.groups in
      load xs f r.row.first.inverted r.row.first.coil ((others ++ (more ++ stores)) ++ rest)
      ∙ ap (through o xs (flow (contact_level o xs r.row.first) None)) (append_assoc others (more ++ stores) rest)
      ∙ series (λ (y : L). flow y None) (λ y z. refl) r.row.others xs (contact_level o xs r.row.first) ((more ++ stores) ++ rest)
      ∙ ap (through o xs (flow (row_level o xs r.row) None)) (append_assoc more stores rest)
      ∙ groups r.groups xs (row_level o xs r.row) (stores ++ rest)
      ∙ store r.store r.coil xs (rung_result o xs r) rest

  in_turn : (rs : List Rung) (xs : List L) (f : Flow L) → through o xs f (rungs_steps rs) ≡ after_rungs o rs xs
  in_turn [] xs f = refl
  in_turn (r ∷ rs) xs f = rung r xs f (rungs_steps rs) ∙ in_turn rs (after_rung o r xs) (flow (rung_result o xs r) None)

  pub rungs_in_turn : RungsInTurn o
  rungs_in_turn rs xs = in_turn rs xs (no_flow o)
