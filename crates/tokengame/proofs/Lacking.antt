-- A transition that the net lacks: it conflicts with none, and it cannot fire.
use Rattle.std.proofs.Common.{◌≡◌, ℕ, ◌≤◌, false, length, sym, refl, ◌∙◌, subst, true≢false}
use Rattle.std.proofs.lemmas.List.{get_or_past}
use Rattle.std.proofs.lemmas.Bool.{and_right}
use Rattle.bitset.proofs.Sets.{has_none}
use Rattle.nets.specs.Nets.{Net, unconnected, at, Transition}
use Rattle.nets.specs.Firing.{enabled, can_fire, conflict}
use Rattle.tokengame.proofs.Firings.{conflict_from, conflict_comm}

module _ (n : Net) (t : ℕ) (past : length n.transitions ≤ t) where
  pub lacking_fires : (m w : ℕ) → can_fire m w (at n t) ≡ false
  lacking_fires m w =
      subst (λ x. can_fire m w x ≡ false) (sym (get_or_past n.transitions t unconnected past)) (and_right (enabled m unconnected) false refl)

  pub lacking_conflicts : (u : Transition) → conflict (at n t) u ≡ false
  lacking_conflicts u = subst (λ x. conflict x u ≡ false) (sym (get_or_past n.transitions t unconnected past)) (conflict_from unconnected u record {
    consumes_consumes = λ p h. absurd (true≢false (sym h ∙ has_none p));
    produces_produces = λ p h. absurd (true≢false (sym h ∙ has_none p));
    consumes_tests = λ p h. absurd (true≢false (sym h ∙ has_none p));
    tests_consumes = λ p h. absurd (true≢false (sym h ∙ has_none p));
    produces_inhibits = λ p h. absurd (true≢false (sym h ∙ has_none p));
    inhibits_produces = λ p h. absurd (true≢false (sym h ∙ has_none p));
  })

  pub conflicts_lacking : (u : Transition) → conflict u (at n t) ≡ false
  conflicts_lacking u = conflict_comm u (at n t) ∙ lacking_conflicts u
