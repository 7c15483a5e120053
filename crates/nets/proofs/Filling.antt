-- What the structs that hold a net hold after one of them is filled a little more.
use Rattle.std.proofs.Common.{◌≡◌, ℕ, zero, suc, ◌<◌, List, [], ◌∷◌, map, length, get_or, take, set, replicate, refl, ap, ◌∙◌}
use lib.ListN.{length-map}
use Rattle.std.proofs.lemmas.Bool.{lt-ltb}
use Rattle.std.proofs.lemmas.List.{map-set, get_or-map, length-replicate}
use Rattle.nets.specs.declared.arc_kind.ArcKind.{ArcKind}
use Rattle.nets.specs.declared.counts.Counts.{Counts}
use Rattle.nets.specs.declared.net.Net.{Net as StoredNet}
use Rattle.nets.specs.declared.term.Term.{Term}
use Rattle.nets.specs.declared.transition.Transition.{Transition as StoredTransition}
use Rattle.nets.specs.FixedVecs.{listed}
use Rattle.nets.specs.Nets.{Net, Transition, unconnected, at}
use Rattle.nets.specs.Stored.{transition_of, net_of, blank_net, with_arc, given_term, with_transition, net_with_arc, net_with_term}

-- LISTS

pub take-set : {X : Type 0} (n : ℕ) (xs : List X) (i : ℕ) (x : X) → take n (set xs i x) ≡ set (take n xs) i x
take-set zero xs i x = refl
take-set (suc n) [] i x = refl
take-set (suc n) (y ∷ ys) zero x = refl
take-set (suc n) (y ∷ ys) (suc i) x = ap (λ l. y ∷ l) (take-set n ys i x)

pub map-replicate : {X Y : Type 0} (f : X → Y) (n : ℕ) (x : X) → map f (replicate n x) ≡ replicate n (f x)
map-replicate f zero x = refl
map-replicate f (suc n) x = ap (λ l. f x ∷ l) (map-replicate f n x)

-- NETS

pub length_transitions : (n : StoredNet) → length (net_of n).transitions ≡ length (listed n.transitions)
length_transitions n = length-map (listed n.transitions) transition_of

-- transition t of the net that is held
pub at_held : (n : StoredNet) (t : ℕ) (d : StoredTransition) → t < length (listed n.transitions) → at (net_of n) t ≡ transition_of (get_or (listed n.transitions) t d)
at_held n t d h = get_or-map transition_of (listed n.transitions) t d unconnected h

pub put_held : (n : StoredNet) (t : ℕ) (x : StoredTransition)
    → map transition_of (set (listed n.transitions) t x) ≡ set (net_of n).transitions t (transition_of x)
put_held n t x = map-set transition_of (listed n.transitions) t x

-- a net of which nothing is filled
pub nothing_filled : (c : Counts) (start : ℕ) (raises : List ℕ) (transitions : List StoredTransition) (u : StoredTransition)
    → start ≡ 0 → raises ≡ replicate c.places 0 → transitions ≡ replicate c.transitions u → transition_of u ≡ unconnected
    → ◌≡◌ {A = Net} (record {
      places = length raises;
      lines = c.lines;
      outputs = c.outputs;
      start = start;
      raises = raises;
      transitions = map transition_of transitions;
    }) (blank_net c)
nothing_filled c start raises transitions u e f g h =
    rw (e, f, g, length-replicate {A = ℕ} c.places 0, map-replicate transition_of c.transitions u, h) refl

module _ (n : StoredNet) (t : ℕ) (x : StoredTransition) (transitions : List StoredTransition) (same : transitions ≡ set (listed n.transitions) t x) where
  -- the net that is held, with other transitions
  abbrev refilled : List Transition → Net
  refilled ts =
      record {
        places = length (listed n.raises);
        lines = n.lines;
        outputs = n.outputs;
        start = (net_of n).start;
        raises = listed n.raises;
        transitions = ts;
      }

  transition_put : refilled (map transition_of transitions) ≡ with_transition (net_of n) t (transition_of x)
  transition_put = ap (λ ts. refilled (map transition_of ts)) same ∙ ap refilled (put_held n t x)

  pub arc_put : (kind : ArcKind) (p : ℕ) → t < length (net_of n).transitions → p < (net_of n).places → transition_of x ≡ with_arc (at (net_of n) t) kind p
      → refilled (map transition_of transitions) ≡ net_with_arc (net_of n) t kind p
  arc_put kind p h k e =
      transition_put ∙ ap (with_transition (net_of n) t) e ∙ rw (lt-ltb t (length (net_of n).transitions) h, lt-ltb p (net_of n).places k) refl

  pub term_put : (c : Term) → t < length (net_of n).transitions → transition_of x ≡ given_term (at (net_of n) t) c
      → refilled (map transition_of transitions) ≡ net_with_term (net_of n) t c
  term_put c h e = transition_put ∙ ap (with_transition (net_of n) t) e ∙ rw (lt-ltb t (length (net_of n).transitions) h) refl
