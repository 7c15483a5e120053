-- The transitions of a net, as a slice of the code's transitions has them.
use Rattle.std.proofs.Common.{◌≡◌, ℕ, ◌<◌, List, map, length, get_or, replicate, refl, sym, ap, ◌∙◌, arith}
use lib.ListN.{length-map}
use Rattle.std.proofs.lemmas.List.{get_or-map}
use Rattle.bitset.specs.Room.{set_of}
use Rattle.nets.specs.Nets.{Net, unconnected, at}
use Rattle.nets.specs.WellFormed.{always}
use Rattle.nets.specs.Stored.{transition_of}
use Rattle.nets.specs.declared.transition.Transition.{Transition as StoredTransition}

module _ (n : Net) (xs : List StoredTransition) (same : map transition_of xs ≡ n.transitions) where
  pub item_at : (i : ℕ) (x : StoredTransition) → i < length xs → x ≡ get_or xs i x → transition_of x ≡ at n i
  item_at i x h e =
      ap transition_of e ∙ sym (get_or-map transition_of xs i x unconnected h) ∙ ap (λ l. get_or l i unconnected) same

  pub as_long : length xs ≡ length n.transitions
  as_long = sym (length-map xs transition_of) ∙ ap length same

  pub at_item : (i : ℕ) (d : StoredTransition) → i < length xs → transition_of (get_or xs i d) ≡ at n i
  at_item i d h = sym (get_or-map transition_of xs i d unconnected h) ∙ ap (λ l. get_or l i unconnected) same

-- some transition, where none is at hand
pub some_transition : StoredTransition
some_transition =
    record { consumes = set_of 0; produces = set_of 0; tests = set_of 0; inhibits = set_of 0; terms = record { items = replicate 4 always; count = 0; few = omega arith; room = refl } }
