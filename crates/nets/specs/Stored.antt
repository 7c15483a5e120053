-- The net that the code's structs stand for, and what the calls that fill it do to it.
use Rattle.std.specs.Prelude.{ℕ, Bool, cond, ◌&&◌, map, length, replicate, bit_or, nat_lt, slice_set}
use Rattle.bitset.specs.Room.{word_of, with_member}
use Rattle.nets.specs.declared.arc_kind.ArcKind.{ArcKind}
use Rattle.nets.specs.declared.arc_kind.ArcKind.TheVariants.{Consumes, Produces, Tests, Inhibits}
use Rattle.nets.specs.declared.counts.Counts.{Counts}
use Rattle.nets.specs.declared.net.Net.{Net as StoredNet}
use Rattle.nets.specs.declared.term.Term.{Term}
use Rattle.nets.specs.declared.transition.Transition.{Transition as StoredTransition}
use Rattle.nets.specs.FixedVecs.{listed, pushed}
use Rattle.nets.specs.Nets.{Net, Transition, unconnected, at}

-- the transition that is held
abbrev pub transition_of : StoredTransition → Transition
transition_of t =
    record {
      consumes = word_of t.consumes;
      produces = word_of t.produces;
      tests = word_of t.tests;
      inhibits = word_of t.inhibits;
      terms = listed t.terms;
    }

-- the net that is held
abbrev pub net_of : StoredNet → Net
net_of n =
    record {
      places = length (listed n.raises);
      lines = n.lines;
      outputs = n.outputs;
      start = word_of n.start;
      raises = listed n.raises;
      transitions = map transition_of (listed n.transitions);
    }

-- a net of these counts with no start place, output raised, arc or term
abbrev pub blank_net : Counts → Net
blank_net c =
    record {
      places = c.places;
      lines = c.lines;
      outputs = c.outputs;
      start = 0;
      raises = replicate c.places 0;
      transitions = replicate c.transitions unconnected;
    }

-- the transition with an arc of this kind to place p
abbrev pub with_arc : Transition → ArcKind → ℕ → Transition
with_arc t Consumes p = record { consumes = with_member t.consumes p; produces = t.produces; tests = t.tests; inhibits = t.inhibits; terms = t.terms }
with_arc t Produces p = record { consumes = t.consumes; produces = with_member t.produces p; tests = t.tests; inhibits = t.inhibits; terms = t.terms }
with_arc t Tests p = record { consumes = t.consumes; produces = t.produces; tests = with_member t.tests p; inhibits = t.inhibits; terms = t.terms }
with_arc t Inhibits p = record { consumes = t.consumes; produces = t.produces; tests = t.tests; inhibits = with_member t.inhibits p; terms = t.terms }

-- the places to which an arc joins the transition
abbrev pub joined_places : Transition → ℕ
joined_places t = bit_or (bit_or t.consumes t.produces) (bit_or t.tests t.inhibits)

-- the transition with one term more in its condition
abbrev pub given_term : Transition → Term → Transition
given_term t x = record { consumes = t.consumes; produces = t.produces; tests = t.tests; inhibits = t.inhibits; terms = pushed 4 t.terms x }

-- the net with transition t put in
abbrev pub with_transition : Net → ℕ → Transition → Net
with_transition n t x =
    record {
      places = n.places;
      lines = n.lines;
      outputs = n.outputs;
      start = n.start;
      raises = n.raises;
      transitions = slice_set n.transitions t x;
    }

-- the net with an arc between transition t and place p, where it has both
abbrev pub net_with_arc : Net → ℕ → ArcKind → ℕ → Net
net_with_arc n t kind p =
    cond (nat_lt t (length n.transitions) && nat_lt p n.places) (with_transition n t (with_arc (at n t) kind p)) n

-- the net with one term more in the condition of transition t, where it has that
abbrev pub net_with_term : Net → ℕ → Term → Net
net_with_term n t x = cond (nat_lt t (length n.transitions)) (with_transition n t (given_term (at n t) x)) n

-- the net in which place p raises this word, and is a start place if it starts marked
abbrev pub with_raise : Net → ℕ → Bool → ℕ → Net
with_raise n p starts word =
    record {
      places = n.places;
      lines = n.lines;
      outputs = n.outputs;
      start = cond starts (with_member n.start p) n.start;
      raises = slice_set n.raises p word;
      transitions = n.transitions;
    }

-- the same, where the net has the place
abbrev pub with_place_record : Net → ℕ → Bool → ℕ → Net
with_place_record n p starts word = cond (nat_lt p n.places) (with_raise n p starts word) n
