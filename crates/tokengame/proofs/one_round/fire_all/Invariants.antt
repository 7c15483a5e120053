use Rattle.std.proofs.Common.{◌≡◌}
use Rattle.bitset.specs.Room.{word_of}
use Rattle.nets.specs.Rounds.{consumed, produced}
use Rattle.nets.specs.Stored.{net_of}
use Rattle.tokengame.proofs.one_round.fire_all.Given as goal

abbrev pub invariant-loop-number : goal.invariant-loop-number
invariant-loop-number l =
    (word_of l.consumed ≡ consumed (net_of l.net) (word_of l.fired) l.number)
    × (word_of l.produced ≡ produced (net_of l.net) (word_of l.fired) l.number)
