use Rattle.std.proofs.Common.{◌≡◌}
use Rattle.bitset.specs.Room.{word_of}
use Rattle.nets.specs.Rounds.{taken}
use Rattle.nets.specs.Stored.{net_of}
use Rattle.tokengame.proofs.moment.Moment.taken.Given as goal

abbrev pub invariant-loop-number : goal.invariant-loop-number
invariant-loop-number l = word_of l.taken ≡ taken (net_of l.net) (word_of l.self.marking) l.self.lines l.number
