use Rattle.std.proofs.Common.{◌≡◌, get_or}
use Rattle.bitset.specs.Room.{word_of}
use Rattle.nets.specs.Rounds.{union}
use Rattle.nets.specs.Stored.{net_of}
use Rattle.tokengame.proofs.raised_outputs.outputs.Given as goal

abbrev pub invariant-loop-place : goal.invariant-loop-place
invariant-loop-place l = l.raised ≡ union (λ p. get_or (net_of l.net).raises p 0) (word_of l.marking) l.place
