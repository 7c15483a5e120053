use Rattle.std.proofs.Common.{◌≡◌, get_or, ap, ◌∙◌, arith}
use Rattle.bitset.specs.Room.{word_of}
use Rattle.nets.specs.Rounds.{union}
use Rattle.nets.specs.Stored.{net_of}
use Rattle.tokengame.proofs.Unions.{raised}
use Rattle.tokengame.proofs.raised_outputs.outputs.Goals as goal

pub returns : goal.returns
returns c =
    let n = net_of c.args.net.now in
    let long = c.raises-word-items.ensures.one_each in
    let all : c.loop-place.place ≡ n.places = omega (arith, c.loop-place-test.false, c.loop-place.auto.place-end) in
    record {
      answer = c.loop-place.invariant ∙ ap (union (λ p. get_or n.raises p 0) (word_of c.args.marking)) all;
      law = raised n (word_of c.args.marking);
    }
