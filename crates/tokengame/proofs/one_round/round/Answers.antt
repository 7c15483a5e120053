use Rattle.std.proofs.Common.{◌≡◌, ℕ, length, sym, ap, ◌∙◌, subst, ap₂}
use Rattle.bitset.specs.Room.{word_of}
use Rattle.nets.specs.Rounds.{taken, fire_all, report, ends, Round}
use Rattle.nets.specs.Stored.{net_of}
use Rattle.tokengame.proofs.Rounds.{rounds_keep_their_laws, rounds_keep_weights, lines_ignored}
use Rattle.tokengame.proofs.Told.{laws_tell_the_round}
use Rattle.tokengame.proofs.one_round.round.Goals as goal

pub returns : goal.returns
returns c =
    let n = net_of c.args.net.now in
    let m = word_of c.args.marking in
    let w = c.args.lines in
    let told : word_of c.taken-report.result ≡ report n m w =
    c.taken-report.ensures ∙ ap (λ (b : ℕ). taken n b w (length n.transitions)) c.begins-marking.ensures in
    let ended : word_of c.fire_all-marking.result ≡ ends n m w = c.fire_all-marking.ensures ∙ ap₂ (fire_all n) told c.begins-marking.ensures in
    record {
      report = told;
      end = ended;
      law = subst (λ r. Round n w m r (word_of c.fire_all-marking.result)) (sym told) (subst (Round n w m (report n m w)) (sym ended) (rounds_keep_their_laws n m w));
      told = laws_tell_the_round;
      weights = rounds_keep_weights;
      ignored = lines_ignored n m w;
    }
