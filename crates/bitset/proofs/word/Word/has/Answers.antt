use Rattle.std.proofs.Common.{sym, ap, ◌∙◌, arith}
use Rattle.std.proofs.lemmas.Bool.{le-ltb}
use Rattle.bitset.specs.Sets.{has}
use Rattle.bitset.proofs.Codes.{bit_is}
use Rattle.bitset.proofs.Sets.{has_past}
use Rattle.bitset.proofs.word.Word.has.Goals as goal

pub returns-then-n-lt64 : goal.returns-then-n-lt64
returns-then-n-lt64 g c = bit_is c.wide-word.result c.args.n ∙ ap (λ w. has w c.args.n) c.wide-word.ensures

pub returns-else-n-lt64 : goal.returns-else-n-lt64
returns-else-n-lt64 g c =
    le-ltb c.args.n 64 (omega arith)
    ∙ sym (has_past c.wide-word.result 64 c.args.n (omega arith) (omega arith))
    ∙ ap (λ w. has w c.args.n) c.wide-word.ensures
