use Rattle.std.proofs.Common.{arith}
use Rattle.bitset.proofs.Codes.{below_shl, below_all}
use Rattle.bitset.proofs.word.U64Word.below.Goals as goal

pub returns-then-count-lt64 : goal.returns-then-count-lt64
returns-then-count-lt64 c = below_shl 64 c.args.count c.if-count-lt64.true

pub returns-else-count-lt64 : goal.returns-else-count-lt64
returns-else-count-lt64 c = below_all 64 c.args.count (omega arith)
