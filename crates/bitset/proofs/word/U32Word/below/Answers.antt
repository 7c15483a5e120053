use Rattle.std.proofs.Common.{min, arith}
use Rattle.bitset.proofs.Codes.{below_fits}
use Rattle.bitset.proofs.word.U32Word.below.Goals as goal

pub overflow_cast-result : goal.overflow_cast-result
overflow_cast-result c =
    let few = below_fits 32 (min c.min.result 64) (omega (arith, c.min.ensures)) in omega (arith, few, c.below.ensures)
