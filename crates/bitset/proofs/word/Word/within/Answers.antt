use Rattle.std.proofs.Common.{refl}
use Rattle.bitset.specs.Sets.{within}
use Rattle.bitset.proofs.word.Word.within.Goals as goal

pub returns : goal.returns
unfolding within
returns g c = rw (c.wide.ensures, c.wide-part.ensures) refl
