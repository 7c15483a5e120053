use Rattle.std.proofs.Common.{refl}
use Rattle.bitset.specs.Sets.{apart}
use Rattle.bitset.proofs.word.Word.apart.Goals as goal

pub returns : goal.returns
unfolding apart
returns g c = rw (c.wide.ensures, c.wide-2.ensures) refl
