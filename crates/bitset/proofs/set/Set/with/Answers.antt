use Rattle.std.proofs.Common.{arith}
use Rattle.std.proofs.lemmas.Bool.Decides.{nat_tests}
use Rattle.bitset.proofs.Codes.{only_shl}
use Rattle.bitset.proofs.set.Set.with.Goals as goal

pub returns-then-number-lt-ROOM : goal.returns-then-number-lt-ROOM
returns-then-number-lt-ROOM g c =
    let o = only_shl 64 c.args.number c.if-number-lt-ROOM.true in grind (arith, nat_tests)
