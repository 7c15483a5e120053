use Rattle.std.proofs.Common.{not, sym, ap, ◌∙◌, arith}
use Rattle.std.proofs.lemmas.Bool.{eq-eqb, ne_eqb}
use Rattle.bitset.specs.Room.{lowest_in}
use Rattle.bitset.proofs.Sets.{first_none, first_member, trailing_least, trailing_below}
use Rattle.bitset.proofs.set.Set.lowest.Goals as goal

pub returns-then-self-eq0 : goal.returns-then-self-eq0
unfolding lowest_in
returns-then-self-eq0 g c =
    let e = c.if-self-eq0.true in
    record { lowest = sym (ap lowest_in e ∙ first_none 64); found = sym (ap not (eq-eqb c.args.self.word 0 e)) }

pub returns : goal.returns
unfolding lowest_in
returns g c =
    let w = c.args.self.word in
    let some = c.if-self-eq0.false in
    let least = trailing_least 64 w in
    let low = trailing_below 64 w (omega arith) some in
    record {
      lowest = sym (first_member w _ 64 low (least.1 low) least.0);
      found = sym (ap not (ne_eqb w 0 some));
    }
