use Rattle.std.proofs.Common.{ap, ◌∙◌}
use Rattle.nets.proofs.Filling.{term_put}
use Rattle.nets.specs.Stored.{given_term}
use Rattle.nets.proofs.net.Net.add_term.Goals as goal

pub returns-in-Some : goal.returns-in-Some
returns-in-Some c =
    let held = c.in-Some.ensures in
    term_put c.args.self.now c.args.transition c.with_term-given.result _ c.set.ensures c.args.term held.0
    (c.with_term-given.ensures ∙ ap (λ t. given_term t c.args.term) held.1)
