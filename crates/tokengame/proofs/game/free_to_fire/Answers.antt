use Rattle.std.proofs.Common.{ℕ, not, eqb, sym, ap, ◌∙◌, true≢false}
use Rattle.bitset.specs.Room.{word_of, lowest_in}
use Rattle.nets.specs.Firing.{condition, hindering}
use Rattle.nets.specs.Stored.{net_of}
use Rattle.tokengame.proofs.Games.{unknown_place, not_enabled, condition_told, game_laws, listed, stopped}
use Rattle.tokengame.proofs.game.free_to_fire.Goals as goal

pub returns-then-not-has_places : goal.returns-then-not-has_places
returns-then-not-has_places c =
    let n = net_of c.args.net.now in
    let e = sym c.if-not-has_places.ensures in
    let first = sym (unknown_place n _ _ _ e) in
    let laws = game_laws n _ _ _ (λ f l. absurd (true≢false (sym f ∙ e))) in
    record { refused = first; accepted = stopped _ _ first ∙ laws.granted; granted = tt; laws = laws }

pub returns-in-Some-lowest : goal.returns-in-Some-lowest
returns-in-Some-lowest c =
    let n = net_of c.args.net.now in
    let e = sym c.if-not-has_places.ensures in
    let t = c.in-Some.ensures in
    let h = c.hindering.ensures ∙ ap (hindering (word_of c.args.now.marking)) t.1 in
    let o = c.lowest.ensures.lowest ∙ ap lowest_in h in
    let first = sym (not_enabled n _ _ _ e t.0 _ (sym o ∙ c.in-Some-lowest.is)) in
    let laws = game_laws n _ _ _ (λ f l. listed _ _ o (c.lowest.ensures.found ∙ ap (λ (x : ℕ). not (eqb x 0)) h)) in
    record { refused = first; accepted = stopped _ _ first ∙ laws.granted; granted = tt; laws = laws }

pub returns-then-not-condition_holds : goal.returns-then-not-condition_holds
returns-then-not-condition_holds c =
    let n = net_of c.args.net.now in
    let e = sym c.if-not-has_places.ensures in
    let t = c.in-Some.ensures in
    let h = c.hindering.ensures ∙ ap (hindering (word_of c.args.now.marking)) t.1 in
    let o = c.lowest.ensures.lowest ∙ ap lowest_in h in
    let k = c.if-not-condition_holds.ensures ∙ ap (condition c.args.now.lines) c.as_slice.ensures.items ∙ ap (λ x. condition c.args.now.lines x.terms) t.1 in
    let first = sym (condition_told n _ _ _ e t.0 (sym o ∙ c.in_default-lowest.is) _ k) in
    let laws = game_laws n _ _ _ (λ f l. listed _ _ o (c.lowest.ensures.found ∙ ap (λ (x : ℕ). not (eqb x 0)) h)) in
    record { refused = first; accepted = stopped _ _ first ∙ laws.granted; granted = tt; laws = laws }

pub returns : goal.returns
returns c =
    let n = net_of c.args.net.now in
    let e = sym c.if-not-has_places.ensures in
    let t = c.in-Some.ensures in
    let h = c.hindering.ensures ∙ ap (hindering (word_of c.args.now.marking)) t.1 in
    let o = c.lowest.ensures.lowest ∙ ap lowest_in h in
    let k = c.if-not-condition_holds.ensures ∙ ap (condition c.args.now.lines) c.as_slice.ensures.items ∙ ap (λ x. condition c.args.now.lines x.terms) t.1 in
    let first = sym (condition_told n _ _ _ e t.0 (sym o ∙ c.in_default-lowest.is) _ k) in
    let laws = game_laws n _ _ _ (λ f l. listed _ _ o (c.lowest.ensures.found ∙ ap (λ (x : ℕ). not (eqb x 0)) h)) in
    record { refused = first; accepted = stopped _ _ first ∙ laws.granted; granted = t.1; laws = laws }
