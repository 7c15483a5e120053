use Rattle.std.proofs.Common.{◌≡◌, sym, ap, ◌∙◌, subst}
use Rattle.bitset.specs.Lists.{first_of}
use Rattle.nets.specs.Clashes.{first_clash}
use Rattle.nets.specs.WellFormed.{WellFormed}
use Rattle.std.specs.Result.{result_err}
use Rattle.netfile.specs.Strictness.{clash_broken, broken_under, ClashOrNone}
use Rattle.netfile.proofs.Strict.{only_clash, same_net}
use Rattle.netfile.proofs.Whole.{accepted_from}
use Rattle.netfile.proofs.checking.check.Goals as goal

pub returns-in-Strict : goal.returns-in-Strict
returns-in-Strict c =
    let file = c.args.file.now in
    let kept = c.in_ok-net.ensures in
    let o = c.without_clash.result in
    let first : result_err o ≡ first_of (broken_under c.args.strictness file) =
    c.without_clash.ensures.refused
    ∙ ap (λ n. first_of (clash_broken (first_clash n))) kept.granted
    ∙ sym (ap first_of (ap (λ s. broken_under s file) c.in-Strict.is ∙ only_clash file kept.accepted)) in
    let same = same_net file c.in_ok-net.net o kept.granted kept.said kept.lawful c.without_clash.ensures.granted in
    record {
      refused = first;
      accepted = accepted_from o (broken_under c.args.strictness file) first;
      granted = same.0;
      said = same.1;
      lawful = same.2;
      strict = λ e f. (
        subst WellFormed kept.granted kept.lawful,
        subst (λ n. ClashOrNone n (result_err o)) kept.granted c.without_clash.ensures.law,
      );
    }
