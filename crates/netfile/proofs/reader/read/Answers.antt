use Rattle.std.proofs.Common.{is_err, Some, sym, ap, ◌∙◌}
use Rattle.std.specs.Result.{result_err}
use Rattle.std.proofs.lemmas.Result.{err_from_is_err_and, IfOk-from_err}
use Rattle.netfile.proofs.Whole.{Tells, layout_first, counts_first, promised, finished}
use Rattle.netfile.proofs.reader.read.Goals as goal

pub returns-in_err-tables : goal.returns-in_err-tables
returns-in_err-tables c =
    let p = err_from_is_err_and c.from_residual.result c.from_residual.ensures.1 in
    let file = c.args.file.now in
    let all = promised file c.from_residual.result
    (ap result_err p.1
    ∙ sym (layout_first file p.0
    (sym c.in_err-tables.ensures.refused ∙ ap Some (sym p.2))))
    (IfOk-from_err c.from_residual.result _ (ap is_err p.1)) in
    record { refused = all.refused; accepted = all.accepted; granted = all.granted; said = all.said; lawful = all.lawful }

pub returns-in_err-counts : goal.returns-in_err-counts
returns-in_err-counts c =
    let p = err_from_is_err_and c.from_residual-in_err-counts.result c.from_residual-in_err-counts.ensures.1 in
    let all = promised c.args.file.now c.from_residual-in_err-counts.result
    (ap result_err p.1
    ∙ sym (counts_first c.args.file.now p.0 (sym c.in_ok-tables.ensures.refused)
    (sym c.in_err-counts.ensures.refused ∙ ap Some (sym p.2))))
    (IfOk-from_err c.from_residual-in_err-counts.result _ (ap is_err p.1)) in
    record { refused = all.refused; accepted = all.accepted; granted = all.granted; said = all.said; lawful = all.lawful }

pub returns : goal.returns
returns c =
    let file = c.args.file.now in
    let t = c.in_ok-tables.ensures in
    let k = c.in_ok-counts.ensures in
    let tells : Tells c.in_ok-counts.counts file
    = record { places = k.granted.0; transitions = k.granted.1; lines = k.granted.2; outputs = k.granted.3 } in
    let all = finished file c.in_ok-counts.counts tells (sym t.refused) (sym k.refused)
    _ _ _ t.granted.0 t.granted.1 t.granted.2 c.filled.result c.filled.ensures.refused c.filled.ensures.granted in
    record { refused = all.refused; accepted = all.accepted; granted = all.granted; said = all.said; lawful = all.lawful }
