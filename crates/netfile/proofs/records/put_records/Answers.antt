use Rattle.std.proofs.Common.{◌/◌, ◌<◌, length, Some, ap, ◌∙◌, subst}
use Rattle.std.specs.Result.{result_err}
use Rattle.std.proofs.lemmas.Result.{err_from_is_err_and}
use Rattle.bitset.specs.Lists.{first_of}
use Rattle.netfile.specs.Steps.{put_record, record_wrong}
use Rattle.nets.specs.Stored.{net_of}
use Rattle.netfile.proofs.Turns.{read_at, turn_on, turn_out}
use Rattle.netfile.proofs.records.put_records.Goals as goal

pub returns-in_err-put-clause-refused : goal.returns-in_err-put-clause-refused
returns-in_err-put-clause-refused g c =
    let R = g.R.Record in
    let bs = c.args.table.now in
    let i = c.loop-index.index in
    let inside : i < length bs / g.row.N = subst (λ k. i < k) c.as_chunks.ensures.front_len c.loop-index-test.true in
    let said = c.from_bytes.ensures ∙ ap R.said (read_at g.row.N _ bs _ i _ c.as_chunks.ensures.front inside c.index-records-index.is) in
    let p = err_from_is_err_and c.from_residual.result c.from_residual.ensures.1 in
    ap result_err p.1
    ∙ turn_out (put_record R.said R.put_in g.row.N bs) (record_wrong R.said R.wrong g.row.N bs) (net_of c.args.net.now) i (net_of c.loop-index.net) c.loop-index.invariant _ p.0 inside
    (ap Some p.2 ∙ c.in_err-put.ensures.refused ∙ ap (λ x. first_of (R.wrong (net_of c.loop-index.net) x i)) said)

pub loop-index-preserved : goal.loop-index-preserved
loop-index-preserved g c =
    let R = g.R.Record in
    let bs = c.args.table.now in
    let i = c.loop-index.index in
    let inside : i < length bs / g.row.N = subst (λ k. i < k) c.as_chunks.ensures.front_len c.loop-index-test.true in
    let said = c.from_bytes.ensures ∙ ap R.said (read_at g.row.N _ bs _ i _ c.as_chunks.ensures.front inside c.index-records-index.is) in
    turn_on (put_record R.said R.put_in g.row.N bs) (record_wrong R.said R.wrong g.row.N bs) (net_of c.args.net.now) i (net_of c.loop-index.net) c.loop-index.invariant _
    (c.in_ok-put.ensures.refused ∙ ap (λ x. first_of (R.wrong (net_of c.loop-index.net) x i)) said)
    (c.in_ok-put.ensures.granted ∙ ap (λ x. R.put_in (net_of c.loop-index.net) x i) said)
