use Rattle.netfile.specs.Steps.{put_record, record_wrong}
use Rattle.nets.specs.Stored.{net_of}
use Rattle.netfile.proofs.Turns.{Well}
use Rattle.netfile.proofs.records.put_records.Given as goal

abbrev pub invariant-loop-index : goal.invariant-loop-index
invariant-loop-index g l =
    Well (put_record g.R.Record.said g.R.Record.put_in g.row.N l.table) (record_wrong g.R.Record.said g.R.Record.wrong g.row.N l.table) (net_of l.initial.net) l.index (net_of l.net)
