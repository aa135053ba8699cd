use Rattle.std.proofs.Common.{take, ap, arith}
use Rattle.kt_records.specs.Shared.{entry_of}
use Rattle.kt_reopen.specs.Numbers.{named_by}
use Rattle.kt_reopen.proofs.Adding.{commit_more, write_more}
use Rattle.kt_reopen.proofs.numbers.named_in.Goals as goal
use Rattle.kt_reopen.proofs.numbers.named_in.Goals.{in-Commit+in_ok-add_rows, in_default}

pub records-preserved : goal.records-preserved
records-preserved c =
    let records = c.args.records.now in
    let i = c.records.at in
    elim c.match-at.branch [
      | in-Commit+in_ok-add_rows w ↦
          rw (w.named-is) (commit_more w.add_rows.new.named records i w.in-Commit.ts w.in-Commit.rows.now (entry_of c.at.result) (omega arith) c.at.ensures (ap entry_of w.in-Commit.is)
          (w.in_ok-add_rows.ensures (named_by (take i records)) c.records.invariant))
      | in_default w ↦ rw (w.named-is) (write_more c.records.named records i w.in_default.field-0 w.in_default.field-1 (entry_of c.at.result) (omega arith) c.at.ensures (ap entry_of w.in_default.is) c.records.invariant)
    ]
