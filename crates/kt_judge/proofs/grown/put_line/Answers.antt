use Rattle.std.proofs.Common.{◌-◌, ℕ, List, sym, ap, subst}
use Rattle.std.specs.Option.{option_copied}
use Rattle.kt_history.specs.declared.event.Event.{Event}
use Rattle.kt_history.specs.declared.operation.RowOp.{RowOp}
use Rattle.kt_judge.specs.Machine.{ops_in}
use Rattle.kt_history.specs.Rows.{Row, Rows}
use Rattle.kt_history.specs.Operations.{changes_on}
use Rattle.kt_judge.specs.Works.{work_of}
use Rattle.kt_judge.specs.Tables.{Shows, with_changes}
use Rattle.kt_judge.specs.Grown.{Grows}
use Rattle.kt_judge.proofs.Growing.{grows_begin, grows_other, is_other}
use Rattle.kt_judge.proofs.grown.put_line.Goals as goal

pub returns-in_ok-put_write : goal.returns-in_ok-put_write
returns-in_ok-put_write c = λ cells.
    let put = c.in_ok-put_write.ensures in
    let b = c.in-Begin in
    let ops : List RowOp = ops_in (option_copied c.write_at.result) in
    let old = c.args.entries.now.items in
    let new = c.put_write.new.entries.items in
    subst (λ (e : Event). Grows (work_of cells c.args.script.now) e old new) (sym b.is)
    (grows_begin (work_of cells c.args.script.now) b.s b.i b.ts b.m ops old new (ap ops_in c.write_at.ensures) put.table put.up_to
    (subst (λ (fill : Row). (rows : ℕ → Rows) → Shows old rows → Shows new (with_changes b.ts (changes_on fill (rows (b.ts - 1)) ops) rows)) c.requires.fill put.rows))

pub returns-in_default : goal.returns-in_default
returns-in_default c = λ cells. grows_other (work_of cells c.args.script.now) c.args.event.now c.args.entries.now.items (is_other c.args.event.now c.in_default.not-Begin)
