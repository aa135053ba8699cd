use Rattle.std.proofs.Common.{◌≡◌, ◌+◌, ◌∙◌, length, sym, refl, ap, subst, arith, Ok, Err}
use Rattle.kt_script.specs.Columns.{ReadsColumn, begins_column}
use Rattle.kt_script.specs.Scripts.{first_piece}
use Rattle.kt_script.proofs.Faults.{column_refused, column_read, first_step}
use Rattle.kt_script.proofs.Tables.{table_none, table_more, column_fits}
use Rattle.kt_script.proofs.head.read_columns.Goals as goal

pub returns-in-Err : goal.returns-in-Err
returns-in-Err c =
    let columns = c.lines.columns.items in
    let reads = subst (λ xs. ReadsColumn xs c.in-Some.line.now (Err c.in-Err.no)) c.deref.ensures.value c.in-Err.ensures in
    let number : c.len.result + 2 ≡ length columns + 2 = omega (arith, c.len.ensures, c.lines.columns.ok.0) in
    rw c.located.ensures (column_refused columns c.args.text.now c.lines.rest.now c.in-Some.line.now c.in-Some.behind.now c.in-Err.no c.lines.invariant.fault c.in-Some.ensures.0 (sym c.begins_column.ensures ∙ c.if-not-begins_column.false) reads (c.len.result + 2) number)

pub lines-preserved : goal.lines-preserved
lines-preserved c =
    let columns = c.lines.columns.items in
    let reads = subst (λ xs. ReadsColumn xs c.in-Some.line.now (Ok c.in-Ok.column)) c.deref.ensures.value c.in-Ok.ensures in
    let next = column_read columns c.push.new.list.items c.lines.rest.now c.in-Some.line.now c.in-Some.behind.now c.in-Ok.column c.in-Some.ensures.0 (sym c.begins_column.ensures ∙ c.if-not-begins_column.false) reads c.in_ok-push.ensures in
    let fits = column_fits columns c.in-Some.line.now c.in-Ok.column (omega (arith, reads.0)) reads.1 in
    record { fault = c.lines.invariant.fault ∙ next.0; table = rw c.in_ok-push.ensures (table_more columns c.in-Ok.column c.lines.invariant.table fits); end = c.lines.invariant.end ∙ next.1; size = omega (arith, c.lines.invariant.size, c.in-Some.ensures.1) }

pub lines-init : goal.lines-init
lines-init c = rw c.new-columns.ensures.items (record { fault = refl; table = table_none; end = refl; size = omega arith })

pub returns-then-not-begins_column : goal.returns-then-not-begins_column
returns-then-not-begins_column c =
    let none = ap begins_column (first_step c.lines.rest.now c.in-Some.line.now c.in-Some.behind.now c.in-Some.ensures.0) ∙ (sym c.begins_column.ensures ∙ c.if-not-begins_column.true) in
    (c.lines.invariant.fault, c.lines.invariant.end, none, c.lines.invariant.table, c.lines.invariant.size)

pub returns : goal.returns
returns c = (c.lines.invariant.fault, c.lines.invariant.end, ap (λ pieces. begins_column (first_piece pieces)) c.in_default.ensures, c.lines.invariant.table, c.lines.invariant.size)
