use Rattle.std.proofs.Common.{◌∙◌, sym}
use Rattle.kt_script.proofs.WriteLaws.{write_fits}
use Rattle.kt_script.proofs.Bodies.{body_refused, body_read, begins_by}
use Rattle.kt_script.proofs.script.read_lines.Goals as goal

pub returns-in-Err : goal.returns-in-Err
returns-in-Err c = rw c.located.ensures (body_refused (Unit {0}) c.read_line.new.sessions c.in-Some.line.now c.in-Some.behind.now c.in-Err.no c.lines.invariant c.in-Some.ensures.0 c.in-Err.ensures)

pub lines-preserved : goal.lines-preserved
lines-preserved c =
    body_read c.in-Some.line.now c.in-Some.behind.now c.in_default-read_line.field-0 c.requires.table.ids
    (λ words. write_fits c.args.schema.now words c.requires.table) c.lines.invariant c.in-Some.ensures.0 c.in-Some.ensures.1 c.in_default-read_line.ensures

pub read_line-requires-clause-load : goal.read_line-requires-clause-load
read_line-requires-clause-load c = λ e. sym (begins_by c.lines.rest.now c.in-Some.line.now c.in-Some.behind.now c.in-Some.ensures.0) ∙ c.lines.invariant.no_load e
