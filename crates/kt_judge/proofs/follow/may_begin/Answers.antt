use Rattle.std.proofs.Common.{◌<◌, ◌^◌, sym, ap, ◌∙◌, arith}
use Rattle.std.specs.List.{list_any}
use Rattle.std.specs.Option.{option_copied}
use Rattle.kt_history.specs.Operations.{share_key}
use Rattle.kt_history.specs.Machine.{nth, command_of}
use Rattle.kt_judge.specs.declared.machine.Flight.{Flight}
use Rattle.kt_judge.specs.Works.{work_of}
use Rattle.kt_judge.specs.Machine.{write_in, ops_in}
use Rattle.kt_judge.proofs.Allowed.{begin_decided}
use Rattle.kt_judge.proofs.follow.may_begin.Goals as goal

pub returns : goal.returns
returns c = λ past.
    let small : c.args.cells < 2 ^ 32 = omega arith in
    begin_decided (work_of c.args.cells c.args.script.now) past c.args.m.now c.args.s c.args.i c.args.ts c.args.reading c.cells_needed.result c.in-Some.ops.now c.is_next.result c.flies_key.result c.is_next_timestamp.result
    c.requires (sym c.write_at.ensures ∙ ap option_copied c.in-Some.is) (c.is_next.ensures (work_of c.args.cells c.args.script.now) past) c.cells_needed.ensures small
    (c.flies_key.ensures ∙ ap (list_any (λ (f : Flight). share_key c.in-Some.ops.now (ops_in (write_in (command_of (nth c.args.script.now.plan f.s) f.i))))) c.deref.ensures.value)
    c.is_next_timestamp.ensures
