use Rattle.std.proofs.Common.{◌<◌, ◌^◌, sym, ap, ◌∙◌, arith}
use Rattle.std.specs.Option.{option_copied}
use Rattle.kt_judge.specs.Works.{work_of}
use Rattle.kt_judge.proofs.Allowed.{large_decided}
use Rattle.kt_judge.proofs.follow.is_large.Goals as goal

pub returns-in-Some : goal.returns-in-Some
returns-in-Some c = λ past.
    let small : c.args.n < 2 ^ 32 = omega arith in
    large_decided (work_of c.args.cells c.args.script.now) past c.args.m.now c.args.s c.args.i c.args.n c.cells_needed.result c.in-Some.ops.now c.is_next.result
    c.requires (sym c.write_at.ensures ∙ ap option_copied c.in-Some.is) (c.is_next.ensures (work_of c.args.cells c.args.script.now) past) c.cells_needed.ensures small
