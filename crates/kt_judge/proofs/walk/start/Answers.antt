use Rattle.std.proofs.Common.{refl, false}
use Rattle.kt_judge.specs.Works.{work_of}
use Rattle.kt_judge.proofs.Walked.{starts, first_of}
use Rattle.kt_judge.proofs.walk.start.Goals as goal

pub returns : goal.returns
returns c = λ cells past mark.
    starts (work_of cells c.args.script.now) past (record { a = c.args.a; c = c.args.c; flying = c.new.result; turns = c.in_ok-first_turns.field-0; stopped = false }) mark c.new.ensures.items (first_of _ _ _ c.in_ok-first_turns.ensures c.as_slice.ensures) refl
