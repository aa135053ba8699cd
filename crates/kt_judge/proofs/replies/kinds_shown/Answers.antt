use Rattle.std.proofs.Common.{refl}
use Rattle.kt_judge.specs.Works.{work_of}
use Rattle.kt_judge.proofs.replies.kinds_shown.Goals as goal

pub returns-in_ok-kinds_shown-in-Scan : goal.returns-in_ok-kinds_shown-in-Scan
returns-in_ok-kinds_shown-in-Scan c = λ cells. rw c.in-Scan.is (c.in_ok-kinds_shown-in-Scan.ensures (work_of cells c.args.script.now) refl refl)
