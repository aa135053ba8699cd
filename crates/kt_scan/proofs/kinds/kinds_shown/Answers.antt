use Rattle.std.proofs.Common.{◌∙◌}
use Rattle.kt_scan.proofs.KindsAt.{all_kinds_are}
use Rattle.kt_scan.proofs.kinds.kinds_shown.Goals as goal

pub returns-in_ok-all_kinds-in-None : goal.returns-in_ok-all_kinds-in-None
returns-in_ok-all_kinds-in-None c = λ work keys others. rw (c.in-None.is, keys, others) (c.in_ok-all_kinds-in-None.ensures ∙ all_kinds_are _ _)

pub returns-in_ok-kinds_at-in-Some : goal.returns-in_ok-kinds_at-in-Some
returns-in_ok-kinds_at-in-Some c = λ work keys others. rw (c.in-Some.is, keys, others) (rw c.as_slice.ensures at c.in_ok-kinds_at-in-Some.ensures)
