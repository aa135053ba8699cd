use Rattle.kt_script.proofs.Faults.{line_case}
use Rattle.kt_script.proofs.head.cut_line.Goals as goal

pub returns : goal.returns
returns c = line_case c.args.text.now c.cut_at.result c.cut_at.ensures.cut c.cut_at.ensures.first c.cut_at.ensures.none
