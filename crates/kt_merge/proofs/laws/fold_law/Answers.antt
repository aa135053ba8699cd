use Rattle.kt_merge.proofs.FoldedRow.{folded_alike, folded_whole, folded_leads, folded_left}
use Rattle.kt_merge.proofs.laws.fold_law.Goals as goal

pub returns-clause-alike : goal.returns-clause-alike
returns-clause-alike c = folded_alike

pub returns-clause-whole : goal.returns-clause-whole
returns-clause-whole c = folded_whole

pub returns-clause-led : goal.returns-clause-led
returns-clause-led c = folded_leads

pub returns-clause-left : goal.returns-clause-left
returns-clause-left c = folded_left
