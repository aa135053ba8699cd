use Rattle.kt_histlaws.proofs.Content.{shown_change}
use Rattle.kt_histlaws.proofs.laws.change_law.Goals as goal

pub returns : goal.returns
returns c = shown_change
