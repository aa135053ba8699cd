use Rattle.kt_histlaws.proofs.Content.{shown_once}
use Rattle.kt_histlaws.proofs.laws.content_law.Goals as goal

pub returns : goal.returns
returns c = shown_once
