use Rattle.kt_merge.proofs.OutputLaws.{are_alike, are_sound, lead_back}
use Rattle.kt_merge.proofs.laws.outputs_law.Goals as goal

pub returns-clause-alike : goal.returns-clause-alike
returns-clause-alike c = are_alike

pub returns-clause-sound : goal.returns-clause-sound
returns-clause-sound c = are_sound

pub returns-clause-led : goal.returns-clause-led
returns-clause-led c = lead_back
