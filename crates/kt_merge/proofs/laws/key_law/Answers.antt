use Rattle.kt_merge.proofs.OneKey.{key_alike, key_sound, key_leads, key_fits}
use Rattle.kt_merge.proofs.laws.key_law.Goals as goal

pub returns-clause-alike : goal.returns-clause-alike
returns-clause-alike c = key_alike

pub returns-clause-sound : goal.returns-clause-sound
returns-clause-sound c = key_sound

pub returns-clause-led : goal.returns-clause-led
returns-clause-led c = key_leads

pub returns-clause-held : goal.returns-clause-held
returns-clause-held c = key_fits
