use Rattle.kt_content.proofs.BelowTheMark.{sound_from}
use Rattle.kt_content.proofs.writing.last_sound_law.Goals as goal

pub returns : goal.returns
returns c = sound_from
