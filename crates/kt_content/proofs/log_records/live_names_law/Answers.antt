use Rattle.kt_content.proofs.Names.{names_tell}
use Rattle.kt_content.proofs.log_records.live_names_law.Goals as goal

pub returns : goal.returns
returns c = names_tell
