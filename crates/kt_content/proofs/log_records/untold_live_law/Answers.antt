use Rattle.kt_content.proofs.LiveOnce.{untold_once}
use Rattle.kt_content.proofs.log_records.untold_live_law.Goals as goal

pub returns : goal.returns
returns c = untold_once
