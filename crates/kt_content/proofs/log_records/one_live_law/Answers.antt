use Rattle.kt_content.proofs.LiveOnce.{shown_once}
use Rattle.kt_content.proofs.log_records.one_live_law.Goals as goal

pub returns : goal.returns
returns c = shown_once
