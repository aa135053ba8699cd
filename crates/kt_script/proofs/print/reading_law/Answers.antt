use Rattle.kt_script.proofs.PrintedScripts.{printed_is_read, load_is_read}
use Rattle.kt_script.proofs.print.reading_law.Goals as goal

pub returns : goal.returns
returns c = record { sessions = printed_is_read; load = load_is_read }
