use Rattle.kt_script.proofs.Places.{further_of}
use Rattle.kt_script.proofs.StageLines.{fault_history}
use Rattle.kt_script.proofs.out_fronts.history_front.Goals as goal

pub returns : goal.returns
returns c = fault_history c.args.line.now c.further.result (further_of c.further.ensures c.event_front.ensures c.last_front.ensures)
