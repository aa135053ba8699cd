use Rattle.kt_script.proofs.Places.{further_of}
use Rattle.kt_opening.proofs.line_fronts.turn_front.Goals as goal

pub returns : goal.returns
returns c = further_of c.further.ensures c.write_front.ensures c.word_front.ensures
