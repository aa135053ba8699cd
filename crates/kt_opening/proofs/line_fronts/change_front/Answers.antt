use Rattle.kt_script.proofs.Places.{further_of}
use Rattle.kt_opening.proofs.line_fronts.change_front.Goals as goal

pub returns : goal.returns
returns c = further_of c.further.ensures c.word_front-3.ensures (further_of c.further-later.ensures c.word_front.ensures c.word_front-2.ensures)
