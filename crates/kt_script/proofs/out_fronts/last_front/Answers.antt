use Rattle.kt_script.specs.OutForms.{IsLastLine}
use Rattle.kt_script.proofs.Places.{same_kind, further_of}
use Rattle.kt_script.proofs.LineForms.{ALast, last_forms, last_read}
use Rattle.kt_script.proofs.out_fronts.last_front.Goals as goal

pub returns : goal.returns
returns c = same_kind ALast IsLastLine c.args.line.now c.further.result last_read last_forms (further_of c.further.ensures c.numbers_front.ensures c.word_front.ensures)
