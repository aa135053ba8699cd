use Rattle.kt_script.specs.OutForms.{IsOutcome}
use Rattle.kt_script.proofs.Places.{same_kind, further_of}
use Rattle.kt_script.proofs.LineForms.{AnOutcome, outcome_forms, outcome_read}
use Rattle.kt_script.proofs.out_fronts.one_outcome_front.Goals as goal

pub returns : goal.returns
returns c = same_kind AnOutcome IsOutcome c.args.text.now c.further-3.result outcome_read outcome_forms (further_of c.further-3.ensures c.word_front-done.ensures (further_of c.further-2.ensures c.word_front-present.ensures (further_of c.further.ensures c.word_front-absent.ensures c.word_front-ignored.ensures)))
