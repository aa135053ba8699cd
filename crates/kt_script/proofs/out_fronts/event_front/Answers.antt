use Rattle.kt_script.specs.OutForms.{IsEventLine}
use Rattle.kt_script.proofs.Places.{same_kind, further_of}
use Rattle.kt_script.proofs.LineForms.{AnEvent, event_forms, event_read}
use Rattle.kt_script.proofs.out_fronts.event_front.Goals as goal

pub returns : goal.returns
returns c =
    same_kind AnEvent IsEventLine c.args.line.now c.further-8.result event_read event_forms
    (further_of c.further-8.ensures c.form_front-begin.ensures
    (further_of c.further-7.ensures c.form_front-end.ensures
    (further_of c.further-6.ensures c.form_front-look.ensures
    (further_of c.further-5.ensures c.form_front-rows.ensures
    (further_of c.further-4.ensures c.form_front-ancient.ensures
    (further_of c.further-later.ensures c.form_front-busy.ensures
    (further_of c.further-3.ensures c.form_front-mark.ensures
    (further_of c.further-2.ensures c.form_front-chore.ensures
    (further_of c.further.ensures c.form_front-large.ensures c.word_front-stop.ensures)))))))))
