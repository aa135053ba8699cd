use Rattle.kt_script.specs.OutForms.{IsReplyLine}
use Rattle.kt_script.proofs.Places.{same_kind, further_of}
use Rattle.kt_script.proofs.LineForms.{AReply, reply_forms, reply_read}
use Rattle.kt_script.proofs.out_fronts.reply_front.Goals as goal

pub returns : goal.returns
returns c =
    same_kind AReply IsReplyLine c.args.line.now c.further-6.result reply_read reply_forms
    (further_of c.further-6.ensures c.form_front-rows.ensures
    (further_of c.further-5.ensures c.form_front-ancient.ensures
    (further_of c.further-4.ensures c.form_front-busy.ensures
    (further_of c.further-3.ensures c.form_front-ahm.ensures
    (further_of c.further-2.ensures c.form_front-large.ensures
    (further_of c.further-words.ensures c.word_front-done.ensures
    (further_of c.further.ensures c.word_front-stopped.ensures c.at_front-at.ensures)))))))
