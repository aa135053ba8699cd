use Rattle.kt_script.proofs.OutForms.{form_short, form_more}
use Rattle.kt_script.proofs.out_fronts.form_front.Goals as goal

pub returns-then-at-word : goal.returns-then-at-word
returns-then-at-word c = form_short c.args.word.now c.args.mosts.now c.args.text.now c.word_front-at.result c.word_front-at.ensures c.if-at-word.true

pub returns : goal.returns
returns c = form_more c.args.word.now c.args.mosts.now c.args.text.now c.split_at.result.1.now c.word_front-at.result c.counts_front.result c.word_front-at.ensures c.if-at-word.false c.split_at.ensures.back c.counts_front.ensures
