use Rattle.std.proofs.Common.{subst}
use Rattle.kt_script.specs.Places.{IsFault}
use Rattle.kt_script.specs.Fronts.{IsWord}
use Rattle.kt_script.proofs.WordBytes.{common_apart, common_text, common_word, word_fault}
use Rattle.kt_script.proofs.fronts.word_front.Goals as goal

pub returns-else-text-at : goal.returns-else-text-at
returns-else-text-at c = subst (λ n. IsFault (IsWord c.args.word.now) c.args.text.now n) (common_apart c.args.text.now c.args.word.now c.loop-at.at c.loop-at-test.true c.if-at-word.true c.if-text-at.false c.loop-at.invariant) (word_fault c.args.text.now c.args.word.now)

pub returns-else-at-word : goal.returns-else-at-word
returns-else-at-word c = subst (λ n. IsFault (IsWord c.args.word.now) c.args.text.now n) (common_word c.args.text.now c.args.word.now c.loop-at.at c.if-at-word.false c.loop-at.invariant) (word_fault c.args.text.now c.args.word.now)

pub returns-after-loop-at : goal.returns-after-loop-at
returns-after-loop-at c = subst (λ n. IsFault (IsWord c.args.word.now) c.args.text.now n) (common_text c.args.text.now c.args.word.now c.loop-at.at c.loop-at-test.false c.loop-at.invariant) (word_fault c.args.text.now c.args.word.now)
