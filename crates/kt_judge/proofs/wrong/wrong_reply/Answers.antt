use Rattle.std.proofs.Common.{◌∙◌, arith}
use Rattle.kt_judge.specs.Works.{work_of}
use Rattle.kt_judge.specs.Replied.{StandsAt}
use Rattle.kt_judge.proofs.Steps.{decided_true, decided_false}
use Rattle.kt_judge.proofs.Answering.{decided_at, stands_behind, one_more, first_from_one, all_from_one, all_of}
use Rattle.kt_judge.proofs.wrong.wrong_reply.Goals as goal

pub returns-then-not-branch : goal.returns-then-not-branch
returns-then-not-branch c = λ cells whole shows.
    first_from_one (StandsAt (work_of cells c.args.script.now) whole c.args.stopped c.args.commands.now c.args.lines.now c.args.replies.now) c.loop-at.at (c.loop-at.invariant cells whole shows)
    (decided_false _ c.in_ok-reply_stands.field-0 c.if-not-branch.true
    (decided_at (work_of cells c.args.script.now) whole c.args.stopped c.args.commands.now c.args.lines.now c.args.replies.now c.loop-at.at _ _ _ c.in_ok-reply_stands.field-0
    c.item-command.ensures (c.copied-line.ensures ∙ c.item.ensures) c.item-printed.ensures (c.in_ok-reply_stands.ensures cells whole shows)))

pub loop-at-preserved : goal.loop-at-preserved
loop-at-preserved c = λ cells whole shows.
    one_more (StandsAt (work_of cells c.args.script.now) whole c.args.stopped c.args.commands.now c.args.lines.now c.args.replies.now) c.loop-at.at (c.loop-at.invariant cells whole shows)
    (decided_true _ c.in_ok-reply_stands.field-0 c.if-not-branch.false
    (decided_at (work_of cells c.args.script.now) whole c.args.stopped c.args.commands.now c.args.lines.now c.args.replies.now c.loop-at.at _ _ _ c.in_ok-reply_stands.field-0
    c.item-command.ensures (c.copied-line.ensures ∙ c.item.ensures) c.item-printed.ensures (c.in_ok-reply_stands.ensures cells whole shows)))

pub returns : goal.returns
returns c = λ cells whole shows.
    let count = c.max-count.ensures in
    all_from_one (StandsAt (work_of cells c.args.script.now) whole c.args.stopped c.args.commands.now c.args.lines.now c.args.replies.now)
    (all_of (StandsAt (work_of cells c.args.script.now) whole c.args.stopped c.args.commands.now c.args.lines.now c.args.replies.now) c.loop-at.at (c.loop-at.invariant cells whole shows)
    (λ k from. stands_behind (work_of cells c.args.script.now) whole c.args.stopped c.args.commands.now c.args.lines.now c.args.replies.now k (omega arith) (omega arith)))
