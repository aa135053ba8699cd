use Rattle.std.proofs.Common.{◌≡◌, List, map, ◌∙◌, subst}
use Rattle.kt_base.specs.declared.cell.Kind.{Kind}
use Rattle.kt_base.specs.declared.cell.Cell.{Cell}
use Rattle.kt_script.specs.declared.replies.ReplyLine.TheVariants as reply
use Rattle.kt_script.specs.Texts.{row_text}
use Rattle.kt_judge.specs.Decided.{Decided}
use Rattle.kt_judge.specs.Works.{work_of}
use Rattle.kt_judge.specs.Verdicts.{kinds_shown}
use Rattle.kt_judge.proofs.replies.is_shown.Goals as goal

pub returns : goal.returns
returns c = λ cells rows shows.
    subst (λ (shown : List (List Cell)). Decided c.in_ok-same.same (c.args.printed.now ≡ reply.Rows c.args.t (map (row_text (kinds_shown (work_of cells c.args.script.now) c.args.command.now)) shown))) (c.in_ok-rows.ensures rows shows)
    (subst (λ (kinds : List Kind). Decided c.in_ok-same.same (c.args.printed.now ≡ reply.Rows c.args.t (map (row_text kinds) c.in_ok-rows.rows))) (c.deref.ensures.value ∙ c.in_ok-kinds.ensures cells) c.in_ok-same.ensures)
