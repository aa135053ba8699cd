use Rattle.std.proofs.Common.{◌≡◌, ◌+◌, suc, Some, [], ◌∷◌, ◌++◌, length, sym, ap, ◌∙◌, arith}
use Rattle.std.specs.List.{flat_map}
use Rattle.kt_script.specs.declared.out_lines.FirstLine.{FirstLine}
use Rattle.kt_script.specs.Texts.{line}
use Rattle.kt_script.specs.Outputs.{first_in, LineHolds}
use Rattle.kt_script.specs.Stages.{sessions}
use Rattle.kt_script.specs.Reread.{with_rows}
use Rattle.kt_script.proofs.ToldLines.{first_is}
use Rattle.kt_script.proofs.Moves.{how_far}
use Rattle.kt_script.proofs.Rereads.{reply_more, rows_err, all_more}
use Rattle.kt_script.proofs.reread.read_replies.Goals as goal

pub line_at-requires : goal.line_at-requires
line_at-requires c = (c.replies.invariant.moves 0).within

pub returns-in-Err : goal.returns-in-Err
returns-in-Err c =
    let l = c.in-Some.line.now in
    let f : FirstLine = c.in-Some-2.field-0 in
    let is : first_in l ≡ Some f = sym c.in_ok-reply.ensures ∙ c.in-Some-2.is in
    rows_err c.args.text.now c.args.start c.replies.at c.replies.replies.items c.replies.invariant.moves l c.in-Some.ensures f is c.in-Err.no c.in-Err.ensures

pub replies-smaller : goal.replies-smaller
replies-smaller c =
    let below = c.replies.at + length c.in-Some.line.now + 1 in
    let far = how_far c.args.text.now (sessions 1 c.in-Some-2.field-0.due) (sessions 1 0) below c.in-Ok.rows.at (flat_map line c.in-Ok.rows.lines.items) (c.in-Ok.ensures.0 1) in
    omega (arith, far, c.in-Some.ensures.within)

pub replies-preserved : goal.replies-preserved
replies-preserved c =
    let l = c.in-Some.line.now in
    let f : FirstLine = c.in-Some-2.field-0 in
    let is : first_in l ≡ Some f = sym c.in_ok-reply.ensures ∙ c.in-Some-2.is in
    let lines = c.in-Ok.rows.lines.items in
    let r = with_rows f.reply lines in
    let first = first_is l f is lines c.in-Ok.ensures.1 c.in-Ok.ensures.2 in
    let pushed : c.push.new.list.items ≡ c.replies.replies.items ++ r ∷ [] = c.in_ok-push.ensures ∙ ap (λ x. c.replies.replies.items ++ x ∷ []) c.with_rows.ensures in
    record {
      moves = λ n. reply_more c.args.text.now n c.args.start c.replies.at c.replies.replies.items (c.replies.invariant.moves n) l c.in-Some.ensures f is c.in-Ok.rows.at lines r c.push.new.list.items (c.in-Ok.ensures.0 (suc n)) first pushed;
      replies = all_more LineHolds c.replies.replies.items r c.push.new.list.items pushed c.replies.invariant.replies first.holds;
    }
