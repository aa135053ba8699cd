use Rattle.std.proofs.Common.{◌≡◌, ℕ, ◌+◌, ◌<◌, true, false, [], ◌∷◌, ◌++◌, length, sym, ap, ◌∙◌, subst, arith, length-append}
use Rattle.std.specs.List.{flat_map}
use Rattle.kt_script.specs.Texts.{line}
use Rattle.kt_script.specs.Outputs.{is_row, IsRowLine}
use Rattle.kt_script.specs.Stages.{sessions}
use Rattle.kt_script.specs.Reread.{Moves}
use Rattle.kt_script.proofs.Rereads.{row_more, row_refused, row_missing, all_more}
use Rattle.kt_script.proofs.reread.read_rows.Goals as goal

pub line_at-requires : goal.line_at-requires
line_at-requires c = (c.loop-left.invariant.moves 0).within

pub split_at-requires : goal.split_at-requires
split_at-requires c = (c.loop-left.invariant.moves 0).within

pub returns-in_default : goal.returns-in_default
returns-in_default c =
    rw c.fault.ensures (λ n. row_missing c.args.text.now n c.args.due c.args.start c.loop-left.left c.loop-left.at c.loop-left.lines.items (c.loop-left.invariant.moves n) c.split_at.result.1.now c.row_front.result c.split_at.ensures.back c.in_default.ensures (omega arith) c.row_front.ensures)

pub returns-then-not-is_row : goal.returns-then-not-is_row
returns-then-not-is_row c =
    let some : 0 < c.loop-left.left = omega arith in
    let l = c.in-Some.line.now in
    let row : is_row l ≡ false = sym c.is_row.ensures ∙ c.if-not-is_row.true in
    rw c.fault-then-not-is_row.ensures (λ n. row_refused c.args.text.now n c.args.due c.args.start c.loop-left.left c.loop-left.at c.loop-left.lines.items (c.loop-left.invariant.moves n) l c.row_front-then-not-is_row.result c.in-Some.ensures some row c.row_front-then-not-is_row.ensures)

pub loop-left-preserved : goal.loop-left-preserved
loop-left-preserved c =
    let some : 0 < c.loop-left.left = omega arith in
    let l = c.in-Some.line.now in
    let lines = c.loop-left.lines.items in
    let new = c.push.new.list.items in
    let row : is_row l ≡ true = sym c.is_row.ensures ∙ c.if-not-is_row.false in
    let pushed : new ≡ lines ++ l ∷ [] = c.in_ok-push.ensures ∙ ap (λ x. lines ++ x ∷ []) c.in_ok-from_slice.ensures in
    let size : length new ≡ length lines + 1 = ap length pushed ∙ length-append lines (l ∷ []) in
    record {
      moves = λ n. row_more c.args.text.now n c.args.due c.args.start c.loop-left.left c.loop-left.at lines (c.loop-left.invariant.moves n) l new c.in-Some.ensures some row pushed;
      count = omega (arith, size, some, c.loop-left.invariant.count);
      rows = all_more IsRowLine lines l new pushed c.loop-left.invariant.rows (c.in-Some.ensures.clean, row);
    }

pub returns : goal.returns
returns c =
    let none : c.loop-left.left ≡ 0 = omega arith in (
      λ n. subst (λ (k : ℕ). Moves c.args.text.now (sessions n c.args.due) c.args.start (sessions n k) c.loop-left.at (flat_map line c.loop-left.lines.items)) none (c.loop-left.invariant.moves n),
      omega (arith, none, c.loop-left.invariant.count),
      c.loop-left.invariant.rows,
    )
