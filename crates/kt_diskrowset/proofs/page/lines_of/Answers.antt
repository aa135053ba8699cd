use Rattle.std.proofs.Common.{◌∙◌, ◌-◌, ◌++◌, ◌∷◌, [], map, sym, ap, subst}
use Rattle.kt_base.specs.Borrowed.{cell_in}
use Rattle.kt_diskrowset.specs.Gathered.{HasPieces}
use Rattle.kt_diskrowset.proofs.Pages.{pieces_left, pieces_more}
use Rattle.kt_diskrowset.proofs.page.lines_of.Goals as goal

pub lines-preserved : goal.lines-preserved
lines-preserved c = record {
  pieces = subst (HasPieces c.args.width (c.lines.left - 1)) (sym c.split_at.ensures.back) (pieces_left c.args.width c.lines.left c.lines.rest.now c.lines-test.true c.lines.invariant.pieces);
  rows =
      pieces_more c.args.width c.lines.left c.lines.rest.now c.split_at.result.1.now c.split_at.result.0.now c.lines.rows c.push.new.self _ c.lines-test.true c.split_at.ensures.front c.split_at.ensures.back
      (c.in_ok-push.ensures.ok ∙ ap (λ l. c.lines.rows ++ l ∷ []) (ap (λ line. map cell_in line) c.deref.ensures.value ∙ c.in_ok-put_refs.ensures)) c.lines.invariant.rows;
}
