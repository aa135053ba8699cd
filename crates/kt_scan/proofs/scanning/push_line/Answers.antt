use Rattle.std.proofs.Common.{◌≡◌, ◌++◌, Option, Some, None, List, cond, sym, ap, ◌∙◌, subst}
use Rattle.std.specs.Prelude.{OnOk}
use Rattle.std.specs.Option.{option_to_list}
use Rattle.std.proofs.lemmas.List.{append-nil}
use Rattle.kt_base.specs.declared.cell.Cell.{Cell}
use Rattle.kt_scan.specs.Encoded.{keys_of}
use Rattle.kt_scan.specs.Live.{row_in}
use Rattle.kt_scan.specs.Lines.{line_of}
use Rattle.kt_scan.proofs.scanning.push_line.Goals as goal

pub returns : goal.returns
returns g c =
    let line = line_of (keys_of c.args.asked.now.schema.now) c.args.asked.now.scan.now c.args.key.now in
    let told : line (row_in g.V.View.row_of c.args.views.now c.args.key.now c.args.t) ≡ line (Some c.row_for.new.row) =
    c.in_ok-row_for.ensures ∙ ap (λ b. line (cond b (Some c.row_for.new.row) None)) c.if-not-branch.false in
    subst (λ (shown : Option (List Cell)). OnOk c.push_cut.result (c.push_cut.new.rows ≡ c.args.rows.now ++ option_to_list shown))
    (c.in_ok-read_for.ensures c.if-not-branch-2.false c.row_for.new.row ∙ sym told)
    c.push_cut.ensures

pub returns-then-branch : goal.returns-then-branch
returns-then-branch g c = sym (append-nil c.args.rows.now) ∙ ap (λ (line : Option (List Cell)). c.args.rows.now ++ option_to_list line) (sym (c.in_ok-fails.ensures c.if-branch.true))
