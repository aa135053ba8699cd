use Rattle.std.proofs.Common.{◌≤◌, ℕ, List, sym, ap, ◌∙◌, subst}
use Rattle.std.specs.List.{All}
use Rattle.std.proofs.lemmas.Result.{IfOk-weaker}
use Rattle.kt_diskrowset.specs.Page.{row_told}
use Rattle.kt_scan.specs.Live.{row_in}
use Rattle.kt_tablet.specs.Copies.{mark_of, copied_row, copied_rows, read_mark, read_row, read_rows}
use Rattle.kt_serve.proofs.Viewed.{row_in_same, each_key, marks_same}
use Rattle.kt_serve.proofs.shown.snap_shown.Goals as goal

pub rows_shown-requires-clause-told : goal.rows_shown-requires-clause-told
rows_shown-requires-clause-told c =
    let snap = c.args.snap.now in
    subst (All (λ v. read_mark v ≤ snap.mark)) (sym c.deref.ensures.value) (marks_same read_mark mark_of snap.mark c.in_ok-views.views.items snap.views c.in_ok-views.ensures.marks c.requires.told)

pub returns : goal.returns
returns c =
    let snap = c.args.snap.now in
    let views = c.in_ok-views.views.items in
    let same = λ (key : List ℕ).
    row_in_same (λ v k t. copied_row row_told k t v) (λ v k t. read_row k t v) snap.views views key snap.t (sym (each_key (read_rows snap.t) (copied_rows row_told snap.t) views snap.views c.in_ok-views.ensures.rows key))
    ∙ ap (λ vs. row_in (λ v k t. read_row k t v) vs key snap.t) (sym c.deref.ensures.value) in
    record { rows = IfOk-weaker c.rows_shown.result _ _ (λ listed told rows are. told rows (are.0, λ key. are.1 key ∙ same key)) c.rows_shown.ensures.rows }
