use Rattle.std.proofs.Common.{◌≡◌, ◌≤◌, ℕ, List, sym, ap, ◌∙◌, subst, arith}
use Rattle.std.specs.List.{All}
use Rattle.std.proofs.lemmas.Result.{IfOk-weaker}
use Rattle.kt_diskrowset.specs.Page.{row_told}
use Rattle.kt_history.specs.Replies.{shown}
use Rattle.kt_history.specs.Rows.{Rows}
use Rattle.kt_scan.specs.Encoded.{keys_of}
use Rattle.kt_scan.specs.Live.{AreRowsOf, row_in}
use Rattle.kt_tablet.specs.Copies.{mark_of, copied_row, copied_rows, read_mark, read_row, read_rows}
use Rattle.kt_tablet.proofs.Scans.{all_marked}
use Rattle.kt_serve.proofs.Viewed.{row_in_same, each_key, marks_same}
use Rattle.kt_app.specs.Loaded.{value_scan}
use Rattle.kt_app.proofs.load.values_of.Goals as goal

pub values_in-requires-clause-told : goal.values_in-requires-clause-told
values_in-requires-clause-told c =
    let snap = c.args.snap.now in
    subst (All (λ v. read_mark v ≤ snap.mark)) (sym c.deref.ensures.value) (marks_same read_mark mark_of snap.mark c.in_ok-views.views.items snap.views c.in_ok-views.ensures.marks (all_marked snap c.requires.copied))

pub returns : goal.returns
returns c =
    let snap = c.args.snap.now in
    let views = c.in_ok-views.views.items in
    let same = λ (key : List ℕ).
    row_in_same (λ v k t. copied_row row_told k t v) (λ v k t. read_row k t v) snap.views views key snap.t (sym (each_key (read_rows snap.t) (copied_rows row_told snap.t) views snap.views c.in_ok-views.ensures.rows key))
    ∙ ap (λ vs. row_in (λ v k t. read_row k t v) vs key snap.t) (sym c.deref.ensures.value) in
    IfOk-weaker c.values_in.result _ _
    (λ listed told low rows are.
    let time : c.max.result ≡ snap.t = omega (arith, low, c.max.ensures) in
    let at_time = subst (λ (n : ℕ). (rows : Rows) → AreRowsOf (λ key. row_in (λ v k t. read_row k t v) c.deref.result.now key n) rows → listed ≡ shown (keys_of c.args.schema.now) (value_scan n) rows) time told in
    at_time rows (are.0, λ key. are.1 key ∙ same key)) c.values_in.ensures
