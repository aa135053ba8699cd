use Rattle.std.proofs.Common.{◌≡◌, ◌∙◌, ◌++◌, ◌∷◌, [], Some, None, sym, ap}
use Rattle.std.proofs.lemmas.List.{append-nil}
use Rattle.kt_history.specs.Rows.{Rows}
use Rattle.kt_baseset.specs.Tables.{key_at}
use Rattle.kt_diskrowset.specs.Page.{told_at}
use Rattle.kt_diskrowset.proofs.Pages.{told_there, row_here, no_row_here}
use Rattle.kt_diskrowset.proofs.data.RowSetData.push_whole.Goals as goal

pub returns-in_ok-push-in-Some : goal.returns-in_ok-push-in-Some
returns-in_ok-push-in-Some c =
    let d = c.args.self.now in
    let key = key_at d.base.set.value.rows c.args.ordinal in
    let is : told_at c.args.t d key ≡ Some c.in-Some.row = told_there d c.args.t c.args.ordinal c.requires.lead c.requires.rise c.requires.inside ∙ sym c.in_ok-row.ensures ∙ c.in-Some.is in
    c.in_ok-push-in-Some.ensures.items ∙ ap (λ k. c.args.rows.now.items ++ (k, c.in-Some.row) ∷ []) (c.in_ok-own-in-Some.ensures ∙ c.requires.named)
    ∙ ap (λ (rs : Rows). c.args.rows.now.items ++ rs) (sym (row_here (told_at c.args.t d) key c.in-Some.row is))

pub returns-in-None : goal.returns-in-None
returns-in-None c =
    let d = c.args.self.now in
    let key = key_at d.base.set.value.rows c.args.ordinal in
    let is : told_at c.args.t d key ≡ None = told_there d c.args.t c.args.ordinal c.requires.lead c.requires.rise c.requires.inside ∙ sym c.in_ok-row.ensures ∙ c.in-None.is in
    sym (ap (λ (rs : Rows). c.args.rows.now.items ++ rs) (no_row_here (told_at c.args.t d) key is) ∙ append-nil c.args.rows.now.items)
