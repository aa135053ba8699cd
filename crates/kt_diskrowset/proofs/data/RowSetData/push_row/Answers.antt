use Rattle.std.proofs.Common.{◌≡◌, ◌∙◌, ◌++◌, ◌∷◌, [], Some, None, sym, ap, subst}
use Rattle.std.proofs.lemmas.List.{append-nil}
use Rattle.std.proofs.lemmas.Result.{on_ok_weaker}
use Rattle.kt_history.specs.Rows.{Row, Rows}
use Rattle.kt_baseset.specs.Tables.{key_at, cells_in}
use Rattle.kt_diskrowset.specs.Gathered.{Holds}
use Rattle.kt_diskrowset.specs.Page.{told_at}
use Rattle.kt_diskrowset.proofs.Pages.{told_there, row_here, no_row_here}
use Rattle.kt_diskrowset.proofs.data.RowSetData.push_row.Goals as goal

pub returns-then-is_untouched : goal.returns-then-is_untouched
returns-then-is_untouched c =
    let d = c.args.self.now in
    let rows = d.base.set.value.rows in
    let key = key_at rows c.args.ordinal in
    let base = cells_in rows c.args.ordinal in
    let is : told_at c.args.t d key ≡ Some base = told_there d c.args.t c.args.ordinal c.requires.lead c.requires.rise c.requires.inside ∙ c.is_untouched.ensures c.if-is_untouched.true c.args.t base in
    on_ok_weaker c.push_base.result (λ more told holds. subst (λ (rs : Rows). Holds c.args.columns.now (told ++ rs) c.push_base.new.self) (sym (row_here (told_at c.args.t d) key base is)) (more told holds)) c.push_base.ensures

pub returns-in-Some : goal.returns-in-Some
returns-in-Some c =
    let d = c.args.self.now in
    let rows = d.base.set.value.rows in
    let key = key_at rows c.args.ordinal in
    let is : told_at c.args.t d key ≡ Some c.in-Some.row = told_there d c.args.t c.args.ordinal c.requires.lead c.requires.rise c.requires.inside ∙ sym c.in_ok-row.ensures ∙ c.in-Some.is in
    on_ok_weaker c.push.result
    (λ more told holds.
    subst (λ (rs : Rows). Holds c.args.columns.now (told ++ rs) c.push.new.self) (sym (row_here (told_at c.args.t d) key c.in-Some.row is))
    (subst (λ (r : Row). Holds c.args.columns.now (told ++ (key, r) ∷ []) c.push.new.self) c.as_slice.ensures (more told holds)))
    c.push.ensures

pub returns-in-None : goal.returns-in-None
returns-in-None c = λ told holds.
    let d = c.args.self.now in
    let rows = d.base.set.value.rows in
    let key = key_at rows c.args.ordinal in
    let is : told_at c.args.t d key ≡ None = told_there d c.args.t c.args.ordinal c.requires.lead c.requires.rise c.requires.inside ∙ sym c.in_ok-row.ensures ∙ c.in-None.is in
    subst (λ (rs : Rows). Holds c.args.columns.now rs c.args.gathered.now) (sym (ap (λ (rs : Rows). told ++ rs) (no_row_here (told_at c.args.t d) key is) ∙ append-nil told)) holds
