use Rattle.std.proofs.Common.{Option, subst}
use Rattle.std.specs.FinMap.Entries.{find}
use Rattle.kt_history.specs.Rows.{Row, AgreeOn, key_cmp}
use Rattle.kt_history.proofs.Asking.{agree_self}
use Rattle.kt_views.proofs.table.TableView.columns_into.Goals as goal

-- a row that is read whole has the columns that are asked for
pub returns : goal.returns
returns c = λ _.
    let told = find key_cmp c.args.key.now c.args.self.now.rows.items in
    subst (λ (read : Option Row). AgreeOn c.args.ids.now told read) (rw c.deref.ensures.value at c.in_ok-found.ensures) (agree_self c.args.ids.now told)
