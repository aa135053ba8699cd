use Rattle.std.proofs.Common.{Option, sym, subst}
use Rattle.kt_history.specs.Rows.{Row, AgreeOn}
use Rattle.kt_history.proofs.Asking.{agree_self}
use Rattle.kt_judge.specs.Tables.{row_of}
use Rattle.kt_judge.proofs.view.TableView.columns_into.Goals as goal

-- a row that is read whole has the columns that are asked for
pub returns : goal.returns
returns c = λ _.
    let told = row_of c.args.self.now.entries.items c.args.key.now c.args.t in
    subst (λ (read : Option Row). AgreeOn c.args.ids.now told read) (sym (rw c.deref.ensures.value at c.in_ok-found.ensures)) (agree_self c.args.ids.now told)
