use Rattle.std.proofs.Common.{◌≡◌, sym, ap, subst}
use Rattle.std.specs.Prelude.{IfOk}
use Rattle.kt_history.specs.Stores.{Hist, row_of}
use Rattle.kt_tree.specs.Entries.{value_of}
use Rattle.kt_tree.specs.Trees.{entries}
use Rattle.kt_memrowset.proofs.Rows.{get_some, get_none, row_alone, hist_there, hist_lacking}
use Rattle.kt_memrowset.proofs.store.MemRowSet.at.Goals as goal

pub row_at-requires : goal.row_at-requires
row_at-requires c =
    let f = get_some (value_of c.args.key.now (entries c.args.self.now.tree c.args.pool.now)) c.in-Some.first c.in-Some.ensures in
    row_alone c.args.self.now c.args.pool.now c.args.key.now c.in-Some.first.cell c.requires f

pub returns-in-None : goal.returns-in-None
returns-in-None c =
    let f = get_none (value_of c.args.key.now (entries c.args.self.now.tree c.args.pool.now)) c.in-None.ensures in
    let h = hist_lacking c.args.pool.now c.args.key.now (entries c.args.self.now.tree c.args.pool.now) f in
    sym (ap (row_of c.args.t) h)

pub returns-in-Some : goal.returns-in-Some
returns-in-Some c =
    let f = get_some (value_of c.args.key.now (entries c.args.self.now.tree c.args.pool.now)) c.in-Some.first c.in-Some.ensures in
    let h = hist_there c.args.pool.now c.args.key.now (entries c.args.self.now.tree c.args.pool.now) c.in-Some.first.cell f in
    subst (λ (x : Hist). IfOk c.row_at.result (λ row. row ≡ row_of c.args.t x)) (sym h) c.row_at.ensures
