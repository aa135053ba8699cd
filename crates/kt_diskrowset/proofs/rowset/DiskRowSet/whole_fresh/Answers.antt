use Rattle.std.proofs.Common.{◌∙◌, ◌++◌, ◌∷◌, [], ℕ, List, ap, sym, subst}
use Rattle.std.proofs.lemmas.Result.{IfOk-weaker}
use Rattle.kt_dms.specs.declared.store.DeltaMem.{DeltaMem}
use Rattle.kt_history.specs.declared.changes.Delta.{Delta}
use Rattle.kt_rowfiles.specs.Files.{records_for}
use Rattle.kt_diskrowset.specs.Mems.{AllStand, steps_in_mems}
use Rattle.kt_diskrowset.proofs.Beside.{stand_front, last_stands}
use Rattle.kt_diskrowset.proofs.Wholes.{one_whole, next_whole}
use Rattle.kt_diskrowset.proofs.rowset.DiskRowSet.whole_fresh.Goals as goal

pub list_wholes-requires : goal.list_wholes-requires
list_wholes-requires c = subst (AllStand c.args.pool.now) (sym c.deref.ensures.value) (stand_front c.args.pool.now c.args.self.now.frozen.items (c.args.self.now.active ∷ []) c.requires.stand)

pub list_whole-requires : goal.list_whole-requires
list_whole-requires c = last_stands c.args.pool.now c.args.self.now.frozen.items c.args.self.now.active c.requires.stand

pub returns-clause-rows : goal.returns-clause-rows
returns-clause-rows c =
    let s = c.args.self.now in
    let pool = c.args.pool.now in
    let first = λ (n : ℕ).
    c.in_ok-list_wholes.ensures n ∙ ap (λ (old : List Delta). records_for n old ++ steps_in_mems pool n c.deref.result.now) c.new-list.ensures.items
    ∙ ap (λ (ms : List DeltaMem). steps_in_mems pool n ms) c.deref.ensures.value in
    IfOk-weaker c.in_order.result _ _
    (λ list told n. told n ∙ next_whole pool n s.frozen.items s.active [] c.list_wholes.new.list.items c.list_whole.new.list.items (first n)
    (one_whole pool n s.active c.list_wholes.new.list.items c.list_whole.new.list.items c.in_ok-list_whole.ensures)) c.in_order.ensures.rows
