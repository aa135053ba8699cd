use Rattle.std.proofs.Common.{◌∙◌, ◌++◌, ◌∷◌, [], ℕ, List, ap, sym, subst}
use Rattle.std.proofs.lemmas.Result.{IfOk-weaker}
use Rattle.kt_dms.specs.declared.store.DeltaMem.{DeltaMem}
use Rattle.kt_history.specs.declared.changes.Delta.{Delta}
use Rattle.kt_rowfiles.specs.Files.{records_for}
use Rattle.kt_diskrowset.specs.Mems.{AllStand}
use Rattle.kt_diskrowset.proofs.Beside.{stand_front, last_stands}
use Rattle.kt_diskrowset.proofs.Reading.{upto_in, one_read, next_read}
use Rattle.kt_diskrowset.proofs.rowset.DiskRowSet.all_fresh.Goals as goal

pub list_all-requires : goal.list_all-requires
list_all-requires c = subst (AllStand c.args.pool.now) (sym c.deref.ensures.value) (stand_front c.args.pool.now c.args.self.now.frozen.items (c.args.self.now.active ∷ []) c.requires.stand)

pub list_changes-requires : goal.list_changes-requires
list_changes-requires c = last_stands c.args.pool.now c.args.self.now.frozen.items c.args.self.now.active c.requires.stand

pub returns-clause-rows : goal.returns-clause-rows
returns-clause-rows c =
    let s = c.args.self.now in
    let pool = c.args.pool.now in
    let first = λ (n : ℕ).
    c.in_ok-list_all.ensures n ∙ ap (λ (old : List Delta). records_for n old ++ upto_in pool n c.args.upto c.deref.result.now) c.new-list.ensures.items
    ∙ ap (λ (ms : List DeltaMem). upto_in pool n c.args.upto ms) c.deref.ensures.value in
    IfOk-weaker c.in_order.result _ _
    (λ list told n. told n ∙ next_read pool c.args.upto n s.frozen.items s.active [] c.list_all.new.list.items c.list_changes.new.list.items (first n)
    (one_read pool c.args.upto n s.active c.list_all.new.list.items c.list_changes.new.list.items c.in_ok-list_changes.ensures)) c.in_order.ensures.rows
