use Rattle.std.proofs.Common.{◌∙◌, ◌++◌, List, ap, sym, take}
use Rattle.kt_dms.specs.declared.store.DeltaMem.{DeltaMem}
use Rattle.kt_rowfiles.specs.Files.{records_for}
use Rattle.kt_diskrowset.specs.Mems.{steps_in_mems}
use Rattle.kt_diskrowset.proofs.Copying.{take_more}
use Rattle.kt_diskrowset.proofs.MemsInTurn.{blank, store_at, store_stands}
use Rattle.kt_diskrowset.proofs.Wholes.{one_whole, next_whole}
use Rattle.kt_diskrowset.proofs.rowset.rewriting.list_wholes.Goals as goal

pub list_whole-requires : goal.list_whole-requires
list_whole-requires c = store_stands c.args.pool.now c.args.mems.now c.mems.mem-index c.requires c.mems-test.true

pub mems-preserved : goal.mems-preserved
mems-preserved c = λ n.
    let mems = c.args.mems.now in
    let i = c.mems.mem-index in
    let pool = c.args.pool.now in
    next_whole pool n (take i mems) (store_at mems i) c.args.list.now.items c.mems.list.items c.list_whole.new.list.items (c.mems.invariant n)
    (one_whole pool n (store_at mems i) c.mems.list.items c.list_whole.new.list.items c.in_ok-list_whole.ensures)
    ∙ ap (λ (ms : List DeltaMem). records_for n c.args.list.now.items ++ steps_in_mems pool n ms) (sym (take_more mems i blank c.mems-test.true))
