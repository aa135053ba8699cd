use Rattle.std.proofs.Common.{◌∙◌, List, ap, sym, take}
use Rattle.kt_dms.specs.declared.store.DeltaMem.{DeltaMem}
use Rattle.kt_dms.specs.Stores.{deltas_of}
use Rattle.kt_diskrowset.specs.Mems.{steps_in_mems}
use Rattle.kt_diskrowset.proofs.Copying.{take_more}
use Rattle.kt_diskrowset.proofs.MemsInTurn.{blank, store_at, store_stands}
use Rattle.kt_diskrowset.proofs.Wholes.{none_more, none_here}
use Rattle.kt_diskrowset.proofs.rowset.rewriting.are_vacant.Goals as goal

pub mems-preserved : goal.mems-preserved
mems-preserved c = λ n.
    let mems = c.args.mems.now in
    let i = c.mems.mem-index in
    let pool = c.args.pool.now in
    let stands = store_stands pool mems i c.requires c.mems-test.true in
    let none = none_here (deltas_of (store_at mems i) pool) (sym (c.len.ensures pool stands) ∙ c.if-len-ne0.false) in
    ap (λ (ms : List DeltaMem). steps_in_mems pool n ms) (take_more mems i blank c.mems-test.true) ∙ none_more pool n (take i mems) (store_at mems i) (c.mems.invariant n) none
