use Rattle.std.proofs.Common.{Option, ℕ, List, take, sym, ap, ◌∙◌}
use Rattle.std.specs.Option.{option_or}
use Rattle.kt_dms.specs.Stores.{deltas_of, steps_for}
use Rattle.kt_dms.specs.declared.store.DeltaMem.{DeltaMem}
use Rattle.kt_diskrowset.specs.First.{first_above}
use Rattle.kt_diskrowset.specs.Mems.{steps_in_mems}
use Rattle.kt_diskrowset.proofs.Copying.{take_more}
use Rattle.kt_diskrowset.proofs.Firsts.{first_more}
use Rattle.kt_diskrowset.proofs.MemsInTurn.{blank, store_at, store_stands}
use Rattle.kt_diskrowset.proofs.rowset.first.first_in_mems.Goals as goal

pub or_first-found-requires : goal.or_first-found-requires
or_first-found-requires c = store_stands c.args.pool.now c.args.mems.now c.mems.mem-index c.requires c.mems-test.true

pub mems-preserved : goal.mems-preserved
mems-preserved c =
    let pool = c.args.pool.now in
    let n = c.args.ordinal in
    let mems = c.args.mems.now in
    let i = c.mems.mem-index in
    c.or_first-found.ensures
    ∙ ap (λ (found : Option ℕ). option_or found (first_above c.args.above (steps_for n (deltas_of (store_at mems i) pool)))) c.mems.invariant
    ∙ sym (first_more pool n c.args.above (take i mems) (store_at mems i))
    ∙ sym (ap (λ (ms : List DeltaMem). first_above c.args.above (steps_in_mems pool n ms)) (take_more mems i blank c.mems-test.true))
