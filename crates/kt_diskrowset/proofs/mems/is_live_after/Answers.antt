use Rattle.std.proofs.Common.{◌∙◌, Option, refl, sym, ap}
use Rattle.std.specs.Prelude.{is_some}
use Rattle.kt_history.specs.Rows.{Row}
use Rattle.kt_history.specs.Stores.{apply_all}
use Rattle.kt_dms.specs.Stores.{deltas_of, steps_for}
use Rattle.kt_diskrowset.specs.Mems.{steps_in_mems}
use Rattle.kt_diskrowset.proofs.MemsInTurn.{store_at, store_stands, live_more, live_over}
use Rattle.kt_diskrowset.proofs.mems.is_live_after.Goals as goal

pub mems-init : goal.mems-init
mems-init c = λ row e. (row, e, refl)

pub live-live-requires : goal.live-live-requires
live-live-requires c = store_stands c.args.pool.now c.args.mems.now c.mems.mem-index c.requires c.mems-test.true

pub mems-preserved : goal.mems-preserved
mems-preserved c = λ row e.
    let so_far = c.mems.invariant row e in (
      apply_all (steps_for c.args.ordinal (deltas_of (store_at c.args.mems.now c.mems.mem-index) c.args.pool.now)) so_far.0,
      sym (c.live-live.ensures so_far.0 so_far.1),
      live_more c.args.pool.now c.args.ordinal c.args.mems.now c.mems.mem-index c.mems-test.true so_far.0 (apply_all (steps_in_mems c.args.pool.now c.args.ordinal c.args.mems.now) row) so_far.2,
    )

pub returns : goal.returns
returns c = λ row e.
    let so_far = c.mems.invariant row e in
    sym so_far.1 ∙ ap (λ (r : Option Row). is_some r) (live_over c.args.pool.now c.args.ordinal c.args.mems.now c.mems.mem-index so_far.0 (apply_all (steps_in_mems c.args.pool.now c.args.ordinal c.args.mems.now) row) c.mems-test.false so_far.2)
