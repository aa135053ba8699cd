use Rattle.std.proofs.Common.{Some, [], ◌∷◌, refl, sym, subst}
use Rattle.kt_history.specs.Stores.{apply_all}
use Rattle.kt_rowfiles.specs.Files.{records_in, rising}
use Rattle.kt_diskrowset.specs.Files.{lists_of}
use Rattle.kt_diskrowset.specs.Mems.{AllStand, steps_in_mems}
use Rattle.kt_diskrowset.proofs.Beside.{stand_front, last_stands}
use Rattle.kt_diskrowset.proofs.Rowsets.{live_is}
use Rattle.kt_diskrowset.proofs.rowset.DiskRowSet.is_live.Goals as goal

pub is_live_after-in_frozen-requires : goal.is_live_after-in_frozen-requires
is_live_after-in_frozen-requires c = subst (AllStand c.args.pool.now) (sym c.deref.ensures.value) (stand_front c.args.pool.now c.args.self.now.frozen.items (c.args.self.now.active ∷ []) c.requires.stand)

pub live-requires : goal.live-requires
live-requires c = last_stands c.args.pool.now c.args.self.now.frozen.items c.args.self.now.active c.requires.stand

pub returns : goal.returns
returns c = λ q found at is.
    let before = apply_all (rising (records_in c.args.ordinal (lists_of c.args.self.now.redo))) (Some found.1) in
    let in_files = c.is_alive-in_files.ensures (Some found.1) refl in
    let in_frozen = c.is_live_after-in_frozen.ensures before (sym in_files) in
    let in_active = c.live.ensures (apply_all (steps_in_mems c.args.pool.now c.args.ordinal c.deref.result.now) before) (sym in_frozen) in
    live_is c.args.self.now c.args.pool.now c.requires q c.deref.result.now c.deref.ensures.value found c.args.ordinal c.live.result at is in_active
