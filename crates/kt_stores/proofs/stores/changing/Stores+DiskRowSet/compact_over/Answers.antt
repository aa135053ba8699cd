use Rattle.std.proofs.Common.{◌≡◌, ◌++◌, List, map, length, length-append, refl, sym, ap, subst, ◌∙◌, arith, true}
use Rattle.std.specs.Prelude.{take, drop}
use Rattle.std.specs.List.{filter}
use Rattle.std.proofs.lemmas.List.{map-append}
use Rattle.kt_diskrowset.specs.declared.rowset.DiskRowSet.{DiskRowSet}
use Rattle.kt_diskrowset.specs.Rowset.{IsStore, Owns, name_of, held_of, store_of, cells_had}
use Rattle.kt_diskrowset.proofs.Rowsets.{stays, is_placed}
use Rattle.kt_stores.specs.Leaving.{HaveLeft, AreNew, shelved_rowset, stays_beside}
use Rattle.kt_stores.specs.Ranges.{AreRanged}
use Rattle.kt_stores.specs.Shelf.{StoresView}
use Rattle.kt_stores.specs.Takes.{rowsets, left_on, files_left, shelf_over}
use Rattle.kt_stores.specs.Parts.{kept, shelf_of}
use Rattle.kt_stores.proofs.Changing.{read_either, kept_compacted, shelf_compacted, rowsets_stand, rowsets_apart, fewer_left, frozen_stays, files_stay}
use Rattle.kt_stores.proofs.Ordered.{count, length-shelf}
use Rattle.kt_stores.proofs.Standing.{stay}
use Rattle.kt_stores.proofs.Took.{kept_along}
use Rattle.kt_stores.proofs.stores.changing.Stores+DiskRowSet.compact_over.Goals as goal

pub leave_all-requires-clause-stand : goal.leave_all-requires-clause-stand
leave_all-requires-clause-stand c = let i = c.self.inside in rowsets_stand i.active i.frozen.items i.rowsets.items i.pool c.self.invariant.0.stand

pub leave_all-requires-clause-apart : goal.leave_all-requires-clause-apart
leave_all-requires-clause-apart c = let i = c.self.inside in rowsets_apart i.active i.frozen.items i.rowsets.items i.pool c.self.invariant.0.apart

pub leave-requires : goal.leave-requires
leave-requires c = subst (λ (rs : List DiskRowSet). AreRanged (map held_of rs) c.self.inside.ranges) (sym c.deref.ensures.value) c.self.invariant.2

pub come_behind-requires-clause-ranged : goal.come_behind-requires-clause-ranged
come_behind-requires-clause-ranged c =
    let i = c.self.inside in
    let left = subst (λ (rs : List DiskRowSet). AreRanged (map held_of (filter (stays_beside c.args.numbers.now) rs)) c.leave.new.self) c.deref.ensures.value c.leave.ensures in
    subst (λ (rs : List DiskRowSet). AreRanged (map held_of rs) c.leave.new.self) (sym c.leave_all.ensures.left) left

pub come_behind-requires-clause-room : goal.come_behind-requires-clause-room
come_behind-requires-clause-room c =
    let i = c.self.inside in
    let n = count i.active i.frozen.items i.rowsets.items in
    let m = length-shelf read_either i.pool (kept i.active i.frozen.items i.rowsets.items) in
    let v = ap (λ (v : StoresView). length v.shelf) c.self.view_is in
    let f = ap (λ (v : StoresView). v.frozen) c.self.view_is in
    let few = ap length c.leave_all.ensures.left in
    let fewer = fewer_left (stays_beside c.args.numbers.now) i.rowsets.items in
    let room = c.requires.room in
    omega arith

pub invariant_of-self : goal.invariant_of-self
invariant_of-self c =
    let i = c.self.inside in
    let still = stay IsStore Owns name_of store_of (λ s. true) cells_had stays is_placed in
    let fresh = subst (λ (v : StoresView). AreNew v.pool c.args.outputs.items) (sym c.self.view_is) c.requires.outputs in
    let left = filter (stays_beside c.args.numbers.now) i.rowsets.items in
    let is : c.come_behind.new.rowsets.items ≡ left ++ c.args.outputs.items = c.come_behind.ensures.rowsets ∙ ap (λ rs. rs ++ c.args.outputs.items) c.leave_all.ensures.left in
    let gone = subst (λ rs. HaveLeft IsStore Owns shelved_rowset i.rowsets.items rs i.pool c.leave_all.new.pool) c.leave_all.ensures.left c.leave_all.ensures.gone in
    let n = count i.active i.frozen.items i.rowsets.items in
    let m = length-shelf read_either i.pool (kept i.active i.frozen.items i.rowsets.items) in
    let v = ap (λ (v : StoresView). length v.shelf) c.self.view_is in
    let l = ap length is ∙ length-append left c.args.outputs.items in
    let fewer = fewer_left (stays_beside c.args.numbers.now) i.rowsets.items in
    let few = c.requires.few in (
      kept_along IsStore Owns shelved_rowset i.active i.frozen.items i.frozen.items (left ++ c.args.outputs.items) c.come_behind.new.rowsets.items c.leave_all.new.pool refl (sym is)
          (kept_compacted still i.active i.frozen.items i.rowsets.items c.args.outputs.items i.pool c.leave_all.new.pool c.self.invariant.0 fresh c.args.numbers.now gone),
      omega arith,
      c.come_behind.ensures.ranged,
    )

pub returns-clause-shelf : goal.returns-clause-shelf
returns-clause-shelf c =
    let i = c.self.inside in
    let still = stay IsStore Owns name_of store_of (λ s. true) cells_had stays is_placed in
    let fresh = subst (λ (v : StoresView). AreNew v.pool c.args.outputs.items) (sym c.self.view_is) c.requires.outputs in
    let left = filter (stays_beside c.args.numbers.now) i.rowsets.items in
    let is : c.come_behind.new.rowsets.items ≡ left ++ c.args.outputs.items = c.come_behind.ensures.rowsets ∙ ap (λ rs. rs ++ c.args.outputs.items) c.leave_all.ensures.left in
    let gone = subst (λ rs. HaveLeft IsStore Owns shelved_rowset i.rowsets.items rs i.pool c.leave_all.new.pool) c.leave_all.ensures.left c.leave_all.ensures.gone in
    ap (λ rs. shelf_of read_either c.leave_all.new.pool (kept i.active i.frozen.items rs)) is
    ∙ shelf_compacted still i.active i.frozen.items i.rowsets.items c.args.outputs.items i.pool c.leave_all.new.pool c.self.invariant.0 fresh c.args.numbers.now gone
    ∙ ap (λ (v : StoresView). shelf_over (rowsets c.args.numbers.now) (map (λ r. shelved_rowset r v.pool) c.args.outputs.items) v.shelf) c.self.view_is

pub returns-clause-frozen : goal.returns-clause-frozen
returns-clause-frozen c =
    let i = c.self.inside in
    frozen_stays c.args.numbers.now i.active i.frozen.items i.rowsets.items i.pool ∙ ap (λ (v : StoresView). length (left_on (rowsets c.args.numbers.now) (take v.frozen (drop 1 v.shelf)))) c.self.view_is

pub returns-clause-files : goal.returns-clause-files
returns-clause-files c =
    let i = c.self.inside in
    let left = filter (stays_beside c.args.numbers.now) i.rowsets.items in
    ap (map held_of) (c.come_behind.ensures.rowsets ∙ ap (λ rs. rs ++ c.args.outputs.items) c.leave_all.ensures.left) ∙ map-append held_of left c.args.outputs.items
    ∙ ap (λ files. files ++ map held_of c.args.outputs.items) (files_stay c.args.numbers.now i.rowsets.items)
    ∙ ap (λ (v : StoresView). files_left (rowsets c.args.numbers.now) v.files ++ map held_of c.args.outputs.items) c.self.view_is
