use Rattle.std.proofs.Common.{◌++◌, map, length, length-append, inr, sym, ap, subst, ◌∙◌, arith, true}
use Rattle.std.specs.Prelude.{take, drop}
use Rattle.std.specs.List.{filter}
use Rattle.std.proofs.lemmas.List.{map-append}
use Rattle.kt_diskrowset.specs.Rowset.{IsStore, Owns, name_of, held_of, store_of, cells_had}
use Rattle.kt_diskrowset.proofs.Rowsets.{stays, is_placed}
use Rattle.kt_stores.specs.Leaving.{HaveLeft, AreNew, shelved_rowset, stays_behind}
use Rattle.kt_stores.specs.Shelf.{StoresView}
use Rattle.kt_stores.specs.Takes.{mems, left_on, shelf_over}
use Rattle.kt_memrowset.specs.Stores as mem
use Rattle.kt_stores.specs.Parts.{kept, shelved_mem, shelf_of}
use Rattle.kt_stores.proofs.Changing.{read_either, kept_flushed, shelf_flushed, frozen_count}
use Rattle.kt_stores.proofs.Emptying.{frozen_in, frozen_apart}
use Rattle.kt_stores.proofs.Ordered.{count, length-shelf}
use Rattle.kt_stores.proofs.Standing.{stay}
use Rattle.kt_stores.proofs.Took.{kept_along}
use Rattle.kt_stores.proofs.stores.changing.Stores+DiskRowSet.change_over.Goals as goal

pub empty_upto-requires-clause-stand : goal.empty_upto-requires-clause-stand
empty_upto-requires-clause-stand c = let i = c.self.inside in frozen_in IsStore Owns shelved_rowset i.pool i.frozen.items (map inr i.rowsets.items) c.self.invariant.0.stand.1

pub empty_upto-requires-clause-apart : goal.empty_upto-requires-clause-apart
empty_upto-requires-clause-apart c = let i = c.self.inside in frozen_apart IsStore Owns shelved_rowset i.pool i.frozen.items (map inr i.rowsets.items) c.self.invariant.0.apart.1

pub come_behind-requires-clause-room : goal.come_behind-requires-clause-room
come_behind-requires-clause-room c =
    let i = c.self.inside in
    let n = count i.active i.frozen.items i.rowsets.items in
    let m = length-shelf read_either i.pool (kept i.active i.frozen.items i.rowsets.items) in
    let v = ap (λ (v : StoresView). length v.shelf) c.self.view_is in
    let f = ap (λ (v : StoresView). v.frozen) c.self.view_is in
    let room = c.requires.room in
    omega arith

pub invariant_of-self : goal.invariant_of-self
invariant_of-self c =
    let i = c.self.inside in
    let still = stay IsStore Owns name_of store_of (λ s. true) cells_had stays is_placed in
    let fresh = subst (λ (v : StoresView). AreNew v.pool c.args.outputs.items) (sym c.self.view_is) c.requires.outputs in
    let left = filter (stays_behind c.args.last) i.frozen.items in
    let gone = subst (λ fs. HaveLeft mem.IsStore mem.Owns shelved_mem i.frozen.items fs i.pool c.empty_upto.new.pool) c.empty_upto.ensures.left c.empty_upto.ensures.gone in
    let n = count i.active i.frozen.items i.rowsets.items in
    let m = length-shelf read_either i.pool (kept i.active i.frozen.items i.rowsets.items) in
    let v = ap (λ (v : StoresView). length v.shelf) c.self.view_is in
    let l = ap length c.come_behind.ensures.rowsets ∙ length-append i.rowsets.items c.args.outputs.items in
    let few = c.requires.few in (
      kept_along IsStore Owns shelved_rowset i.active left c.empty_upto.new.stores.items (i.rowsets.items ++ c.args.outputs.items) c.come_behind.new.rowsets.items c.empty_upto.new.pool (sym c.empty_upto.ensures.left) (sym c.come_behind.ensures.rowsets)
          (kept_flushed still i.active i.frozen.items i.rowsets.items c.args.outputs.items i.pool c.empty_upto.new.pool c.self.invariant.0 fresh c.args.last gone),
      omega arith,
      c.come_behind.ensures.ranged,
    )

pub returns-clause-shelf : goal.returns-clause-shelf
returns-clause-shelf c =
    let i = c.self.inside in
    let still = stay IsStore Owns name_of store_of (λ s. true) cells_had stays is_placed in
    let fresh = subst (λ (v : StoresView). AreNew v.pool c.args.outputs.items) (sym c.self.view_is) c.requires.outputs in
    let gone = subst (λ fs. HaveLeft mem.IsStore mem.Owns shelved_mem i.frozen.items fs i.pool c.empty_upto.new.pool) c.empty_upto.ensures.left c.empty_upto.ensures.gone in
    ap (λ fs. shelf_of read_either c.empty_upto.new.pool (kept i.active fs c.come_behind.new.rowsets.items)) c.empty_upto.ensures.left
    ∙ ap (λ rs. shelf_of read_either c.empty_upto.new.pool (kept i.active (filter (stays_behind c.args.last) i.frozen.items) rs)) c.come_behind.ensures.rowsets
    ∙ shelf_flushed still i.active i.frozen.items i.rowsets.items c.args.outputs.items i.pool c.empty_upto.new.pool c.self.invariant.0 fresh c.args.last gone
    ∙ ap (λ (v : StoresView). shelf_over (mems c.args.last) (map (λ r. shelved_rowset r v.pool) c.args.outputs.items) v.shelf) c.self.view_is

pub returns-clause-frozen : goal.returns-clause-frozen
returns-clause-frozen c =
    let i = c.self.inside in
    ap length c.empty_upto.ensures.left ∙ frozen_count c.args.last i.active i.frozen.items i.rowsets.items i.pool
    ∙ ap (λ (v : StoresView). length (left_on (mems c.args.last) (take v.frozen (drop 1 v.shelf)))) c.self.view_is

pub returns-clause-files : goal.returns-clause-files
returns-clause-files c =
    let i = c.self.inside in
    ap (map held_of) c.come_behind.ensures.rowsets ∙ map-append held_of i.rowsets.items c.args.outputs.items
    ∙ ap (λ (v : StoresView). v.files ++ map held_of c.args.outputs.items) c.self.view_is
