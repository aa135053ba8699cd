use Rattle.std.proofs.Common.{◌-◌, ◌∙◌, List, true, refl, sym, ap, subst, length, length-set, arith}
use Rattle.kt_histlaws.specs.Histories.{on_nth}
use Rattle.kt_diskrowset.specs.Rowset.{HeldFiles, IsStore, Owns, held_of, name_of, store_of, cells_had}
use Rattle.kt_diskrowset.proofs.Rowsets.{stays, is_placed}
use Rattle.kt_stores.specs.Shelf.{StoresView, Shelved, renamed}
use Rattle.kt_stores.specs.Parts.{shelved}
use Rattle.kt_stores.specs.Ranges.{AreRanged}
use Rattle.kt_stores.proofs.Either.{placed_by}
use Rattle.kt_stores.proofs.Standing.{stay}
use Rattle.kt_stores.proofs.Reaching.{place, low, stands_here}
use Rattle.kt_stores.proofs.Freezing.{frozen_shrunk, frozen_read, same_shrunk, same_read, on_err}
use Rattle.kt_stores.proofs.Rewritten.{kept_now, renamed_now, unchanged_now, filed_same}
use Rattle.kt_stores.proofs.stores.rewriting.Stores+DiskRowSet.freeze_deltas.Goals as goal

pub invariant_of-self : goal.invariant_of-self
invariant_of-self c =
    let i = c.self.inside in
    let j = c.args.at - 1 - c.frozen-memory.result in
    let x = c.index_mut.result.now in
    let y = c.freeze.new.self in
    let is = c.index_mut.ensures.value in
    let st = stands_here IsStore Owns (shelved name_of store_of (λ s. true) cells_had) i.active i.frozen.items i.rowsets.items i.pool c.args.self.now c.self.view_is c.self.invariant.0 c.args.at c.frozen-memory.result c.frozen-memory.ensures c.requires.behind c.requires.within x is in
    (kept_now IsStore Owns (shelved name_of store_of (λ s. true) cells_had) (stay IsStore Owns name_of store_of (λ s. true) cells_had stays is_placed) (placed_by IsStore Owns (shelved name_of store_of (λ s. true) cells_had) is_placed) i.active i.frozen.items i.rowsets.items c.args.at j x y i.pool i.pool (place IsStore Owns (shelved name_of store_of (λ s. true) cells_had) i.active i.frozen.items i.rowsets.items i.pool c.args.self.now c.self.view_is c.self.invariant.0 c.args.at c.frozen-memory.result c.frozen-memory.ensures c.requires.behind c.requires.within) (low IsStore Owns (shelved name_of store_of (λ s. true) cells_had) i.active i.frozen.items i.rowsets.items i.pool c.args.self.now c.self.view_is c.self.invariant.0 c.args.at c.frozen-memory.result c.frozen-memory.ensures c.requires.behind c.requires.within) is c.self.invariant.0 (same_shrunk x y i.pool (λ s. true) refl st c.in_err-freeze.ensures.err) (let e = ap (λ (s : Shelved). s.cells) (same_read x y i.pool (λ s. true) refl st c.in_err-freeze.ensures.err) in omega (arith, e)) refl (ap (λ (s : Shelved). s.store) (same_read x y i.pool (λ s. true) refl st c.in_err-freeze.ensures.err)) (λ none. ap (λ (s : Shelved). s.cells) (same_read x y i.pool (λ s. true) refl st c.in_err-freeze.ensures.err) ∙ none), (let many = length-set i.rowsets.items j y in let few = c.self.invariant.1 in omega (arith, many, few)), subst (λ (fs : List HeldFiles). AreRanged fs i.ranges) (sym (filed_same held_of i.rowsets.items j x y (low IsStore Owns (shelved name_of store_of (λ s. true) cells_had) i.active i.frozen.items i.rowsets.items i.pool c.args.self.now c.self.view_is c.self.invariant.0 c.args.at c.frozen-memory.result c.frozen-memory.ensures c.requires.behind c.requires.within) is c.in_err-freeze.ensures.err.held)) c.self.invariant.2)

pub invariant_of-self-2 : goal.invariant_of-self-2
invariant_of-self-2 c =
    let i = c.self.inside in
    let j = c.args.at - 1 - c.frozen-memory.result in
    let x = c.index_mut.result.now in
    let y = c.freeze.new.self in
    let is = c.index_mut.ensures.value in
    let st = stands_here IsStore Owns (shelved name_of store_of (λ s. true) cells_had) i.active i.frozen.items i.rowsets.items i.pool c.args.self.now c.self.view_is c.self.invariant.0 c.args.at c.frozen-memory.result c.frozen-memory.ensures c.requires.behind c.requires.within x is in
    (kept_now IsStore Owns (shelved name_of store_of (λ s. true) cells_had) (stay IsStore Owns name_of store_of (λ s. true) cells_had stays is_placed) (placed_by IsStore Owns (shelved name_of store_of (λ s. true) cells_had) is_placed) i.active i.frozen.items i.rowsets.items c.args.at j x y i.pool i.pool (place IsStore Owns (shelved name_of store_of (λ s. true) cells_had) i.active i.frozen.items i.rowsets.items i.pool c.args.self.now c.self.view_is c.self.invariant.0 c.args.at c.frozen-memory.result c.frozen-memory.ensures c.requires.behind c.requires.within) (low IsStore Owns (shelved name_of store_of (λ s. true) cells_had) i.active i.frozen.items i.rowsets.items i.pool c.args.self.now c.self.view_is c.self.invariant.0 c.args.at c.frozen-memory.result c.frozen-memory.ensures c.requires.behind c.requires.within) is c.self.invariant.0 (frozen_shrunk x y i.pool (λ s. true) refl st c.args.dms c.in_ok-freeze.ensures.ok) (let e = ap (λ (s : Shelved). s.cells) (frozen_read x y i.pool (λ s. true) refl st c.args.dms c.in_ok-freeze.ensures.ok) in omega (arith, e)) refl (ap (λ (s : Shelved). s.store) (frozen_read x y i.pool (λ s. true) refl st c.args.dms c.in_ok-freeze.ensures.ok)) (λ none. ap (λ (s : Shelved). s.cells) (frozen_read x y i.pool (λ s. true) refl st c.args.dms c.in_ok-freeze.ensures.ok) ∙ none), (let many = length-set i.rowsets.items j y in let few = c.self.invariant.1 in omega (arith, many, few)), subst (λ (fs : List HeldFiles). AreRanged fs i.ranges) (sym (filed_same held_of i.rowsets.items j x y (low IsStore Owns (shelved name_of store_of (λ s. true) cells_had) i.active i.frozen.items i.rowsets.items i.pool c.args.self.now c.self.view_is c.self.invariant.0 c.args.at c.frozen-memory.result c.frozen-memory.ensures c.requires.behind c.requires.within) is c.in_ok-freeze.ensures.ok.held)) c.self.invariant.2)

pub returns-clause-ok : goal.returns-clause-ok
returns-clause-ok c =
    let i = c.self.inside in
    let j = c.args.at - 1 - c.frozen-memory.result in
    let x = c.index_mut.result.now in
    let y = c.freeze.new.self in
    let is = c.index_mut.ensures.value in
    let st = stands_here IsStore Owns (shelved name_of store_of (λ s. true) cells_had) i.active i.frozen.items i.rowsets.items i.pool c.args.self.now c.self.view_is c.self.invariant.0 c.args.at c.frozen-memory.result c.frozen-memory.ensures c.requires.behind c.requires.within x is in
    let shelf = renamed_now IsStore Owns (shelved name_of store_of (λ s. true) cells_had) (stay IsStore Owns name_of store_of (λ s. true) cells_had stays is_placed) (placed_by IsStore Owns (shelved name_of store_of (λ s. true) cells_had) is_placed) i.active i.frozen.items i.rowsets.items c.args.at j x y i.pool i.pool (place IsStore Owns (shelved name_of store_of (λ s. true) cells_had) i.active i.frozen.items i.rowsets.items i.pool c.args.self.now c.self.view_is c.self.invariant.0 c.args.at c.frozen-memory.result c.frozen-memory.ensures c.requires.behind c.requires.within) (low IsStore Owns (shelved name_of store_of (λ s. true) cells_had) i.active i.frozen.items i.rowsets.items i.pool c.args.self.now c.self.view_is c.self.invariant.0 c.args.at c.frozen-memory.result c.frozen-memory.ensures c.requires.behind c.requires.within) is c.self.invariant.0 (frozen_shrunk x y i.pool (λ s. true) refl st c.args.dms c.in_ok-freeze.ensures.ok) (let e = ap (λ (s : Shelved). s.cells) (frozen_read x y i.pool (λ s. true) refl st c.args.dms c.in_ok-freeze.ensures.ok) in omega (arith, e)) refl (ap (λ (s : Shelved). s.store) (frozen_read x y i.pool (λ s. true) refl st c.args.dms c.in_ok-freeze.ensures.ok)) (λ none. ap (λ (s : Shelved). s.cells) (frozen_read x y i.pool (λ s. true) refl st c.args.dms c.in_ok-freeze.ensures.ok) ∙ none) (renamed c.args.dms) (frozen_read x y i.pool (λ s. true) refl st c.args.dms c.in_ok-freeze.ensures.ok) in
    let files = filed_same held_of i.rowsets.items j x y (low IsStore Owns (shelved name_of store_of (λ s. true) cells_had) i.active i.frozen.items i.rowsets.items i.pool c.args.self.now c.self.view_is c.self.invariant.0 c.args.at c.frozen-memory.result c.frozen-memory.ensures c.requires.behind c.requires.within) is c.in_ok-freeze.ensures.ok.held in
    (λ k. record { pool = i.pool; shelf = shelf k; frozen = length i.frozen.items; files = files k }) ∙ ap (λ (v : StoresView). record v { shelf = on_nth c.args.at (renamed c.args.dms) v.shelf }) c.self.view_is

pub returns-in_err-freeze-clause-err : goal.returns-in_err-freeze-clause-err
returns-in_err-freeze-clause-err c =
    let i = c.self.inside in
    let j = c.args.at - 1 - c.frozen-memory.result in
    let x = c.index_mut.result.now in
    let y = c.freeze.new.self in
    let is = c.index_mut.ensures.value in
    let st = stands_here IsStore Owns (shelved name_of store_of (λ s. true) cells_had) i.active i.frozen.items i.rowsets.items i.pool c.args.self.now c.self.view_is c.self.invariant.0 c.args.at c.frozen-memory.result c.frozen-memory.ensures c.requires.behind c.requires.within x is in
    let shelf = unchanged_now IsStore Owns (shelved name_of store_of (λ s. true) cells_had) (stay IsStore Owns name_of store_of (λ s. true) cells_had stays is_placed) (placed_by IsStore Owns (shelved name_of store_of (λ s. true) cells_had) is_placed) i.active i.frozen.items i.rowsets.items c.args.at j x y i.pool i.pool (place IsStore Owns (shelved name_of store_of (λ s. true) cells_had) i.active i.frozen.items i.rowsets.items i.pool c.args.self.now c.self.view_is c.self.invariant.0 c.args.at c.frozen-memory.result c.frozen-memory.ensures c.requires.behind c.requires.within) (low IsStore Owns (shelved name_of store_of (λ s. true) cells_had) i.active i.frozen.items i.rowsets.items i.pool c.args.self.now c.self.view_is c.self.invariant.0 c.args.at c.frozen-memory.result c.frozen-memory.ensures c.requires.behind c.requires.within) is c.self.invariant.0 (same_shrunk x y i.pool (λ s. true) refl st c.in_err-freeze.ensures.err) (let e = ap (λ (s : Shelved). s.cells) (same_read x y i.pool (λ s. true) refl st c.in_err-freeze.ensures.err) in omega (arith, e)) refl (ap (λ (s : Shelved). s.store) (same_read x y i.pool (λ s. true) refl st c.in_err-freeze.ensures.err)) (λ none. ap (λ (s : Shelved). s.cells) (same_read x y i.pool (λ s. true) refl st c.in_err-freeze.ensures.err) ∙ none) (same_read x y i.pool (λ s. true) refl st c.in_err-freeze.ensures.err) in
    let files = filed_same held_of i.rowsets.items j x y (low IsStore Owns (shelved name_of store_of (λ s. true) cells_had) i.active i.frozen.items i.rowsets.items i.pool c.args.self.now c.self.view_is c.self.invariant.0 c.args.at c.frozen-memory.result c.frozen-memory.ensures c.requires.behind c.requires.within) is c.in_err-freeze.ensures.err.held in
    on_err c.from_residual.result ((λ k. record { pool = i.pool; shelf = shelf k; frozen = length i.frozen.items; files = files k }) ∙ c.self.view_is)
