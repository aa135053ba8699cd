use Rattle.std.proofs.Common.{◌≡◌, ◌-◌, ◌∙◌, ℕ, true, refl, sym, ap, map, length-set, arith}
use Rattle.kt_diskrowset.specs.Rowset.{HeldFiles, IsStore, Owns, held_of, name_of, store_of, cells_had}
use Rattle.kt_diskrowset.specs.Data.{held_in, store_in}
use Rattle.kt_diskrowset.specs.Held.{keys_held}
use Rattle.kt_histlaws.specs.Histories.{on_nth}
use Rattle.kt_diskrowset.proofs.Rowsets.{stays, is_placed}
use Rattle.kt_stores.specs.Shelf.{StoresView, stores_of, names_of}
use Rattle.kt_stores.specs.Parts.{shelved}
use Rattle.kt_stores.proofs.Either.{placed_by}
use Rattle.kt_stores.proofs.Standing.{stay}
use Rattle.kt_stores.proofs.Reaching.{place, low, stands_here, stored_here, named_here}
use Rattle.kt_stores.proofs.Freezing.{settled_shrunk}
use Rattle.kt_stores.proofs.Ranged.{keys_settled, ranged_settled}
use Rattle.kt_stores.proofs.Rewritten.{kept_now, stores_now, names_now, some_same, filed_now}
use Rattle.kt_stores.proofs.stores.rewriting.Stores+DiskRowSet.settle.Goals as goal

pub settle-requires-clause-stands : goal.settle-requires-clause-stands
settle-requires-clause-stands c =
    let i = c.self.inside in
    stands_here IsStore Owns (shelved name_of store_of (λ s. true) cells_had) i.active i.frozen.items i.rowsets.items i.pool c.args.self.now c.self.view_is c.self.invariant.0 c.args.at c.frozen-memory.result c.frozen-memory.ensures c.requires.behind c.requires.within c.index_mut.result.now c.index_mut.ensures.value

pub settle-requires-clause-number : goal.settle-requires-clause-number
settle-requires-clause-number c =
    let i = c.self.inside in
    (c.requires.number.0, some_same (name_of c.index_mut.result.now) _ (sym (named_here IsStore Owns (shelved name_of store_of (λ s. true) cells_had) i.active i.frozen.items i.rowsets.items i.pool c.args.self.now c.self.view_is c.self.invariant.0 c.args.at c.frozen-memory.result c.frozen-memory.ensures c.requires.behind c.requires.within c.index_mut.result.now c.index_mut.ensures.value) ∙ c.requires.number.1))

pub settle-requires-clause-store : goal.settle-requires-clause-store
settle-requires-clause-store c =
    let i = c.self.inside in
    some_same _ _ (sym c.requires.store ∙ stored_here IsStore Owns (shelved name_of store_of (λ s. true) cells_had) i.active i.frozen.items i.rowsets.items i.pool c.args.self.now c.self.view_is c.self.invariant.0 c.args.at c.frozen-memory.result c.frozen-memory.ensures c.requires.behind c.requires.within c.index_mut.result.now c.index_mut.ensures.value)

pub invariant_of-self : goal.invariant_of-self
invariant_of-self c =
    let i = c.self.inside in
    let j = c.args.at - 1 - c.frozen-memory.result in
    let x = c.index_mut.result.now in
    let y = c.settle.new.self in
    let is = c.index_mut.ensures.value in
    let st = stands_here IsStore Owns (shelved name_of store_of (λ s. true) cells_had) i.active i.frozen.items i.rowsets.items i.pool c.args.self.now c.self.view_is c.self.invariant.0 c.args.at c.frozen-memory.result c.frozen-memory.ensures c.requires.behind c.requires.within x is in
    let told : store_in c.args.rowset ≡ store_of c.index_mut.result.now c.self.inside.pool = some_same _ _ (sym c.requires.store ∙ stored_here IsStore Owns (shelved name_of store_of (λ s. true) cells_had) i.active i.frozen.items i.rowsets.items i.pool c.args.self.now c.self.view_is c.self.invariant.0 c.args.at c.frozen-memory.result c.frozen-memory.ensures c.requires.behind c.requires.within x is) in
    let keys : keys_held (held_of c.settle.new.self) ≡ keys_held (held_of c.index_mut.result.now) = ap keys_held c.settle.ensures.held ∙ keys_settled c.args.rowset x i.pool told in
    (kept_now IsStore Owns (shelved name_of store_of (λ s. true) cells_had) (stay IsStore Owns name_of store_of (λ s. true) cells_had stays is_placed) (placed_by IsStore Owns (shelved name_of store_of (λ s. true) cells_had) is_placed) i.active i.frozen.items i.rowsets.items c.args.at j x y i.pool c.settle.new.pool (place IsStore Owns (shelved name_of store_of (λ s. true) cells_had) i.active i.frozen.items i.rowsets.items i.pool c.args.self.now c.self.view_is c.self.invariant.0 c.args.at c.frozen-memory.result c.frozen-memory.ensures c.requires.behind c.requires.within) (low IsStore Owns (shelved name_of store_of (λ s. true) cells_had) i.active i.frozen.items i.rowsets.items i.pool c.args.self.now c.self.view_is c.self.invariant.0 c.args.at c.frozen-memory.result c.frozen-memory.ensures c.requires.behind c.requires.within) is c.self.invariant.0 (settled_shrunk x y i.pool c.settle.new.pool c.settle.ensures.settled) c.settle.ensures.settled.cells refl c.settle.ensures.settled.store (λ none. let few = c.settle.ensures.settled.fewer in omega (arith, few, none)), (let many = length-set i.rowsets.items j y in let few = c.self.invariant.1 in omega (arith, many, few)), ranged_settled held_of i.rowsets.items j x y i.ranges (low IsStore Owns (shelved name_of store_of (λ s. true) cells_had) i.active i.frozen.items i.rowsets.items i.pool c.args.self.now c.self.view_is c.self.invariant.0 c.args.at c.frozen-memory.result c.frozen-memory.ensures c.requires.behind c.requires.within) is keys c.self.invariant.2)

pub returns-clause-stores : goal.returns-clause-stores
returns-clause-stores c =
    let i = c.self.inside in
    let j = c.args.at - 1 - c.frozen-memory.result in
    let x = c.index_mut.result.now in
    let y = c.settle.new.self in
    let is = c.index_mut.ensures.value in
    let st = stands_here IsStore Owns (shelved name_of store_of (λ s. true) cells_had) i.active i.frozen.items i.rowsets.items i.pool c.args.self.now c.self.view_is c.self.invariant.0 c.args.at c.frozen-memory.result c.frozen-memory.ensures c.requires.behind c.requires.within x is in
    stores_now IsStore Owns (shelved name_of store_of (λ s. true) cells_had) (stay IsStore Owns name_of store_of (λ s. true) cells_had stays is_placed) (placed_by IsStore Owns (shelved name_of store_of (λ s. true) cells_had) is_placed) i.active i.frozen.items i.rowsets.items c.args.at j x y i.pool c.settle.new.pool (place IsStore Owns (shelved name_of store_of (λ s. true) cells_had) i.active i.frozen.items i.rowsets.items i.pool c.args.self.now c.self.view_is c.self.invariant.0 c.args.at c.frozen-memory.result c.frozen-memory.ensures c.requires.behind c.requires.within) (low IsStore Owns (shelved name_of store_of (λ s. true) cells_had) i.active i.frozen.items i.rowsets.items i.pool c.args.self.now c.self.view_is c.self.invariant.0 c.args.at c.frozen-memory.result c.frozen-memory.ensures c.requires.behind c.requires.within) is c.self.invariant.0 (settled_shrunk x y i.pool c.settle.new.pool c.settle.ensures.settled) c.settle.ensures.settled.cells refl c.settle.ensures.settled.store (λ none. let few = c.settle.ensures.settled.fewer in omega (arith, few, none)) ∙ ap (λ (v : StoresView). stores_of v) c.self.view_is

pub returns-clause-names : goal.returns-clause-names
returns-clause-names c =
    let i = c.self.inside in
    let j = c.args.at - 1 - c.frozen-memory.result in
    let x = c.index_mut.result.now in
    let y = c.settle.new.self in
    let is = c.index_mut.ensures.value in
    let st = stands_here IsStore Owns (shelved name_of store_of (λ s. true) cells_had) i.active i.frozen.items i.rowsets.items i.pool c.args.self.now c.self.view_is c.self.invariant.0 c.args.at c.frozen-memory.result c.frozen-memory.ensures c.requires.behind c.requires.within x is in
    names_now IsStore Owns (shelved name_of store_of (λ s. true) cells_had) (stay IsStore Owns name_of store_of (λ s. true) cells_had stays is_placed) (placed_by IsStore Owns (shelved name_of store_of (λ s. true) cells_had) is_placed) i.active i.frozen.items i.rowsets.items c.args.at j x y i.pool c.settle.new.pool (place IsStore Owns (shelved name_of store_of (λ s. true) cells_had) i.active i.frozen.items i.rowsets.items i.pool c.args.self.now c.self.view_is c.self.invariant.0 c.args.at c.frozen-memory.result c.frozen-memory.ensures c.requires.behind c.requires.within) (low IsStore Owns (shelved name_of store_of (λ s. true) cells_had) i.active i.frozen.items i.rowsets.items i.pool c.args.self.now c.self.view_is c.self.invariant.0 c.args.at c.frozen-memory.result c.frozen-memory.ensures c.requires.behind c.requires.within) is c.self.invariant.0 (settled_shrunk x y i.pool c.settle.new.pool c.settle.ensures.settled) c.settle.ensures.settled.cells refl c.settle.ensures.settled.store (λ none. let few = c.settle.ensures.settled.fewer in omega (arith, few, none)) c.settle.ensures.settled.name ∙ ap (λ (v : StoresView). names_of v.shelf) c.self.view_is

pub returns-clause-files : goal.returns-clause-files
returns-clause-files c =
    let i = c.self.inside in
    let j = c.args.at - 1 - c.frozen-memory.result in
    let e : c.args.at - 1 - c.frozen-memory.result ≡ c.args.at - 1 - c.args.self.now.frozen = ap (λ (n : ℕ). c.args.at - 1 - n) c.frozen-memory.ensures in
    filed_now held_of i.rowsets.items j c.settle.new.self ∙ ap (λ (h : HeldFiles). on_nth j (λ _. h) (map held_of i.rowsets.items)) c.settle.ensures.held
    ∙ ap (λ (n : ℕ). on_nth n (λ _. held_in c.args.rowset) (map held_of i.rowsets.items)) e ∙ ap (λ (v : StoresView). on_nth (c.args.at - 1 - c.args.self.now.frozen) (λ _. held_in c.args.rowset) v.files) c.self.view_is
