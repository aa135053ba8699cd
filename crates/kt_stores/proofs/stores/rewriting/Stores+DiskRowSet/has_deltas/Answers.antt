use Rattle.std.proofs.Common.{true, Some, refl, sym, ap, ◌∙◌}
use Rattle.kt_history.specs.Stores.{Store}
use Rattle.kt_diskrowset.specs.Held.{store_told}
use Rattle.kt_diskrowset.specs.Rowset.{HeldFiles, IsStore, Owns, held_of, name_of, store_of, cells_had}
use Rattle.kt_stores.specs.Parts.{shelved}
use Rattle.kt_stores.proofs.Reaching.{stands_here, stored_here, filed_here}
use Rattle.kt_stores.proofs.Rewritten.{some_same}
use Rattle.kt_stores.proofs.stores.rewriting.Stores+DiskRowSet.has_deltas.Goals as goal

pub has_deltas-requires : goal.has_deltas-requires
has_deltas-requires c =
    let i = c.self.inside in
    stands_here IsStore Owns (shelved name_of store_of (λ s. true) cells_had) i.active i.frozen.items i.rowsets.items i.pool c.args.self.now c.self.view_is c.self.invariant.0 c.args.at c.frozen-memory.result c.frozen-memory.ensures c.requires.behind c.requires.within c.index.result.now c.index.ensures

pub returns : goal.returns
returns c none h filed =
    let i = c.self.inside in
    let stored = stored_here IsStore Owns (shelved name_of store_of (λ s. true) cells_had) i.active i.frozen.items i.rowsets.items i.pool c.args.self.now c.self.view_is c.self.invariant.0 c.args.at c.frozen-memory.result c.frozen-memory.ensures c.requires.behind c.requires.within c.index.result.now c.index.ensures in
    let is = filed_here IsStore Owns (shelved name_of store_of (λ s. true) cells_had) i.active i.frozen.items i.rowsets.items i.pool c.args.self.now c.self.view_is c.self.invariant.0 c.args.at c.frozen-memory.result c.frozen-memory.ensures c.requires.behind c.requires.within c.index.result.now c.index.ensures held_of refl in
    let same = some_same (held_of c.index.result.now) h (sym is ∙ filed) in
    stored ∙ ap (λ (s : Store). Some s) (c.has_deltas.ensures.told none) ∙ ap (λ (x : HeldFiles). Some (store_told x)) same
