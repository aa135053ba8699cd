use Rattle.std.proofs.Common.{◌∙◌, true, Some, refl, sym, ap}
use Rattle.std.proofs.lemmas.Result.{IfOk-weaker}
use Rattle.kt_history.specs.Stores.{Store}
use Rattle.kt_diskrowset.specs.Rowset.{HeldFiles}
use Rattle.kt_diskrowset.specs.Rowset.{IsStore, Owns, held_of, name_of, store_of, cells_had}
use Rattle.kt_stores.specs.Parts.{shelved}
use Rattle.kt_stores.proofs.Reaching.{stands_here, stored_here, named_here, filed_here}
use Rattle.kt_stores.proofs.Rewritten.{one_number}
use Rattle.kt_stores.proofs.stores.rewriting.Stores+DiskRowSet.read_rowset.Goals as goal

pub whole-requires : goal.whole-requires
whole-requires c =
    let i = c.self.inside in
    stands_here IsStore Owns (shelved name_of store_of (λ s. true) cells_had) i.active i.frozen.items i.rowsets.items i.pool c.args.self.now c.self.view_is c.self.invariant.0 c.args.at c.frozen-memory.result c.frozen-memory.ensures c.requires.behind c.requires.within c.index.result.now c.index.ensures

pub returns-clause-store : goal.returns-clause-store
returns-clause-store c =
    let i = c.self.inside in
    let stored = stored_here IsStore Owns (shelved name_of store_of (λ s. true) cells_had) i.active i.frozen.items i.rowsets.items i.pool c.args.self.now c.self.view_is c.self.invariant.0 c.args.at c.frozen-memory.result c.frozen-memory.ensures c.requires.behind c.requires.within c.index.result.now c.index.ensures in
    IfOk-weaker c.whole.result _ _ (λ d told. stored ∙ ap (λ (s : Store). Some s) (sym told)) c.whole.ensures.store

pub returns-clause-number : goal.returns-clause-number
returns-clause-number c =
    let i = c.self.inside in
    let named = named_here IsStore Owns (shelved name_of store_of (λ s. true) cells_had) i.active i.frozen.items i.rowsets.items i.pool c.args.self.now c.self.view_is c.self.invariant.0 c.args.at c.frozen-memory.result c.frozen-memory.ensures c.requires.behind c.requires.within c.index.result.now c.index.ensures in
    IfOk-weaker c.whole.result _ _ (λ d held number dms is. ap (λ (h : HeldFiles). h.number) held ∙ one_number c.index.result.now.number _ number dms (sym named ∙ is)) c.whole.ensures.held

pub returns-clause-held : goal.returns-clause-held
returns-clause-held c =
    let i = c.self.inside in
    let filed = filed_here IsStore Owns (shelved name_of store_of (λ s. true) cells_had) i.active i.frozen.items i.rowsets.items i.pool c.args.self.now c.self.view_is c.self.invariant.0 c.args.at c.frozen-memory.result c.frozen-memory.ensures c.requires.behind c.requires.within c.index.result.now c.index.ensures held_of refl in
    IfOk-weaker c.whole.result _ _ (λ d held. filed ∙ ap (λ (h : HeldFiles). Some h) (sym held)) c.whole.ensures.held
