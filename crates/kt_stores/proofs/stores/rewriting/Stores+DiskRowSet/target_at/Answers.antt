use Rattle.std.proofs.Common.{◌∙◌, true, Some, sym, ap}
use Rattle.kt_history.specs.declared.target.Target.{Target}
use Rattle.kt_diskrowset.specs.Rowset.{IsStore, Owns, name_of, store_of, cells_had}
use Rattle.kt_stores.specs.Parts.{shelved}
use Rattle.kt_stores.proofs.Reaching.{named_here}
use Rattle.kt_stores.proofs.stores.rewriting.Stores+DiskRowSet.target_at.Goals as goal

pub returns : goal.returns
returns c =
    let i = c.self.inside in
    named_here IsStore Owns (shelved name_of store_of (λ s. true) cells_had) i.active i.frozen.items i.rowsets.items i.pool c.args.self.now c.self.view_is c.self.invariant.0 c.args.at c.frozen-memory.result c.frozen-memory.ensures c.requires.behind c.requires.within c.index.result.now c.index.ensures ∙ ap (λ (t : Target). Some t) (sym c.target.ensures)
