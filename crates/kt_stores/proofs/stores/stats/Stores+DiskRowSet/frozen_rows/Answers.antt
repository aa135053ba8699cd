use Rattle.std.proofs.Common.{◌-◌, ◌^◌, ℕ, length, List, take, drop, min, sym, ap, ◌∙◌, subst}
use Rattle.std.specs.List.{sum_by}
use Rattle.kt_diskrowset.specs.Rowset as rowset_specs
use Rattle.kt_history.specs.Beside.{AllStand}
use Rattle.kt_memrowset.specs.declared.store.MemRowSet.{MemRowSet}
use Rattle.kt_memrowset.specs.Stores.{IsStore, store_of}
use Rattle.kt_stores.specs.Leaving.{shelved_rowset}
use Rattle.kt_stores.specs.Shelf.{stores_of}
use Rattle.kt_stores.proofs.Emptying.{frozen_in}
use Rattle.kt_stores.proofs.Statistics.{frozen_before}
use Rattle.kt_stores.proofs.stores.stats.Stores+DiskRowSet.frozen_rows.Goals as goal

pub rows_in-requires : goal.rows_in-requires
rows_in-requires c =
    let i = c.self.inside in
    subst (AllStand IsStore i.pool) (sym c.deref.ensures.value) (frozen_in rowset_specs.IsStore rowset_specs.Owns shelved_rowset i.pool i.frozen.items _ c.self.invariant.0.stand.1)

pub returns : goal.returns
returns c =
    let i = c.self.inside in
    c.rows_in.ensures
    ∙ ap (λ (fs : List MemRowSet). min (sum_by (λ (s : MemRowSet). length (store_of s i.pool)) fs) (2 ^ 32 - 1)) c.deref.ensures.value
    ∙ ap (λ (n : ℕ). min n (2 ^ 32 - 1)) (sym (frozen_before i.pool shelved_rowset i.frozen.items i.rowsets.items) ∙ ap (λ v. sum_by length (take v.frozen (drop 1 (stores_of v)))) c.self.view_is)
