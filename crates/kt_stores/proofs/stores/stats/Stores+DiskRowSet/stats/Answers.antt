use Rattle.std.proofs.Common.{◌≡◌, ◌+◌, ◌<◌, ◌∙◌, suc, List, map, take, drop, length, get_or, sym, subst}
use Rattle.std.proofs.lemmas.List.{take_all}
use Rattle.kt_diskrowset.specs.declared.rowset.DiskRowSet.{DiskRowSet}
use Rattle.kt_diskrowset.specs.Held.{store_told}
use Rattle.kt_diskrowset.specs.Rowset.{IsStore, held_of, store_of}
use Rattle.kt_history.specs.Stores.{Store}
use Rattle.kt_pick.specs.declared.stats.RowSetStat.{RowSetStat}
use Rattle.kt_stores.specs.Leaving.{shelved_rowset}
use Rattle.kt_stores.specs.Shelf.{StoresView, stores_of}
use Rattle.kt_stores.specs.Stats.{TellStats}
use Rattle.kt_stores.proofs.Changing.{rowsets_stand}
use Rattle.kt_stores.proofs.Departing.{stand_at}
use Rattle.kt_stores.proofs.Statistics.{AllTell, tell_more, tell_all, rowsets_behind}
use Rattle.kt_stores.proofs.stores.stats.Stores+DiskRowSet.stats.Goals as goal

pub stat-requires : goal.stat-requires
stat-requires c =
    let i = c.self.inside in
    stand_at IsStore i.pool i.rowsets.items c.rowsets.rowset-index c.rowset-item.result (rowsets_stand i.active i.frozen.items i.rowsets.items i.pool c.self.invariant.0.stand)
    (subst (λ (rs : List DiskRowSet). c.rowsets.rowset-index < length rs) c.deref-rowset-items.ensures.value c.rowsets-test.true)
    (subst (λ (rs : List DiskRowSet). c.rowset-item.result ≡ get_or rs c.rowsets.rowset-index c.rowset-item.result) c.deref-rowset-items.ensures.value c.rowset-item.is)

pub rowsets-preserved : goal.rowsets-preserved
rowsets-preserved c =
    subst (λ (l : List RowSetStat). AllTell c.args.self.now.pool (take (c.rowsets.rowset-index + 1) c.deref-rowset-items.result.now) l) (sym c.in_ok-push.ensures.items)
    (tell_more c.args.self.now.pool c.deref-rowset-items.result.now c.rowsets.stats.items c.rowsets.rowset-index c.rowset-item.result c.in_ok-stat.field-0 c.rowsets-test.true c.rowset-item.is c.rowsets.invariant
    (record {
      fresh = _;
      is = c.in_ok-stat.ensures.is;
      told = λ none. subst (λ (v : StoresView). store_of c.rowset-item.result v.pool ≡ store_told (held_of c.rowset-item.result)) c.self.view_is (c.in_ok-stat.ensures.told none);
    }))

pub returns : goal.returns
returns c =
    let i = c.self.inside in
    let all : AllTell i.pool i.rowsets.items c.rowsets.stats.items =
    subst (λ (rs : List DiskRowSet). AllTell i.pool rs c.rowsets.stats.items) (take_all c.rowsets.rowset-index c.deref-rowset-items.result.now c.rowsets-test.false ∙ c.deref-rowset-items.ensures.value)
    (subst (λ (v : StoresView). AllTell v.pool (take c.rowsets.rowset-index c.deref-rowset-items.result.now) c.rowsets.stats.items) (sym c.self.view_is) c.rowsets.invariant) in
    subst (λ (v : StoresView). TellStats v.files (drop (suc v.frozen) (stores_of v)) c.rowsets.stats.items) c.self.view_is
    (subst (λ (l : List Store). TellStats (map held_of i.rowsets.items) l c.rowsets.stats.items) (sym (rowsets_behind i.pool shelved_rowset i.active i.frozen.items i.rowsets.items)) (tell_all i.pool i.rowsets.items c.rowsets.stats.items all))
