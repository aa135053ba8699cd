use Rattle.std.proofs.Common.{suc, List, drop, sym, subst}
use Rattle.std.proofs.lemmas.Result.{IfOk-weaker}
use Rattle.kt_history.specs.Stores.{Store}
use Rattle.kt_stores.specs.Shelf.{stores_of}
use Rattle.kt_stores.specs.Stats.{TellStats}
use Rattle.kt_tablet.proofs.Frozen.{rows_told}
use Rattle.kt_tablet.proofs.tablet.stats.Tablet+DiskRowSet+C.stats.Goals as goal

pub returns : goal.returns
returns g c =
    let i = c.self.inside in
    IfOk-weaker c.stats.result _ _ (λ list told. subst (λ v. TellStats v.files (drop (suc v.frozen) v.core.stores) list.items) c.self.view_is (subst (λ (l : List Store). TellStats i.stores.files l list.items) (sym (rows_told i.fill (suc i.stores.frozen) (stores_of i.stores))) told)) c.stats.ensures
