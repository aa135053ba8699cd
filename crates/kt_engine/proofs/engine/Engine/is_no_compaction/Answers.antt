use Rattle.std.proofs.Common.{◌≡◌, ◌^◌, List, true, false, map, refl, sym, ap, ◌∙◌, subst, inl, inr}
use Rattle.std.specs.Prelude.{nat_le}
use Rattle.kt_history.specs.Stores.{Store}
use Rattle.kt_diskrowset.specs.Data.{store_in}
use Rattle.kt_tablet.specs.Views.{View}
use Rattle.kt_tablet.specs.Jobs.{taken_rowsets, entries_in}
use Rattle.kt_engine.specs.Engines.{EngineView, IsEngine}
use Rattle.kt_engine.specs.JobSteps.{LacksOne}
use Rattle.kt_engine.specs.Stored.{IsStored}
use Rattle.kt_engine.proofs.JobOut.{none_in, some_in}
use Rattle.kt_engine.proofs.TakenRead.{rowsets_are_taken}
use Rattle.kt_engine.proofs.ToDo.{no_compaction}
use Rattle.kt_engine.proofs.engine.Engine.is_no_compaction.Goals as goal

pub returns-then-is_empty : goal.returns-then-is_empty
returns-then-is_empty g c = let none = none_in c.args.taken.now (sym c.is_empty.ensures ∙ c.if-is_empty.true) in ((λ so. inl none), (λ n. refl))

pub returns-then-lacks_one : goal.returns-then-lacks_one
returns-then-lacks_one g c =
    let tab : c.deref.result.now ≡ c.args.self.now.tablet = c.deref.ensures ∙ ap (λ (v : EngineView g.row.L.Denot g.row.D.Denot g.row.C.Denot). v.tablet) c.self.view_is in
    let one = subst (λ (t : View g.row.C.Denot). LacksOne c.args.taken.now t.names) tab (c.lacks_one.ensures.0 c.if-lacks_one.true) in
    ((λ so. inr (inl one)), (λ n. refl))

pub returns : goal.returns
returns g c =
    let is = subst (λ (v : EngineView g.row.L.Denot g.row.D.Denot g.row.C.Denot). IsEngine g.L.Disk.tells g.L.Disk.seen g.L.Disk.now g.L.Disk.leaves g.L.Disk.faults v × IsStored g.L.Disk.tells g.L.Disk.seen g.D.Disk.tells g.D.Disk.seen g.D.Disk.faults v) c.self.view_is c.self.invariant in
    let tab : c.deref.result.now ≡ c.args.self.now.tablet = c.deref.ensures ∙ ap (λ (v : EngineView g.row.L.Denot g.row.D.Denot g.row.C.Denot). v.tablet) c.self.view_is in
    let again : c.deref-2.result.now ≡ c.args.self.now.tablet = c.deref-2.ensures ∙ ap (λ (v : EngineView g.row.L.Denot g.row.D.Denot g.row.C.Denot). v.tablet) c.self.view_is in
    let taken = c.args.taken.now in
    let stores = subst (λ (t : View g.row.C.Denot). map store_in c.in_ok-rowsets.rowsets.items ≡ taken_rowsets taken t) again c.in_ok-rowsets.ensures.stores ∙ rowsets_are_taken c.args.self.now.tablet taken is.0.ready.shelved in
    no_compaction taken c.args.self.now.tablet c.tell_many.result (some_in taken (sym c.is_empty.ensures ∙ c.if-is_empty.false))
    (λ one. let no : true ≡ false = sym (c.lacks_one.ensures.1 (subst (λ (t : View g.row.C.Denot). LacksOne taken t.names) (sym tab) one)) ∙ c.if-lacks_one.false in cc)
    (c.tell_many.ensures ∙ ap (λ l. nat_le (2 ^ 31) (entries_in (map store_in l))) c.deref-3.ensures.value ∙ ap (λ (ss : List Store). nat_le (2 ^ 31) (entries_in ss)) stores)
