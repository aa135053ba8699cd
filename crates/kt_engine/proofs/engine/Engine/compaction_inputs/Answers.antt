use Rattle.std.proofs.Common.{◌≡◌, ◌∙◌, ◌^◌, map, sym, ap, subst}
use Rattle.std.specs.Prelude.{nat_le}
use Rattle.std.proofs.lemmas.Bool.{OnTrue_at}
use Rattle.std.specs.List.{AllByRecursion, sum_by}
use Rattle.kt_baseset.specs.Rows.{AreShapes}
use Rattle.kt_diskrowset.specs.Data.{held_in, store_in}
use Rattle.kt_stores.specs.Takes.{files_taken}
use Rattle.kt_joblaws.specs.Compacts.{TellsTable}
use Rattle.kt_merge.specs.Merge.{IsReadable, changes_in}
use Rattle.kt_tablet.specs.Views.{View}
use Rattle.kt_tablet.specs.Jobs.{taken_rowsets}
use Rattle.kt_engine.specs.Engines.{EngineView, IsEngine}
use Rattle.kt_engine.specs.Stored.{IsStored}
use Rattle.kt_engine.proofs.LaterFiles.{files_are_upto}
use Rattle.kt_engine.proofs.TakenRead.{rowsets_are_taken}
use Rattle.kt_engine.proofs.Entries.{readable_all, few_in}
use Rattle.kt_engine.proofs.engine.Engine.compaction_inputs.Goals as goal

pub all_told-requires-clause-readable : goal.all_told-requires-clause-readable
all_told-requires-clause-readable g c = readable_all c.in_ok-read.read.items c.in_ok-read.ensures.lead c.in_ok-read.ensures.order

pub returns-clause-reads : goal.returns-clause-reads
returns-clause-reads g c =
    let is = subst (λ (v : EngineView g.row.L.Denot g.row.D.Denot g.row.C.Denot). IsEngine g.L.Disk.tells g.L.Disk.seen g.L.Disk.now g.L.Disk.leaves g.L.Disk.faults v × IsStored g.L.Disk.tells g.L.Disk.seen g.D.Disk.tells g.D.Disk.seen g.D.Disk.faults v) c.self.view_is c.self.invariant in
    let tab : c.deref-2.result.now ≡ c.args.self.now.tablet = c.deref-2.ensures ∙ ap (λ (v : EngineView g.row.L.Denot g.row.D.Denot g.row.C.Denot). v.tablet) c.self.view_is in
    let taken = c.args.taken.now in
    let read = subst (λ (t : View g.row.C.Denot). map store_in c.in_ok-read.read.items ≡ taken_rowsets taken t) tab c.in_ok-read.ensures.stores in
    let told = c.in_ok-rowsets.rowsets.items in
    let columns = c.in_ok-columns.columns in
    record {
      mems = c.of.ensures ∙ c.new.ensures.items;
      rowsets_are = ap (map store_in) c.of-2.ensures ∙ c.in_ok-rowsets.ensures.stores ∙ read ∙ rowsets_are_taken c.args.self.now.tablet taken is.0.ready.shelved;
      shapes = subst AreShapes c.as_slice.ensures (OnTrue_at c.if-not-are_shapes.false c.are_shapes.ensures);
      readable = subst (AllByRecursion IsReadable) (sym c.of-2.ensures) c.in_ok-rowsets.ensures.readable;
      table = subst (AllByRecursion (TellsTable columns)) (sym c.of-2.ensures) c.in_ok-rowsets.ensures.table;
      files = files_are_upto c.args.self.now.tablet taken c.in_ok-read.read.items (read ∙ rowsets_are_taken c.args.self.now.tablet taken is.0.ready.shelved) (subst (λ (t : View g.row.C.Denot). map held_in c.in_ok-read.read.items ≡ files_taken taken t.files) tab c.in_ok-read.ensures.files);
      few = few_in (record { columns = columns; mems = c.of.result; rowsets = c.of-2.result }) c.have_many.result (c.of.ensures ∙ c.new.ensures.items) (c.have_many.ensures ∙ ap (λ l. nat_le (2 ^ 31) (sum_by changes_in l)) (c.deref-3.ensures.value ∙ sym c.of-2.ensures)) c.if-have_many.false;
    }
