use Rattle.std.proofs.Common.{◌≡◌, ◌∙◌, List, sym, ap, map, subst}
use Rattle.std.specs.List.{AllByRecursion}
use Rattle.kt_history.specs.Rows.{Row}
use Rattle.kt_joblaws.specs.Apart.{AreOfTable}
use Rattle.kt_tablet.specs.Jobs.{filled_of, changes_in_memory}
use Rattle.kt_tablet.specs.Views.{View}
use Rattle.kt_engine.specs.Engines.{EngineView}
use Rattle.kt_engine.proofs.Snapshots.{one_filled, one_table, all_taken}
use Rattle.kt_engine.proofs.engine.Engine.filled_lists.Goals as goal

pub lists-preserved : goal.lists-preserved
lists-preserved g c = record {
  lists = c.in_ok-push.ensures.items ∙ one_filled (map (filled_of c.fill-fill.result.now)) c.deref-list-items.result.now c.lists.out.items c.lists.list-index c.list-item.result c.in_ok-filled.field-0 c.lists-test.true c.list-item.is c.lists.invariant.lists c.in_ok-filled.ensures.filled;
  table = subst (AllByRecursion (AreOfTable c.args.columns.now)) (sym c.in_ok-push.ensures.items) (one_table (AreOfTable c.args.columns.now) c.lists.out.items c.in_ok-filled.field-0 c.lists.invariant.table c.in_ok-filled.ensures.table);
}

pub returns-clause-lists : goal.returns-clause-lists
returns-clause-lists g c =
    let one : c.deref.result.now ≡ c.args.self.now.tablet = c.deref.ensures ∙ ap (λ (v : EngineView g.row.L.Denot g.row.D.Denot g.row.C.Denot). v.tablet) c.self.view_is in
    let two : c.deref-2.result.now ≡ c.args.self.now.tablet = c.deref-2.ensures ∙ ap (λ (v : EngineView g.row.L.Denot g.row.D.Denot g.row.C.Denot). v.tablet) c.self.view_is in
    let fill : c.fill-fill.result.now ≡ c.deref-2.result.now.core.work.fill = c.fill-fill.ensures ∙ ap (λ (t : View g.row.C.Denot). t.core.work.fill) (one ∙ sym two) in
    c.lists.invariant.lists ∙ ap (map (map (filled_of c.fill-fill.result.now))) (all_taken c.lists.list-index c.deref-list-items.result.now c.lists-test.false ∙ c.deref-list-items.ensures.value)
    ∙ ap (λ (f : Row). map (map (filled_of f)) c.in_ok-lists.lists.items) fill ∙ c.in_ok-lists.ensures ∙ ap (changes_in_memory c.args.upto) two
