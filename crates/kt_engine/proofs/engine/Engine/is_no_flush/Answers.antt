use Rattle.std.proofs.Common.{◌≡◌, ◌^◌, List, true, false, map, sym, ap, ◌∙◌, subst}
use Rattle.std.specs.Prelude.{nat_le, ℕ}
use Rattle.std.specs.List.{sum_by}
use Rattle.kt_history.specs.declared.changes.KeyChange.{KeyChange}
use Rattle.kt_tablet.specs.Views.{View}
use Rattle.kt_tablet.specs.Jobs.{changes_in_memory, filled_of}
use Rattle.kt_engine.specs.Engines.{EngineView}
use Rattle.kt_engine.proofs.ToDo.{long, many_so}
use Rattle.kt_engine.proofs.engine.Engine.is_no_flush.Goals as goal

pub returns : goal.returns
returns g c =
    let tablet_is = c.deref.ensures ∙ ap (λ (v : EngineView _ _ _). v.tablet) c.self.view_is in
    let told = subst (λ (t : View _). map (map (filled_of t.core.work.fill)) c.in_ok-lists.lists.items ≡ changes_in_memory c.times-last.result.1 t) tablet_is c.in_ok-lists.ensures ∙ ap (λ (n : ℕ). changes_in_memory n c.args.self.now.tablet) c.times-last.ensures.last in
    many_so c.args.self.now.tablet c.in_ok-lists.lists.items c.are_many.result told (c.are_many.ensures ∙ ap (λ (l : List (List KeyChange)). nat_le (2 ^ 31) (sum_by long l)) c.deref-2.ensures.value)
    (λ none. let no : true ≡ false = sym (c.has_no_rows.ensures.1 none) ∙ c.if-has_no_rows.false in cc)
