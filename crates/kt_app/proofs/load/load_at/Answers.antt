use Rattle.std.proofs.Common.{◌≡◌, ℕ, List, length, ap, ◌∙◌, subst, rules}
use Rattle.std.specs.Prelude.{FitsSigned}
use Rattle.std.specs.Int.{w128}
use Rattle.std.proofs.lemmas.Int.{to_z-of_z}
use Rattle.kt_schema.specs.declared.column.Column.{Column}
use Rattle.kt_history.specs.History.{rows_at}
use Rattle.kt_history.specs.Replies.{shown}
use Rattle.kt_histlaws.specs.Core.{run_past}
use Rattle.kt_scan.specs.Encoded.{keys_of}
use Rattle.kt_loadlaws.specs.Summary.{sum_of}
use Rattle.kt_engine.specs.Engines.{core_from}
use Rattle.kt_app.specs.Loaded.{value_scan}
use Rattle.kt_app.proofs.Shown.{since, rows_now, are_shown}
use Rattle.kt_app.proofs.load.load_at.Goals as goal

pub returns-clause-rows : goal.returns-clause-rows
returns-clause-rows g c = λ calm first opens.
    let view = c.args.engine.now in
    let snap = c.in_ok-snap.snap in
    let e = c.in_ok-snap.ensures in
    let shows = e.shows calm first opens in
    let past = run_past (core_from view first) in
    let low = since g.C.Clock.readings view snap e.time e.mark c.standing.ensures.sound first opens shows in
    let rows = rows_now g.C.Clock.readings view snap e.time e.mark c.standing.ensures.sound first opens shows in
    let lines = c.in_ok-values.ensures low (rows_at past snap.t) rows in
    let is = are_shown snap.t c.in_ok-values.values (rows_at past snap.t) (subst (λ (cs : List Column). c.in_ok-values.values ≡ shown (keys_of cs) (value_scan snap.t) (rows_at past snap.t)) c.requires.table lines) in
    let fits : FitsSigned w128 c.sum_shown-sum.result = search rules in
    record {
      count = c.len-rows.ensures ∙ is.0 ∙ ap (λ (n : ℕ). length (rows_at past n)) e.time;
      sum = to_z-of_z w128 c.sum_shown-sum.result fits ∙ c.sum_shown-sum.ensures ∙ is.1 ∙ ap (λ (n : ℕ). sum_of (rows_at past n)) e.time;
    }
