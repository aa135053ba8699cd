-- What a scan of one column shows of the rows of a load's table, and the rows that an engine has now.
use Rattle.std.proofs.Common.{◌≡◌, ℕ, suc, ◌+◌, ◌≤◌, List, [], ◌∷◌, Option, refl, ap, ◌∙◌, arith, length, ℤ, ◌+ℤ◌}
use Rattle.kt_base.specs.declared.cell.Cell.{Cell}
use Rattle.kt_history.specs.History.{Past, rows_at}
use Rattle.kt_history.specs.Replies.{shown, cell_of}
use Rattle.kt_history.specs.Rows.{Rows}
use Rattle.kt_histlaws.specs.Core.{Stands, run_past}
use Rattle.kt_scan.specs.Encoded.{keys_of}
use Rattle.kt_scan.specs.Live.{AreRowsOf}
use Rattle.kt_script.specs.Loads.{load_columns}
use Rattle.kt_loadlaws.specs.Summary.{number_of, sum_of}
use Rattle.kt_diskrowset.specs.Page.{row_told}
use Rattle.kt_tablet.specs.Copies.{copied_row}
use Rattle.kt_tablet.specs.Reads.{ShowsRun}
use Rattle.kt_tablet.specs.Views.{IsSound}
use Rattle.kt_engine.specs.Engines.{EngineView, IsFound, core_from}
use Rattle.kt_serve.specs.Scans.{TabletSnap, snap_row}
use Rattle.kt_serve.proofs.Viewed.{rows_of_run}
use Rattle.kt_app.specs.Loaded.{value_scan, sum_shown}

-- ---- what is shown

-- one line for each row, with its cell of the column
many_shown : (t : ℕ) (rows : Rows) → length (shown (keys_of load_columns) (value_scan t) rows) ≡ length rows
many_shown t [] = refl
many_shown t (row ∷ rows) = ap suc (many_shown t rows)

sum_is : (t : ℕ) (rows : Rows) → sum_shown (shown (keys_of load_columns) (value_scan t) rows) ≡ sum_of rows
sum_is t [] = refl
sum_is t (row ∷ rows) = ap (λ (n : ℤ). number_of (cell_of row.1 2) +ℤ n) (sum_is t rows)

-- the lines that are shown are as many as the rows, and have their sum
pub are_shown : (t : ℕ) (lines : List (List Cell)) (rows : Rows) → lines ≡ shown (keys_of load_columns) (value_scan t) rows → (length lines ≡ length rows) × (sum_shown lines ≡ sum_of rows)
are_shown t lines rows is = (ap length is ∙ many_shown t rows, ap sum_shown is ∙ sum_is t rows)

-- ---- the rows of the run

module _ {L D C : Type 0} (readings : C → Option (List ℕ)) (view : EngineView L D C) (snap : TabletSnap) (time : snap.t ≡ view.tablet.core.c) (mark : snap.mark ≡ view.tablet.core.a) (sound : IsSound readings view.tablet) (first : Past) (opens : IsFound view first)
    (shows : ShowsRun row_told (core_from view first) snap) where
  stands : Stands (core_from view first)
  stands = sound.stands first opens

  -- the mark is not above the last timestamp
  pub since : snap.mark ≤ snap.t
  since = let low = stands.flown.marked in omega (arith, time, mark, low)

  pub rows_now : AreRowsOf (snap_row snap) (rows_at (run_past (core_from view first)) snap.t)
  rows_now = rows_of_run (λ v k t. copied_row row_told k t v) (core_from view first) snap.t snap.views stands (λ key. shows.rows snap.t key since (omega arith))
