-- What is printed of a script that loads: its outcomes counted, and the rows at its end counted and summed up.
use Rattle.std.specs.Prelude.{◌≡◌, ℕ, Bool, true, false, ℤ, pos, ◌+ℤ◌, List, [], ◌∷◌, length, Option, Some, None}
use Rattle.kt_base.specs.declared.cell.Cell.{Cell}
use Rattle.kt_schema.specs.declared.column.Column.{Column}
use Rattle.kt_history.specs.declared.command.Command.{Command}
use Rattle.kt_history.specs.declared.event.Event.{Event}
use Rattle.kt_history.specs.declared.reply.Reply.{Reply}
use Rattle.kt_history.specs.declared.scan.Scan.{Scan}
use Rattle.kt_history.specs.declared.scan.At.TheVariants.{Given}
use Rattle.kt_history.specs.Rows.{Rows}
use Rattle.kt_history.specs.History.{Past, rows_at}
use Rattle.kt_histlaws.specs.Core.{run_past}
use Rattle.kt_script.specs.Laws.{OutputFits}
use Rattle.kt_script.specs.Texts.{output_text, last_text}
use Rattle.kt_script.specs.declared.output.LastLine.TheVariants as last
use Rattle.kt_loadlaws.specs.Summary.{Counts, number_of, sum_of, counts_in, summary_text}
use Rattle.kt_engine.specs.Engines.{EngineView, IsFound, core_from}
use Rattle.kt_app.specs.declared.load.Load.{Load}
use Rattle.kt_app.specs.declared.load.Tally.{Tally}
use Rattle.kt_app.specs.Headline.{all_shown}
use Rattle.kt_app.specs.Session.{on_table}
use Rattle.kt_app.specs.Played.{given, end_of_run}

-- ---- the rows

-- a scan at a time that shows column 2 of each row
abbrev pub value_scan : ℕ → Scan
value_scan t = record { at = Given t; columns = Some (2 ∷ []); preds = [] }

-- the number that a row shows first, and 0 where it shows none
abbrev pub number_shown : List Cell → ℤ
number_shown [] = pos 0
number_shown (c ∷ cells) = number_of c

abbrev pub sum_shown : List (List Cell) → ℤ
sum_shown [] = pos 0
sum_shown (row ∷ rows) = number_shown row +ℤ sum_shown rows

-- what a load leaves is told of these rows
pub record IsOfRows (load : Load) (rows : Rows) : Type 0 where
  pub count : load.rows ≡ length rows
  pub sum : load.sum ≡ sum_of rows

-- what a load leaves, where there is one: where no write flies, that of the rows of the run at its last timestamp
abbrev pub IsLoadAt : {L D C : Type 0} → EngineView L D C → Option ℕ → Option Load → Type 0
IsLoadAt view None l = l ≡ None
IsLoadAt view (Some n) None = ⊥
IsLoadAt view (Some n) (Some load) = (load.number ≡ n) × (view.tablet.core.aloft ≡ [] → (first : Past) → IsFound view first → IsOfRows load (rows_at (run_past (core_from view first)) view.tablet.core.c))

-- ---- the text

abbrev pub counts_of : Tally → Counts
counts_of t = record { ok = t.ok; present = t.present; absent = t.absent }

-- the text of a run with these replies, these lines and this end: its output text, or of a load its summary, over any rows of which that is told
abbrev pub IsText : List Column → List (List Command) → Option Load → List (List Reply) → List Event → Bool → ℕ → ℕ → ℕ → List ℕ → Type 0
IsText columns plan None replies lines stopped a c rowsets text =
    OutputFits (all_shown (on_table columns) (given replies) 1 plan) lines (end_of_run stopped a c rowsets)
    × (text ≡ output_text (all_shown (on_table columns) (given replies) 1 plan) lines (end_of_run stopped a c rowsets))
IsText columns plan (Some load) replies lines stopped a c rowsets text =
    (stopped ≡ true → text ≡ last_text last.Stopped)
    × (stopped ≡ false → (rows : Rows) → IsOfRows load rows → text ≡ summary_text load.number (record { rows = rows; counts = counts_in replies }))
