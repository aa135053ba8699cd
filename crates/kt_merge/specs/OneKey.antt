-- What is written of one key of several stores, as of a mark.
use Rattle.std.specs.Prelude.{◌≡◌, ◌<◌, ℕ, IsTrue, List, [], ◌∷◌, Option, Some, None}
use Rattle.std.specs.Ordering.{nat_cmp}
use Rattle.std.specs.FinMap.Entries.{is_sorted}
use Rattle.kt_history.specs.Rows.{Row, apply, fits, has_columns}
use Rattle.kt_history.specs.Stores.{Steps, Hist, Under, never, row_of}
use Rattle.kt_histlaws.specs.Disks.{DiskRow, AreUndos, hist_of}
use Rattle.kt_histlaws.specs.Fitting.{AreSound, RiseAbove, steps_above}
use Rattle.kt_histlaws.specs.Histories.{ShowsKey}
use Rattle.kt_histlaws.specs.Jobs.{AreAlike}
use Rattle.kt_baseset.specs.declared.schema.ColumnShape.{ColumnShape}
use Rattle.kt_baseset.specs.Rows.{RowFits}
use Rattle.kt_deltafile.specs.declared.file.Way.TheVariants.{Undo}
use Rattle.kt_deltafile.specs.Rules.{CellsFit, ChangeFits}
use Rattle.kt_rowfiles.specs.Flushing.{InOrderAt, IsChange}
use Rattle.kt_rowfiles.specs.Merging.{joined_history}
use Rattle.kt_merge.specs.Rows.{row_written}

-- a row of a table: a cell under each of these columns, by rising id, whose values fit their fields
pub record IsTableRow (columns : List ColumnShape) (row : Row) : Type 0 where
  pub cells : RowFits columns row
  pub order : IsTrue (is_sorted nat_cmp row)
  pub fit : CellsFit row

abbrev pub RowPasses : List ColumnShape → Option Row → Type 0
RowPasses columns None = Unit {0}
RowPasses columns (Some row) = IsTableRow columns row

-- Each change fits the row before it, an update is of that row's columns and names them by rising id, and each row is one of the table
abbrev pub AllPass : List ColumnShape → Steps → Option Row → Type 0
AllPass columns [] row = RowPasses columns row
AllPass columns (c ∷ steps) row = RowPasses columns row × IsTrue (fits c.1 row) × IsTrue (has_columns c.1 row) × IsChange c.1 × AllPass columns steps (apply c.1 row)

-- the stores show one history of a key from a mark on, whose changes above it rise, lie below a time, and pass
pub record PassesFrom (columns : List ColumnShape) (j top : ℕ) (hs : List Hist) : Type 0 where
  pub whole : Hist
  pub shows : ShowsKey j hs whole
  pub rise : RiseAbove j hs
  pub order : InOrderAt j whole.steps
  pub rises : RiseAbove j (whole ∷ [])
  pub under : Under top (steps_above j whole.steps)
  pub pass : AllPass columns (steps_above j whole.steps) (row_of j whole)

-- what is written of the key: the row at the mark and all changes above it, as one row
abbrev pub key_written : ℕ → List Hist → Option DiskRow
key_written j hs = row_written j (joined_history j hs)

-- the history that is told of it, or that of a key of which nothing is written
abbrev pub hist_written : Option DiskRow → Hist
hist_written None = never
hist_written (Some d) = hist_of d

-- it has the stores' row at each time from the mark on, and their changes above it
abbrev pub a_key_written_is_alike : Type 0
a_key_written_is_alike = (columns : List ColumnShape) (j top : ℕ) (hs : List Hist) → PassesFrom columns j top hs → AreAlike j hs (hist_written (key_written j hs) ∷ [])

-- and its changes rise, and each fits the row before it
abbrev pub a_key_written_is_sound : Type 0
a_key_written_is_sound = (columns : List ColumnShape) (j top : ℕ) (hs : List Hist) → PassesFrom columns j top hs → AreSound j (hist_written (key_written j hs) ∷ [])

-- each of its UNDO records leads back
abbrev pub a_key_written_leads_back : Type 0
a_key_written_leads_back = (columns : List ColumnShape) (j top : ℕ) (hs : List Hist) (d : DiskRow) → j < top → PassesFrom columns j top hs → key_written j hs ≡ Some d → AreUndos top d.undos (Some d.base)

-- these records may stand in an UNDO file
abbrev pub UndosFitFile : Steps → Type 0
UndosFitFile [] = Unit {0}
UndosFitFile (u ∷ undos) = ChangeFits Undo u.1 × UndosFitFile undos

-- it is a row of the table, with records that an UNDO file can hold
abbrev pub a_key_written_fits_files : Type 0
a_key_written_fits_files = (columns : List ColumnShape) (j top : ℕ) (hs : List Hist) (d : DiskRow) → PassesFrom columns j top hs → key_written j hs ≡ Some d → IsTableRow columns d.base × UndosFitFile d.undos
