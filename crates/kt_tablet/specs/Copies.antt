-- What a scan reads of each store: what a visit copies, and the view that is made of that for the time of the scan.
use Rattle.std.specs.Prelude.{ℕ, List, Option, IsSome}
use Rattle.std.specs.List.{Contains}
use Rattle.std.specs.FinMap.Entries.{find}
use Rattle.kt_history.specs.Rows.{Row, key_cmp}
use Rattle.kt_history.specs.Views.{AreRising}
use Rattle.kt_views.specs.Keys.{keys_under}
use Rattle.kt_views.specs.KeyLaws.{keys_rise, has_key}
use Rattle.kt_views.specs.Tables.{rows_in}
use Rattle.kt_tablet.specs.declared.snap.Copied.{Copied}
use Rattle.kt_tablet.specs.declared.snap.Copied.TheVariants as copied
use Rattle.kt_tablet.specs.declared.snap.ReadView.{ReadView}
use Rattle.kt_tablet.specs.declared.snap.ReadView.TheVariants as read
use Rattle.kt_tablet.specs.Snaps.{row_in, keys_in}
use Rattle.kt_tablet.specs.SnapLaws.{keys_in_rise, row_in_has_key}

-- from here on a copy tells its rows: that of a disk rowset at all times up to that of the scan
abbrev pub mark_of : {V : Type 0} → Copied V → ℕ
mark_of (copied.Memory v) = v.since
mark_of (copied.Rowset v) = 0

-- the row of a key at a time that a copy has, by what the copies of disk rowsets tell
abbrev pub copied_row : {V : Type 0} → (V → List ℕ → ℕ → Option Row) → List ℕ → ℕ → Copied V → Option Row
copied_row row key t (copied.Memory v) = row_in v.fill v.changes key t
copied_row row key t (copied.Rowset v) = row v key t

-- of each key
abbrev pub copied_rows : {V : Type 0} → (V → List ℕ → ℕ → Option Row) → ℕ → Copied V → List ℕ → Option Row
copied_rows row t v key = copied_row row key t v

-- the same of what is made of it
abbrev pub read_mark : ReadView → ℕ
read_mark (read.Changes v) = v.now.since
read_mark (read.Rows table) = 0

abbrev pub read_keys : ReadView → List (List ℕ)
read_keys (read.Changes v) = keys_in v.now.changes
read_keys (read.Rows table) = keys_under (rows_in table)

abbrev pub read_row : List ℕ → ℕ → ReadView → Option Row
read_row key t (read.Changes v) = row_in v.now.fill v.now.changes key t
read_row key t (read.Rows table) = find key_cmp key (rows_in table)

abbrev pub read_rows : ℕ → ReadView → List ℕ → Option Row
read_rows t v key = read_row key t v

-- its keys rise, and a key that has a row is one of them
pub read_keys_rise : (v : ReadView) → AreRising (read_keys v)
read_keys_rise (read.Changes v) = keys_in_rise v.now.changes v.now.rising
read_keys_rise (read.Rows table) = keys_rise (rows_in table) table.rising

pub read_has_key : (v : ReadView) (key : List ℕ) (t : ℕ) → IsSome (read_row key t v) → Contains (read_keys v) key
read_has_key (read.Changes v) key t some = row_in_has_key v.now.fill v.now.changes key t some
read_has_key (read.Rows table) key t some = has_key (rows_in table) key some
