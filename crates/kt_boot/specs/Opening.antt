-- The engine that opening makes of what both devices hold.
use Rattle.std.specs.Prelude.{◌≡◌, ◌≤◌, ◌+◌, ℕ, List, map, length}
use Rattle.kt_history.specs.Stores.{Store}
use Rattle.kt_pool.specs.Contents.{free}
use Rattle.kt_schema.specs.declared.column.Column.{Column}
use Rattle.kt_schema.specs.Columns.{fill_of}
use Rattle.kt_content.specs.Places.{Place}
use Rattle.kt_reopen.specs.Bare.{places_under}
use Rattle.kt_reopen.specs.Both.{Found, first_stores}
use Rattle.kt_reopen.specs.Needed.{needs_of}
use Rattle.kt_reopen.specs.Numbers.{name_of}
use Rattle.kt_reopen.specs.Owed.{owed}
use Rattle.kt_engine.specs.Engines.{EngineView}

-- It stands on what was found: its superblock and its records, the last timestamp, and of each place the store that has what was found there, under the
-- name that is due. A COMMIT is queued for each write without one. So many cells are free beside those of the rows, and none is promised
pub record StandsOn {L D C : Type 0} (columns : List Column) (room : ℕ) (f : Found) (engine : EngineView L D C) : Type 0 where
  pub super : engine.super ≡ f.super
  pub records : engine.records ≡ f.records
  pub last : engine.tablet.core.opened ≡ f.last
  pub places : map (λ (s : Place × Store). s.0) f.stores ≡ places_under f.super
  pub holds : map (λ (s : Place × Store). s.1) f.stores ≡ engine.tablet.opening
  pub names : engine.tablet.names ≡ map (name_of f.super f.records) (places_under f.super)
  pub owes : engine.log.queued ≡ owed (fill_of columns) f.super (name_of f.super f.records) f.records (first_stores f.super) f.records
  pub size : length engine.tablet.pool.places ≡ room + needs_of f.super f.records f.records
  pub unpromised : engine.tablet.pool.reserved ≡ 0
  pub enough : room ≤ free engine.tablet.pool
