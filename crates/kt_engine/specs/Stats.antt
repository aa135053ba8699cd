-- What a maintenance policy asks of an engine.
use Rattle.std.specs.Prelude.{◌≡◌, ◌⊎◌, ◌-◌, ◌^◌, ℕ, suc, is_some, List, [], map, drop, length, min}
use Rattle.std.specs.List.{filter, sum_by}
use Rattle.std.specs.List.Sorted.{IsPermutation, IsNonDecreasingBy}
use Rattle.kt_pick.specs.declared.rules.Want.TheVariants as want
use Rattle.kt_pick.specs.declared.stats.RowSetStat.{RowSetStat}
use Rattle.kt_pick.specs.declared.stats.Stats.{Stats}
use Rattle.kt_pool.specs.Contents.{free}
use Rattle.kt_rowtree.specs.declared.lists.Range.{Range}
use Rattle.kt_rowtree.specs.Ranges.{is_upto, IsDeepest}
use Rattle.kt_stores.specs.Stats.{TellStats}
use Rattle.kt_tablet.specs.Jobs.{rows_in_first, frozen_stores}
use Rattle.kt_engine.specs.Engines.{EngineView}
use Rattle.kt_engine.specs.Jobs.{UpkeepsView}
use Rattle.kt_engine.specs.JobSteps.{first_holder}

-- whether a job holds a disk rowset
abbrev pub held_by : UpkeepsView → RowSetStat → RowSetStat
held_by v s = record s { held = is_some (first_holder (want.Minor s.rowset) v.passes) }

-- the ranges of keys of disk rowsets, of each that ends no earlier than it begins
abbrev pub range_of : RowSetStat → Range
range_of s = record { rowset = s.rowset; least = s.least; greatest = s.greatest }

abbrev pub ranges_of : List RowSetStat → List Range
ranges_of stats = map range_of (filter (λ (s : RowSetStat). is_upto s.least s.greatest) stats)

-- the rowsets of the deepest stack of some ranges, and none where there is no range
abbrev pub IsDeepestOf : List Range → List ℕ → Type 0
IsDeepestOf ranges ids = ((ranges ≡ []) × (ids ≡ [])) ⊎ IsDeepest ranges ids

-- and of ranges in whatever order
pub record IsStack (ranges : List Range) (ids : List ℕ) : Type 0 where
  pub all : List Range
  pub same : IsPermutation ranges all
  pub deepest : IsDeepestOf all ids

-- How many rows are in memory and how many cells are free; what each disk rowset tells, by number; and the deepest stack
pub record AreStats {L D C : Type 0} (v : EngineView L D C) (s : Stats) : Type 0 where
  pub mem_rows : s.mem_rows ≡ length (rows_in_first v.tablet.core.stores)
  pub frozen_rows : s.frozen_rows ≡ min (sum_by length (frozen_stores v.tablet)) (2 ^ 32 - 1)
  pub cells : s.cells ≡ length v.tablet.pool.places
  pub free_is : s.free ≡ free v.tablet.pool - v.tablet.pool.reserved
  pub told : List RowSetStat
  pub tell : TellStats v.tablet.files (drop (suc v.tablet.frozen) v.tablet.core.stores) told
  pub all : IsPermutation (map (held_by v.upkeep) told) s.rowsets
  pub by_number : IsNonDecreasingBy (λ (r : RowSetStat). r.rowset) s.rowsets
  pub stack_is : IsStack (ranges_of s.rowsets) s.stack
