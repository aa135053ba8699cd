-- What a background worker picks.
use Rattle.std.specs.Prelude.{◌≡◌, ◌⊎◌, ℕ, Bool, true, Option, None}
use Rattle.kt_disk.specs.Disk.{Files}
use Rattle.kt_pick.specs.declared.rules.Want.{Want}
use Rattle.kt_pick.specs.declared.stats.Stats.{Stats}
use Rattle.kt_pick.specs.Rules.{wanted}
use Rattle.kt_engine.specs.Engines.{EngineView}
use Rattle.kt_engine.specs.Jobs.{job_of}
use Rattle.kt_engine.specs.Stats.{AreStats}
use Rattle.kt_engine.specs.Visits.{part_in}
use Rattle.kt_maint.specs.Runs.{HasNoDevice}
use Rattle.kt_maint.specs.Outside.{IsAwayBy}
use Rattle.kt_maint.specs.declared.jobs.Start.{Start}
use Rattle.kt_maint.specs.declared.jobs.Start.TheVariants as start

-- the job of the first rule that applies to what the engine tells, if one does
pub record Picks {L D C : Type 0} (v : EngineView L D C) (picked : Option Want) : Type 0 where
  pub stats : Stats
  pub told : AreStats v stats
  pub wanted_is : picked ≡ wanted stats

-- what a visit left of the devices: its pass has neither, or a job is outside with the store
abbrev pub TookAs : {T L D C : Type 0} → Bool → (D → Files) → ℕ → EngineView L D C → Start T D → Type 0
TookAs tells seen n v (start.Over t) = HasNoDevice n v
TookAs tells seen n v (start.Out out) = (w : Want) × IsAwayBy tells seen n w out (part_in v n)

-- and of the job of a pass that had none: it has none, unless the tablet has stopped, or its job is outside
abbrev pub LeftNone : {T L D C : Type 0} → ℕ → EngineView L D C → EngineView L D C → Start T D → Type 0
LeftNone n old new (start.Over t) = job_of n old.upkeep ≡ None → (job_of n new.upkeep ≡ None) ⊎ (new.tablet.core.stopped ≡ true)
LeftNone n old new (start.Out out) = Unit {0}
