-- What a call for a job tells by the part of its pass.
use Rattle.std.specs.Prelude.{◌≡◌, ◌⊎◌, ◌^◌, ◌-◌, ℕ, Bool, true, false, List, [], ◌∷◌, Option, Some, None, Result, Ok, Err}
use Rattle.kt_base.specs.declared.chore.Chore.{Chore}
use Rattle.kt_disk.specs.Disk.{Files}
use Rattle.kt_history.specs.declared.event.Event.{Event}
use Rattle.kt_history.specs.declared.event.Event.TheVariants as event
use Rattle.kt_pick.specs.declared.rules.Want.{Want}
use Rattle.kt_pick.specs.declared.rules.Want.TheVariants as want
use Rattle.kt_engine.specs.Visits.{PartView}
use Rattle.kt_engine.specs.Calls.{HasNoDevice}
use Rattle.kt_engine.specs.Jobs.{JobView, Last, none, nothing, begun, finished, abandoned, asked, more, without_want}
use Rattle.kt_engine.specs.declared.job.MaintNo.{MaintNo}
use Rattle.kt_engine.specs.declared.job.MaintNo.TheVariants as no
use Rattle.kt_maint.specs.Done.{FoundBy, HasGiven, HasDoneJob}
use Rattle.kt_maint.specs.Outside.{IsAwayBy, HasReadTheSame, ended}
use Rattle.kt_maint.specs.Reworks.{HasComeBy}
use Rattle.kt_maint.specs.declared.jobs.Start.{Start}
use Rattle.kt_maint.specs.declared.jobs.Start.TheVariants as start
use Rattle.kt_maint.specs.declared.reworking.Away.{Away}
use Rattle.kt_maint.specs.declared.reworking.Came.{Came}
use Rattle.kt_maint.specs.declared.run.Ran.{Ran}
use Rattle.kt_maint.specs.declared.run.Ran.TheVariants as ran
use Rattle.kt_maint.specs.declared.tries.Turn.{Turn}
use Rattle.kt_maint.specs.declared.tries.Turn.TheVariants as turn

-- the history has a `stop` line
abbrev pub has_stop : List Event → Bool
has_stop [] = false
has_stop (event.Stop ∷ lines) = true
has_stop (_ ∷ lines) = has_stop lines

-- what was asked
abbrev pub want_of : Last → Want
want_of none = want.Flush
want_of (nothing w) = w
want_of (begun w) = w
want_of (finished w) = w
want_of (abandoned w) = w

-- it asked once more, or the count of its asks stands at its end, the ask ended so, and no job is left of it
pub record HasAsked {L D C : Type 0} (last : Last) (before after : Option (PartView L D C)) : Type 0 where
  pub was : PartView L D C
  pub was_is : before ≡ Some was
  pub part : PartView L D C
  pub is : after ≡ Some part
  pub asks : part.pass.upkeep.asks ≡ more (2 ^ 64 - 1) was.pass.upkeep.asks
  pub last_is : part.pass.upkeep.last ≡ last
  pub round : (part.pass.upkeep.round ≡ was.pass.upkeep.round) × (part.pass.upkeep.rounds ≡ was.pass.upkeep.rounds)
  pub todo : part.pass.upkeep.todo ≡ without_want (want_of last) was.pass.upkeep.todo
  pub job : part.pass.upkeep.job ≡ None

-- it has no job
pub record HasNoJob {L D C : Type 0} (told : Option (PartView L D C)) : Type 0 where
  pub part : PartView L D C
  pub is : told ≡ Some part
  pub none : part.pass.upkeep.job ≡ None

-- no job is left to a pass that had none, unless the tablet has stopped
abbrev pub LeavesNoJob : {L D C : Type 0} → Option (PartView L D C) → Option (PartView L D C) → List Event → Type 0
LeavesNoJob before after seen = HasNoJob before → HasNoJob after ⊎ (has_stop seen ≡ true)

-- a call for this want: for want of memory a pass that had no job has none, and has no device
abbrev pub AfterCall : {L D C : Type 0} → Want → Option (PartView L D C) → Option (PartView L D C) → List Event → Result Ran MaintNo → Type 0
AfterCall w before after seen (Ok ran.Done) = HasAsked (finished w) before after × HasNoDevice after × HasDoneJob w after
AfterCall w before after seen (Ok ran.Nothing) = HasAsked (nothing w) before after × HasNoDevice after
AfterCall w before after seen (Err no.Stopped) = (has_stop seen ≡ true) × HasNoDevice after
AfterCall w before after seen (Err no.Memory) = HasNoDevice after × (HasNoJob before → HasNoJob after)

-- it has what it had of maintenance
pub record SameUpkeep {L D C : Type 0} (before after : Option (PartView L D C)) : Type 0 where
  pub was : PartView L D C
  pub was_is : before ≡ Some was
  pub part : PartView L D C
  pub is : after ≡ Some part
  pub same : part.pass.upkeep ≡ was.pass.upkeep

-- one try of it in a visit
abbrev pub AfterTurn : {L D C : Type 0} → Want → Option (PartView L D C) → Option (PartView L D C) → List Event → Turn → Type 0
AfterTurn w before after seen turn.Nothing = HasAsked (nothing w) before after × HasNoDevice after
AfterTurn w before after seen turn.Wait = SameUpkeep before after × HasNoDevice after
AfterTurn w before after seen turn.Stopped = (has_stop seen ≡ true) × HasNoDevice after
AfterTurn w before after seen turn.Memory = HasNoDevice after × (HasNoJob before → HasNoJob after)

-- it asked once more, and its job for this want is outside
pub record IsBetween {L D C : Type 0} (tells : Bool) (seen : D → Files) (n : ℕ) (w : Want) (out : Away D) (before after : Option (PartView L D C)) : Type 0 where
  pub was : PartView L D C
  pub was_is : before ≡ Some was
  pub part : PartView L D C
  pub is : after ≡ Some part
  pub away : IsAwayBy tells seen n w out part
  pub job : JobView
  pub want : job.want ≡ w
  pub asks : part.pass.upkeep ≡ asked w job was.pass.upkeep

-- a try of it in a visit, or the first of its two visits
abbrev pub AfterStart : {L D C : Type 0} → Bool → (D → Files) → ℕ → Want → Option (PartView L D C) → Option (PartView L D C) → List Event → Start Turn D → Type 0
AfterStart tells seen n w before after lines (start.Over t) = AfterTurn w before after lines t
AfterStart tells seen n w before after lines (start.Out out) = IsBetween tells seen n w out before after

-- its job is outside
pub record HasAway {L D C : Type 0} (tells : Bool) (seen : D → Files) (n : ℕ) (out : Away D) (told : Option (PartView L D C)) : Type 0 where
  pub want : Want
  pub part : PartView L D C
  pub is : told ≡ Some part
  pub away : IsAwayBy tells seen n want out part

-- what was written outside comes back to a pass
pub record ComesTo {L D C : Type 0} (tells : Bool) (seen : D → Files) (now : D → ℕ) (leaves : D → ℕ → Files → Type 0) (faults : D → ℕ) (n : ℕ) (came : Came D) (told : Option (PartView L D C)) : Type 0 where
  pub part : PartView L D C
  pub is : told ≡ Some part
  pub come : HasComeBy tells seen now leaves faults n came part

-- its job was outside, and is done with what was read of it
pub record HasEndedJob {L D C : Type 0} (before after : Option (PartView L D C)) : Type 0 where
  pub was : PartView L D C
  pub was_is : before ≡ Some was
  pub its : JobView
  pub had : was.pass.upkeep.job ≡ Some its
  pub part : PartView L D C
  pub is : after ≡ Some part
  pub job : JobView
  pub upkeep : part.pass.upkeep ≡ ended its.want job was.pass.upkeep
  pub same : HasReadTheSame its job
  pub given : HasGiven (FoundBy part.root) its.want job

-- the last visit of a job that was outside
abbrev pub AfterEnd : {L D C : Type 0} → Option (PartView L D C) → Option (PartView L D C) → List Event → Result (Unit {0}) MaintNo → Type 0
AfterEnd before after seen (Ok done) = HasEndedJob before after × HasNoDevice after
AfterEnd before after seen (Err no.Stopped) = (has_stop seen ≡ true) × HasNoDevice after
AfterEnd before after seen (Err no.Memory) = HasNoDevice after × HasNoJob after

-- how a call ends whose job was outside
abbrev pub ran_of : Result (Unit {0}) MaintNo → Result Ran MaintNo
ran_of (Ok done) = Ok ran.Done
ran_of (Err e) = Err e

-- a round has begun, and these are its wants
pub record HasBegunRound {L D C : Type 0} (chore : Chore) (wants : List Want) (before after : Option (PartView L D C)) : Type 0 where
  pub was : PartView L D C
  pub was_is : before ≡ Some was
  pub part : PartView L D C
  pub is : after ≡ Some part
  pub rounds : part.pass.upkeep.rounds ≡ more (2 ^ 64 - 1) was.pass.upkeep.rounds
  pub round : part.pass.upkeep.round ≡ Some chore
  pub todo : part.pass.upkeep.todo ≡ wants
