-- What a call that makes visits of its own leaves of a pass.
use Rattle.std.specs.Prelude.{◌≡◌, ◌^◌, ◌-◌, ℕ, List, [], Option, Some, None}
use Rattle.kt_base.specs.declared.chore.Chore.{Chore}
use Rattle.kt_history.specs.declared.event.Event.{Event}
use Rattle.kt_seatlock.specs.Trails.{Follows}
use Rattle.kt_engine.specs.Jobs.{UpkeepView, more}
use Rattle.kt_engine.specs.Visits.{PartView, session_of}

-- the lines that it has seen since are none of its own session's
abbrev pub SeesOthers : ℕ → List Event → List Event → Type 0
SeesOthers n before after = Follows session_of n before after

-- the pass has no device out
pub record HasNoDevice {L D C : Type 0} (told : Option (PartView L D C)) : Type 0 where
  pub part : PartView L D C
  pub is : told ≡ Some part
  pub log : part.pass.out ≡ None
  pub store : part.turn ≡ None

-- it stands in its session where it did, and what is alike in every part stays
pub record StandsStill {L D C : Type 0} (before after : Option (PartView L D C)) : Type 0 where
  pub was : PartView L D C
  pub was_is : before ≡ Some was
  pub part : PartView L D C
  pub is : after ≡ Some part
  pub session : part.pass.session ≡ was.pass.session
  pub place : part.pass.place ≡ was.pass.place
  pub root : part.root ≡ was.root

-- the last round of a pass was of this chore, and nothing of it is left to do
pub record IsThrough (chore : Chore) (u : UpkeepView) : Type 0 where
  pub round : u.round ≡ Some chore
  pub todo : u.todo ≡ []

-- a chore is done: a round of it more, and nothing of it is left
pub record HasDone {L D C : Type 0} (chore : Chore) (before after : Option (PartView L D C)) : Type 0 where
  pub was : PartView L D C
  pub was_is : before ≡ Some was
  pub part : PartView L D C
  pub is : after ≡ Some part
  pub rounds : part.pass.upkeep.rounds ≡ more (2 ^ 64 - 1) was.pass.upkeep.rounds
  pub through : IsThrough chore part.pass.upkeep
