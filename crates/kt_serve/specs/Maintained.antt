-- What a pass knows of maintenance.
use Rattle.std.specs.Prelude.{◌≡◌, ◌≤◌, ◌<◌, ◌+◌, ◌^◌, ℕ, List, [], ◌∷◌, Option, Some, None}
use Rattle.kt_base.specs.declared.chore.Chore.{Chore}
use Rattle.kt_history.specs.declared.command.Command.{Command}
use Rattle.kt_history.specs.declared.command.Command.TheVariants as command
use Rattle.kt_engine.specs.Visits.{PartView}
use Rattle.kt_engine.specs.Calls.{IsThrough}

-- The pass does not have the store out.
pub record StoreRests {L D C : Type 0} (told : Option (PartView L D C)) : Type 0 where
  pub part : PartView L D C
  pub is : told ≡ Some part
  pub home : part.turn ≡ None

-- The pass has no job.
pub record HasNoJob {L D C : Type 0} (told : Option (PartView L D C)) : Type 0 where
  pub part : PartView L D C
  pub is : told ≡ Some part
  pub none : part.pass.upkeep.job ≡ None

-- The pass has begun so many rounds at least.
pub record HasRounds {L D C : Type 0} (n : ℕ) (told : Option (PartView L D C)) : Type 0 where
  pub part : PartView L D C
  pub is : told ≡ Some part
  pub rounds : n ≤ part.pass.upkeep.rounds

-- The last round of the pass was of this chore, and nothing of it is left to do.
pub record HasDoneWith {L D C : Type 0} (chore : Chore) (told : Option (PartView L D C)) : Type 0 where
  pub part : PartView L D C
  pub is : told ≡ Some part
  pub through : IsThrough chore part.pass.upkeep

-- What the pass has of maintenance stays, and so does the store as it went out to it.
abbrev pub KeepsUpkeep : {L D C : Type 0} → Option (PartView L D C) → Option (PartView L D C) → Type 0
KeepsUpkeep {L} {D} {C} before after = (p : PartView L D C) → before ≡ Some p → (q : PartView L D C) × (after ≡ Some q) × (q.pass.upkeep ≡ p.pass.upkeep) × (q.turn ≡ p.turn)

-- It has begun no fewer rounds than before, as far as these are counted.
abbrev pub KeepsRounds : {L D C : Type 0} → Option (PartView L D C) → Option (PartView L D C) → Type 0
KeepsRounds before after = (n : ℕ) → n < 2 ^ 64 → HasRounds n before → HasRounds n after

-- how many of these commands ask for maintenance
abbrev pub chores_in : List Command → ℕ
chores_in [] = 0
chores_in (command.Chore chore ∷ commands) = chores_in commands + 1
chores_in (_ ∷ commands) = chores_in commands
