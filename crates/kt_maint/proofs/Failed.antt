-- A device that failed, as it comes home.
use Rattle.std.proofs.Common.{◌≡◌, subst}
use Rattle.kt_loglaws.specs.declared.side.Batch.{Batch}
use Rattle.kt_storeside.specs.declared.side.Lent.{Lent}
use Rattle.kt_engine.specs.declared.log.Broken.{Broken}
use Rattle.kt_engine.specs.declared.log.Broken.TheVariants.{Log, Store}

same_batch : {L D : Type 0} (came batch : Batch L) → ◌≡◌ {A = Broken L D} (Log came) (Log batch) → came ≡ batch
same_batch came batch is = cc

-- what is said of the batch that it was is said of the one that it is told to be
pub of_batch : {L D : Type 0} (P : Batch L → Type 0) (came batch : Batch L) → ◌≡◌ {A = Broken L D} (Log came) (Log batch) → P came → P batch
of_batch {L} {D} P came batch is has = subst P (same_batch {L = L} {D = D} came batch is) has

-- a log is no store
pub no_store : {L D : Type 0} (came : Batch L) (lent : Lent D) → ◌≡◌ {A = Broken L D} (Log came) (Store lent) → ⊥
no_store came lent is = cc

same_lent : {L D : Type 0} (came lent : Lent D) → ◌≡◌ {A = Broken L D} (Store came) (Store lent) → came ≡ lent
same_lent came lent is = cc

-- what is said of the store that came home is said of the one that it is told to be
pub of_lent : {L D : Type 0} (P : Lent D → Type 0) (came lent : Lent D) → ◌≡◌ {A = Broken L D} (Store came) (Store lent) → P came → P lent
of_lent {L} {D} P came lent is has = subst P (same_lent {L = L} {D = D} came lent is) has

pub no_log : {L D : Type 0} (came : Lent D) (batch : Batch L) → ◌≡◌ {A = Broken L D} (Store came) (Log batch) → ⊥
no_log came batch is = cc
