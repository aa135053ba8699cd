-- What comes of either kind of want.
use Rattle.std.proofs.Common.{ℕ, refl}
use Rattle.kt_pick.specs.declared.rules.Want.{Want}
use Rattle.kt_pick.specs.declared.rules.Want.TheVariants as want
use Rattle.kt_engine.specs.JobSteps.{IsMerge}
use Rattle.kt_engine.specs.DeltaJobs.{IsOn}
use Rattle.kt_engine.specs.JobCalls.{ByWant}

pub either_by : (M : Type 0) (O : ℕ → Type 0) (A : Type 0) (w : Want) → (IsMerge w → M → A) → ((r : ℕ) → IsOn r w → O r → A) → ByWant w M O → A
either_by M O A want.Flush merge one x = merge tt x
either_by M O A (want.Compact taken) merge one x = merge tt x
either_by M O A (want.FlushDeltas r) merge one x = one r refl x
either_by M O A (want.Minor r) merge one x = one r refl x
either_by M O A (want.Major r) merge one x = one r refl x
