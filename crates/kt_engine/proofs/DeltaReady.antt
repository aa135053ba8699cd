-- What goes out for a job on the files of a disk rowset may be published.
use Rattle.std.proofs.Common.{◌≡◌, ℕ, Bool, Some, Result, Ok, Err, subst}
use Rattle.std.specs.Prelude.{IfOk}
use Rattle.kt_bytes.specs.declared.memory.NoMemory.{NoMemory}
use Rattle.kt_disk.specs.Disk.{Files}
use Rattle.kt_super.specs.declared.meta.Meta.{Meta}
use Rattle.kt_storeside.specs.declared.side.Lent.{Lent}
use Rattle.kt_storeside.specs.Sides.{StoreView, IsSide, MayBeLent}
use Rattle.kt_engine.specs.Stored.{MayPublish}
use Rattle.kt_engine.proofs.StorePurposes.{may_publish}

pub ready_of : {D : Type 0} (tells : Bool) (seen : D → Files) (now : D → ℕ) (leaves : D → ℕ → Files → Type 0) (faults : D → ℕ) (store : StoreView D) → IsSide tells seen now leaves faults store → (meta : Meta) → MayBeLent tells seen now leaves store meta → (r : Result (Lent D) NoMemory)
    → IfOk r (λ lent. (store.home ≡ Some lent.device) × (lent.device ≡ store.known)) → IfOk r (λ lent. lent.meta ≡ Some meta) → IfOk r (λ lent. (m : Meta) → lent.meta ≡ Some m → MayPublish tells seen now leaves lent.device m)
ready_of tells seen now leaves faults store side meta may (Ok lent) known same =
    may_publish tells seen now leaves faults store side lent.device (Some meta) lent.meta known.1 same (λ m e. let one : meta ≡ m = cc in subst (MayBeLent tells seen now leaves store) one may)
ready_of tells seen now leaves faults store side meta may (Err e) known same = tt
