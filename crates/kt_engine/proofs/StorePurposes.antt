-- What goes out for each purpose.
use Rattle.std.proofs.Common.{◌≡◌, ℕ, Bool, true, false, Option, Some, None, refl, sym, ap, ◌∙◌, subst, inl, inr}
use Rattle.std.specs.Prelude.{◌⊎◌, Ok}
use Rattle.kt_disk.specs.Disk.{Files}
use Rattle.kt_super.specs.Slots.{super_of, AreStable}
use Rattle.kt_super.specs.declared.meta.Meta.{Meta}
use Rattle.kt_storeside.specs.Sides.{StoreView, published_in, MayBeLent, IsSide}
use Rattle.kt_engine.specs.declared.store.Purpose.{Purpose}
use Rattle.kt_engine.specs.declared.store.Purpose.TheVariants as purpose
use Rattle.kt_engine.specs.Engines.{EngineView}
use Rattle.kt_engine.specs.Jobs.{JobView, job_of}
use Rattle.kt_super.specs.Rowsets.{is_small}
use Rattle.kt_engine.specs.JobMeta.{with_outputs}
use Rattle.kt_engine.specs.Stored.{meta_by, meta_for, next_super, job_meta, MayPublish}

module _ {L D C : Type 0} where
  -- of a pass without a job
  pub lent_is_next : (n : ℕ) (p : Purpose) (v : EngineView L D C) (meta : Option Meta) → meta ≡ meta_for n p v → (p ≡ purpose.Write) ⊎ (job_of n v.upkeep ≡ None) → (m : Meta) → meta ≡ Some m → m ≡ next_super v
  lent_is_next n purpose.Write v meta is free m new = absurd (let no : None ≡ Some m = sym is ∙ new in cc)
  lent_is_next n purpose.Publish v meta is (inl writes) m new = absurd (let no : purpose.Publish ≡ purpose.Write = writes in cc)
  lent_is_next n purpose.Publish v meta is (inr none) m new =
      let same : Some m ≡ Some (next_super v) = sym new ∙ is ∙ ap (λ (o : Option JobView). Some (meta_by o v)) none in
      cc

  pub publishes_settled : (n : ℕ) (p : Purpose) (v : EngineView L D C) (meta : Option Meta) → meta ≡ meta_for n p v → (m : Meta) → meta ≡ Some m → p ≡ purpose.Publish
  publishes_settled n purpose.Write v meta is m new = absurd (let no : None ≡ Some m = sym is ∙ new in cc)
  publishes_settled n purpose.Publish v meta is m new = refl

-- whichever is published at home has the columns of the one from before
pub same_columns : {D : Type 0} (published : Bool) (meta : Option Meta) (store : StoreView D) → meta ≡ store.lent → ((m : Meta) → store.lent ≡ Some m → m.schema ≡ store.meta.schema) → (published_in published meta store.meta).schema ≡ store.meta.schema
same_columns true None store is columns = refl
same_columns true (Some m) store is columns = columns m (sym is)
same_columns false meta store is columns = refl

-- what may be lent may be published on the device that goes out
pub may_publish : {D : Type 0} (tells : Bool) (seen : D → Files) (now : D → ℕ) (leaves : D → ℕ → Files → Type 0) (faults : D → ℕ) (store : StoreView D) → IsSide tells seen now leaves faults store → (disk : D) (meta sent : Option Meta) → disk ≡ store.known → sent ≡ meta
    → ((m : Meta) → meta ≡ Some m → MayBeLent tells seen now leaves store m) → (m : Meta) → sent ≡ Some m → MayPublish tells seen now leaves disk m
may_publish {D} tells seen now leaves faults store side disk meta sent known same may m new =
    let next = (may m (sym same ∙ new)).next in
    record {
      rules = next.rules;
      stable = λ t. subst (λ (d : D). AreStable seen now leaves d) (sym known) (side.publishes t).slots;
      next = λ t. (store.meta, subst (λ (d : D). super_of (seen d) ≡ Ok (Some store.meta)) (sym known) (side.publishes t).superblock, next.number);
    }

-- what is made of the next superblock may be lent: it is that one, or that of the job
pub lent_of_meta : {L D C : Type 0} (May : Meta → Type 0) (n : ℕ) (v : EngineView L D C) (next meta : Meta) → next ≡ next_super v → May next → meta ≡ with_outputs (job_of n v.upkeep) next
    → ((job : JobView) → job_of n v.upkeep ≡ Some job → May (next_super v) → is_small job.last_mem ≡ true → May (job_meta v job)) → ((job : JobView) → job_of n v.upkeep ≡ Some job → is_small job.last_mem ≡ true) → May meta
lent_of_meta May n v next meta is may made its small = by (job_of n v.upkeep) refl
  where
    by : (o : Option JobView) → job_of n v.upkeep ≡ o → May meta
    by None e = subst May (sym (made ∙ ap (λ (o : Option JobView). with_outputs o next) e)) may
    by (Some job) e = subst May (sym (made ∙ ap (λ (o : Option JobView). with_outputs o next) e ∙ ap (with_outputs (Some job)) is)) (its job e (subst May is may) (small job e))
