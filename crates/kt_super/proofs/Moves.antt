-- What a crash leaves while calls go on one slot.
use Rattle.std.proofs.Common.{◌≡◌, ◌≢◌, ℕ, List, Option, Result, inl, inr, refl, sym, ◌∙◌, subst, arith}
use Rattle.std.proofs.lemmas.Bool.{cases_eq}
use Rattle.kt_disk.specs.Disk.{Files, bytes_of, held, On, Same, Turns, LeavesOnly, Stable}
use Rattle.kt_disk.proofs.Moments.{started, goes_on, goes_on_same}
use Rattle.kt_super.specs.declared.meta.Meta.{Meta}
use Rattle.kt_super.specs.Slots.{slot_at, IsSlot, AreStable, Tells}

module _ {D : Type 0} (seen : D → Files) (now : D → ℕ) (leaves : D → ℕ → Files → Type 0) (old : D) (slot : ℕ) (is_slot : IsSlot slot) (stable : AreStable seen now leaves old)
    (Is : Result (Option Meta) ℕ → Type 0) (is : Is (slot_at slot (held (seen old) slot))) where
  abbrev P : Files → Type 0
  P = Tells now leaves old slot Is

  -- an image of the disk as it was
  was : (c : Files) → leaves old (now old) c → P c
  was c left = record {
    here = subst (λ (x : Option (List ℕ)). Is (slot_at slot (bytes_of x))) (sym (stable slot is_slot c left)) is;
    others = record { image = c; was_left = left; others = λ n apart. refl };
  }

  pub begun : LeavesOnly now leaves P old old
  begun = started seen now leaves P old was

  -- a call that moves the slot, of which nothing is pending
  pub moved : (mid new : D) (step : Option (List ℕ) → Option (List ℕ) → Type 0) → LeavesOnly now leaves P old mid → Turns now leaves (On slot step) mid new → Stable seen now leaves slot mid
      → ((x : Option (List ℕ)) → step (seen mid slot) x → Is (slot_at slot (bytes_of x))) → LeavesOnly now leaves P old new
  moved mid new step so_far turn still gives = goes_on seen now leaves P old mid new (On slot step) so_far turn (λ d c left has on. record {
    here = gives (c slot) (subst (λ (x : Option (List ℕ)). step x (c slot)) (still d left) on.here);
    others = record { image = has.others.image; was_left = has.others.was_left; others = λ n apart. on.others n apart.0 ∙ has.others.others n apart };
  })

  -- a call that moves nothing
  pub stays : (mid new : D) → LeavesOnly now leaves P old mid → Turns now leaves Same mid new → LeavesOnly now leaves P old new
  stays mid new so_far turn = goes_on_same seen now leaves P old mid new so_far turn

  -- once the slot is stable again, both are
  pub settles : (new : D) → LeavesOnly now leaves P old new → ((n : ℕ) → n ≢ slot → seen new n ≡ seen old n) → Stable seen now leaves slot new → AreStable seen now leaves new
  settles new run others one n is_one c left = elim (cases_eq n slot) [
    | inl here ↦ subst (λ (k : ℕ). c k ≡ seen new k) (sym here) (one c left)
    | inr apart ↦
        let from = (run.each (now new) c run.later (omega arith) left).others in
        from.others n (apart, tt) ∙ stable n is_one from.image from.was_left ∙ sym (others n apart)
  ]
