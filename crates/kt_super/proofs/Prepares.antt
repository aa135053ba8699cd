-- What a crash leaves while a superblock is prepared, and while its gate is opened.
use Rattle.std.proofs.Common.{◌≡◌, ◌≢◌, ◌⊎◌, ℕ, true, false, List, ◌∷◌, drop, Option, Some, None, Result, Ok, inl, inr, refl, sym, ◌∙◌, ap, subst}
use Rattle.kt_disk.specs.Disk.{Files, bytes_of, held, Torn, On, Same, Turns, LeavesOnly, Stable}
use Rattle.kt_disk.proofs.Moments.{same_left, weaker}
use Rattle.kt_super.specs.declared.meta.Meta.{Meta}
use Rattle.kt_super.specs.declared.meta.Prepared.{Prepared}
use Rattle.kt_super.specs.Body.{slot_for}
use Rattle.kt_super.specs.Slots.{is_shut, slot_at, super_of, IsSlot, AreStable, IsNext, IsReady, IsWith, Tells, IsOldOrNone, IsNoneOrNew}
use Rattle.kt_super.proofs.Closing.{shutting, writing, opening, closed_tells}
use Rattle.kt_super.proofs.Moves.{begun, moved, stays, settles}
use Rattle.kt_super.proofs.Supers.{kept, new, slot_is}

module _ {D : Type 0} (seen : D → Files) (now : D → ℕ) (leaves : D → ℕ → Files → Type 0) where
  -- a call that moves nothing leaves what is stable
  pub still : (slot : ℕ) (old d1 : D) → Stable seen now leaves slot old → Turns now leaves Same old d1 → seen d1 ≡ seen old → Stable seen now leaves slot d1
  still slot old d1 stable turn same c left = stable c (same_left now leaves old d1 turn c left) ∙ sym (ap (λ (f : Files). f slot) same)

  pub all_still : (old d1 : D) → AreStable seen now leaves old → Turns now leaves Same old d1 → seen d1 ≡ seen old → AreStable seen now leaves d1
  all_still old d1 stable turn same slot is = still slot old d1 (stable slot is) turn same

  module _ (old : D) (slot : ℕ) (is_slot : IsSlot slot) (stable : AreStable seen now leaves old) where
    abbrev pub Run : D → Type 0
    Run d = LeavesOnly now leaves (Tells now leaves old slot (IsOldOrNone (slot_at slot (held (seen old) slot)))) old d

    abbrev Old : Result (Option Meta) ℕ → Type 0
    Old = IsOldOrNone (slot_at slot (held (seen old) slot))

    pub looked : (d1 : D) → Turns now leaves Same old d1 → Run d1
    looked d1 turn = stays seen now leaves old slot is_slot stable Old (inl refl) old d1 (begun seen now leaves old slot is_slot stable Old (inl refl)) turn

    pub shut_wrote : (d1 d2 : D) → Turns now leaves Same old d1 → seen d1 ≡ seen old → is_shut (held (seen old) slot) ≡ false → Turns now leaves (On slot (Torn 0 1)) d1 d2 → Run d2
    shut_wrote d1 d2 turn same ajar wrote =
        moved seen now leaves old slot is_slot stable Old (inl refl) d1 d2 (Torn 0 1) (looked d1 turn) wrote (still slot old d1 (stable slot is_slot) turn same)
        (λ x torn. shutting slot (seen old slot) x ajar (subst (λ (f : Files). Torn 0 1 (f slot) x) same torn))

    pub synced : (d1 d2 : D) → Run d1 → Turns now leaves Same d1 d2 → Run d2
    synced d1 d2 so_far turn = stays seen now leaves old slot is_slot stable Old (inl refl) d1 d2 so_far turn

    -- behind a closed gate
    pub placed : (n : ℕ) (d1 d2 : D) → Run d1 → AreStable seen now leaves d1 → is_shut (held (seen d1) slot) ≡ true → Turns now leaves (On slot (Torn 1 n)) d1 d2 → Run d2
    placed n d1 d2 so_far there shut wrote =
        moved seen now leaves old slot is_slot stable Old (inl refl) d1 d2 (Torn 1 n) so_far wrote (there slot is_slot) (λ x torn. inr (writing slot n (seen d1 slot) x shut torn))

    pub stable_again : (d : D) → Run d → ((n : ℕ) → n ≢ slot → seen d n ≡ seen old n) → Stable seen now leaves slot d → AreStable seen now leaves d
    stable_again d run others one = settles seen now leaves old slot is_slot stable Old (inl refl) d run others one

  -- each image has the old superblock
  pub superblock_kept : (old : D) (number : ℕ) (stable : AreStable seen now leaves old) → IsNext (super_of (seen old)) number → (d : D) → Run old (slot_for number) (slot_is number) stable d
      → LeavesOnly now leaves (IsWith now leaves old (slot_for number) (λ s. s ≡ super_of (seen old)) (IsOldOrNone (slot_at (slot_for number) (held (seen old) (slot_for number))))) old d
  superblock_kept old number stable next d run = weaker now leaves _ _ old d (λ c tells. record {
    superblock = kept (seen old) c number next (slot_for number) (slot_is number) refl (λ n is apart. tells.others.others n (apart, tt) ∙ stable n is tells.others.image tells.others.was_left) tells.here;
    here = tells.here;
    others = tells.others;
  }) run

  pub superblock_begun : (old : D) (number : ℕ) → AreStable seen now leaves old → IsNext (super_of (seen old)) number → LeavesOnly now leaves (IsWith now leaves old (slot_for number) (λ s. s ≡ super_of (seen old)) (IsOldOrNone (slot_at (slot_for number) (held (seen old) (slot_for number))))) old old
  superblock_begun old number stable next =
      superblock_kept old number stable next old (begun seen now leaves old (slot_for number) (slot_is number) stable (IsOldOrNone (slot_at (slot_for number) (held (seen old) (slot_for number)))) (inl refl))

  -- ---- opening a gate

  module _ (old : D) (prepared : Prepared) (m : Meta) (stable : AreStable seen now leaves old) (ready : IsReady (seen old) prepared m) where
    slot : ℕ
    slot = prepared.slot

    is_slot : IsSlot prepared.slot
    is_slot = subst (λ (k : ℕ). IsSlot k) (sym ready.slot) (slot_is m.number)

    closed : slot_at prepared.slot (held (seen old) prepared.slot) ≡ Ok None
    closed = closed_tells prepared.slot (held (seen old) prepared.slot) ready.closed

    abbrev GateRun : D → Type 0
    GateRun d = LeavesOnly now leaves (Tells now leaves old prepared.slot (IsNoneOrNew m)) old d

    gate_wrote : (d1 : D) → Turns now leaves (On prepared.slot (Torn 0 1)) old d1 → GateRun d1
    gate_wrote d1 wrote =
        moved seen now leaves old prepared.slot is_slot stable (IsNoneOrNew m) (inl closed) old d1 (Torn 0 1) (begun seen now leaves old prepared.slot is_slot stable (IsNoneOrNew m) (inl closed)) wrote (stable prepared.slot is_slot)
        (λ x torn. opening prepared.slot m (seen old prepared.slot) x ready.behind torn)

    gate_synced : (d1 d2 : D) → GateRun d1 → Turns now leaves Same d1 d2 → GateRun d2
    gate_synced d1 d2 so_far turn = stays seen now leaves old prepared.slot is_slot stable (IsNoneOrNew m) (inl closed) d1 d2 so_far turn

    -- an image has the old superblock or this one
    gate_supers : (d : D) → GateRun d → LeavesOnly now leaves (IsWith now leaves old prepared.slot (λ s. (s ≡ super_of (seen old)) ⊎ (s ≡ Ok (Some m))) (IsNoneOrNew m)) old d
    gate_supers d run = weaker now leaves _ _ old d (λ c tells.
        let others : (n : ℕ) → IsSlot n → n ≢ prepared.slot → c n ≡ seen old n = λ n is apart. tells.others.others n (apart, tt) ∙ stable n is tells.others.image tells.others.was_left in
        record {
          superblock = elim tells.here [
            | inl none ↦ inl (kept (seen old) c m.number ready.next prepared.slot is_slot (sym ready.slot) others (inr none))
            | inr this ↦ inr (new (seen old) c m ready.next prepared.slot is_slot closed others this)
          ];
          here = tells.here;
          others = tells.others;
        }) run

    pub gate_write : (d1 : D) → Turns now leaves (On prepared.slot (Torn 0 1)) old d1 → LeavesOnly now leaves (IsWith now leaves old prepared.slot (λ s. (s ≡ super_of (seen old)) ⊎ (s ≡ Ok (Some m))) (IsNoneOrNew m)) old d1
    gate_write d1 wrote = gate_supers d1 (gate_wrote d1 wrote)

    pub gate_sync : (d1 d2 : D) → Turns now leaves (On prepared.slot (Torn 0 1)) old d1 → Turns now leaves Same d1 d2 → LeavesOnly now leaves (IsWith now leaves old prepared.slot (λ s. (s ≡ super_of (seen old)) ⊎ (s ≡ Ok (Some m))) (IsNoneOrNew m)) old d2
    gate_sync d1 d2 wrote turn = gate_supers d2 (gate_synced d1 d2 (gate_wrote d1 wrote) turn)

    -- the gate is open
    pub gate_opened : (files : Files) → files prepared.slot ≡ Some (1 ∷ drop 1 (held (seen old) prepared.slot)) → ((n : ℕ) → n ≢ prepared.slot → files n ≡ seen old n) → super_of files ≡ Ok (Some m)
    gate_opened files here others = new (seen old) files m ready.next prepared.slot is_slot closed (λ n is apart. others n apart) (ap (λ (x : Option (List ℕ)). slot_at prepared.slot (bytes_of x)) here ∙ ready.behind)

  -- once the slot is stable again, both are
  pub gate_settles : (old : D) (prepared : Prepared) (m : Meta) → AreStable seen now leaves old → IsReady (seen old) prepared m → (d1 d2 : D) → Turns now leaves (On prepared.slot (Torn 0 1)) old d1 → Turns now leaves Same d1 d2
      → ((n : ℕ) → n ≢ prepared.slot → seen d2 n ≡ seen old n) → Stable seen now leaves prepared.slot d2 → AreStable seen now leaves d2
  gate_settles old prepared m stable ready d1 d2 wrote turn others one =
      settles seen now leaves old prepared.slot (is_slot old prepared m stable ready) stable (IsNoneOrNew m) (inl (closed old prepared m stable ready)) d2
      (gate_synced old prepared m stable ready d1 d2 (gate_wrote old prepared m stable ready d1 wrote) turn) others one
