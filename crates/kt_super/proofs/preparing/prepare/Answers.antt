use Rattle.std.proofs.Common.{◌≡◌, ◌++◌, ◌∷◌, List, ℕ, inr, refl, sym, ◌∙◌, ap, subst, length, drop}
use Rattle.std.specs.Int.{w32, to_le_bytes}
use Rattle.kt_disk.specs.Disk.{Files, held, LeavesOnly}
use Rattle.kt_bytes.specs.Places.{AreBytes}
use Rattle.kt_bytes.proofs.Formats.{bytes_back}
use Rattle.kt_super.specs.Body.{slot_for, spelled_body}
use Rattle.kt_super.specs.Slots.{slot_at, super_of, spelled_slot, IsSlot, Tells, IsOldOrNone}
use Rattle.kt_super.proofs.Closing.{closed_tells}
use Rattle.kt_super.proofs.SlotLaws.{slot_again}
use Rattle.kt_super.proofs.Supers.{kept, slot_is, next_is}
use Rattle.kt_super.proofs.Prepares.{superblock_kept, superblock_begun}
use Rattle.kt_super.proofs.preparing.prepare.Goals as goal

pub place-requires-clause-slot : goal.place-requires-clause-slot
place-requires-clause-slot g c = subst (λ (k : ℕ). IsSlot k) (sym c.slot_for-slot.ensures) (slot_is c.args.meta.now.number)

pub returns-in_err-rest-clause-any_moment : goal.returns-in_err-rest-clause-any_moment
returns-in_err-rest-clause-any_moment g c told = superblock_begun g.D.Disk.seen _ _ _ c.args.meta.now.number (c.requires.stable told) (c.requires.next told)

pub returns-in_err-place-clause-any_moment : goal.returns-in_err-place-clause-any_moment
returns-in_err-place-clause-any_moment g c told = superblock_kept g.D.Disk.seen _ _ _ c.args.meta.now.number (c.requires.stable told) (c.requires.next told) _ (subst (λ (k : ℕ). LeavesOnly g.D.Disk.now g.D.Disk.leaves (Tells g.D.Disk.now g.D.Disk.leaves c.args.disk.now k (IsOldOrNone (slot_at k (held (g.D.Disk.seen c.args.disk.now) k)))) c.args.disk.now c.place.new.disk) c.slot_for-slot.ensures (c.place.ensures.any_moment told))

pub returns-clause-any_moment : goal.returns-clause-any_moment
returns-clause-any_moment g c told = superblock_kept g.D.Disk.seen _ _ _ c.args.meta.now.number (c.requires.stable told) (c.requires.next told) _ (subst (λ (k : ℕ). LeavesOnly g.D.Disk.now g.D.Disk.leaves (Tells g.D.Disk.now g.D.Disk.leaves c.args.disk.now k (IsOldOrNone (slot_at k (held (g.D.Disk.seen c.args.disk.now) k)))) c.args.disk.now c.place.new.disk) c.slot_for-slot.ensures (c.place.ensures.any_moment told))

pub returns-clause-ready : goal.returns-clause-ready
returns-clause-ready g c told =
    let seen = g.D.Disk.seen in
    let m = c.args.meta.now in
    let slot = c.slot_for-slot.result in
    let here : slot ≡ slot_for m.number = c.slot_for-slot.ensures in
    let is : IsSlot slot = subst (λ (k : ℕ). IsSlot k) (sym here) (slot_is m.number) in
    let files : Files = seen c.place.new.disk in
    let closed = c.in_ok-place.ensures.closed told in
    let behind = c.in_ok-place.ensures.behind told in
    let text : drop 1 (held files slot) ≡ spelled_slot m ++ behind.0 = behind.1 ∙ ap (λ (l : List ℕ). l ++ behind.0) (c.as_slice.ensures ∙ c.in_ok-rest.ensures.spelled) in
    let fits : AreBytes (spelled_body m) = bytes_back (to_le_bytes w32 (length (spelled_body m))) (spelled_body m) (subst AreBytes (c.as_slice.ensures ∙ c.in_ok-rest.ensures.spelled) c.in_ok-place.ensures.bytes) in
    let same = kept (seen c.args.disk.now) files m.number (c.requires.next told) slot is (sym here) (λ n is_one apart. c.place.ensures.others told n apart) (inr (closed_tells slot (held files slot) closed)) in
    record {
      slot = here;
      number = refl;
      next = next_is m.number (super_of (seen c.args.disk.now)) (super_of files) (sym same) (c.requires.next told);
      closed = closed;
      behind = ap (λ (l : List ℕ). slot_at slot (1 ∷ l)) text ∙ slot_again slot m behind.0 c.requires.meta here fits c.in_ok-rest.ensures.fits;
    }
