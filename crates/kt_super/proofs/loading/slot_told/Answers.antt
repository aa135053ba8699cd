use Rattle.std.proofs.Common.{◌≡◌, ◌∙◌, subst, drop, take}
use Rattle.kt_disk.specs.Disk.{Files, held}
use Rattle.kt_disk.proofs.Moments.{turns_then}
use Rattle.kt_super.specs.declared.slot.Head.{Head}
use Rattle.kt_super.specs.declared.slot.Head.TheVariants.{Body}
use Rattle.kt_super.specs.Slots.{IsHead}
use Rattle.kt_super.specs.Faults.{IsFaultBehind}
use Rattle.kt_super.proofs.SlotParts.{fault_with_body}
use Rattle.kt_super.proofs.loading.slot_told.Goals as goal

pub returns-in-Closed-clause-images : goal.returns-in-Closed-clause-images
returns-in-Closed-clause-images g c told = turns_then _ _ _ _ _ (c.len.ensures.images told) (c.slot_head.ensures.images told)

pub returns-in-Short-clause-images : goal.returns-in-Short-clause-images
returns-in-Short-clause-images g c told = turns_then _ _ _ _ _ (c.len.ensures.images told) (c.slot_head.ensures.images told)

pub returns-in-Body-clause-images : goal.returns-in-Body-clause-images
returns-in-Body-clause-images g c told = turns_then _ _ _ _ _ (turns_then _ _ _ _ _ (c.len.ensures.images told) (c.slot_head.ensures.images told)) (c.slot_body.ensures.images told)

pub returns-in-Body-clause-place : goal.returns-in-Body-clause-place
returns-in-Body-clause-place g c at offset e told is =
    let slot = c.args.slot in
    let same : g.D.Disk.seen c.len.new.self ≡ g.D.Disk.seen c.args.disk.now = c.in-Ok.ensures.seen told in
    let after : g.D.Disk.seen c.slot_head.new.disk ≡ g.D.Disk.seen c.args.disk.now = c.in-Ok-slot_head.ensures.seen told ∙ same in
    let head = subst (λ (h : Head). IsHead (take 5 (held (g.D.Disk.seen c.len.new.self) slot)) h) c.in-Body.is (c.in-Ok-slot_head.ensures.head told) in
    fault_with_body slot c.in-Body.size (held (g.D.Disk.seen c.args.disk.now) slot) offset
    (subst (λ (f : Files). IsHead (take 5 (held f slot)) (Body c.in-Body.size)) same head)
    (subst (λ (f : Files). IsFaultBehind slot c.in-Body.size (drop 5 (held f slot)) offset) after (c.slot_body.ensures.place at offset e told is))
