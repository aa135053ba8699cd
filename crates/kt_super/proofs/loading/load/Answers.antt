use Rattle.std.proofs.Common.{◌≡◌, ◌∙◌, Option, Result, Err, ap, refl, inl, inr}
use Rattle.kt_disk.specs.Disk.{Files}
use Rattle.kt_disk.proofs.Moments.{turns_then}
use Rattle.kt_super.specs.declared.meta.Meta.{Meta}
use Rattle.kt_super.specs.declared.refusal.SuperNo.{SuperNo}
use Rattle.kt_super.specs.declared.refusal.SuperNo.TheVariants.{Place}
use Rattle.kt_super.proofs.SlotParts.{of_slot}
use Rattle.kt_super.proofs.Prepares.{all_still}
use Rattle.kt_super.proofs.loading.load.Goals as goal

pub returns-in-Err-clause-images : goal.returns-in-Err-clause-images
returns-in-Err-clause-images g c told = turns_then _ _ _ _ _ (c.steady.ensures.images told) (c.slot_told.ensures.images told)

pub returns-in-Err-slot_told-clause-images : goal.returns-in-Err-slot_told-clause-images
returns-in-Err-slot_told-clause-images g c told = turns_then _ _ _ _ _ (turns_then _ _ _ _ _ (c.steady.ensures.images told) (c.slot_told.ensures.images told)) (c.slot_told-2.ensures.images told)

abbrev refused : SuperNo → Result (Option Meta) SuperNo
refused why = Err why

pub returns-in-Err-clause-fault_place : goal.returns-in-Err-clause-fault_place
returns-in-Err-clause-fault_place g c slot offset e told =
    let is : c.slot_told.result ≡ refused (Place slot offset) = c.in-Err.is ∙ e in
    of_slot (g.D.Disk.seen c.steady.new.disk) (g.D.Disk.seen c.args.disk.now) 1 slot offset c.slot_told.result _ (c.in-Ok.ensures.seen told) is (c.slot_told.ensures.told told) (c.slot_told.ensures.place slot offset is told (inl refl))

pub returns-in-Err-slot_told-clause-fault_place : goal.returns-in-Err-slot_told-clause-fault_place
returns-in-Err-slot_told-clause-fault_place g c slot offset e told =
    let is : c.slot_told-2.result ≡ refused (Place slot offset) = c.in-Err-slot_told.is ∙ e in
    of_slot (g.D.Disk.seen c.slot_told.new.disk) (g.D.Disk.seen c.args.disk.now) 2 slot offset c.slot_told-2.result _ (c.slot_told.ensures.seen told ∙ c.in-Ok.ensures.seen told) is (c.slot_told-2.ensures.told told) (c.slot_told-2.ensures.place slot offset is told (inr refl))

pub returns-in-Err-clause-others : goal.returns-in-Err-clause-others
returns-in-Err-clause-others g c told n one two = ap (λ (f : Files). f n) (c.slot_told.ensures.seen told) ∙ c.steady.ensures.others told n one two

pub returns-in-Err-slot_told-clause-others : goal.returns-in-Err-slot_told-clause-others
returns-in-Err-slot_told-clause-others g c told n one two = ap (λ (f : Files). f n) (c.slot_told-2.ensures.seen told ∙ c.slot_told.ensures.seen told) ∙ c.steady.ensures.others told n one two

pub returns-in-Ok-slot_told-2-clause-others : goal.returns-in-Ok-slot_told-2-clause-others
returns-in-Ok-slot_told-2-clause-others g c told n one two = ap (λ (f : Files). f n) (c.slot_told-2.ensures.seen told ∙ c.slot_told.ensures.seen told) ∙ c.steady.ensures.others told n one two

pub returns-in-Ok-slot_told-2-clause-seen : goal.returns-in-Ok-slot_told-2-clause-seen
returns-in-Ok-slot_told-2-clause-seen g c told = c.slot_told-2.ensures.seen told ∙ c.slot_told.ensures.seen told ∙ c.in-Ok.ensures.seen told

pub returns-in-Ok-slot_told-2-clause-images : goal.returns-in-Ok-slot_told-2-clause-images
returns-in-Ok-slot_told-2-clause-images g c told = turns_then _ _ _ _ _ (turns_then _ _ _ _ _ (c.steady.ensures.images told) (c.slot_told.ensures.images told)) (c.slot_told-2.ensures.images told)

pub returns-in-Ok-slot_told-2-clause-stable : goal.returns-in-Ok-slot_told-2-clause-stable
returns-in-Ok-slot_told-2-clause-stable g c told =
    all_still g.D.Disk.seen g.D.Disk.now g.D.Disk.leaves c.steady.new.disk c.slot_told-2.new.disk (c.in-Ok.ensures.stable told) (turns_then _ _ _ _ _ (c.slot_told.ensures.images told) (c.slot_told-2.ensures.images told)) (c.slot_told-2.ensures.seen told ∙ c.slot_told.ensures.seen told)
