use Rattle.std.proofs.Common.{◌++◌, [], ◌∷◌, length, ◌∙◌, ap, arith}
use Rattle.kt_disk.specs.Memory.{MemView, stored}
use Rattle.kt_disk.specs.declared.event.Event.{Event}
use Rattle.kt_disk.specs.declared.event.Change.TheVariants as change
use Rattle.kt_disk.specs.Disk.{On, Torn}
use Rattle.kt_disk.proofs.Bytes.{put_bytes}
use Rattle.kt_disk.proofs.OneCall.{turns, seen_here, still}
use Rattle.kt_host.specs.Ram.{calls_of}
use Rattle.kt_host.proofs.ram.RamDiskDisk.write_at.Goals as goal

pub returns-in-Ok-clause-images : goal.returns-in-Ok-clause-images
returns-in-Ok-clause-images c told =
    let event : Event = record { file = c.args.file; change = change.Write c.args.at c.args.bytes.now } in
    turns _ _ event (ap (λ (v : MemView). v.start) c.self.view_is) (c.note_write.ensures ∙ ap (λ (v : MemView). v.calls ++ event ∷ []) c.self.view_is)

pub returns-in-Ok-clause-written : goal.returns-in-Ok-clause-written
returns-in-Ok-clause-written c told =
    let event : Event = record { file = c.args.file; change = change.Write c.args.at c.args.bytes.now } in
    let after : MemView = record { start = []; calls = calls_of c.note_write.new.past.value; faults = c.self.inside.faults } in
    seen_here c.args.self.now after event (ap (λ (v : MemView). v.start) c.self.view_is) (c.note_write.ensures ∙ ap (λ (v : MemView). v.calls ++ event ∷ []) c.self.view_is)
    ∙ put_bytes (stored c.args.self.now c.args.file) c.args.at c.args.bytes.now (λ i. omega (arith, c.type_inv.bytes i))

pub returns-in-Err-clause-images : goal.returns-in-Err-clause-images
returns-in-Err-clause-images c told = still (On c.args.file (Torn c.args.at (length c.args.bytes.now))) _ _ (ap (λ (v : MemView). v.start) c.self.view_is) (ap (λ (v : MemView). v.calls) c.self.view_is)
