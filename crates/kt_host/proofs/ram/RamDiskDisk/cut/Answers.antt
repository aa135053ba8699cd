use Rattle.std.proofs.Common.{◌++◌, [], ◌∷◌, ◌∙◌, ap}
use Rattle.kt_disk.specs.Memory.{MemView, stored}
use Rattle.kt_disk.specs.declared.event.Event.{Event}
use Rattle.kt_disk.specs.declared.event.Change.TheVariants as change
use Rattle.kt_disk.specs.Disk.{Cut}
use Rattle.kt_disk.proofs.Bytes.{shortened_bytes}
use Rattle.kt_disk.proofs.OneCall.{turns, seen_here}
use Rattle.kt_host.specs.Ram.{calls_of}
use Rattle.kt_host.proofs.ram.RamDiskDisk.cut.Goals as goal

pub returns-clause-images : goal.returns-clause-images
returns-clause-images c told =
    let event : Event = record { file = c.args.file; change = change.Cut c.args.to } in
    turns _ _ event (ap (λ (v : MemView). v.start) c.self.view_is) (c.note.ensures ∙ ap (λ (v : MemView). v.calls ++ event ∷ []) c.self.view_is)

pub returns-clause-cut : goal.returns-clause-cut
returns-clause-cut c told =
    let event : Event = record { file = c.args.file; change = change.Cut c.args.to } in
    let after : MemView = record { start = []; calls = calls_of c.note.new.past.value; faults = c.self.inside.faults } in
    seen_here c.args.self.now after event (ap (λ (v : MemView). v.start) c.self.view_is) (c.note.ensures ∙ ap (λ (v : MemView). v.calls ++ event ∷ []) c.self.view_is)
    ∙ shortened_bytes c.args.to (stored c.args.self.now c.args.file)
