use Rattle.std.proofs.Common.{◌++◌, [], ◌∷◌, ◌∙◌, ap}
use Rattle.kt_disk.specs.Memory.{MemView}
use Rattle.kt_disk.specs.declared.event.Event.{Event}
use Rattle.kt_disk.specs.declared.event.Change.TheVariants as change
use Rattle.kt_disk.proofs.OneCall.{turns}
use Rattle.kt_host.proofs.ram.RamDiskDisk.remove.Goals as goal

pub returns-clause-images : goal.returns-clause-images
returns-clause-images c told =
    let event : Event = record { file = c.args.file; change = change.Remove } in
    turns _ _ event (ap (λ (v : MemView). v.start) c.self.view_is) (c.note.ensures ∙ ap (λ (v : MemView). v.calls ++ event ∷ []) c.self.view_is)
