use Rattle.std.proofs.Common.{◌++◌, [], ◌∷◌, ◌∙◌, ap}
use Rattle.kt_disk.specs.Memory.{MemView}
use Rattle.kt_disk.specs.declared.event.Event.{Event}
use Rattle.kt_disk.specs.declared.event.Change.TheVariants as change
use Rattle.kt_disk.specs.Disk.{On, Gone}
use Rattle.kt_disk.proofs.OneCall.{turns, still}
use Rattle.kt_disk.proofs.memory.MemDiskDisk.remove.Goals as goal

pub returns-clause-images : goal.returns-clause-images
returns-clause-images c told =
    let event : Event = record { file = c.args.file; change = change.Remove } in
    turns _ _ event (ap (λ (v : MemView). v.start) c.self.view_is) (c.in_ok-note.ensures.ok.0 ∙ ap (λ (v : MemView). v.calls ++ event ∷ []) c.self.view_is)

pub returns-in_err-note-clause-images : goal.returns-in_err-note-clause-images
returns-in_err-note-clause-images c told = still (On c.args.file Gone) _ _ (ap (λ (v : MemView). v.start) c.self.view_is) (c.in_err-note.ensures.err ∙ ap (λ (v : MemView). v.calls) c.self.view_is)
