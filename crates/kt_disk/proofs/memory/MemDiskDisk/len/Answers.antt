use Rattle.std.proofs.Common.{◌++◌, [], ◌∷◌, ◌∙◌, ap}
use Rattle.kt_disk.specs.Memory.{MemView}
use Rattle.kt_disk.specs.declared.event.Event.{Event}
use Rattle.kt_disk.specs.declared.event.Change.TheVariants as change
use Rattle.kt_disk.specs.Disk.{Same}
use Rattle.kt_disk.proofs.OneCall.{still, looked}
use Rattle.kt_disk.proofs.memory.MemDiskDisk.len.Goals as goal

pub returns-in_err-look-clause-images : goal.returns-in_err-look-clause-images
returns-in_err-look-clause-images c told = still Same _ _ (ap (λ (v : MemView). v.start) c.self.view_is) (c.in_err-look.ensures.err ∙ ap (λ (v : MemView). v.calls) c.self.view_is)

pub returns-clause-images : goal.returns-clause-images
returns-clause-images c told =
    let event : Event = record { file = c.args.file; change = change.Look } in
    looked _ _ c.args.file (ap (λ (v : MemView). v.start) c.self.view_is) (c.in_ok-look.ensures.ok.0 ∙ ap (λ (v : MemView). v.calls ++ event ∷ []) c.self.view_is)
