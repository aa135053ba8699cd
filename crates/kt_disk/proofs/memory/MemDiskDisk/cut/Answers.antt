use Rattle.std.proofs.Common.{◌++◌, [], ◌∷◌, ◌∙◌, ap}
use Rattle.kt_disk.specs.Memory.{MemView, stored}
use Rattle.kt_disk.specs.declared.event.Event.{Event}
use Rattle.kt_disk.specs.declared.event.Change.TheVariants as change
use Rattle.kt_disk.specs.Disk.{On, Cut}
use Rattle.kt_disk.proofs.Bytes.{shortened_bytes}
use Rattle.kt_disk.proofs.OneCall.{turns, seen_here, still}
use Rattle.kt_disk.proofs.memory.MemDiskDisk.cut.Goals as goal

pub returns-in-Ok-clause-images : goal.returns-in-Ok-clause-images
returns-in-Ok-clause-images c told =
    let event : Event = record { file = c.args.file; change = change.Cut c.args.to } in
    turns _ _ event (ap (λ (v : MemView). v.start) c.self.view_is) (c.in-Ok.ensures.calls ∙ ap (λ (v : MemView). v.calls ++ event ∷ []) c.self.view_is)

pub returns-in-Ok-clause-cut : goal.returns-in-Ok-clause-cut
returns-in-Ok-clause-cut c told =
    let event : Event = record { file = c.args.file; change = change.Cut c.args.to } in
    let after : MemView = record { start = c.self.inside.start.items; calls = c.shorten.new.calls; faults = c.self.inside.faults } in
    seen_here c.args.self.now after event (ap (λ (v : MemView). v.start) c.self.view_is) (c.in-Ok.ensures.calls ∙ ap (λ (v : MemView). v.calls ++ event ∷ []) c.self.view_is)
    ∙ shortened_bytes c.args.to (stored c.args.self.now c.args.file)

pub returns-in-Err-clause-images : goal.returns-in-Err-clause-images
returns-in-Err-clause-images c told = still (On c.args.file (Cut c.args.to)) _ _ (ap (λ (v : MemView). v.start) c.self.view_is) (c.in-Err.ensures.err.1 ∙ ap (λ (v : MemView). v.calls) c.self.view_is)
