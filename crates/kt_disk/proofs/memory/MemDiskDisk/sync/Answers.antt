use Rattle.std.proofs.Common.{◌++◌, [], ◌∷◌, ◌∙◌, ap}
use Rattle.kt_disk.specs.Memory.{MemView}
use Rattle.kt_disk.specs.declared.event.Event.{Event}
use Rattle.kt_disk.specs.declared.event.Change.TheVariants as change
use Rattle.kt_disk.specs.Disk.{Same}
use Rattle.kt_disk.proofs.OneCall.{still, synced, synced_turns}
use Rattle.kt_disk.proofs.memory.MemDiskDisk.sync.Goals as goal

pub returns-in_err-note-clause-images : goal.returns-in_err-note-clause-images
returns-in_err-note-clause-images c told = still Same _ _ (ap (λ (v : MemView). v.start) c.self.view_is) (c.in_err-note.ensures.err ∙ ap (λ (v : MemView). v.calls) c.self.view_is)

pub returns-clause-images : goal.returns-clause-images
returns-clause-images c told =
    let event : Event = record { file = c.args.file; change = change.Sync } in
    synced_turns _ _ c.args.file (ap (λ (v : MemView). v.start) c.self.view_is) (c.in_ok-note.ensures.ok.0 ∙ ap (λ (v : MemView). v.calls ++ event ∷ []) c.self.view_is)

pub returns-clause-stable : goal.returns-clause-stable
returns-clause-stable c told =
    let event : Event = record { file = c.args.file; change = change.Sync } in
    let after : MemView = record { start = c.self.inside.start.items; calls = c.note.new.calls; faults = c.note.new.faults } in
    synced c.args.self.now after c.args.file (ap (λ (v : MemView). v.start) c.self.view_is) (c.in_ok-note.ensures.ok.0 ∙ ap (λ (v : MemView). v.calls ++ event ∷ []) c.self.view_is)
