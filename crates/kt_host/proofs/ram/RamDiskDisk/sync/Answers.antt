use Rattle.std.proofs.Common.{◌++◌, [], ◌∷◌, ◌∙◌, ap}
use Rattle.kt_disk.specs.Memory.{MemView}
use Rattle.kt_disk.specs.declared.event.Event.{Event}
use Rattle.kt_disk.specs.declared.event.Change.TheVariants as change
use Rattle.kt_disk.proofs.OneCall.{synced, synced_turns}
use Rattle.kt_host.specs.Ram.{calls_of}
use Rattle.kt_host.proofs.ram.RamDiskDisk.sync.Goals as goal

pub returns-clause-images : goal.returns-clause-images
returns-clause-images c told =
    let event : Event = record { file = c.args.file; change = change.Sync } in
    synced_turns _ _ c.args.file (ap (λ (v : MemView). v.start) c.self.view_is) (c.note.ensures ∙ ap (λ (v : MemView). v.calls ++ event ∷ []) c.self.view_is)

pub returns-clause-stable : goal.returns-clause-stable
returns-clause-stable c told =
    let event : Event = record { file = c.args.file; change = change.Sync } in
    let after : MemView = record { start = []; calls = calls_of c.note.new.past.value; faults = c.self.inside.faults } in
    synced c.args.self.now after c.args.file (ap (λ (v : MemView). v.start) c.self.view_is) (c.note.ensures ∙ ap (λ (v : MemView). v.calls ++ event ∷ []) c.self.view_is)
