use Rattle.std.proofs.Common.{◌≡◌, ℕ, ◌+◌, ◌-◌, ◌++◌, [], ◌∷◌, List, Option, length, take, drop, ◌∙◌, ap, arith}
use Rattle.kt_disk.specs.Memory.{MemView, stored}
use Rattle.kt_disk.specs.declared.event.Event.{Event}
use Rattle.kt_disk.specs.declared.event.Change.TheVariants as change
use Rattle.kt_disk.specs.Disk.{bytes_of}
use Rattle.kt_disk.proofs.Bytes.{read_bytes}
use Rattle.kt_disk.proofs.OneCall.{look_seen, looked}
use Rattle.kt_host.specs.Ram.{calls_of}
use Rattle.kt_host.proofs.ram.RamDiskDisk.read.Goals as goal

pub returns-clause-seen : goal.returns-clause-seen
returns-clause-seen c told =
    let event : Event = record { file = c.args.file; change = change.Look } in
    let after : MemView = record { start = []; calls = calls_of c.note.new.past.value; faults = c.self.inside.faults } in
    look_seen c.args.self.now after c.args.file (ap (λ (v : MemView). v.start) c.self.view_is) (c.note.ensures ∙ ap (λ (v : MemView). v.calls ++ event ∷ []) c.self.view_is)

pub returns-clause-images : goal.returns-clause-images
returns-clause-images c told =
    let event : Event = record { file = c.args.file; change = change.Look } in
    looked _ _ c.args.file (ap (λ (v : MemView). v.start) c.self.view_is) (c.note.ensures ∙ ap (λ (v : MemView). v.calls ++ event ∷ []) c.self.view_is)

pub returns-clause-read : goal.returns-clause-read
returns-clause-read c told =
    let file = c.args.file in
    let at = c.args.at in
    let n = length c.args.into.now in
    let many : at + n - at ≡ n = omega arith in
    let reads = c.self.invariant file ∙ ap (λ (v : MemView). stored v file) c.self.view_is in
    read_bytes (stored c.args.self.now file) at n _
    (c.copy_from_slice.ensures.after ∙ ap (λ (k : ℕ). take k (drop at c.bytes_in-bytes.result.now)) many ∙ ap (λ (l : List ℕ). take n (drop at l)) (c.bytes_in-bytes.ensures ∙ ap (λ (x : Option (List ℕ)). bytes_of x) reads))
    (λ i. omega (arith, c.type_inv.into i))
