use Rattle.std.proofs.Common.{◌∙◌, ap}
use Rattle.kt_disk.specs.Disk.{Files}
use Rattle.kt_super.proofs.Prepares.{gate_write, gate_sync, gate_opened, gate_settles}
use Rattle.kt_super.proofs.gate.open_gate.Goals as goal

pub returns-in-Err-clause-any_moment : goal.returns-in-Err-clause-any_moment
returns-in-Err-clause-any_moment g c told m ready = gate_write g.D.Disk.seen _ _ _ c.args.prepared m (c.requires.stable told) ready _ (c.write_at.ensures.images told)

pub returns-in-Err-sync-clause-any_moment : goal.returns-in-Err-sync-clause-any_moment
returns-in-Err-sync-clause-any_moment g c told m ready = gate_sync g.D.Disk.seen _ _ _ c.args.prepared m (c.requires.stable told) ready _ _ (c.write_at.ensures.images told) (c.sync.ensures.images told)

pub returns-clause-any_moment : goal.returns-clause-any_moment
returns-clause-any_moment g c told m ready = gate_sync g.D.Disk.seen _ _ _ c.args.prepared m (c.requires.stable told) ready _ _ (c.write_at.ensures.images told) (c.sync.ensures.images told)

pub returns-clause-opened : goal.returns-clause-opened
returns-clause-opened g c told m ready =
    gate_opened g.D.Disk.seen g.D.Disk.now g.D.Disk.leaves _ c.args.prepared m (c.requires.stable told) ready (g.D.Disk.seen c.sync.new.self)
    (ap (λ (f : Files). f c.args.prepared.slot) (c.in-Ok-sync.ensures.seen told) ∙ c.in-Ok.ensures.written told)
    (λ n apart. ap (λ (f : Files). f n) (c.in-Ok-sync.ensures.seen told) ∙ c.write_at.ensures.others told n apart)

pub returns-clause-stable : goal.returns-clause-stable
returns-clause-stable g c told =
    let given = c.requires.ready told in
    gate_settles g.D.Disk.seen _ _ _ c.args.prepared given.0 (c.requires.stable told) given.1 _ _ (c.write_at.ensures.images told) (c.sync.ensures.images told)
    (λ n apart. ap (λ (f : Files). f n) (c.in-Ok-sync.ensures.seen told) ∙ c.write_at.ensures.others told n apart) (c.in-Ok-sync.ensures.stable told)
