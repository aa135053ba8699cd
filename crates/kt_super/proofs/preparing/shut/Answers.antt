use Rattle.std.proofs.Common.{sym, ◌∙◌, ap}
use Rattle.kt_disk.specs.Disk.{Files}
use Rattle.kt_super.proofs.Prepares.{looked, shut_wrote, synced, stable_again}
use Rattle.kt_super.proofs.preparing.shut.Goals as goal

pub returns-in-Err-clause-any_moment : goal.returns-in-Err-clause-any_moment
returns-in-Err-clause-any_moment g c told = looked g.D.Disk.seen _ _ _ c.args.slot c.requires.slot (c.requires.stable told) _ (c.is_shut.ensures.images told)

pub returns-in-Err-write_at-clause-any_moment : goal.returns-in-Err-write_at-clause-any_moment
returns-in-Err-write_at-clause-any_moment g c told =
    let ajar = sym (c.in-Ok.ensures.shut told) ∙ c.if-value.false in
    shut_wrote g.D.Disk.seen _ _ _ c.args.slot c.requires.slot (c.requires.stable told) _ _ (c.is_shut.ensures.images told) (c.is_shut.ensures.seen told) ajar (c.write_at.ensures.images told)

pub returns-in-Err-sync-clause-any_moment : goal.returns-in-Err-sync-clause-any_moment
returns-in-Err-sync-clause-any_moment g c told =
    let ajar = sym (c.in-Ok.ensures.shut told) ∙ c.if-value.false in
    let one = shut_wrote g.D.Disk.seen _ _ _ c.args.slot c.requires.slot (c.requires.stable told) _ _ (c.is_shut.ensures.images told) (c.is_shut.ensures.seen told) ajar (c.write_at.ensures.images told) in
    synced g.D.Disk.seen _ _ _ c.args.slot c.requires.slot (c.requires.stable told) _ _ one (c.sync.ensures.images told)

pub returns-clause-any_moment : goal.returns-clause-any_moment
returns-clause-any_moment g c told =
    let ajar = sym (c.in-Ok.ensures.shut told) ∙ c.if-value.false in
    let one = shut_wrote g.D.Disk.seen _ _ _ c.args.slot c.requires.slot (c.requires.stable told) _ _ (c.is_shut.ensures.images told) (c.is_shut.ensures.seen told) ajar (c.write_at.ensures.images told) in
    synced g.D.Disk.seen _ _ _ c.args.slot c.requires.slot (c.requires.stable told) _ _ one (c.sync.ensures.images told)

pub returns-clause-stable : goal.returns-clause-stable
returns-clause-stable g c told =
    let ajar = sym (c.in-Ok.ensures.shut told) ∙ c.if-value.false in
    let one = shut_wrote g.D.Disk.seen _ _ _ c.args.slot c.requires.slot (c.requires.stable told) _ _ (c.is_shut.ensures.images told) (c.is_shut.ensures.seen told) ajar (c.write_at.ensures.images told) in
    let two = synced g.D.Disk.seen _ _ _ c.args.slot c.requires.slot (c.requires.stable told) _ _ one (c.sync.ensures.images told) in
    stable_again g.D.Disk.seen _ _ _ c.args.slot c.requires.slot (c.requires.stable told) _ two
    (λ n apart. ap (λ (f : Files). f n) (c.in-Ok-sync.ensures.seen told) ∙ c.write_at.ensures.others told n apart ∙ ap (λ (f : Files). f n) (c.is_shut.ensures.seen told)) (c.in-Ok-sync.ensures.stable told)
