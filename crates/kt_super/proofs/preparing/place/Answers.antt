use Rattle.std.proofs.Common.{◌≡◌, ◌+◌, List, ℕ, length, drop, ◌∙◌, ap}
use Rattle.kt_disk.specs.Disk.{Files, bytes_of, held, put}
use Rattle.kt_super.specs.Slots.{is_open}
use Rattle.kt_super.proofs.Closing.{written, shut_some}
use Rattle.kt_super.proofs.Prepares.{placed, synced, stable_again}
use Rattle.kt_super.proofs.preparing.place.Goals as goal

pub write_at-requires : goal.write_at-requires
write_at-requires g c told = shut_some (held (g.D.Disk.seen c.shut.new.disk) c.args.slot) (c.in-Ok.ensures.shut told)

pub returns-in-Err-write_at-clause-any_moment : goal.returns-in-Err-write_at-clause-any_moment
returns-in-Err-write_at-clause-any_moment g c told =
    placed g.D.Disk.seen _ _ _ c.args.slot c.requires.slot (c.requires.stable told) _ _ _ (c.shut.ensures.any_moment told) (c.in-Ok.ensures.stable told) (c.in-Ok.ensures.shut told) (c.write_at.ensures.images told)

pub returns-in-Err-sync-clause-any_moment : goal.returns-in-Err-sync-clause-any_moment
returns-in-Err-sync-clause-any_moment g c told =
    let one = placed g.D.Disk.seen _ _ _ c.args.slot c.requires.slot (c.requires.stable told) _ _ _ (c.shut.ensures.any_moment told) (c.in-Ok.ensures.stable told) (c.in-Ok.ensures.shut told) (c.write_at.ensures.images told) in
    synced g.D.Disk.seen _ _ _ c.args.slot c.requires.slot (c.requires.stable told) _ _ one (c.sync.ensures.images told)

pub returns-clause-any_moment : goal.returns-clause-any_moment
returns-clause-any_moment g c told =
    let one = placed g.D.Disk.seen _ _ _ c.args.slot c.requires.slot (c.requires.stable told) _ _ _ (c.shut.ensures.any_moment told) (c.in-Ok.ensures.stable told) (c.in-Ok.ensures.shut told) (c.write_at.ensures.images told) in
    synced g.D.Disk.seen _ _ _ c.args.slot c.requires.slot (c.requires.stable told) _ _ one (c.sync.ensures.images told)

pub returns-clause-closed : goal.returns-clause-closed
returns-clause-closed g c told =
    let here : held (g.D.Disk.seen c.sync.new.self) c.args.slot ≡ put (held (g.D.Disk.seen c.shut.new.disk) c.args.slot) 1 c.args.rest.now =
    ap (λ (f : Files). held f c.args.slot) (c.in-Ok-sync.ensures.seen told) ∙ ap bytes_of (c.in-Ok-write_at.ensures.written told) in
    ap is_open here ∙ (written (held (g.D.Disk.seen c.shut.new.disk) c.args.slot) c.args.rest.now (c.in-Ok.ensures.shut told)).0

pub returns-clause-behind : goal.returns-clause-behind
returns-clause-behind g c told =
    let old : List ℕ = held (g.D.Disk.seen c.shut.new.disk) c.args.slot in
    let here : held (g.D.Disk.seen c.sync.new.self) c.args.slot ≡ put old 1 c.args.rest.now =
    ap (λ (f : Files). held f c.args.slot) (c.in-Ok-sync.ensures.seen told) ∙ ap bytes_of (c.in-Ok-write_at.ensures.written told) in
    (drop (1 + length c.args.rest.now) old, ap (λ (l : List ℕ). drop 1 l) here ∙ (written old c.args.rest.now (c.in-Ok.ensures.shut told)).1)

pub returns-clause-stable : goal.returns-clause-stable
returns-clause-stable g c told =
    let one = placed g.D.Disk.seen _ _ _ c.args.slot c.requires.slot (c.requires.stable told) _ _ _ (c.shut.ensures.any_moment told) (c.in-Ok.ensures.stable told) (c.in-Ok.ensures.shut told) (c.write_at.ensures.images told) in
    let two = synced g.D.Disk.seen _ _ _ c.args.slot c.requires.slot (c.requires.stable told) _ _ one (c.sync.ensures.images told) in
    stable_again g.D.Disk.seen _ _ _ c.args.slot c.requires.slot (c.requires.stable told) _ two
    (λ n apart. ap (λ (f : Files). f n) (c.in-Ok-sync.ensures.seen told) ∙ c.write_at.ensures.others told n apart ∙ c.shut.ensures.others told n apart) (c.in-Ok-sync.ensures.stable told)
