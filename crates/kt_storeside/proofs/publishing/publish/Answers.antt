use Rattle.std.proofs.Common.{◌∙◌}
use Rattle.kt_storeside.proofs.Gates.{no_slot, prepared, opened}
use Rattle.kt_storeside.proofs.Turning.{is_turn, one_of_both}
use Rattle.kt_storeside.proofs.publishing.publish.Goals as goal

pub returns-in_err-prepared-clause-any_moment : goal.returns-in_err-prepared-clause-any_moment
returns-in_err-prepared-clause-any_moment g c = λ t. prepared g.D.Disk.seen g.D.Disk.now g.D.Disk.leaves c.args.meta.now c.args.disk.now c.prepare.new.disk (c.requires.stable t) (c.prepare.ensures.any_moment t)

pub returns-in-Ok-clause-others : goal.returns-in-Ok-clause-others
returns-in-Ok-clause-others g c = λ t n one two.
    c.open_gate.ensures.others t n (λ e. no_slot c.args.meta.now.number n one two (e ∙ (c.in_ok-prepared.ensures.ready t).slot)) ∙ c.prepare.ensures.others t n (no_slot c.args.meta.now.number n one two)

pub returns-in-Err-clause-others : goal.returns-in-Err-clause-others
returns-in-Err-clause-others g c = λ t n one two.
    c.open_gate.ensures.others t n (λ e. no_slot c.args.meta.now.number n one two (e ∙ (c.in_ok-prepared.ensures.ready t).slot)) ∙ c.prepare.ensures.others t n (no_slot c.args.meta.now.number n one two)

pub returns-in-Ok-clause-any_moment : goal.returns-in-Ok-clause-any_moment
returns-in-Ok-clause-any_moment g c = λ t. opened g.D.Disk.seen g.D.Disk.now g.D.Disk.leaves c.args.meta.now c.args.disk.now c.prepare.new.disk c.open_gate.new.disk c.in_ok-prepared.prepared.slot
    (c.requires.stable t) (c.in_ok-prepared.ensures.ready t).slot (g.met.D.Disk.reads_as_image c.prepare.new.disk t) (c.prepare.ensures.any_moment t) (c.open_gate.ensures.any_moment t c.args.meta.now (c.in_ok-prepared.ensures.ready t))

pub returns-in-Err-clause-any_moment : goal.returns-in-Err-clause-any_moment
returns-in-Err-clause-any_moment g c = λ t. opened g.D.Disk.seen g.D.Disk.now g.D.Disk.leaves c.args.meta.now c.args.disk.now c.prepare.new.disk c.open_gate.new.disk c.in_ok-prepared.prepared.slot
    (c.requires.stable t) (c.in_ok-prepared.ensures.ready t).slot (g.met.D.Disk.reads_as_image c.prepare.new.disk t) (c.prepare.ensures.any_moment t) (c.open_gate.ensures.any_moment t c.args.meta.now (c.in_ok-prepared.ensures.ready t))

pub returns-in_err-prepared-clause-turn : goal.returns-in_err-prepared-clause-turn
returns-in_err-prepared-clause-turn g c = λ t first next. is_turn g.D.Disk.seen g.D.Disk.now g.D.Disk.leaves c.args.meta.now c.args.disk.now c.prepare.new.disk (λ n one two. c.prepare.ensures.others t n (no_slot c.args.meta.now.number n one two)) (returns-in_err-prepared-clause-any_moment g c t) first next

pub returns-in_err-prepared-clause-one_of : goal.returns-in_err-prepared-clause-one_of
returns-in_err-prepared-clause-one_of g c = λ t was is. one_of_both g.D.Disk.seen g.D.Disk.now g.D.Disk.leaves c.args.meta.now c.args.disk.now c.prepare.new.disk (returns-in_err-prepared-clause-any_moment g c t) was is

pub returns-in-Ok-clause-turn : goal.returns-in-Ok-clause-turn
returns-in-Ok-clause-turn g c = λ t first next. is_turn g.D.Disk.seen g.D.Disk.now g.D.Disk.leaves c.args.meta.now c.args.disk.now c.open_gate.new.disk (λ n one two. returns-in-Ok-clause-others g c t n one two) (returns-in-Ok-clause-any_moment g c t) first next

pub returns-in-Ok-clause-one_of : goal.returns-in-Ok-clause-one_of
returns-in-Ok-clause-one_of g c = λ t was is. one_of_both g.D.Disk.seen g.D.Disk.now g.D.Disk.leaves c.args.meta.now c.args.disk.now c.open_gate.new.disk (returns-in-Ok-clause-any_moment g c t) was is

pub returns-in-Err-clause-turn : goal.returns-in-Err-clause-turn
returns-in-Err-clause-turn g c = λ t first next. is_turn g.D.Disk.seen g.D.Disk.now g.D.Disk.leaves c.args.meta.now c.args.disk.now c.open_gate.new.disk (λ n one two. returns-in-Err-clause-others g c t n one two) (returns-in-Err-clause-any_moment g c t) first next

pub returns-in-Err-clause-one_of : goal.returns-in-Err-clause-one_of
returns-in-Err-clause-one_of g c = λ t was is. one_of_both g.D.Disk.seen g.D.Disk.now g.D.Disk.leaves c.args.meta.now c.args.disk.now c.open_gate.new.disk (returns-in-Err-clause-any_moment g c t) was is
