use Rattle.std.proofs.Common.{◌∙◌, sym}
use Rattle.kt_files.proofs.Removals.{spares_none, spares_one, gone_one}
use Rattle.kt_files.proofs.removing.remove_other.Goals as goal

pub returns-then-is_kept-clause-any_moment : goal.returns-then-is_kept-clause-any_moment
returns-then-is_kept-clause-any_moment g c told = spares_none g.D.Disk.seen _ _ c.args.disk.now c.args.named.now.keys

pub returns-clause-any_moment : goal.returns-clause-any_moment
returns-clause-any_moment g c told = spares_one g.D.Disk.seen _ _ _ _ c.args.named.now.keys c.args.file (sym c.is_kept.ensures ∙ c.if-is_kept.false) (c.remove.ensures.images told)

pub returns-in_err-remove-clause-any_moment : goal.returns-in_err-remove-clause-any_moment
returns-in_err-remove-clause-any_moment g c told = spares_one g.D.Disk.seen _ _ _ _ c.args.named.now.keys c.args.file (sym c.is_kept.ensures ∙ c.if-is_kept.false) (c.remove.ensures.images told)

pub returns-clause-others : goal.returns-clause-others
returns-clause-others g c told = gone_one c.args.file (g.D.Disk.seen c.args.disk.now) (g.D.Disk.seen c.remove.new.self) (c.in_ok-remove.ensures.removed told) (c.remove.ensures.others told)
