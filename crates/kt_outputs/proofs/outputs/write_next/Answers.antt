use Rattle.std.proofs.Common.{ℕ, List, Option, ap, arith}
use Rattle.kt_disk.specs.Disk.{held}
use Rattle.kt_outputs.proofs.Written.{left_one, stable_one}
use Rattle.kt_outputs.proofs.outputs.write_next.Goals as goal

pub write_file-requires-clause-new : goal.write_file-requires-clause-new
write_file-requires-clause-new g c told = ap (λ (o : Option (List ℕ)). held (λ n. o) c.args.next.now) (c.requires.vacant told c.args.next.now (omega arith))

pub returns-in_err-write_file-clause-left : goal.returns-in_err-write_file-clause-left
returns-in_err-write_file-clause-left g c told = left_one g.D.Disk.seen g.D.Disk.now g.D.Disk.leaves c.args.next.now c.args.disk.now c.write_file.new.disk (c.write_file.ensures.others told) (c.write_file.ensures.any_moment told)

pub returns-clause-left : goal.returns-clause-left
returns-clause-left g c told = left_one g.D.Disk.seen g.D.Disk.now g.D.Disk.leaves c.args.next.now c.args.disk.now c.write_file.new.disk (c.write_file.ensures.others told) (c.write_file.ensures.any_moment told)

pub returns-clause-stable : goal.returns-clause-stable
returns-clause-stable g c told = stable_one g.D.Disk.seen g.D.Disk.now g.D.Disk.leaves c.args.next.now c.args.bytes.now c.write_file.new.disk (c.in_ok-write_file.ensures.written told) (c.in_ok-write_file.ensures.stable told)
