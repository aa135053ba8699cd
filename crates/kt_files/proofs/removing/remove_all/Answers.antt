use Rattle.std.proofs.Common.{◌∙◌, get_or, arith, refl}
use Rattle.kt_files.proofs.Removals.{spares_joined, gone_then, gone_more, gone_found}
use Rattle.kt_files.proofs.removing.remove_all.Goals as goal

pub returns-in_err-remove_other-clause-any_moment :
    goal.returns-in_err-remove_other-clause-any_moment
returns-in_err-remove_other-clause-any_moment g c told = spares_joined g.D.Disk.seen _ _ _ _ _ _ (c.files.invariant.any_moment told) (c.remove_other.ensures.any_moment told)

pub files-preserved : goal.files-preserved
files-preserved g c =
    let seen = g.D.Disk.seen in
    let ok = c.in_ok-remove_other.ensures in
    record {
      removed = λ told. gone_more c.args.named.now.keys c.args.found.now c.files.file-index (get_or c.args.found.now c.files.file-index 0) (seen c.files.disk) (seen c.remove_other.new.disk) refl (c.files.invariant.removed told) (ok.removed told) (ok.others told);
      kept = λ told n k. ok.kept told n k ∙ c.files.invariant.kept told n k;
      others = λ told n. gone_then (seen c.args.disk.now n) (seen c.files.disk n) (seen c.remove_other.new.disk n) (c.files.invariant.others told n) (ok.others told n);
      any_moment = λ told. spares_joined seen _ _ _ _ _ _ (c.files.invariant.any_moment told) (ok.any_moment told);
      faults = (let more = ok.cause.later in let before = c.files.invariant.faults in omega arith);
    }

pub returns-clause-removed : goal.returns-clause-removed
returns-clause-removed g c told = gone_found c.args.named.now.keys c.args.found.now c.files.file-index (g.D.Disk.seen c.files.disk) (omega arith) (c.files.invariant.removed told)
