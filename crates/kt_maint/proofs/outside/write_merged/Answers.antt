use Rattle.std.proofs.Common.{refl, arith}
use Rattle.std.proofs.lemmas.Result.{IfOk-weaker}
use Rattle.kt_maint.proofs.GoingOut.{have_files}
use Rattle.kt_maint.proofs.Merged.{whole}
use Rattle.kt_maint.proofs.outside.write_merged.Goals as goal

pub returns : goal.returns
returns g c = λ input merged.
    let e = c.write_outputs-written.ensures in
    record {
      meta = refl;
      up = e.up;
      risen = (let a = e.risen in let b = c.requires.few in omega arith);
      small = c.is_within.ensures;
      few_files = e.few_files;
      left = e.left;
      faults_rise = e.faults;
      rose = e.fault;
      files = have_files g.D.Disk.tells g.D.Disk.seen g.D.Disk.now g.D.Disk.leaves input c.args.lent.now _ c.args.merged.now.rowsets merged c.write_outputs-written.result
          e.written e.rowset e.numbered e.short (IfOk-weaker c.write_outputs-written.result _ _ (λ outputs holds told. holds told (whole input.inputs.columns c.args.merged.now.rowsets merged.outputs.each)) e.holds) e.stable;
    }
