use Rattle.std.proofs.Common.{◌≡◌, ◌∙◌, Err, refl, ap, arith}
use Rattle.kt_disk.proofs.Moments.{turns_then}
use Rattle.kt_files.specs.declared.refusal.FilesNo.{FilesNo}
use Rattle.kt_files.specs.declared.refusal.FilesNo.TheVariants.{Place}
use Rattle.kt_files.proofs.Lists.{each_more, named_more, list_fault}
use Rattle.kt_files.proofs.deltas.read_list.Goals as goal

pub returns-in-Err-clause-place : goal.returns-in-Err-clause-place
returns-in-Err-clause-place g c at offset e told =
    let no : c.in-Err.error ≡ Place at offset = cc in
    let from = c.read_deltas.ensures.place at offset (c.in-Err.is ∙ ap (λ (x : FilesNo). Err x) no) told in
    list_fault (g.D.Disk.seen c.args.disk.now) (g.D.Disk.seen c.files.disk) (c.files.invariant.seen told) c.args.way c.args.rows c.args.list.now c.files.file-index _ _ c.files.files.items at offset (omega arith) refl
    (c.files.invariant.hold told) from.0 from.1

pub files-preserved : goal.files-preserved
files-preserved g c = record {
  hold = λ told. each_more (g.D.Disk.seen c.args.disk.now) (g.D.Disk.seen c.files.disk) (c.files.invariant.seen told) c.args.way c.args.rows c.args.list.now c.files.file-index _ _ c.files.files.items c.push.new.self.items c.in-Ok.value
      (omega arith) refl (c.files.invariant.hold told) c.in_ok-push.ensures.items (c.in-Ok.ensures.holds told);
  named = named_more c.args.list.now c.files.file-index _ _ c.files.files.items c.push.new.self.items c.in-Ok.value (omega arith) refl c.files.invariant.named c.in_ok-push.ensures.items c.in-Ok.ensures.named;
  seen = λ told. c.read_deltas.ensures.seen told ∙ c.files.invariant.seen told;
  images = λ told. turns_then _ _ _ _ _ (c.files.invariant.images told) (c.read_deltas.ensures.images told);
  faults = (let before = c.files.invariant.faults in let more = c.read_deltas.ensures.faults in omega arith);
}
