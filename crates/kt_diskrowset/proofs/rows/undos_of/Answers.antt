use Rattle.std.proofs.Common.{◌≡◌, ◌<◌, ◌+◌, ◌-◌, ◌∙◌, ℕ, ap, sym, arith, drop, length}
use Rattle.kt_rowfiles.specs.Files.{records_for, records_in, falling}
use Rattle.kt_rowfiles.specs.Reading.{steps_in}
use Rattle.kt_deltafile.specs.File.{FileView}
use Rattle.kt_diskrowset.specs.declared.files.FileHeld.{FileHeld}
use Rattle.kt_diskrowset.specs.Files.{lists_of}
use Rattle.kt_diskrowset.proofs.OneRow.{falling_more}
use Rattle.kt_diskrowset.proofs.rows.undos_of.Goals as goal

pub files-preserved : goal.files-preserved
files-preserved c =
    let low : c.files.at - 1 < length c.args.files.now = omega arith in
    let back : c.files.at ≡ c.files.at - 1 + 1 = omega arith in
    record {
      within = omega arith;
      put = falling_more c.args.ordinal c.args.files.now (c.files.at - 1) c.index-files-at.result low c.index-files-at.is (steps_in c.records_of.result.now) c.files.records c.put_undos.new.self
          (c.records_of.ensures ∙ ap (λ (f : FileView). records_for c.args.ordinal f.list) c.deref.ensures ∙ ap (λ (f : FileHeld). records_for c.args.ordinal f.deltas.value.list) (sym c.index-files-at.is))
          (c.files.invariant.put ∙ ap (λ (k : ℕ). falling (records_in c.args.ordinal (lists_of (drop k c.args.files.now)))) back) c.in_ok-put_undos.ensures;
    }
