use Rattle.std.proofs.Common.{◌≡◌, ◌<◌, ◌+◌, ◌-◌, ◌∙◌, ℕ, None, ap, sym, arith, drop, length}
use Rattle.kt_deltafile.specs.File.{FileView}
use Rattle.kt_rowfiles.specs.Files.{records_for, records_in}
use Rattle.kt_rowfiles.specs.Reading.{steps_in}
use Rattle.kt_diskrowset.specs.declared.files.FileHeld.{FileHeld}
use Rattle.kt_diskrowset.specs.Alive.{verdict_of}
use Rattle.kt_diskrowset.specs.Files.{lists_of}
use Rattle.kt_diskrowset.proofs.Verdicts.{file_next}
use Rattle.kt_diskrowset.proofs.alive.verdict_of.Goals as goal

pub files-preserved : goal.files-preserved
files-preserved c =
    let low : c.files.at - 1 < length c.args.files.now = omega arith in
    let back : c.files.at ≡ c.files.at - 1 + 1 = omega arith in
    record {
      within = omega arith;
      told = file_next c.args.ordinal c.args.files.now (c.files.at - 1) c.index-files-at.result (steps_in c.records_of.result.now) c.files.verdict c.with_records-verdict.result low c.index-files-at.is
          (c.records_of.ensures ∙ ap (λ (f : FileView). records_for c.args.ordinal f.list) c.deref.ensures ∙ ap (λ (f : FileHeld). records_for c.args.ordinal f.deltas.value.list) (sym c.index-files-at.is))
          (c.files.invariant.told ∙ ap (λ (k : ℕ). verdict_of (records_in c.args.ordinal (lists_of (drop k c.args.files.now))) None) back) c.with_records-verdict.ensures;
    }
