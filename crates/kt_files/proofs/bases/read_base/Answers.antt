use Rattle.std.proofs.Common.{◌≡◌, ◌∙◌, List, ℕ, Err, ap, subst}
use Rattle.kt_files.specs.declared.refusal.FilesNo.{FilesNo}
use Rattle.kt_files.specs.declared.refusal.FilesNo.TheVariants.{Place}
use Rattle.kt_files.specs.Bytes.{bytes_of, inside}
use Rattle.kt_files.specs.Reading.{IsNoBase}
use Rattle.kt_files.proofs.bases.read_base.Goals as goal

pub returns-in-Err-base_set-clause-place : goal.returns-in-Err-base_set-clause-place
returns-in-Err-base_set-clause-place g c at offset e told =
    let no : c.in-Err-base_set.error ≡ Place at offset = cc in
    let from = c.base_set.ensures.place at offset (c.in-Err-base_set.is ∙ ap (λ (x : FilesNo). Err x) no) in
    let bytes : c.as_slice.result.now ≡ bytes_of (g.D.Disk.seen c.args.disk.now) c.args.file = c.as_slice.ensures.value ∙ c.in-Ok.ensures.bytes told in
    (from.0, inside (c.in-Ok.ensures.there told) (subst (λ (l : List ℕ). IsNoBase l offset) bytes from.1))
