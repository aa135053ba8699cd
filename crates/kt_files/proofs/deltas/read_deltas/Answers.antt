use Rattle.std.proofs.Common.{◌≡◌, ◌∙◌, List, ℕ, Err, ap, subst}
use Rattle.kt_files.specs.declared.refusal.FilesNo.{FilesNo}
use Rattle.kt_files.specs.declared.refusal.FilesNo.TheVariants.{Place}
use Rattle.kt_files.specs.Bytes.{bytes_of, inside}
use Rattle.kt_files.specs.Reading.{IsNoDeltas}
use Rattle.kt_files.proofs.deltas.read_deltas.Goals as goal

pub returns-in-Err-deltas_of-clause-place : goal.returns-in-Err-deltas_of-clause-place
returns-in-Err-deltas_of-clause-place g c at offset e told =
    let no : c.in-Err-deltas_of.error ≡ Place at offset = cc in
    let from = c.deltas_of.ensures.place at offset (c.in-Err-deltas_of.is ∙ ap (λ (x : FilesNo). Err x) no) in
    let bytes : c.as_slice.result.now ≡ bytes_of (g.D.Disk.seen c.args.disk.now) c.args.file = c.as_slice.ensures.value ∙ c.in-Ok.ensures.bytes told in
    (from.0, inside (c.in-Ok.ensures.there told) (subst (λ (l : List ℕ). IsNoDeltas c.args.way c.args.rows l offset) bytes from.1))
