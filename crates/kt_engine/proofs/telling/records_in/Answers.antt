use Rattle.std.proofs.Common.{◌^◌, ℕ, length, min, sym, ap, ◌∙◌, arith}
use Rattle.std.specs.List.{sum_by}
use Rattle.std.proofs.lemmas.List.{take_all}
use Rattle.std.proofs.lemmas.List.Concat.{length-flat_map}
use Rattle.kt_diskrowset.specs.declared.files.FileHeld.{FileHeld}
use Rattle.kt_engine.proofs.telling.records_in.Goals as goal

pub returns : goal.returns
returns c =
    c.files.invariant
    ∙ ap (λ (n : ℕ). min n (2 ^ 31)) (ap (sum_by (λ (f : FileHeld). length f.deltas.value.list)) (take_all c.files.file-index c.args.files.now (omega arith)) ∙ sym (length-flat_map (λ (f : FileHeld). f.deltas.value.list) c.args.files.now))
