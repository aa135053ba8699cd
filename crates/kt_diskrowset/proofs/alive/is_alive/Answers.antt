use Rattle.std.proofs.Common.{◌∙◌, None, List, Option, is_some, ap, sym}
use Rattle.kt_rowfiles.specs.Files.{records_in}
use Rattle.kt_diskrowset.specs.declared.alive.Verdict.{Verdict}
use Rattle.kt_diskrowset.specs.declared.files.FileHeld.{FileHeld}
use Rattle.kt_diskrowset.specs.Alive.{verdict_of, alive_by}
use Rattle.kt_diskrowset.specs.Files.{lists_of}
use Rattle.kt_diskrowset.proofs.Verdicts.{alive_after}
use Rattle.kt_diskrowset.proofs.alive.is_alive.Goals as goal

pub returns-in-None : goal.returns-in-None
returns-in-None c = λ row e.
    let steps = records_in c.args.ordinal (lists_of c.args.redo.now) in
    let told = c.in-None.ensures ∙ ap (λ (fs : List FileHeld). verdict_of (records_in c.args.ordinal (lists_of fs)) None) c.as_slice.ensures in
    sym (alive_after steps row ∙ ap (λ (v : Option Verdict). alive_by v (is_some row)) (sym told) ∙ e)

pub returns-in-Some : goal.returns-in-Some
returns-in-Some c = λ row e.
    let steps = records_in c.args.ordinal (lists_of c.args.redo.now) in
    let told = c.in-Some.ensures ∙ ap (λ (fs : List FileHeld). verdict_of (records_in c.args.ordinal (lists_of fs)) None) c.as_slice.ensures in
    sym (alive_after steps row ∙ ap (λ (v : Option Verdict). alive_by v (is_some row)) (sym told))
