use Rattle.std.proofs.Common.{◌∙◌, ◌++◌, List, ap}
use Rattle.kt_history.specs.Stores.{Steps}
use Rattle.kt_rowfiles.specs.Files.{records_in, rising}
use Rattle.kt_rowfiles.specs.Reading.{steps_in}
use Rattle.kt_diskrowset.specs.declared.files.FileHeld.{FileHeld}
use Rattle.kt_diskrowset.specs.Files.{lists_of}
use Rattle.kt_diskrowset.proofs.files.FileLists.push_redos.Goals as goal

pub returns : goal.returns
returns c =
    c.in_ok-copy_to.ensures
    ∙ ap (λ (s : Steps). steps_in c.args.steps.now.items ++ s) (c.in_ok-redos_of.ensures ∙ ap (λ (fs : List FileHeld). rising (records_in c.args.ordinal (lists_of fs))) c.as_slice.ensures)
