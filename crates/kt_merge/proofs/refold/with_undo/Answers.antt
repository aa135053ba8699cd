use Rattle.std.proofs.Common.{◌∙◌, ◌++◌, ◌∷◌, [], List, Option, ap, sym, arith}
use Rattle.std.proofs.lemmas.List.{append-nil}
use Rattle.std.proofs.lemmas.Result.{IfOk-weaker}
use Rattle.kt_deltafile.specs.File.{FileView}
use Rattle.kt_rowfiles.specs.Files.{records_for, records_in}
use Rattle.kt_diskrowset.specs.Files.{lists_of, as_file, as_files}
use Rattle.kt_merge.specs.Major.{records_of}
use Rattle.kt_merge.proofs.FoldedRowsets.{in_more}
use Rattle.kt_merge.proofs.refold.with_undo.Goals as goal

pub returns-in_ok-new_file-in-Some-clause-rows : goal.returns-in_ok-new_file-in-Some-clause-rows
returns-in_ok-new_file-in-Some-clause-rows c =
    let ls = lists_of c.args.files in
    IfOk-weaker c.with_file.result _ _
    (λ all told n. ap (records_in n) (told ∙ ap (λ (f : FileView). ls ++ f.list ∷ []) c.in_ok-new_file-in-Some.ensures.deltas) ∙ in_more n ls c.in-Some.file.list
    ∙ ap (λ (u : Option FileView). records_in n ls ++ records_for n (records_of u)) (sym c.in-Some.is))
    c.with_file.ensures.lists

pub returns-in_ok-new_file-in-Some-clause-files : goal.returns-in_ok-new_file-in-Some-clause-files
returns-in_ok-new_file-in-Some-clause-files c =
    IfOk-weaker c.with_file.result _ _ (λ all are. record { more = as_file c.in_ok-new_file-in-Some.field-0 ∷ []; are = are; few = omega arith; unwritten = (c.in_ok-new_file-in-Some.ensures.number, tt) }) c.with_file.ensures.files

pub returns-in-None-clause-files : goal.returns-in-None-clause-files
returns-in-None-clause-files c = record { more = []; are = sym (append-nil (as_files c.args.files)); few = omega arith; unwritten = tt }
