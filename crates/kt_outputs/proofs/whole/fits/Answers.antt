use Rattle.std.proofs.Common.{◌<◌, ◌∙◌, List, subst}
use Rattle.std.specs.List.{AllByRecursion}
use Rattle.std.proofs.lemmas.Bool.{OnTrue_at, OnTrue_from}
use Rattle.kt_history.specs.declared.changes.Delta.{Delta}
use Rattle.kt_deltafile.specs.declared.file.Way.{Way}
use Rattle.kt_deltafile.specs.Rules.{FileFits, IsFile}
use Rattle.kt_outputs.proofs.WholeFiles.{file_over}
use Rattle.kt_outputs.proofs.whole.fits.Goals as goal

pub returns-clause-way : goal.returns-clause-way
returns-clause-way c = OnTrue_from c.are_inside.result _ (λ yes. OnTrue_at c.if-not-leads.false c.leads.ensures)

pub returns-clause-rows : goal.returns-clause-rows
returns-clause-rows c =
    let file = c.args.file.now in
    let form = subst (λ (w : Way). IsFile w file.list) (OnTrue_at c.if-not-leads.false c.leads.ensures) c.list.ensures.form in
    OnTrue_from c.are_inside.result (FileFits c.args.way c.args.rows file.list)
    (λ yes. file_over c.args.way c.args.rows file.list form
    (subst (λ (l : List Delta). AllByRecursion (λ (d : Delta). d.ordinal < c.args.rows) l) (c.as_slice.ensures ∙ c.list.ensures.list) (OnTrue_at yes c.are_inside.ensures)))
