use Rattle.std.proofs.Common.{◌≡◌, ◌∙◌, List, [], sym, subst, inl, refl}
use Rattle.kt_diskrowset.specs.declared.files.FileHeld.{FileHeld}
use Rattle.kt_diskrowset.specs.Data.{files_in, held_in}
use Rattle.kt_diskrowset.specs.Held.{IsReadOf}
use Rattle.kt_diskrowset.specs.Rowset.{held_with}
use Rattle.kt_diskrowset.proofs.Told.{read_unfit}
use Rattle.kt_diskrowset.proofs.UndosFit.{fit_lead_back}
use Rattle.kt_diskrowset.proofs.data.RowSetData.readable.Goals as goal

pub returns-then-branch-clause-lead : goal.returns-then-branch-clause-lead
returns-then-branch-clause-lead c = fit_lead_back (files_in c.args.self) (sym c.in_ok-undos_fit.ensures.fit ∙ c.if-branch.true)

pub returns-then-branch-clause-read : goal.returns-then-branch-clause-read
returns-then-branch-clause-read c = inl refl

pub returns-clause-read : goal.returns-clause-read
returns-clause-read c =
    let d = c.args.self in
    let none : c.of.result ≡ [] = c.of.ensures ∙ c.new.ensures.items in
    subst (λ (files : List FileHeld). IsReadOf (held_in d) (held_with d.number d.base files d.redo)) (sym none)
    (read_unfit d.number d.base d.undo d.redo (sym c.in_ok-undos_fit.ensures.fit ∙ c.if-branch.false))
