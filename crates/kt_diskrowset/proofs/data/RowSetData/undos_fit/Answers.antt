use Rattle.std.proofs.Common.{◌∙◌, sym, arith}
use Rattle.kt_rowfiles.specs.Fitting.{undos_fit}
use Rattle.kt_diskrowset.specs.Data.{files_in}
use Rattle.kt_diskrowset.proofs.UndosFit.{fit_lead_back, fits_next, fits_never, fits_over}
use Rattle.kt_diskrowset.proofs.data.RowSetData.undos_fit.Goals as goal

pub rows-preserved : goal.rows-preserved
rows-preserved c =
    let d = files_in c.args.self.now in
    fits_next d c.args.self.now.base.set.value.rows c.rows.ordinal (omega arith) (undos_fit d) (sym c.in_ok-row_fits.ensures ∙ c.if-not-branch.false) c.rows.invariant

pub returns-then-not-branch-clause-fit : goal.returns-then-not-branch-clause-fit
returns-then-not-branch-clause-fit c =
    let d = files_in c.args.self.now in
    fits_never d c.args.self.now.base.set.value.rows c.rows.ordinal (omega arith) (undos_fit d) (sym c.in_ok-row_fits.ensures ∙ c.if-not-branch.true) c.rows.invariant

pub returns-clause-fit : goal.returns-clause-fit
returns-clause-fit c = fits_over (files_in c.args.self.now) c.args.self.now.base.set.value.rows c.rows.ordinal (undos_fit (files_in c.args.self.now)) (omega arith) c.rows.invariant

pub returns-clause-lead : goal.returns-clause-lead
returns-clause-lead c = λ _. fit_lead_back (files_in c.args.self.now) (sym (fits_over (files_in c.args.self.now) c.args.self.now.base.set.value.rows c.rows.ordinal (undos_fit (files_in c.args.self.now)) (omega arith) c.rows.invariant))
