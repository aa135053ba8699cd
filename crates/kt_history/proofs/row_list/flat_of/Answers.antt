use Rattle.std.proofs.Common.{sym, subst}
use Rattle.kt_history.specs.Flat.{AreFlat}
use Rattle.kt_history.proofs.Flat.{more_texts}
use Rattle.kt_history.proofs.row_list.flat_of.Goals as goal

pub returns-in_ok-push-in-Bytes-clause-kept : goal.returns-in_ok-push-in-Bytes-clause-kept
returns-in_ok-push-in-Bytes-clause-kept c flats row flat =
    subst (λ texts. AreFlat texts flats row) (sym c.in_ok-push-in-Bytes.ensures.ok) (more_texts c.args.texts.now c.in-Bytes.text.now flats row flat)
