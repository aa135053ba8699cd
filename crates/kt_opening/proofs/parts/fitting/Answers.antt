use Rattle.std.proofs.Common.{List, ℕ, ap, ◌∙◌}
use Rattle.std.specs.FinMap.Entries.{find}
use Rattle.kt_history.specs.Rows.{fits, key_cmp}
use Rattle.kt_opening.proofs.LiveLaws.{fitting_none, fitting_taken, fitting_not}
use Rattle.kt_opening.proofs.parts.fitting.Goals as goal

pub returns-in_err-key : goal.returns-in_err-key
returns-in_err-key c = λ rows live. c.from_residual.ensures ∙ fitting_none rows c.args.change c.in_err-key.was

pub returns-then-fits : goal.returns-then-fits
returns-then-fits c = λ rows live.
    fitting_taken rows c.args.change c.in_ok-key.key c.in_ok-key.change c.fits.result c.in_ok-key.was
    (c.fits.ensures rows live ∙ ap (λ (k : List ℕ). fits c.in_ok-key.change (find key_cmp k rows)) c.as_slice.ensures) c.if-fits.true

pub returns-else-fits : goal.returns-else-fits
returns-else-fits c = λ rows live.
    fitting_not rows c.args.change c.in_ok-key.key c.in_ok-key.change c.fits.result c.in_ok-key.was
    (c.fits.ensures rows live ∙ ap (λ (k : List ℕ). fits c.in_ok-key.change (find key_cmp k rows)) c.as_slice.ensures) c.if-fits.false
