use Rattle.std.proofs.Common.{◌≡◌, ◌∙◌, Bor, Option, None, Some, is_some, refl, sym}
use Rattle.std.proofs.lemmas.Bool.{OnTrue_at, OnTrue_from}
use Rattle.std.specs.Option.{option_copied}
use Rattle.kt_rowfiles.specs.Flushing.{IsUndone}
use Rattle.kt_merge.proofs.AllUndone.{row_true}
use Rattle.kt_rowfiles.proofs.Flushing.{fit_is_undone}
use Rattle.kt_merge.proofs.undoing.is_undone.Goals as goal

there : {X : Type 0} (o : Option (Bor X)) → is_some (option_copied o) ≡ is_some o
there None = refl
there (Some x) = refl

pub returns : goal.returns
returns c =
    let row = option_copied c.args.row in
    let is = row_true row (sym c.is_row.ensures ∙ c.if-not-is_row.false) in
    let fit = sym (c.fits.ensures row (there c.args.row ∙ sym c.is_some.ensures)) ∙ c.if-not-fits.false in
    let columns = sym c.has_columns.ensures ∙ c.if-not-has_columns.false in
    OnTrue_from c.is_change.result (IsUndone c.args.change.now row) (λ yes. fit_is_undone c.args.change.now row is fit columns (OnTrue_at yes c.is_change.ensures))
