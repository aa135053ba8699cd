use Rattle.std.proofs.Common.{◌∙◌, sym, ap}
use Rattle.std.specs.Option.{option_map}
use Rattle.std.proofs.lemmas.Bool.{OnTrue_at, OnTrue_from}
use Rattle.kt_rowfiles.specs.Reading.{steps_in}
use Rattle.kt_merge.specs.Rewriting.{FoldsTo}
use Rattle.kt_merge.specs.Rows.{disk_row_of}
use Rattle.kt_merge.proofs.refold.fold_into.Goals as goal

pub returns-in-Some : goal.returns-in-Some
returns-in-Some c =
    OnTrue_from c.is_held.result (FoldsTo c.args.columns.now c.args.row (steps_in c.args.redos.now))
    (λ yes. record {
      row = disk_row_of c.in-Some.folded;
      is = sym (ap (option_map disk_row_of) (sym c.in-Some.is) ∙ c.in_ok-folded.ensures.row);
      held = OnTrue_at yes c.is_held.ensures;
    })
