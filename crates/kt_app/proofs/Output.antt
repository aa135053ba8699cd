-- The output text of a run gives its history back.
use Rattle.std.proofs.Common.{sym, ap, ◌∙◌}
use Rattle.kt_history.specs.Machine.{readings_of}
use Rattle.kt_script.proofs.Outputs.{read_alike}
use Rattle.kt_app.specs.Headline.{replies_in, one_history}

pub history_is_one : one_history
history_is_one work p q c d m n b e text r s xs ys x y =
    let same = read_alike (replies_in work p c xs) (replies_in work q d ys) xs ys _ _ x.fits y.fits (sym x.printed ∙ y.printed) in
    (same.1, sym x.clock ∙ ap readings_of same.1 ∙ y.clock)
