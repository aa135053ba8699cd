use Rattle.std.proofs.Common.{[], arith}
use Rattle.std.proofs.lemmas.List.Edits.{between_more}
use Rattle.kt_history.proofs.shared_texts.copied.Goals as goal

pub texts-preserved : goal.texts-preserved
texts-preserved c =
    let more = between_more c.args.texts.now c.args.first c.texts.at [] (omega arith) (omega arith) in
    grind (arith, more, c.in_ok-push.ensures, c.texts.invariant)
