use Rattle.std.proofs.Common.{◌≡◌, ◌∙◌, ◌++◌, ◌∷◌, [], ℕ, Option, Some, sym, ap, subst, arith}
use Rattle.kt_history.specs.declared.changes.Delta.{Delta}
use Rattle.kt_deltafile.specs.declared.file.Way.TheVariants.{Redo}
use Rattle.kt_deltafile.specs.Rules.{IsFile}
use Rattle.kt_merge.specs.Told.{deletes_of}
use Rattle.kt_merge.proofs.FilesMore.{redo_more}
use Rattle.kt_merge.proofs.output.Growing.push_delete.Goals as goal

pub returns-in_ok-push-in-Some-clause-file : goal.returns-in_ok-push-in-Some-clause-file
returns-in_ok-push-in-Some-clause-file c =
    let old = c.args.self.now.redos.items in
    let range = c.delete_of.ensures.range in
    subst (IsFile Redo) (sym (c.in_ok-push-in-Some.ensures.items ∙ ap (λ (d : Delta). old ++ d ∷ []) c.delete_of.ensures.is))
    (redo_more c.args.ordinal old (Some c.in-Some.ts) c.requires.file c.requires.ordinal (omega (arith, c.requires.few)) (λ ts e. (let same : c.in-Some.ts ≡ ts = cc in omega (arith, same, range))) (omega (arith, c.requires.count, c.requires.few)))

pub returns-in_ok-push-in-Some-clause-put : goal.returns-in_ok-push-in-Some-clause-put
returns-in_ok-push-in-Some-clause-put c =
    let old = c.args.self.now.redos.items in
    c.in_ok-push-in-Some.ensures.items ∙ ap (λ (d : Delta). old ++ d ∷ []) c.delete_of.ensures.is ∙ ap (λ (o : Option ℕ). old ++ deletes_of c.args.ordinal o) (sym c.in-Some.is)
