use Rattle.std.proofs.Common.{◌<◌, ◌^◌, ◌∙◌, List, ℕ, Option, Some, ap, sym, subst, arith}
use Rattle.std.specs.List.{find}
use Rattle.kt_tree.specs.Entries.{next}
use Rattle.kt_tree.specs.Trees.{IsPairOf, entries}
use Rattle.kt_dms.specs.Walks.{is_behind}
use Rattle.kt_dms.proofs.OneRow.{behind_key, behind_front}
use Rattle.kt_dms.proofs.rows.pair_behind.Goals as goal

pub returns-in-Some : goal.returns-in-Some
returns-in-Some c =
    let es = entries c.args.tree.now c.args.pool.now in
    let small : c.args.ordinal < 2 ^ 32 = omega arith in
    let low : c.in-Some.ts < 2 ^ 64 = omega arith in
    subst (IsPairOf c.args.tree.now c.args.pool.now c.after.result)
    (ap (λ (k : List ℕ). next (Some k) es) c.key_of.ensures ∙ behind_key c.args.pool.now c.args.ordinal small c.in-Some.ts low es c.requires.each ∙ ap (λ (a : Option ℕ). find (is_behind c.args.ordinal a) es) (sym c.in-Some.is))
    c.after.ensures.pair

pub returns-in-None : goal.returns-in-None
returns-in-None c =
    let es = entries c.args.tree.now c.args.pool.now in
    let small : c.args.ordinal < 2 ^ 32 = omega arith in
    subst (IsPairOf c.args.tree.now c.args.pool.now c.after-in-None.result)
    (ap (λ (k : List ℕ). next (Some k) es) c.front_of.ensures ∙ behind_front c.args.pool.now c.args.ordinal small es c.requires.each ∙ ap (λ (a : Option ℕ). find (is_behind c.args.ordinal a) es) (sym c.in-None.is))
    c.after-in-None.ensures.pair
