use Rattle.std.proofs.Common.{◌≡◌, ◌∙◌, ℕ, take, min, length, sym, subst, arith}
use Rattle.std.proofs.lemmas.Bool.{false≢true}
use Rattle.kt_reopen.specs.Tables.{AllAreLike}
use Rattle.kt_reopen.proofs.Alike.{alike_more, differ_here, alike_all, differ_end}
use Rattle.kt_reopen.proofs.tables.first_other.Goals as goal

pub columns-preserved : goal.columns-preserved
columns-preserved c =
    alike_more c.args.columns.now c.args.others.now c.columns.at c.index-columns-at.result c.index-others-at.result (omega arith) (omega arith) c.index-columns-at.is c.index-others-at.is
    c.columns.invariant (c.are_like.ensures.0 c.if-not-are_like.false)

pub returns-then-not-are_like : goal.returns-then-not-are_like
returns-then-not-are_like c =
    differ_here c.args.columns.now c.args.others.now c.columns.at c.index-columns-at.result c.index-others-at.result (omega arith) (omega arith) c.index-columns-at.is c.index-others-at.is
    c.columns.invariant (λ like. false≢true (sym c.if-not-are_like.true ∙ c.are_like.ensures.1 like))

pub returns-then-columns-others : goal.returns-then-columns-others
returns-then-columns-others c =
    let at : c.columns.at ≡ min (length c.args.columns.now) (length c.args.others.now) = omega arith in
    alike_all c.args.columns.now c.args.others.now c.columns.at at c.columns.invariant (omega arith)

pub returns-else-columns-others : goal.returns-else-columns-others
returns-else-columns-others c =
    let same : c.columns.at ≡ c.min-both.result = omega arith in
    let h = subst (λ (n : ℕ). AllAreLike (take n c.args.columns.now) (take n c.args.others.now)) same c.columns.invariant in
    differ_end c.args.columns.now c.args.others.now c.min-both.result c.min-both.ensures h (omega arith)
