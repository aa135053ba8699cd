use Rattle.std.proofs.Common.{◌≡◌, ◌∙◌, ap, subst, length, arith, List, ℕ, true, false}
use Rattle.std.specs.Prelude.{nat_lt}
use Rattle.std.specs.List.{flat_map}
use Rattle.std.proofs.lemmas.Bool.{OnTrue_from, OnFalse_from, ltb-true, ltb-false}
use Rattle.kt_plain.specs.Widths.{number}
use Rattle.kt_rle.specs.Spelling.{Takes}
use Rattle.kt_column.specs.Forms.{width}
use Rattle.kt_plain.specs.declared.items.Items.TheVariants.{Numbers}
use Rattle.kt_column.specs.declared.form.Encoding.TheVariants.{RunLength}
use Rattle.kt_column.specs.Values.{run_width, MayStand, IsShortest}
use Rattle.kt_column.proofs.ShortestHeld.{runs_shortest, runs_longer}
use Rattle.kt_column.proofs.least.are_runs_shortest.Goals as goal

pub returns-clause-yes : goal.returns-clause-yes
returns-clause-yes c =
    let form = c.args.form in
    let zs = c.args.runs.now in
    let wide : c.run_width-width.result ≡ run_width (width form) = c.run_width-width.ensures ∙ ap run_width c.width.ensures in
    let takes : Takes (run_width (width form)) zs c.spelled_len.result = subst (λ w. Takes w zs c.spelled_len.result) wide c.spelled_len.ensures in
    let plain : c.plain_len.result ≡ length (flat_map (number (run_width (width form))) zs) = c.plain_len.ensures ∙ ap (λ w. length (flat_map (number w) zs)) wide in
    let h : nat_lt c.spelled_len.result c.plain_len.result ≡ true → (bytes : List ℕ) → MayStand form (Numbers zs) RunLength bytes → IsShortest form (Numbers zs) RunLength bytes =
    λ e bytes stands. let lt = ltb-true _ _ e in runs_shortest form zs c.spelled_len.result bytes takes (omega (arith, lt, plain)) stands in
    OnTrue_from _ _ h

pub returns-clause-no : goal.returns-clause-no
returns-clause-no c =
    let form = c.args.form in
    let zs = c.args.runs.now in
    let wide : c.run_width-width.result ≡ run_width (width form) = c.run_width-width.ensures ∙ ap run_width c.width.ensures in
    let takes : Takes (run_width (width form)) zs c.spelled_len.result = subst (λ w. Takes w zs c.spelled_len.result) wide c.spelled_len.ensures in
    let plain : c.plain_len.result ≡ length (flat_map (number (run_width (width form))) zs) = c.plain_len.ensures ∙ ap (λ w. length (flat_map (number w) zs)) wide in
    let h : nat_lt c.spelled_len.result c.plain_len.result ≡ false → (bytes : List ℕ) → ¬ IsShortest form (Numbers zs) RunLength bytes =
    λ e bytes p. let ge = ltb-false _ _ e in runs_longer form zs c.spelled_len.result bytes c.requires.open takes (omega (arith, ge, plain)) p in
    OnFalse_from _ _ h
