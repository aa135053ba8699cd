use Rattle.std.proofs.Common.{◌≡◌, ◌+◌, ◌*◌, arith, List, ℕ, true, false, not}
use Rattle.std.specs.Prelude.{nat_lt}
use Rattle.std.proofs.lemmas.Bool.{OnTrue_from, OnTrue_at, OnFalse_from, OnFalse_at, not-true, not-false}
use Rattle.kt_plain.specs.declared.items.Items.TheVariants.{Texts}
use Rattle.kt_column.specs.declared.form.Encoding.TheVariants.{Dictionary}
use Rattle.kt_column.specs.Values.{MayStand, IsShortest}
use Rattle.kt_column.proofs.Widths.{small_texts}
use Rattle.kt_column.proofs.ShortestHeld.{dictionary_shortest, plain_before_dictionary, prefix_before_dictionary}
use Rattle.kt_column.proofs.least.is_dictionary_shortest.Goals as goal

pub overflow_add-len : goal.overflow_add-len
overflow_add-len c = omega (arith, c.len.ensures, c.byte_len.ensures, c.requires.values.few, small_texts c.args.form c.args.items.now c.requires.values)

pub are_prefixes_below-requires-clause-small : goal.are_prefixes_below-requires-clause-small
are_prefixes_below-requires-clause-small c = small_texts c.args.form c.args.items.now c.requires.values

pub returns-then-len-byte_len-clause-yes : goal.returns-then-len-byte_len-clause-yes
returns-then-len-byte_len-clause-yes c =
    let ts = c.args.items.now in
    let h : not c.are_prefixes_below.result ≡ true → (bytes : List ℕ) → MayStand c.args.form (Texts ts) Dictionary bytes → IsShortest c.args.form (Texts ts) Dictionary bytes =
    λ e bytes stands.
    let others = OnFalse_at (not-true _ e) c.are_prefixes_below.ensures.no in
    dictionary_shortest c.args.form ts bytes (omega (arith, c.if-len-byte_len.true, c.spelled_len-len.ensures, c.len.ensures, c.byte_len.ensures)) (omega (arith, others, c.spelled_len-len.ensures)) stands in
    OnTrue_from _ _ h

pub returns-then-len-byte_len-clause-no : goal.returns-then-len-byte_len-clause-no
returns-then-len-byte_len-clause-no c =
    let ts = c.args.items.now in
    let h : not c.are_prefixes_below.result ≡ false → (bytes : List ℕ) → ¬ IsShortest c.args.form (Texts ts) Dictionary bytes =
    λ e bytes p.
    let others = OnTrue_at (not-false _ e) c.are_prefixes_below.ensures.yes in
    prefix_before_dictionary c.args.form ts bytes c.requires.open (small_texts c.args.form ts c.requires.values) (omega (arith, others, c.spelled_len-len.ensures)) p in
    OnFalse_from _ _ h

pub returns-else-len-byte_len-clause-no : goal.returns-else-len-byte_len-clause-no
returns-else-len-byte_len-clause-no c =
    let ts = c.args.items.now in
    let h : nat_lt c.spelled_len-len.result (4 * c.len.result + c.byte_len.result) ≡ false → (bytes : List ℕ) → ¬ IsShortest c.args.form (Texts ts) Dictionary bytes =
    λ e bytes p. plain_before_dictionary c.args.form ts bytes c.requires.open (omega (arith, c.if-len-byte_len.false, c.spelled_len-len.ensures, c.len.ensures, c.byte_len.ensures)) p in
    OnFalse_from _ _ h
