use Rattle.std.proofs.Common.{◌≡◌, ap, arith, length, List, ℕ, true, false, not}
use Rattle.std.proofs.lemmas.Bool.{OnTrue_from, OnTrue_at, OnFalse_from, OnFalse_at, not-true, not-false}
use Rattle.kt_plain.specs.declared.items.Items.TheVariants.{Texts}
use Rattle.kt_column.specs.declared.form.Encoding.TheVariants.{Prefix}
use Rattle.kt_column.specs.Values.{MayStand, IsShortest}
use Rattle.kt_column.proofs.Widths.{small_texts}
use Rattle.kt_column.proofs.ShortestHeld.{dictionary_beside_prefix, prefixes_shortest, alone_shortest, plain_before_prefixes, dictionary_before_prefixes}
use Rattle.kt_column.proofs.least.are_prefixes_shortest.Goals as goal

pub overflow_add-len : goal.overflow_add-len
overflow_add-len c = omega (arith, c.len.ensures, c.byte_len.ensures, c.requires.values.few, small_texts c.args.form c.args.items.now c.requires.values)

pub returns-then-not-may_use-clause-yes : goal.returns-then-not-may_use-clause-yes
returns-then-not-may_use-clause-yes c = λ bytes stands. alone_shortest c.args.form c.args.items.now bytes c.if-not-may_use.ensures.no stands

pub returns-then-len-byte_len-clause-no : goal.returns-then-len-byte_len-clause-no
returns-then-len-byte_len-clause-no c = λ bytes p.
    plain_before_prefixes c.args.form c.args.items.now bytes c.if-not-may_use.ensures.yes (omega (arith, c.if-len-byte_len.true, c.len.ensures, c.byte_len.ensures, ap length c.as_bytes-len.ensures.spelled)) p

pub returns-clause-yes : goal.returns-clause-yes
returns-clause-yes c =
    let ts = c.args.items.now in
    let own = ap length c.as_bytes-len.ensures.spelled in
    let h : not c.in-Ok.value ≡ true → (bytes : List ℕ) → MayStand c.args.form (Texts ts) Prefix bytes → IsShortest c.args.form (Texts ts) Prefix bytes =
    λ e bytes stands.
    let none = OnFalse_at (not-true _ e) c.in-Ok.ensures.no in
    prefixes_shortest c.args.form ts bytes (λ may. omega (arith, c.if-len-byte_len.false, c.len.ensures, c.byte_len.ensures, own)) (λ may fits. omega (arith, none fits, own)) stands in
    OnTrue_from _ _ h

pub returns-clause-no : goal.returns-clause-no
returns-clause-no c =
    let ts = c.args.items.now in
    let own = ap length c.as_bytes-len.ensures.spelled in
    let h : not c.in-Ok.value ≡ false → (bytes : List ℕ) → ¬ IsShortest c.args.form (Texts ts) Prefix bytes =
    λ e bytes p.
    let some = OnTrue_at (not-false _ e) c.in-Ok.ensures.yes in
    dictionary_before_prefixes c.args.form ts bytes (dictionary_beside_prefix c.args.form c.if-not-may_use.ensures.yes c.requires.open) (some.0, omega (arith, some.1, own)) p in
    OnFalse_from _ _ h
