use Rattle.std.proofs.Common.{◌≡◌, ◌∙◌, suc, None, sym, ap, drop, get_or, drop-cons, inl, inr}
use Rattle.std.specs.Option.{option_and_then}
use Rattle.kt_words.specs.Numbers.{digits_from, between}
use Rattle.kt_words.proofs.Digits.{too_many, no_digit, none_said}
use Rattle.kt_words.proofs.number.number_said.Goals as goal

pub returns-then-not-is_digit : goal.returns-then-not-is_digit
returns-then-not-is_digit c =
    let digits = c.args.digits.now in
    let i = c.loop-digit.digit-index in
    let number = c.loop-digit.number in
    let least = c.args.least in
    let most = c.args.most in
    let none : option_and_then (between least most) (digits_from number (drop i digits)) ≡ None = elim c.then-not-is_digit.either [
      | inl other ↦ ap (λ ds. option_and_then (between least most) (digits_from number ds)) (drop-cons digits i 0 c.loop-digit-test.true) ∙ no_digit least most (get_or digits i 0) number (drop (suc i) digits) (sym c.is_digit.ensures ∙ other)
      | inr large ↦ too_many least most (drop i digits) number large.1
    ] in
    sym (none_said least most digits (c.loop-digit.invariant.said ∙ none))
