use Rattle.std.proofs.Common.{◌≡◌, ◌∙◌, ◌+◌, ◌-◌, length, take, drop, sym, ap, arith, length-drop}
use Rattle.std.proofs.lemmas.List.{take_all}
use Rattle.std.specs.List.{position_or_len}
use Rattle.kt_base.specs.Literals.{is_escaped}
use Rattle.kt_base.proofs.Lanes.{first_behind}
use Rattle.kt_base.proofs.plain.plain_len.Goals as goal

pub returns-clause-first : goal.returns-clause-first
returns-clause-first c =
    let bytes = c.args.bytes.now in
    let n = c.plain_front-front.result in
    let rest : take (length bytes - n) (drop n bytes) ≡ drop n bytes = take_all _ (drop n bytes) (omega (arith, length-drop n bytes)) in
    ap (λ m. n + m) (c.plain_tail.ensures.first ∙ ap (position_or_len is_escaped) rest) ∙ sym (first_behind is_escaped bytes n c.plain_front-front.ensures.within c.plain_front-front.ensures.plain)
