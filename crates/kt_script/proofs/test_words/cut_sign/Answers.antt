use Rattle.std.proofs.Common.{◌∙◌, ap, sym, take, drop, length}
use Rattle.std.specs.Option.{unwrap_or}
use Rattle.kt_base.proofs.Strings.{front_is}
use Rattle.kt_script.specs.Writes.{is_sign}
use Rattle.kt_script.proofs.test_words.cut_sign.Goals as goal

pub returns-clause-name : goal.returns-clause-name
returns-clause-name c =
    let at = c.unwrap_or.ensures ∙ (ap (λ o. unwrap_or o (length c.args.word.now)) c.sign_at.ensures ∙ front_is is_sign c.args.word.now) in
    c.split_at.ensures.front ∙ ap (λ n. take n c.args.word.now) at

pub returns-clause-behind : goal.returns-clause-behind
returns-clause-behind c =
    let at = c.unwrap_or.ensures ∙ (ap (λ o. unwrap_or o (length c.args.word.now)) c.sign_at.ensures ∙ front_is is_sign c.args.word.now) in
    let name = c.split_at.ensures.front ∙ ap (λ n. take n c.args.word.now) at in
    c.split_at.ensures.back ∙ ap (λ n. drop n c.args.word.now) (sym c.split_at.ensures.front_len ∙ ap length name)
