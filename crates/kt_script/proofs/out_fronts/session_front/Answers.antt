use Rattle.std.proofs.Common.{◌≡◌, ◌+◌, ◌<◌, ◌≤◌, ◌++◌, List, ℕ, length, sym, ap, subst, ◌∙◌}
use Rattle.std.specs.Prelude.{codes}
use Rattle.std.specs.Fmt.{decimal}
use Rattle.std.proofs.lemmas.List.{append-nil}
use Rattle.kt_script.specs.Places.{IsFault}
use Rattle.kt_script.specs.Fronts.{IsWord}
use Rattle.kt_script.specs.Texts.{session_line}
use Rattle.kt_script.proofs.StageLines.{first_short, second_more}
use Rattle.kt_script.proofs.out_fronts.session_front.Goals as goal

-- the line in two parts
whole : (number : ℕ) → codes "session " ++ decimal number ≡ session_line number
whole number = ap (λ (w : List ℕ). codes "session " ++ w) (sym (append-nil (decimal number)))

pub returns-then-at-word : goal.returns-then-at-word
returns-then-at-word c =
    let line = c.args.line.now in
    let at = c.word_front-at.result in
    subst (λ (w : List ℕ). IsFault (IsWord w) line at) (whole c.args.number)
    (first_short (codes "session ") (decimal c.args.number) line at (subst (λ (w : List ℕ). IsFault (IsWord w) line at) c.as_slice-word.ensures c.word_front-at.ensures) (subst (λ (w : List ℕ). at < length w) c.as_slice-word.ensures c.if-at-word.true))

pub returns : goal.returns
returns c =
    let line = c.args.line.now in
    let at = c.word_front-at.result in
    let rest = c.split_at.result.1.now in
    let digits : c.as_bytes.result.now ≡ decimal c.args.number = c.as_bytes.ensures.value ∙ c.format.ensures.text in
    subst (λ (w : List ℕ). IsFault (IsWord w) line (at + c.word_front.result)) (whole c.args.number)
    (second_more (codes "session ") (decimal c.args.number) line rest at c.word_front.result (subst (λ (w : List ℕ). IsFault (IsWord w) line at) c.as_slice-word.ensures c.word_front-at.ensures) (subst (λ (w : List ℕ). length w ≤ at) c.as_slice-word.ensures c.if-at-word.false)
    c.split_at.ensures.back (subst (λ (w : List ℕ). IsFault (IsWord w) rest c.word_front.result) digits c.word_front.ensures))
