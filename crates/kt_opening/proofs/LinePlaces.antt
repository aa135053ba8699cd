-- The place in a line is that of the text from there on.
use Rattle.std.proofs.Common.{ℕ, ◌+◌, length, List, ◌∷◌, drop, Some, Bor, sym, ap, ◌∙◌, subst}
use Rattle.kt_script.specs.Pieces.{cut}
use Rattle.kt_script.proofs.Cuts.{some_piece}
use Rattle.kt_opening.specs.declared.lines.Due.{Due}
use Rattle.kt_opening.specs.Lines.{IsLineFrom}
use Rattle.kt_opening.specs.LineFronts.{IsPlaceIn, IsPlaceFrom}

pub placed : (text : List ℕ) (at : ℕ) (due : Due) (l : Bor (List ℕ)) (far : ℕ) → IsLineFrom text at (Some l) → IsPlaceIn due l.now far → IsPlaceFrom due (cut 10 (drop at text)) far
placed text at due l far line is =
    let more = some_piece 10 (drop (at + length l.now + 1) text) in
    subst (λ (ps : List (List ℕ)). IsPlaceFrom due ps far) (sym (line.0 ∙ ap (λ (ps : List (List ℕ)). l.now ∷ ps) more.2)) is
