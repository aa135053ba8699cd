-- Where the script of a source ends, line by line.
use Rattle.std.proofs.Common.{◌≡◌, ◌≢◌, ℕ, ◌+◌, List, ◌∷◌, ◌++◌, sym, ap, ◌∙◌, true, false, length}
use Rattle.std.specs.Prelude.{All, if◌then◌else◌}
use Rattle.kt_script.specs.Pieces.{cut}
use Rattle.kt_script.proofs.Cuts.{some_piece}
use Rattle.kt_script.proofs.Faults.{line_cut, line_none}
use Rattle.kt_run_check.specs.Sources.{begins_opening, len_before}

-- a line that begins an opening
pub len_here : (text front behind : List ℕ) → text ≡ front ++ 10 ∷ behind → All (λ b. b ≢ 10) front → begins_opening front ≡ true → len_before (cut 10 text) ≡ 0
len_here text front behind is none begins =
    let some = some_piece 10 behind in
    ap len_before ((line_cut text front behind is none).0 ∙ ap (λ ps. front ∷ ps) some.2) ∙ ap (λ b. if b then 0 else length front + 1 + len_before (some.0 ∷ some.1)) begins

-- a line that begins none
pub len_step : (text front behind : List ℕ) → text ≡ front ++ 10 ∷ behind → All (λ b. b ≢ 10) front → begins_opening front ≡ false → len_before (cut 10 text) ≡ length front + 1 + len_before (cut 10 behind)
len_step text front behind is none begins =
    let some = some_piece 10 behind in
    ap len_before ((line_cut text front behind is none).0 ∙ ap (λ ps. front ∷ ps) some.2) ∙ ap (λ b. if b then 0 else length front + 1 + len_before (some.0 ∷ some.1)) begins
    ∙ ap (λ ps. length front + 1 + len_before ps) (sym some.2)

-- what is left without a newline
pub len_end : (text : List ℕ) → All (λ b. b ≢ 10) text → len_before (cut 10 text) ≡ (if begins_opening text then 0 else length text)
len_end text none = ap len_before (line_none text none)
