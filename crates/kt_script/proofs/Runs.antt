-- Runs of bytes inside a word.
use Rattle.std.proofs.Common.{◌≡◌, ℕ, zero, suc, ◌+◌, ◌-◌, ◌<◌, ◌≤◌, List, [], ◌∷◌, refl, sym, ap, subst, ◌∙◌, arith, length, length-drop, take, drop, get_or, Bool, true, false}
use Rattle.std.specs.Prelude.{◌||◌, ◌==◌, if◌then◌else◌}
use mathlib.Core.List.{append-nil}
use Rattle.std.proofs.lemmas.List.{drop_all, take_all}
use Rattle.memchr.specs.Find.{is_byte2}
use Rattle.kt_script.specs.declared.word.Side.{Side}
use Rattle.kt_script.specs.declared.word.Side.TheVariants.{Outside, Inside, Slashed}
use Rattle.kt_script.specs.Pieces.{words_from, words_of}
use Rattle.kt_script.specs.Runs.{Quiet}
use Rattle.kt_script.proofs.Pieces.{onto_front, cut_more}

-- the rest of a text, as a slice gives it
pub rest_is : (from : ℕ) (text : List ℕ) → take (length text - from) (drop from text) ≡ drop from text
rest_is from text = take_all (length text - from) (drop from text) (omega (arith, length-drop from text))

pub quiet_outside : (b : ℕ) → is_byte2 32 34 b ≡ false → Quiet Outside b
quiet_outside b h = by (b == 32) (b == 34) h
  where
    by : (s t : Bool) → (s || t) ≡ false → (s ≡ false) × ((if t then Inside else Outside) ≡ Outside)
    by true t g = absurd cc
    by false true g = absurd cc
    by false false g = (refl, refl)

pub quiet_inside : (b : ℕ) → is_byte2 34 92 b ≡ false → Quiet Inside b
quiet_inside b h = (refl, by (b == 34) (b == 92) h)
  where
    by : (s t : Bool) → (s || t) ≡ false → (if s then Outside else (if t then Slashed else Inside)) ≡ Inside
    by true t g = absurd cc
    by false true g = absurd cc
    by false false g = refl

-- the bytes up to a place begin the first word
abbrev pub Begins : List ℕ → Side → ℕ → Type 0
Begins text side at = words_of text ≡ onto_front (take at text) (words_from side (drop at text))

-- a run of quiet bytes belongs to the word
run_on : (text : List ℕ) (side : Side) (from n : ℕ) → from + n ≤ length text → ((k : ℕ) → from ≤ k → k < from + n → Quiet side (get_or text k 0)) → Begins text side from → Begins text side (from + n)
run_on text side from zero le quiet so = let none : from ≡ from + 0 = omega arith in subst (Begins text side) none so
run_on text side from (suc n) le quiet so =
    let here = quiet (from + n) (omega arith) (omega arith) in
    let before = run_on text side from n (omega arith) (λ k low high. quiet k low (omega arith)) so in
    let next : from + n + 1 ≡ from + suc n = omega arith in
    subst (Begins text side) next (cut_more text (from + n) side side (omega arith) before here.0 (sym here.1))

pub run_over : (text : List ℕ) (side : Side) (from at : ℕ) → from ≤ at → at ≤ length text → ((k : ℕ) → from ≤ k → k < at → Quiet side (get_or text k 0)) → Begins text side from → Begins text side at
run_over text side from at low high quiet so =
    let is : from + (at - from) ≡ at = omega arith in
    subst (Begins text side) is (run_on text side from (at - from) (omega arith) (λ k g h. quiet k g (omega arith)) so)

-- a line that is one word
pub cut_all : (text : List ℕ) (side : Side) (at : ℕ) → at ≡ length text → Begins text side at → words_of text ≡ text ∷ []
cut_all text side at is so =
    so ∙ (ap (λ rest. onto_front (take at text) (words_from side rest)) (drop_all at text (omega (arith, is))) ∙ (ap (λ w. w ∷ []) (append-nil (take at text)) ∙ ap (λ w. w ∷ []) (take_all at text (omega (arith, is)))))
