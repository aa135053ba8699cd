-- Reading the words of a line, one after the other.
use Rattle.std.proofs.Common.{◌≡◌, ℕ, List, [], ◌∷◌, ◌++◌, Option, Some, None, refl, sym, ap, ◌∙◌, append_assoc}
use Rattle.std.specs.Option.{option_map, option_and_then}
use Rattle.std.proofs.lemmas.List.{append-nil}
use Rattle.std.specs.Prelude.{codes}
use Rattle.kt_script.specs.declared.output.LastLine.{LastLine}
use Rattle.kt_script.specs.declared.output.LastLine.TheVariants as last
use Rattle.kt_script.specs.Outputs.{onto, each_in, unless_more, counted, last_numbers}
use Rattle.kt_script.specs.Pieces.{cut}
use Rattle.kt_script.proofs.Cuts.{some_piece}

-- what was read, and what the words behind say
abbrev pub pushed : {A : Type 0} → List A → Option (List A) → Option (List A)
pushed xs o = option_map (λ ys. xs ++ ys) o

module _ {A : Type 0} (read : List ℕ → Option A) where
  pub each_start : (words : List (List ℕ)) (xs : List A) → xs ≡ [] → each_in read words ≡ pushed xs (each_in read words)
  each_start words xs none = by (each_in read words) ∙ ap (λ ys. pushed ys (each_in read words)) (sym none)
    where
      by : (o : Option (List A)) → o ≡ pushed [] o
      by None = refl
      by (Some ys) = refl

  module _ (whole : Option (List A)) (xs : List A) (words : List (List ℕ)) (so_far : whole ≡ pushed xs (each_in read words)) where
    pub each_more : (word : List ℕ) (behind : List (List ℕ)) (a : A) (new : List A) → words ≡ word ∷ behind → read word ≡ Some a → new ≡ xs ++ a ∷ [] → whole ≡ pushed new (each_in read behind)
    each_more word behind a new parts is pushes =
        so_far ∙ ap (λ ws. pushed xs (each_in read ws)) parts ∙ ap (λ o. pushed xs (option_and_then (λ x. onto x (each_in read behind)) o)) is ∙ by (each_in read behind) ∙ ap (λ ys. pushed ys (each_in read behind)) (sym pushes)
      where
        by : (o : Option (List A)) → pushed xs (onto a o) ≡ pushed (xs ++ a ∷ []) o
        by None = refl
        by (Some ys) = ap Some (sym (append_assoc xs (a ∷ []) ys))

    pub each_bad : (word : List ℕ) (behind : List (List ℕ)) → words ≡ word ∷ behind → read word ≡ None → whole ≡ None
    each_bad word behind parts is = so_far ∙ ap (λ ws. pushed xs (each_in read ws)) parts ∙ ap (λ o. pushed xs (option_and_then (λ x. onto x (each_in read behind)) o)) is

    pub each_done : words ≡ [] → whole ≡ Some xs
    each_done none = so_far ∙ ap (λ ws. pushed xs (each_in read ws)) none ∙ ap Some (append-nil xs)

-- behind a space stands a word
pub some_more : {A : Type 0} (a : A) (rest : List ℕ) → unless_more a (cut 32 rest) ≡ None
some_more a rest = let p = some_piece 32 rest in ap (unless_more a) p.2

-- behind the numbers of the last line stands no word
pub last_none : (ws : List (List ℕ)) (a c n : ℕ × List (List ℕ)) (rest : List ℕ) → Some a ≡ counted (codes "ahm") ws → Some c ≡ counted (codes "last") a.1 → Some n ≡ counted (codes "rowsets") c.1 → n.1 ≡ cut 32 rest → None ≡ last_numbers ws
last_none ws a c n rest first second third more =
    let end : List (List ℕ) → Option LastLine = unless_more (last.Numbers a.0 c.0 n.0) in
    let inner : ℕ × List (List ℕ) → ℕ × List (List ℕ) → Option LastLine = λ x y. option_and_then (λ (z : ℕ × List (List ℕ)). unless_more (last.Numbers x.0 y.0 z.0) z.1) (counted (codes "rowsets") y.1) in
    sym (some_more (last.Numbers a.0 c.0 n.0) rest) ∙ ap end (sym more)
    ∙ ap (option_and_then (λ (z : ℕ × List (List ℕ)). unless_more (last.Numbers a.0 c.0 z.0) z.1)) third
    ∙ ap (option_and_then (inner a)) second
    ∙ ap (option_and_then (λ (x : ℕ × List (List ℕ)). option_and_then (inner x) (counted (codes "last") x.1))) first
