-- Cutting at a byte takes a text of lines apart, and a line of words.
use Rattle.std.proofs.Common.{◌≡◌, ℕ, List, [], ◌∷◌, ◌++◌, refl, ap, ◌∙◌, cond, eqb, eq-eqb, append_assoc, Bool, true, false}
use Rattle.std.specs.Prelude.{◌≢◌}
use Rattle.std.specs.List.{flat_map, onto_first, AllByRecursion}
use Rattle.std.proofs.lemmas.Bool.{ne_eqb}
use mathlib.Core.List.{append-nil}
use Rattle.kt_script.specs.Texts.{line, spaced, words}
use Rattle.kt_script.specs.Pieces.{cut}

-- without a byte
abbrev pub Without : ℕ → List ℕ → Type 0
Without byte xs = AllByRecursion (λ c. c ≢ byte) xs

pub cut_front : (byte : ℕ) (a x : List ℕ) → Without byte a → cut byte (a ++ byte ∷ x) ≡ a ∷ cut byte x
cut_front byte [] x p = ap (λ t. cond t ([] ∷ cut byte x) (onto_first byte (cut byte x))) (eq-eqb byte byte refl)
cut_front byte (c ∷ a) x p =
    ap (λ t. cond t ([] ∷ cut byte (a ++ byte ∷ x)) (onto_first c (cut byte (a ++ byte ∷ x)))) (ne_eqb c byte p.0) ∙ ap (onto_first c) (cut_front byte a x p.1)

pub cut_end : (byte : ℕ) (a : List ℕ) → Without byte a → cut byte a ≡ a ∷ []
cut_end byte [] p = refl
cut_end byte (c ∷ a) p = ap (λ t. cond t ([] ∷ cut byte a) (onto_first c (cut byte a))) (ne_eqb c byte p.0) ∙ ap (onto_first c) (cut_end byte a p.1)

pub cut_words : (w : List ℕ) (ws : List (List ℕ)) → Without 32 w → AllByRecursion (Without 32) ws → cut 32 (words (w ∷ ws)) ≡ w ∷ ws
cut_words w [] p q = ap (cut 32) (append-nil w) ∙ cut_end 32 w p
cut_words w (v ∷ vs) p q = cut_front 32 w (v ++ flat_map spaced vs) p ∙ ap (λ r. w ∷ r) (cut_words v vs q.0 q.1)

pub cut_lines : (lines : List (List ℕ)) → AllByRecursion (Without 10) lines → cut 10 (flat_map line lines) ≡ lines ++ [] ∷ []
cut_lines [] p = refl
cut_lines (l ∷ lines) p = ap (cut 10) (append_assoc l (10 ∷ []) (flat_map line lines)) ∙ (cut_front 10 l (flat_map line lines) p.0 ∙ ap (λ r. l ∷ r) (cut_lines lines p.1))

-- a text has a piece
pub some_piece : (byte : ℕ) (xs : List ℕ) → (piece : List ℕ) × (pieces : List (List ℕ)) × (cut byte xs ≡ piece ∷ pieces)
some_piece byte [] = ([], [], refl)
some_piece byte (x ∷ xs) = by (eqb x byte)
  where
    first : (pieces : List (List ℕ)) → (piece : List ℕ) × (more : List (List ℕ)) × (onto_first x pieces ≡ piece ∷ more)
    first [] = (x ∷ [], [], refl)
    first (p ∷ ps) = (x ∷ p, ps, refl)

    by : (t : Bool) → (piece : List ℕ) × (pieces : List (List ℕ)) × (cond t ([] ∷ cut byte xs) (onto_first x (cut byte xs)) ≡ piece ∷ pieces)
    by true = ([], cut byte xs, refl)
    by false = first (cut byte xs)

-- bytes in front of the first piece
pub cut_onto : (byte : ℕ) (k r piece : List ℕ) (pieces : List (List ℕ)) → Without byte k → cut byte r ≡ piece ∷ pieces → cut byte (k ++ r) ≡ (k ++ piece) ∷ pieces
cut_onto byte [] r piece pieces p e = e
cut_onto byte (c ∷ k) r piece pieces p e = ap (λ t. cond t ([] ∷ cut byte (k ++ r)) (onto_first c (cut byte (k ++ r)))) (ne_eqb c byte p.0) ∙ ap (onto_first c) (cut_onto byte k r piece pieces p.1 e)

pub cut_line : (l t : List ℕ) → Without 10 l → cut 10 (line l ++ t) ≡ l ∷ cut 10 t
cut_line l t clean = ap (cut 10) (append_assoc l (10 ∷ []) t) ∙ cut_front 10 l t clean
