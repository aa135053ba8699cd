-- A line is cut into words from the left.
use Rattle.std.proofs.Common.{◌≡◌, ℕ, ◌+◌, ◌<◌, List, [], ◌∷◌, ◌++◌, refl, sym, ap, ◌∙◌, length, take, drop, get_or, Bool, true, false, append_assoc, add-one, drop-cons}
use mathlib.Core.List.{append-nil}
use Rattle.std.specs.Prelude.{if◌then◌else◌}
use Rattle.std.specs.List.{onto_first}
use Rattle.std.proofs.lemmas.List.{take_more}
use Rattle.kt_script.specs.declared.word.Side.{Side}
use Rattle.kt_script.specs.declared.word.Side.TheVariants.{Outside}
use Rattle.kt_script.specs.Pieces.{side_after, ends_word, words_from, words_of}

-- bytes in front of the first word
abbrev pub onto_front : List ℕ → List (List ℕ) → List (List ℕ)
onto_front front [] = front ∷ []
onto_front front (word ∷ words) = (front ++ word) ∷ words

-- a line has a word
pub some_word : (side : Side) (text : List ℕ) → (word : List ℕ) × (words : List (List ℕ)) × (words_from side text ≡ word ∷ words)
some_word side [] = ([], [], refl)
some_word side (b ∷ text) = by (ends_word side b)
  where
    first : (words : List (List ℕ)) → (word : List ℕ) × (more : List (List ℕ)) × (onto_first b words ≡ word ∷ more)
    first [] = (b ∷ [], [], refl)
    first (w ∷ ws) = (b ∷ w, ws, refl)

    by : (t : Bool) → (word : List ℕ) × (words : List (List ℕ)) × ((if t then [] ∷ words_from Outside text else onto_first b (words_from (side_after side b) text)) ≡ word ∷ words)
    by true = ([], words_from Outside text, refl)
    by false = first (words_from (side_after side b) text)

pub cut_begins : (text : List ℕ) → words_of text ≡ onto_front (take 0 text) (words_from Outside (drop 0 text))
cut_begins text = let some = some_word Outside text in some.2 ∙ sym (ap (onto_front []) some.2)

onto_more : (front : List ℕ) (b : ℕ) (words : List (List ℕ)) → onto_front front (onto_first b words) ≡ onto_front (front ++ b ∷ []) words
onto_more front b [] = refl
onto_more front b (w ∷ ws) = ap (λ x. x ∷ ws) (sym (append_assoc front (b ∷ []) w))

abbrev split : Bool → ℕ → Side → List ℕ → List (List ℕ)
split t b side rest = if t then [] ∷ words_from Outside rest else onto_first b (words_from (side_after side b) rest)

at_place : (side : Side) (text : List ℕ) (at : ℕ) → at < length text → words_from side (drop at text) ≡ split (ends_word side (get_or text at 0)) (get_or text at 0) side (drop (at + 1) text)
at_place side text at h = ap (words_from side) (drop-cons text at 0 h) ∙ ap (λ n. split (ends_word side (get_or text at 0)) (get_or text at 0) side (drop n text)) (sym (add-one at))

-- a byte that ends no word
pub cut_more : (text : List ℕ) (at : ℕ) (side next : Side) → at < length text → words_of text ≡ onto_front (take at text) (words_from side (drop at text)) → ends_word side (get_or text at 0) ≡ false → next ≡ side_after side (get_or text at 0)
    → words_of text ≡ onto_front (take (at + 1) text) (words_from next (drop (at + 1) text))
cut_more text at side next h so ends is =
    let b : ℕ = get_or text at 0 in
    so ∙ (ap (onto_front (take at text)) (at_place side text at h ∙ ap (λ t. split t b side (drop (at + 1) text)) ends)
    ∙ (onto_more (take at text) b (words_from (side_after side b) (drop (at + 1) text))
    ∙ (ap (λ front. onto_front front (words_from (side_after side b) (drop (at + 1) text))) (sym (take_more text at 0 h)) ∙ ap (λ s. onto_front (take (at + 1) text) (words_from s (drop (at + 1) text))) (sym is))))

-- a byte that ends the word
pub cut_here : (text : List ℕ) (at : ℕ) (side : Side) → at < length text → words_of text ≡ onto_front (take at text) (words_from side (drop at text)) → ends_word side (get_or text at 0) ≡ true
    → words_of text ≡ take at text ∷ words_of (drop (at + 1) text)
cut_here text at side h so ends =
    so ∙ (ap (onto_front (take at text)) (at_place side text at h ∙ ap (λ t. split t (get_or text at 0) side (drop (at + 1) text)) ends) ∙ ap (λ w. w ∷ words_of (drop (at + 1) text)) (append-nil (take at text)))
