-- Where the bytes of a fixed word stop being the front of it.
use Rattle.std.proofs.Common.{◌≡◌, ℕ, suc, ◌+◌, ◌<◌, ◌≤◌, Bool, true, false, List, [], ◌∷◌, ◌++◌, length, take, drop, get_or, refl, sym, ap, ap₂, ◌∙◌, arith, length-append}
use Rattle.std.specs.Prelude.{◌==◌, if◌then◌else◌}
use Rattle.std.proofs.lemmas.Bool.{eqb-true, eqb-false, eq-eqb, ne_eqb}
use Rattle.std.proofs.lemmas.List.{append-nil, drop_more, drop_all, nil_from_length, length-take-le}
use Rattle.kt_script.specs.Places.{IsFault}
use Rattle.kt_script.specs.Fronts.{IsWord}
use Rattle.kt_script.proofs.Places.{byte_on, byte_off, no_bytes}

-- how many bytes two texts begin with alike
abbrev pub common : List ℕ → List ℕ → ℕ
common [] word = 0
common (a ∷ text) [] = 0
common (a ∷ text) (b ∷ word) = if a == b then suc (common text word) else 0

pub word_fault : (text word : List ℕ) → IsFault (IsWord word) text (common text word)
word_fault [] word = no_bytes (IsWord word) word refl
word_fault (a ∷ text) [] = byte_off (IsWord []) a text [] refl (λ y e. cc)
word_fault (a ∷ text) (b ∷ word) = by (a == b) refl (word_fault text word)
  where
    by : (t : Bool) → (a == b) ≡ t → IsFault (IsWord word) text (common text word) → IsFault (IsWord (b ∷ word)) (a ∷ text) (if t then suc (common text word) else 0)
    by true e more = let same = eqb-true a b e in byte_on (IsWord (b ∷ word)) (IsWord word) a text (common text word) (λ x h. ap₂ (λ (i : ℕ) (l : List ℕ). i ∷ l) same h) (λ x h. cc) more
    by false e more = byte_off (IsWord (b ∷ word)) a text (b ∷ word) refl (λ y h. eqb-false a b e cc)

-- a word is whole where as many bytes are alike
pub word_whole : (text word : List ℕ) (place : ℕ) → IsFault (IsWord word) text place → length word ≤ place → take place text ≡ word
word_whole text word place p le =
    let within = p.within in
    let size : length (take place text) ≡ place = length-take-le place text within in
    let whole : length (take place text) + length p.front.0 ≡ length word = sym (length-append (take place text) p.front.0) ∙ ap length p.front.1 in
    let none : p.front.0 ≡ [] = nil_from_length p.front.0 (omega (arith, size, whole)) in
    sym (append-nil (take place text)) ∙ ap (λ (x : List ℕ). take place text ++ x) (sym none) ∙ p.front.1

pub word_within : (text word : List ℕ) (place : ℕ) → IsFault (IsWord word) text place → place ≤ length word
word_within text word place p =
    let within = p.within in
    let size : length (take place text) ≡ place = length-take-le place text within in
    let whole : length (take place text) + length p.front.0 ≡ length word = sym (length-append (take place text) p.front.0) ∙ ap length p.front.1 in
    omega (arith, size, whole)

-- ---- one byte more of a loop

module _ (text word : List ℕ) (at : ℕ) where
  pub common_more : at < length text → at < length word → get_or text at 0 ≡ get_or word at 0 → common text word ≡ at + common (drop at text) (drop at word) → common text word ≡ (at + 1) + common (drop (at + 1) text) (drop (at + 1) word)
  common_more lt less same so =
      let e = ap₂ common (drop_more text at 0 lt) (drop_more word at 0 less) ∙ ap (λ t. if t then suc (common (drop (at + 1) text) (drop (at + 1) word)) else 0) (eq-eqb _ _ same) in
      omega (arith, so, e)

  pub common_apart : at < length text → at < length word → (get_or text at 0 ≡ get_or word at 0 → ⊥) → common text word ≡ at + common (drop at text) (drop at word) → common text word ≡ at
  common_apart lt less apart so =
      let e = ap₂ common (drop_more text at 0 lt) (drop_more word at 0 less) ∙ ap (λ t. if t then suc (common (drop (at + 1) text) (drop (at + 1) word)) else 0) (ne_eqb _ _ apart) in
      omega (arith, so, e)

  pub common_text : length text ≤ at → common text word ≡ at + common (drop at text) (drop at word) → common text word ≡ at
  common_text le so = let e = ap (λ (x : List ℕ). common x (drop at word)) (drop_all at text le) in omega (arith, so, e)

  pub common_word : length word ≤ at → common text word ≡ at + common (drop at text) (drop at word) → common text word ≡ at
  common_word le so = let e = ap (λ (x : List ℕ). common (drop at text) x) (drop_all at word le) ∙ none (drop at text) in omega (arith, so, e)
    where
      none : (x : List ℕ) → common x [] ≡ 0
      none [] = refl
      none (a ∷ x) = refl
