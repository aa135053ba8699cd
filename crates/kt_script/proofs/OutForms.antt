-- Words with numbers behind them: where a text stops being the front of one.
use Rattle.std.proofs.Common.{◌≡◌, ℕ, ◌+◌, ◌*◌, ◌-◌, ◌<◌, ◌≤◌, ◌^◌, true, List, [], ◌∷◌, ◌++◌, length, take, drop, Ok, Err, refl, sym, ap, subst, ◌∙◌, arith, append_assoc, length-append}
use Rattle.std.specs.Prelude.{nat_le}
use Rattle.std.specs.Fmt.{decimal}
use Rattle.std.proofs.lemmas.List.{drop-drop, length-take-le, append_cancel_left}
use Rattle.std.proofs.lemmas.Bool.{and_parts}
use Rattle.std.proofs.lemmas.Fmt.{decimal_nonempty}
use Rattle.std.proofs.Math.Seq.{take-add}
use Rattle.kt_base.specs.Literals.{is_digit}
use Rattle.kt_script.specs.Places.{IsFault}
use Rattle.kt_script.specs.Fronts.{Chain, IsWord, IsNumber}
use Rattle.kt_script.specs.OutForms.{IsCounted, AreCounts, IsForm, IsFront}
use Rattle.kt_script.proofs.Places.{Parted, second_at, first_at, word_parted}
use Rattle.kt_script.proofs.WordBytes.{word_whole, word_within}
use Rattle.kt_script.proofs.NumberBytes.{goes_on, number_whole}

-- a counted text is longer than what stands before its number
counted_long : (before : List ℕ) (most : ℕ) (x : List ℕ) → most < 2 ^ 64 → IsCounted before most x → length before < length x
counted_long before most x h p =
    let le = p.3.1 in
    let some = decimal_nonempty p.3.0 (omega arith) in
    omega (arith, ap length p.4, length-append p.0 p.1, ap length p.2, ap length p.3.2)

zero_is : (most : ℕ) → IsNumber most (decimal 0)
zero_is most = (0, omega arith, refl)

-- what stands before the number is missing or wrong
pub counted_short : (before : List ℕ) (most : ℕ) (text : List ℕ) (at : ℕ) → most < 2 ^ 64 → IsFault (IsWord before) text at → at < length before → IsFront (IsCounted before most) text (Err at)
counted_short before most text at h p lt =
    let within = p.within in
    let size : length (take at text) ≡ at = length-take-le at text within in (
      first_at (IsWord before) (IsNumber most) text (decimal 0) at (word_parted before (IsNumber most)) p (λ e. omega (arith, ap length e, size)) (zero_is most),
      λ c. let long = counted_long before most (take at text) h c in omega (arith, size),
    )

-- no number stands there
pub counted_none : (before : List ℕ) (most : ℕ) (text rest : List ℕ) (at : ℕ) → most < 2 ^ 64 → IsFault (IsWord before) text at → length before ≤ at → rest ≡ drop at text → IsFault (IsNumber most) rest 0 → IsFront (IsCounted before most) text (Err at)
counted_none before most text rest at h p le is q =
    let within = p.within in
    let less = word_within text before at p in
    let size : length (take at text) ≡ at = length-take-le at text within in
    let same : at + 0 ≡ at = omega arith in (
      subst (λ n. IsFault (IsCounted before most) text n) same (second_at (IsWord before) (IsNumber most) text at 0 (word_parted before (IsNumber most)) p (word_whole text before at p le) (subst (λ (x : List ℕ). IsFault (IsNumber most) x 0) is q)),
      λ c. let long = counted_long before most (take at text) h c in omega (arith, size),
    )

pub counted_some : (before : List ℕ) (most : ℕ) (text rest : List ℕ) (at n : ℕ) → most < 2 ^ 64 → IsFault (IsWord before) text at → length before ≤ at → rest ≡ drop at text → IsFault (IsNumber most) rest n → 0 < n → IsFront (IsCounted before most) text (Ok (at + n))
counted_some before most text rest at n h p le is q some =
    let here : IsFault (IsNumber most) (drop at text) n = subst (λ (x : List ℕ). IsFault (IsNumber most) x n) is q in (
      second_at (IsWord before) (IsNumber most) text at n (word_parted before (IsNumber most)) p (word_whole text before at p le) here,
      (take at text, take n (drop at text), word_whole text before at p le, number_whole most (drop at text) n h here some, take-add at n text),
    )

-- ---- numbers behind spaces

-- what begins with a space
abbrev pub Spaced : (List ℕ → Type 0) → Type 0
Spaced B = (c : ℕ) (y : List ℕ) → B (c ∷ y) → c ≡ 32

pub counted_parted : (before : List ℕ) (most : ℕ) (B : List ℕ → Type 0) → most < 2 ^ 64 → Spaced B → Parted (IsCounted before most) B
counted_parted before most B h spaced a c x y p q b =
    let le = p.3.1 in
    let flat : before ++ (decimal p.3.0 ++ c ∷ x) ≡ before ++ decimal q.3.0 =
    ap (λ (w : List ℕ). w ++ (decimal p.3.0 ++ c ∷ x)) (sym p.2) ∙ ap (λ (w : List ℕ). p.0 ++ (w ++ c ∷ x)) (sym p.3.2) ∙ sym (append_assoc p.0 p.1 (c ∷ x)) ∙ ap (λ (w : List ℕ). w ++ c ∷ x) (sym p.4) ∙ q.4 ∙ ap (λ (w : List ℕ). w ++ q.1) q.2 ∙ ap (λ (w : List ℕ). before ++ w) q.3.2 in
    let on = goes_on most p.3.0 c x le h (q.3.0, q.3.1, append_cancel_left before (decimal p.3.0 ++ c ∷ x) (decimal q.3.0) flat) in
    let digit : is_digit 32 ≡ true = ap is_digit (sym (spaced c y b)) ∙ (and_parts (is_digit c) (nat_le (p.3.0 * 10 + (c - 48)) most) on).0 in
    cc

pub counts_spaced : (ks : List ℕ) → Spaced (AreCounts ks)
counts_spaced [] c y e = absurd cc
counts_spaced (k ∷ ks) c y p = let e : c ∷ y ≡ 32 ∷ (p.2.1 ++ p.1) = p.4 ∙ ap (λ (w : List ℕ). w ++ p.1) (p.2.4 ∙ ap (λ (w : List ℕ). w ++ p.2.1) p.2.2) in cc

pub word_spaced : (w : List ℕ) (most : ℕ) → Spaced (IsCounted (32 ∷ w) most)
word_spaced w most c y p = let e : c ∷ y ≡ 32 ∷ (w ++ p.1) = p.4 ∙ ap (λ (x : List ℕ). x ++ p.1) p.2 in cc

pub chain_spaced : (w : List ℕ) (most : ℕ) (B : List ℕ → Type 0) → Spaced (Chain (IsCounted (32 ∷ w) most) B)
chain_spaced w most B c y p = let e : c ∷ y ≡ 32 ∷ ((w ++ p.2.1) ++ p.1) = p.4 ∙ ap (λ (x : List ℕ). x ++ p.1) (p.2.4 ∙ ap (λ (x : List ℕ). x ++ p.2.1) p.2.2) in cc

-- behind such a number
module _ (before : List ℕ) (most : ℕ) (B : List ℕ → Type 0) (text : List ℕ) (n : ℕ) (h : most < 2 ^ 64) (spaced : Spaced B) where
  pub chain_stop : (b : List ℕ) → B b → IsFront (IsCounted before most) text (Err n) → IsFault (Chain (IsCounted before most) B) text n
  chain_stop b some p = first_at (IsCounted before most) B text b n (counted_parted before most B h spaced) p.0 p.1 some

  pub chain_more : (rest : List ℕ) (m : ℕ) → IsFront (IsCounted before most) text (Ok n) → rest ≡ drop n text → IsFault B rest m → IsFault (Chain (IsCounted before most) B) text (n + m)
  chain_more rest m p is q = second_at (IsCounted before most) B text n m (counted_parted before most B h spaced) p.0 p.1 (subst (λ (x : List ℕ). IsFault B x m) is q)

-- some numbers
pub some_counts : (ks : List ℕ) → (x : List ℕ) × AreCounts ks x
some_counts [] = ([], refl)
some_counts (k ∷ ks) = let more = some_counts ks in ((32 ∷ decimal 0) ++ more.0, (32 ∷ decimal 0, more.0, (32 ∷ [], decimal 0, refl, zero_is k, refl), more.1, refl))

module _ (k : ℕ) (ks text rest : List ℕ) (at n : ℕ) (h : k < 2 ^ 64) (is : rest ≡ drop at text) where
  pub counts_more : (m : ℕ) → IsFront (IsCounted (32 ∷ []) k) rest (Ok n) → IsFault (AreCounts ks) (drop (at + n) text) m → IsFault (AreCounts (k ∷ ks)) (drop at text) (n + m)
  counts_more m p q =
      let behind : drop (at + n) text ≡ drop n rest = sym (drop-drop n at text) ∙ ap (drop n) (sym is) in
      subst (λ (x : List ℕ). IsFault (AreCounts (k ∷ ks)) x (n + m)) is
      (second_at (IsCounted (32 ∷ []) k) (AreCounts ks) rest n m (counted_parted (32 ∷ []) k (AreCounts ks) h (counts_spaced ks)) p.0 p.1 (subst (λ (x : List ℕ). IsFault (AreCounts ks) x m) behind q))

  pub counts_stop : IsFront (IsCounted (32 ∷ []) k) rest (Err n) → IsFault (AreCounts (k ∷ ks)) (drop at text) n
  counts_stop p =
      let some = some_counts ks in
      subst (λ (x : List ℕ). IsFault (AreCounts (k ∷ ks)) x n) is
      (first_at (IsCounted (32 ∷ []) k) (AreCounts ks) rest some.0 n (counted_parted (32 ∷ []) k (AreCounts ks) h (counts_spaced ks)) p.0 p.1 some.1)

-- ---- a word before them

pub form_short : (word ks text : List ℕ) (at : ℕ) → IsFault (IsWord word) text at → at < length word → IsFault (IsForm word ks) text at
form_short word ks text at p lt =
    let within = p.within in
    let size : length (take at text) ≡ at = length-take-le at text within in
    let some = some_counts ks in
    first_at (IsWord word) (AreCounts ks) text some.0 at (word_parted word (AreCounts ks)) p (λ e. omega (arith, ap length e, size)) some.1

pub form_more : (word ks text rest : List ℕ) (at n : ℕ) → IsFault (IsWord word) text at → length word ≤ at → rest ≡ drop at text → IsFault (AreCounts ks) rest n → IsFault (IsForm word ks) text (at + n)
form_more word ks text rest at n p le is q =
    second_at (IsWord word) (AreCounts ks) text at n (word_parted word (AreCounts ks)) p (word_whole text word at p le) (subst (λ (x : List ℕ). IsFault (AreCounts ks) x n) is q)
