-- Parts of a list of byte strings, and the bytes of each.
use Rattle.std.proofs.Common.{◌≡◌, ℕ, zero, suc, ◌+◌, ◌-◌, ◌≤◌, List, [], ◌∷◌, ◌++◌, length, take, drop, sym, ap, refl, ◌∙◌, arith, length-append}
use Rattle.std.proofs.Math.Seq.{take-add}
use Rattle.std.specs.List.{between, concat}
use Rattle.std.proofs.lemmas.List.{append-nil, drop_at, take_at, take_all, drop-take, drop-drop, take-append-drop}
use Rattle.std.proofs.lemmas.List.Edits.{split_between, length-between}
use Rattle.std.proofs.lemmas.List.Folds.{concat-append}
use Rattle.kt_bytes.specs.Cuts.{start_at, ends_of}

-- ---- where the bytes of a part lie

-- a string begins behind the bytes of those before it
begins : (from : ℕ) (texts : List (List ℕ)) (i : ℕ) → i ≤ length texts → start_at from (ends_of from texts) i ≡ from + length (concat (take i texts))
begins from texts zero le = omega arith
begins from [] (suc i) le = absurd (omega arith)
begins from (t ∷ ts) (suc zero) le = ap (λ (l : List ℕ). from + length l) (sym (append-nil t))
begins from (t ∷ ts) (suc (suc i)) le =
    let behind = begins (from + length t) ts (suc i) (omega arith) in
    behind ∙ omega (arith, length-append t (concat (take (suc i) ts)))

pub ends_length : (from : ℕ) (texts : List (List ℕ)) → length (ends_of from texts) ≡ length texts
ends_length from [] = refl
ends_length from (t ∷ ts) = ap suc (ends_length (from + length t) ts)

cut_out : (fs bs cs : List ℕ) (a e : ℕ) → a ≡ length fs → e ≡ length fs + length bs → between a e (fs ++ (bs ++ cs)) ≡ bs
cut_out fs bs cs a e at end =
    let n : e - a ≡ length bs = omega (arith, at, end) in
    rw (n, drop_at fs (bs ++ cs) a (sym at)) (take_at bs cs (length bs) refl)

pub bytes_of : (texts : List (List ℕ)) (first end : ℕ) → first ≤ end → end ≤ length texts
    → between (start_at 0 (ends_of 0 texts) first) (start_at 0 (ends_of 0 texts) end) (concat texts) ≡ concat (between first end texts)
bytes_of texts first end le fits =
    let front = take first texts in
    let part = between first end texts in
    let back = drop end texts in
    let whole : concat texts ≡ concat front ++ (concat part ++ concat back)
    = ap concat (split_between texts first end le) ∙ (concat-append front (part ++ back) ∙ ap (λ (l : List ℕ). concat front ++ l) (concat-append part back)) in
    let n : end ≡ first + (end - first) = omega arith in
    let both : take end texts ≡ front ++ part = ap (λ (k : ℕ). take k texts) n ∙ take-add first (end - first) texts in
    let long : length (concat (take end texts)) ≡ length (concat front) + length (concat part) = ap (λ (l : List (List ℕ)). length (concat l)) both ∙ (ap length (concat-append front part) ∙ length-append (concat front) (concat part)) in
    let lo : start_at 0 (ends_of 0 texts) first ≡ length (concat front) = omega (arith, begins 0 texts first (omega arith)) in
    let hi : start_at 0 (ends_of 0 texts) end ≡ length (concat front) + length (concat part) = omega (arith, begins 0 texts end fits, long) in
    ap (λ (l : List ℕ). between (start_at 0 (ends_of 0 texts) first) (start_at 0 (ends_of 0 texts) end) l) whole ∙ cut_out (concat front) (concat part) (concat back) _ _ lo hi

pub in_order : (texts : List (List ℕ)) (first end : ℕ) → first ≤ end → end ≤ length texts → start_at 0 (ends_of 0 texts) first ≤ start_at 0 (ends_of 0 texts) end
in_order texts first end le fits =
    let n : end ≡ first + (end - first) = omega arith in
    let both : take end texts ≡ take first texts ++ between first end texts = ap (λ (k : ℕ). take k texts) n ∙ take-add first (end - first) texts in
    let long : length (concat (take end texts)) ≡ length (concat (take first texts)) + length (concat (between first end texts)) = ap (λ (l : List (List ℕ)). length (concat l)) both ∙ (ap length (concat-append (take first texts) (between first end texts)) ∙ length-append (concat (take first texts)) (concat (between first end texts))) in
    omega (arith, begins 0 texts first (omega arith), begins 0 texts end fits, long)

pub within : (texts : List (List ℕ)) (end : ℕ) → end ≤ length texts → start_at 0 (ends_of 0 texts) end ≤ length (concat texts)
within texts end fits =
    let whole : concat texts ≡ concat (take end texts) ++ concat (drop end texts) = ap concat (sym (take-append-drop end texts)) ∙ concat-append (take end texts) (drop end texts) in
    omega (arith, begins 0 texts end fits, ap length whole, length-append (concat (take end texts)) (concat (drop end texts)))

-- ---- parts of parts

module _ {X : Type 0} where
  -- so many from a place on
  pub part_is : (xs : List X) (first len : ℕ) → between first (first + len) xs ≡ take len (drop first xs)
  part_is xs first len =
      let n : first + len - first ≡ len = omega arith in
      rw n refl

  pub all_is : (xs : List X) (len : ℕ) → len ≡ length xs → between 0 (0 + len) xs ≡ xs
  all_is xs len is = part_is xs 0 len ∙ take_all len xs (omega (arith, is))

  take_twice : (n m : ℕ) (xs : List X) → n ≤ m → take n (take m xs) ≡ take n xs
  take_twice zero m xs le = refl
  take_twice (suc n) zero xs le = absurd (omega arith)
  take_twice (suc n) (suc m) [] le = refl
  take_twice (suc n) (suc m) (x ∷ xs) le = ap (λ (l : List X). x ∷ l) (take_twice n m xs (omega arith))

  inner : (xs : List X) (len from n : ℕ) → from + n ≤ len → take n (drop from (take len xs)) ≡ take n (drop from xs)
  inner xs len from n fits =
      let m : len ≡ from + (len - from) = omega arith in
      ap (λ (k : ℕ). take n (drop from (take k xs))) m ∙ ap (take n) (drop-take from (len - from) xs) ∙ take_twice n (len - from) (drop from xs) (omega arith)

  pub part_of_part : (xs : List X) (first len from n : ℕ) → from + n ≤ len → between (first + from) (first + from + n) xs ≡ between from (from + n) (between first (first + len) xs)
  part_of_part xs first len from n fits =
      part_is xs (first + from) n
      ∙ ap (take n) (sym (drop-drop from first xs))
      ∙ sym (inner (drop first xs) len from n fits)
      ∙ ap (λ (l : List X). take n (drop from l)) (sym (part_is xs first len))
      ∙ sym (part_is (between first (first + len) xs) from n)

  pub part_length : (xs part : List X) (first len : ℕ) → between first (first + len) xs ≡ part → first + len ≤ length xs → length part ≡ len
  part_length xs part first len is fits = omega (arith, ap length is, length-between xs first (first + len) fits)
