-- The end positions of byte lists, in four bytes each.
use Rattle.std.proofs.Common.{◌≡◌, ℕ, zero, suc, ◌+◌, ◌*◌, ◌^◌, ◌<◌, ◌≤◌, List, [], ◌∷◌, ◌++◌, length, take, drop, map, replicate, refl, sym, ap, ◌∙◌, arith}
use Rattle.std.specs.Prelude.{All}
use Rattle.std.specs.List.{flat_map, between}
use Rattle.std.proofs.lemmas.List.Elements.{All-nil, All-cons}
use Rattle.std.specs.Int.{w32, to_le_bytes, from_le_bytes}
use Rattle.std.proofs.Math.Seq.{take-add}
use Rattle.std.proofs.lemmas.Nat.{le_bytes_4}
use Rattle.std.proofs.lemmas.List.{drop-drop, length-drop, length-take}
use Rattle.byteorder.specs.Endian.{little_number}
use Rattle.byteorder.specs.Numbers.{little_number-reads_back, little_from-take}
use Rattle.kt_bytes.specs.Cuts.{IsCut, pieces, ends_of}
use Rattle.kt_bytes.proofs.Cuts.{cut_from, length-between}
use Rattle.kt_bytes.proofs.Numbers.{IsBytes, IsBytes-take, IsBytes-drop}
use Rattle.kt_plain.specs.Reading.{ends_in}

pub length-ends_in : (n : ℕ) (bytes : List ℕ) → length (ends_in n bytes) ≡ n
length-ends_in zero bytes = refl
length-ends_in (suc n) bytes = ap suc (length-ends_in n (drop 4 bytes))

pub ends_in-add : (a b : ℕ) (bytes : List ℕ) → ends_in (a + b) bytes ≡ ends_in a bytes ++ ends_in b (drop (4 * a) bytes)
ends_in-add zero b bytes =
    let e : 0 + b ≡ b = omega arith in
    rw e refl
ends_in-add (suc a) b bytes =
    let e : suc a + b ≡ suc (a + b) = omega arith in
    let next : 4 + 4 * a ≡ 4 * suc a = omega arith in
    rw e (ap (λ (es : List ℕ). little_number 4 bytes ∷ es) (ends_in-add a b (drop 4 bytes) ∙ ap (λ (xs : List ℕ). ends_in a (drop 4 bytes) ++ ends_in b xs) (drop-drop (4 * a) 4 bytes ∙ ap (λ (at : ℕ). drop at bytes) next)))

pub ends_in-more : (i : ℕ) (bytes : List ℕ) → ends_in (i + 1) bytes ≡ ends_in i bytes ++ little_number 4 (drop (4 * i) bytes) ∷ []
ends_in-more i bytes = ends_in-add i 1 bytes

-- ends that were spelled are read again
pub ends_in-spelled : (at : ℕ) (es : List ℕ) (len : ℕ) (rest : List ℕ) → IsCut at es len → len < 2 ^ 32 → ends_in (length es) (flat_map (to_le_bytes w32) es ++ rest) ≡ es
ends_in-spelled at [] len rest cut lt = refl
ends_in-spelled at (e ∷ es) len rest cut lt =
    let more : List ℕ = flat_map (to_le_bytes w32) es ++ rest in
    let below : e < 2 ^ 32 = omega (arith, cut_from e es len cut.1) in
    let first : little_number 4 (to_le_bytes w32 e ++ more) ≡ e = little_number-reads_back 4 e more below in
    ap (λ (x : ℕ). x ∷ ends_in (length es) more) first ∙ ap (λ (xs : List ℕ). e ∷ xs) (ends_in-spelled e es len rest cut.1 lt)

-- the fields are the bytes of their numbers
pub spelled-ends_in : (n : ℕ) (bytes : List ℕ) → 4 * n ≤ length bytes → IsBytes bytes → flat_map (to_le_bytes w32) (ends_in n bytes) ≡ take (4 * n) bytes
spelled-ends_in zero bytes le fits = refl
spelled-ends_in (suc n) bytes le fits =
    let m : ℕ = little_number 4 bytes in
    let same : m ≡ from_le_bytes w32 (take 4 bytes) = omega (arith, little_from-take 0 4 4 bytes (omega arith)) in
    let first : to_le_bytes w32 m ≡ take 4 bytes = le_bytes_4 (take 4 bytes) m (omega (arith, length-take 4 bytes)) (IsBytes-take 4 bytes fits) same in
    let rest : flat_map (to_le_bytes w32) (ends_in n (drop 4 bytes)) ≡ take (4 * n) (drop 4 bytes) = spelled-ends_in n (drop 4 bytes) (omega (arith, length-drop 4 bytes)) (IsBytes-drop 4 bytes fits) in
    let next : 4 + 4 * n ≡ 4 * suc n = omega arith in
    ap (λ (xs : List ℕ). xs ++ flat_map (to_le_bytes w32) (ends_in n (drop 4 bytes))) first ∙ ap (λ (xs : List ℕ). take 4 bytes ++ xs) rest ∙ sym (take-add 4 (4 * n) bytes) ∙ ap (λ (k : ℕ). take k bytes) next

pub length-le32 : (es : List ℕ) → length (flat_map (to_le_bytes w32) es) ≡ 4 * length es
length-le32 [] = refl
length-le32 (e ∷ es) = omega (arith, length-le32 es)

-- ---- rising ends

-- the last end goes on as often as one likes
pub IsCut-same : (at : ℕ) (es : List ℕ) (last k : ℕ) → IsCut at es last → IsCut at (es ++ replicate k last) last
IsCut-same at [] last zero cut = cut
IsCut-same at [] last (suc k) cut = (omega (arith, cut), IsCut-same last [] last k refl)
IsCut-same at (e ∷ es) last k cut = (cut.0, IsCut-same e es last k cut.1)

-- the end after the last of some is not below it
pub next-le : (at : ℕ) (es : List ℕ) (last next : ℕ) (more : List ℕ) (len : ℕ) → IsCut at es last → IsCut at (es ++ (next ∷ more)) len → last ≤ next
next-le at [] last next more len cut whole = omega (arith, cut, whole.0)
next-le at (e ∷ es) last next more len cut whole = next-le e es last next more len cut.1 whole.1

-- the ends say the length
pub one_len : (at : ℕ) (es : List ℕ) (a b : ℕ) → IsCut at es a → IsCut at es b → a ≡ b
one_len at [] a b x y = sym x ∙ y
one_len at (e ∷ es) a b x y = one_len e es a b x.1 y.1

-- one end more
pub IsCut-more : (at : ℕ) (es : List ℕ) (last next : ℕ) → IsCut at es last → last ≤ next → IsCut at (es ++ next ∷ []) next
IsCut-more at [] last next cut le = (omega (arith, cut), refl)
IsCut-more at (e ∷ es) last next cut le = (cut.0, IsCut-more e es last next cut.1 le)

-- ---- the same ends from the same fields

-- an end's field has its end
pub end_field : (e f : ℕ) → e < 2 ^ 32 → f < 2 ^ 32 → to_le_bytes w32 e ≡ to_le_bytes w32 f → e ≡ f
end_field e f el fl same =
    sym (little_number-reads_back 4 e [] el) ∙ ap (λ (xs : List ℕ). little_number 4 (xs ++ [])) same ∙ little_number-reads_back 4 f [] fl

-- ends below 2^32 from one place on are those of their fields
pub same_ends : (at bt : ℕ) (es fs : List ℕ) (a b : ℕ) (more : List ℕ) → IsCut at es a → IsCut bt (fs ++ more) b → a < 2 ^ 32 → b < 2 ^ 32 → map (to_le_bytes w32) fs ≡ map (to_le_bytes w32) es → fs ≡ es
same_ends at bt [] [] a b more cut other al bl same = refl
same_ends at bt [] (f ∷ fs) a b more cut other al bl same = absurd cc
same_ends at bt (e ∷ es) [] a b more cut other al bl same = absurd cc
same_ends at bt (e ∷ es) (f ∷ fs) a b more cut other al bl same =
    let first : to_le_bytes w32 f ≡ to_le_bytes w32 e = head_of (to_le_bytes w32 f) (to_le_bytes w32 e) (map (to_le_bytes w32) fs) (map (to_le_bytes w32) es) same in
    let others : map (to_le_bytes w32) fs ≡ map (to_le_bytes w32) es = ap (λ (xs : List (List ℕ)). drop 1 xs) same in
    let one : f ≡ e = end_field f e (omega (arith, cut_from f (fs ++ more) b other.1)) (omega (arith, cut_from e es a cut.1)) first in
    ap (λ (x : ℕ). x ∷ fs) one ∙ ap (λ (xs : List ℕ). e ∷ xs) (same_ends e f es fs a b more cut.1 other.1 al bl others)
  where
    head_of : (x y : List ℕ) (xs ys : List (List ℕ)) → x ∷ xs ≡ y ∷ ys → x ≡ y
    head_of x y xs ys e = cc

-- ends that rise to a total are below what it is below
pub all_below : (at : ℕ) (es : List ℕ) (total m : ℕ) → IsCut at es total → total < m → All (λ e. e < m) es
all_below at [] total m cut lt = All-nil (λ (e : ℕ). e < m)
all_below at (e ∷ es) total m cut lt = All-cons (λ (e : ℕ). e < m) e es (omega (arith, cut_from e es total cut.1)) (all_below e es total m cut.1 lt)

-- ---- ends that rise by no more than so much

abbrev pub AreSteps : ℕ → ℕ → List ℕ → Type 0
AreSteps most at [] = Unit {0}
AreSteps most at (e ∷ es) = (e ≤ at + most) × AreSteps most e es

pub steps_more : (most at : ℕ) (es : List ℕ) (last next : ℕ) → IsCut at es last → AreSteps most at es → next ≤ last + most → AreSteps most at (es ++ next ∷ [])
steps_more most at [] last next cut steps le = (omega (arith, cut), tt)
steps_more most at (e ∷ es) last next cut steps le = (steps.0, steps_more most e es last next cut.1 steps.1 le)

pub steps_same : (most at : ℕ) (es : List ℕ) (last k : ℕ) → IsCut at es last → AreSteps most at es → AreSteps most at (es ++ replicate k last)
steps_same most at [] last zero cut steps = tt
steps_same most at [] last (suc k) cut steps = (omega (arith, cut), steps_same most last [] last k refl tt)
steps_same most at (e ∷ es) last k cut steps = (steps.0, steps_same most e es last k cut.1 steps.1)

pub step_at : (most at : ℕ) (es : List ℕ) (last next : ℕ) (more : List ℕ) → IsCut at es last → AreSteps most at (es ++ next ∷ more) → next ≤ last + most
step_at most at [] last next more cut steps = omega (arith, cut, steps.0)
step_at most at (e ∷ es) last next more cut steps = step_at most e es last next more cut.1 steps.1

-- the byte lists between such ends are no longer, and those that are no longer have such ends
pub short_pieces : (most at : ℕ) (es body : List ℕ) → IsCut at es (length body) → AreSteps most at es → All (λ (t : List ℕ). length t ≤ most) (pieces at es body)
short_pieces most at [] body cut steps = All-nil (λ (t : List ℕ). length t ≤ most)
short_pieces most at (e ∷ es) body cut steps = All-cons (λ (t : List ℕ). length t ≤ most) (between at e body) (pieces e es body) (omega (arith, steps.0, length-between at e body cut.0 (cut_from e es (length body) cut.1))) (short_pieces most e es body cut.1 steps.1)

pub short_steps : (most at : ℕ) (ts : List (List ℕ)) → All (λ (t : List ℕ). length t ≤ most) ts → AreSteps most at (ends_of at ts)
short_steps most at [] short = tt
short_steps most at (t ∷ ts) short = (omega (arith, short 0 [] (omega arith)), short_steps most (at + length t) ts (λ k d lt. short (suc k) d (omega arith)))
