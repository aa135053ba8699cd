-- Lists of runs, their numbers and their bytes.
use Rattle.std.proofs.Common.{◌≡◌, ◌≢◌, ℕ, zero, suc, ◌+◌, ◌*◌, ◌^◌, ◌<◌, ◌≤◌, List, [], ◌∷◌, ◌++◌, length, take, drop, replicate, ℤ, pos, negsuc, Option, Some, None, refl, sym, ap, ◌∙◌, arith, inr}
use Rattle.std.specs.List.{flat_map}
use Rattle.std.specs.Int.{w8, w16, w32, w64, to_le_bytes, from_le_bytes}
use Rattle.std.proofs.Math.Seq.{take-add}
use Rattle.std.proofs.lemmas.Nat.{le_bytes_4}
use Rattle.std.proofs.lemmas.List.{append_assoc, drop_at, drop-drop, length-append, length-drop, length-replicate, length-take}
use borrow.Author.Gap.{read_sfits}
use Rattle.byteorder.specs.Endian.{little_number}
use Rattle.byteorder.specs.Numbers.{little_number-reads_back, little_from-take}
use Rattle.kt_bytes.proofs.Numbers.{IsBytes, IsBytes-take, IsBytes-drop}
use Rattle.kt_plain.specs.declared.widths.NumberWidth.{NumberWidth as Width}
use Rattle.kt_plain.specs.declared.widths.NumberWidth.TheVariants.{Bit, One, Two, Four, Eight}
use Rattle.kt_plain.specs.Widths.{field_len, number, value, IsInWidth}
use Rattle.kt_plain.proofs.Fields.{exact, zero_in_width}
use Rattle.kt_rle.specs.declared.runs.Run.{Run}
use Rattle.kt_rle.specs.Runs.{expand, run_bytes, run_len, Differ, AreRuns, run_at, runs_in}
use Rattle.kt_rle.specs.Reading.{IsNumber}

-- what was read is a number of the width exactly where it is one as a bit
pub in_width : (w : Width) (bytes : List ℕ) → IsNumber w (value w bytes) → IsInWidth w (value w bytes)
in_width Bit bytes is = is
in_width One bytes is = (exact One).fits bytes tt
in_width Two bytes is = (exact Two).fits bytes tt
in_width Four bytes is = (exact Four).fits bytes tt
in_width Eight bytes is = (exact Eight).fits bytes tt

pub is_number : (w : Width) (z : ℤ) → IsInWidth w z → IsNumber w z
is_number Bit z fits = fits
is_number One z fits = tt
is_number Two z fits = tt
is_number Four z fits = tt
is_number Eight z fits = tt

one_in_width : (w : Width) → IsInWidth w (pos 1)
one_in_width Bit = inr refl
one_in_width One = read_sfits w8 1
one_in_width Two = read_sfits w16 1
one_in_width Four = read_sfits w32 1
one_in_width Eight = read_sfits w64 1

-- how many numbers runs have
abbrev pub total : List Run → ℕ
total [] = 0
total (r ∷ rs) = r.len + total rs

pub length-expanded : (rs : List Run) → length (flat_map expand rs) ≡ total rs
length-expanded [] = refl
length-expanded (r ∷ rs) = omega (arith, length-append (replicate r.len r.value) (flat_map expand rs), length-replicate r.len r.value, length-expanded rs)

pub total-append : (rs ss : List Run) → total (rs ++ ss) ≡ total rs + total ss
total-append [] ss = omega arith
total-append (r ∷ rs) ss = omega (arith, total-append rs ss)

pub length-run_bytes : (w : Width) (r : Run) → length (run_bytes w r) ≡ run_len w
length-run_bytes w r = omega (arith, length-append (to_le_bytes w32 r.len) (number w r.value), (exact w).len r.value)

pub length-spelled : (w : Width) (rs : List Run) → length (flat_map (run_bytes w) rs) ≡ run_len w * length rs
length-spelled w [] = omega arith
length-spelled w (r ∷ rs) =
    let one = length-run_bytes w r in
    let rest = length-spelled w rs in
    let joined = length-append (run_bytes w r) (flat_map (run_bytes w) rs) in
    let next : run_len w * suc (length rs) ≡ run_len w + run_len w * length rs = omega arith in
    omega (arith, one, rest, joined, next)

-- ---- runs read from their bytes

pub length-runs_in : (w : Width) (k : ℕ) (bytes : List ℕ) → length (runs_in w k bytes) ≡ k
length-runs_in w zero bytes = refl
length-runs_in w (suc k) bytes = ap suc (length-runs_in w k (drop (run_len w) bytes))

pub runs_in-add : (w : Width) (a b : ℕ) (bytes : List ℕ) → runs_in w (a + b) bytes ≡ runs_in w a bytes ++ runs_in w b (drop (run_len w * a) bytes)
runs_in-add w zero b bytes =
    let e : 0 + b ≡ b = omega arith in
    let none : run_len w * 0 ≡ 0 = omega arith in
    ap (λ (k : ℕ). runs_in w k bytes) e ∙ ap (λ (at : ℕ). runs_in w b (drop at bytes)) (sym none)
runs_in-add w (suc a) b bytes =
    let e : suc a + b ≡ suc (a + b) = omega arith in
    let next : run_len w + run_len w * a ≡ run_len w * suc a = omega arith in
    ap (λ (k : ℕ). runs_in w k bytes) e
    ∙ ap (λ (rs : List Run). run_at w bytes ∷ rs)
    (runs_in-add w a b (drop (run_len w) bytes)
    ∙ ap (λ (xs : List ℕ). runs_in w a (drop (run_len w) bytes) ++ runs_in w b xs) (drop-drop (run_len w * a) (run_len w) bytes ∙ ap (λ (at : ℕ). drop at bytes) next))

pub runs_in-more : (w : Width) (i : ℕ) (bytes : List ℕ) → runs_in w (i + 1) bytes ≡ runs_in w i bytes ++ run_at w (drop (run_len w * i) bytes) ∷ []
runs_in-more w i bytes = runs_in-add w i 1 bytes

-- runs are read again from their bytes
pub run_at-spelled : (w : Width) (r : Run) (rest : List ℕ) → r.len < 2 ^ 32 → IsInWidth w r.value → run_at w (run_bytes w r ++ rest) ≡ r
run_at-spelled w r rest lt fits =
    let grouped : run_bytes w r ++ rest ≡ to_le_bytes w32 r.len ++ (number w r.value ++ rest) = append_assoc (to_le_bytes w32 r.len) (number w r.value) rest in
    let len : little_number 4 (to_le_bytes w32 r.len ++ (number w r.value ++ rest)) ≡ r.len = little_number-reads_back 4 r.len (number w r.value ++ rest) lt in
    let number_ : value w (number w r.value ++ rest) ≡ r.value = (exact w).again r.value rest fits in
    ap (run_at w) grouped ∙ ap (λ (n : ℕ). record { len = n; value = value w (number w r.value ++ rest) }) len ∙ ap (λ (z : ℤ). record { len = r.len; value = z }) number_

pub runs_in-spelled : (w : Width) (rs : List Run) → AreRuns w rs → total rs < 2 ^ 32 → runs_in w (length rs) (flat_map (run_bytes w) rs) ≡ rs
runs_in-spelled w [] are lt = refl
runs_in-spelled w (r ∷ rs) are lt =
    let rest : List ℕ = flat_map (run_bytes w) rs in
    let first : run_at w (run_bytes w r ++ rest) ≡ r = run_at-spelled w r rest (omega arith) are.1 in
    let others : runs_in w (length rs) (drop (run_len w) (run_bytes w r ++ rest)) ≡ rs =
    ap (runs_in w (length rs)) (drop_at (run_bytes w r) rest (run_len w) (length-run_bytes w r)) ∙ runs_in-spelled w rs are.3 (omega arith) in
    ap (λ (x : Run). x ∷ runs_in w (length rs) (drop (run_len w) (run_bytes w r ++ rest))) first ∙ ap (λ (xs : List Run). r ∷ xs) others

-- a length's bytes
pub len_bytes : (bytes : List ℕ) → 4 ≤ length bytes → IsBytes bytes → to_le_bytes w32 (little_number 4 bytes) ≡ take 4 bytes
len_bytes bytes le fits =
    let same : little_number 4 bytes ≡ from_le_bytes w32 (take 4 bytes) = omega (arith, little_from-take 0 4 4 bytes (omega arith)) in
    le_bytes_4 (take 4 bytes) (little_number 4 bytes) (omega (arith, length-take 4 bytes)) (IsBytes-take 4 bytes fits) same

-- fields are the bytes of the runs in them
pub spelled-runs_in : (w : Width) (k : ℕ) (bytes : List ℕ) → run_len w * k ≤ length bytes → IsBytes bytes → flat_map (run_bytes w) (runs_in w k bytes) ≡ take (run_len w * k) bytes
spelled-runs_in w zero bytes le fits =
    let none : run_len w * 0 ≡ 0 = omega arith in
    ap (λ (k : ℕ). take k bytes) (sym none)
spelled-runs_in w (suc k) bytes le fits =
    let next : run_len w * suc k ≡ run_len w + run_len w * k = omega arith in
    let long : run_len w ≤ length bytes = omega (arith, next) in
    let len : to_le_bytes w32 (little_number 4 bytes) ≡ take 4 bytes = len_bytes bytes (omega arith) fits in
    let number_ : number w (value w (drop 4 bytes)) ≡ take (field_len w) (drop 4 bytes) = (exact w).back (drop 4 bytes) (omega (arith, length-drop 4 bytes)) (IsBytes-drop 4 bytes fits) in
    let first : run_bytes w (run_at w bytes) ≡ take (run_len w) bytes =
    ap (λ (xs : List ℕ). xs ++ number w (value w (drop 4 bytes))) len ∙ ap (λ (xs : List ℕ). take 4 bytes ++ xs) number_ ∙ sym (take-add 4 (field_len w) bytes) in
    let rest : flat_map (run_bytes w) (runs_in w k (drop (run_len w) bytes)) ≡ take (run_len w * k) (drop (run_len w) bytes) =
    spelled-runs_in w k (drop (run_len w) bytes) (omega (arith, next, length-drop (run_len w) bytes)) (IsBytes-drop (run_len w) bytes fits) in
    ap (λ (xs : List ℕ). xs ++ flat_map (run_bytes w) (runs_in w k (drop (run_len w) bytes))) first ∙ ap (λ (xs : List ℕ). take (run_len w) bytes ++ xs) rest
    ∙ sym (take-add (run_len w) (run_len w * k) bytes) ∙ ap (λ (n : ℕ). take n bytes) (sym next)

-- ---- one run more

-- the last run's number
abbrev pub LastIs : List Run → Option ℤ → Type 0
LastIs [] None = Unit {0}
LastIs [] (Some z) = ⊥
LastIs (r ∷ []) None = ⊥
LastIs (r ∷ []) (Some z) = r.value ≡ z
LastIs (r ∷ s ∷ rs) o = LastIs (s ∷ rs) o

-- the last run, if any, has another number
abbrev pub LastDiffers : List Run → ℤ → Type 0
LastDiffers [] z = Unit {0}
LastDiffers (r ∷ []) z = r.value ≢ z
LastDiffers (r ∷ s ∷ rs) z = LastDiffers (s ∷ rs) z

pub LastIs-push : (rs : List Run) (r : Run) → LastIs (rs ++ r ∷ []) (Some r.value)
LastIs-push [] r = refl
LastIs-push (x ∷ []) r = refl
LastIs-push (x ∷ y ∷ rs) r = LastIs-push (y ∷ rs) r

pub differs_from_last : (rs : List Run) (o : Option ℤ) (z : ℤ) → LastIs rs o → (o ≡ Some z → ⊥) → LastDiffers rs z
differs_from_last [] o z last not = tt
differs_from_last (r ∷ []) None z last not = absurd last
differs_from_last (r ∷ []) (Some v) z last not = λ e. not (ap Some (sym last ∙ e))
differs_from_last (r ∷ s ∷ rs) o z last not = differs_from_last (s ∷ rs) o z last not

pub AreRuns-push : (w : Width) (rs : List Run) (r : Run) → AreRuns w rs → 0 < r.len → IsInWidth w r.value → LastDiffers rs r.value → AreRuns w (rs ++ r ∷ [])
AreRuns-push w [] r are some fits differs = (some, fits, tt, tt)
AreRuns-push w (x ∷ []) r are some fits differs = (are.0, are.1, differs, (some, fits, tt, tt))
AreRuns-push w (x ∷ y ∷ rs) r are some fits differs = (are.0, are.1, are.2, AreRuns-push w (y ∷ rs) r are.3 some fits differs)

-- a run within runs
pub run_within : (w : Width) (rs : List Run) (r : Run) (more : List Run) → AreRuns w (rs ++ (r ∷ more)) → (0 < r.len) × IsInWidth w r.value
run_within w [] r more are = (are.0, are.1)
run_within w (x ∷ rs) r more are = run_within w rs r more are.3

-- a run after others has not the last one's number
pub not_the_last : (w : Width) (rs : List Run) (z : ℤ) (r : Run) (more : List Run) → LastIs rs (Some z) → AreRuns w (rs ++ (r ∷ more)) → z ≢ r.value
not_the_last w [] z r more last are = absurd last
not_the_last w (x ∷ []) z r more last are = λ e. are.2 (last ∙ e)
not_the_last w (x ∷ y ∷ rs) z r more last are = not_the_last w (y ∷ rs) z r more last are.3

-- another number than the last
abbrev flipped : ℤ → ℤ
flipped (pos zero) = pos 1
flipped (pos (suc n)) = pos 0
flipped (negsuc n) = pos 0

abbrev pub next_number : List Run → ℤ
next_number [] = pos 0
next_number (r ∷ []) = flipped r.value
next_number (r ∷ s ∷ rs) = next_number (s ∷ rs)

flipped-differs : (z : ℤ) → z ≢ flipped z
flipped-differs (pos zero) e = absurd cc
flipped-differs (pos (suc n)) e = absurd cc
flipped-differs (negsuc n) e = absurd cc

flipped-fits : (w : Width) (z : ℤ) → IsInWidth w (flipped z)
flipped-fits w (pos zero) = one_in_width w
flipped-fits w (pos (suc n)) = zero_in_width w
flipped-fits w (negsuc n) = zero_in_width w

pub next-differs : (rs : List Run) → LastDiffers rs (next_number rs)
next-differs [] = tt
next-differs (r ∷ []) = flipped-differs r.value
next-differs (r ∷ s ∷ rs) = next-differs (s ∷ rs)

pub next-fits : (w : Width) (rs : List Run) → IsInWidth w (next_number rs)
next-fits w [] = zero_in_width w
next-fits w (r ∷ []) = flipped-fits w r.value
next-fits w (r ∷ s ∷ rs) = next-fits w (s ∷ rs)

-- the first of runs are runs
pub AreRuns-front : (w : Width) (rs ss : List Run) → AreRuns w (rs ++ ss) → AreRuns w rs
AreRuns-front w [] ss are = tt
AreRuns-front w (r ∷ []) ss are = (are.0, are.1, tt, tt)
AreRuns-front w (r ∷ s ∷ rs) ss are = (are.0, are.1, are.2, AreRuns-front w (s ∷ rs) ss are.3)

pub differ : (w : Width) (rs : List Run) → AreRuns w rs → Differ rs
differ w [] are = tt
differ w (r ∷ rs) are = (are.2, differ w rs are.3)

-- runs of the same bytes are the same
pub one_runs : (w : Width) (rs ss : List Run) → AreRuns w rs → AreRuns w ss → total rs < 2 ^ 32 → total ss < 2 ^ 32 → flat_map (run_bytes w) rs ≡ flat_map (run_bytes w) ss → rs ≡ ss
one_runs w rs ss are bre rt st e =
    let len : run_len w * length rs ≡ run_len w * length ss = sym (length-spelled w rs) ∙ ap (λ (xs : List ℕ). length xs) e ∙ length-spelled w ss in
    let count : length rs ≡ length ss = one_count w (length rs) (length ss) len in
    sym (runs_in-spelled w rs are rt) ∙ ap (λ (k : ℕ). runs_in w k (flat_map (run_bytes w) rs)) count ∙ ap (runs_in w (length ss)) e ∙ runs_in-spelled w ss bre st
  where
    one_count : (w : Width) (a b : ℕ) → run_len w * a ≡ run_len w * b → a ≡ b
    one_count Bit a b e = omega arith
    one_count One a b e = omega arith
    one_count Two a b e = omega arith
    one_count Four a b e = omega arith
    one_count Eight a b e = omega arith
