-- Reading entries, and codes, one after the other, as a loop does.
use Rattle.std.proofs.Common.{◌≡◌, ℕ, zero, suc, ◌-◌, ◌+◌, ◌≤◌, ◌<◌, Bool, true, false, cond, List, [], ◌∷◌, ◌++◌, length, Result, Ok, Err, refl, sym, ap, ◌∙◌, arith}
use Rattle.std.specs.Prelude.{nat_lt, not}
use Rattle.std.proofs.lemmas.Bool.{ltb-false}
use Rattle.std.proofs.lemmas.List.{length_push}
use Rattle.kt_bytes.specs.declared.fault.Stop.{Stop}
use Rattle.kt_bytes.specs.declared.fault.Stop.TheVariants as stops
use Rattle.kt_bytes.specs.Reading.{◌>>=◌, Fails}
use Rattle.kt_bytes.proofs.Numbers.{then_is, bind_ok, ok_is, done}
use Rattle.kt_dict.proofs.Steps.{stopped}
use Rattle.kt_dict.specs.Spelling.{has, with_entry}
use Rattle.kt_dict.specs.Walk.{text_at, entry_at, entries_at, code_at, codes_at, used_with}

abbrev Read : Type 0
Read = Result (List (List ℕ) × List ℕ) ℕ

-- the step at which a loop stands
more_left : (count i : ℕ) → i < count → count - i ≡ suc (count - (i + 1))
more_left count i lt = omega arith

-- one entry that was read
pub entry_is : (most : ℕ) (known : List (List ℕ)) (bytes x after : List ℕ) → text_at most known bytes ≡ Ok (x, after) → has known x ≡ false → entries_at most 1 known bytes ≡ Ok (known ++ x ∷ [], after)
unfolding entries_at entry_at
entry_is most known bytes x after h new = rw (h, new) refl

pub entry_stops : (most : ℕ) (e : Stop) (known : List (List ℕ)) (bytes : List ℕ) → Fails e (text_at most known bytes) → Fails e (entries_at most 1 known bytes)
unfolding entries_at entry_at
entry_stops most stops.Memory known bytes h = tt
entry_stops most (stops.Left left) known bytes h = rw h refl

pub entry_repeats : (most : ℕ) (known : List (List ℕ)) (bytes x after : List ℕ) → text_at most known bytes ≡ Ok (x, after) → has known x ≡ true → entries_at most 1 known bytes ≡ Err (length x + length after)
unfolding entries_at entry_at
entry_repeats most known bytes x after h old = rw (h, old) refl

-- the first of several entries, and the others
first_entry : (most n : ℕ) (known : List (List ℕ)) (bytes : List ℕ) → entries_at most (suc n) known bytes ≡ (entries_at most 1 known bytes >>= λ x. entries_at most n x.0 x.1)
unfolding entries_at
first_entry most n known bytes = go (entry_at most known bytes)
  where
    go : (r : Result (List ℕ × List ℕ) ℕ) → (r >>= λ x. entries_at most n (known ++ x.0 ∷ []) x.1) ≡ (r >>= (λ x. let y : List (List ℕ) × List ℕ = (known ++ x.0 ∷ [], x.1) in done y) >>= λ x. entries_at most n x.0 x.1)
    go (Ok x) = refl
    go (Err left) = refl

pub entries_go : (most count i : ℕ) (known all : List (List ℕ)) (bytes after : List ℕ) (total : Read) → i < count → entries_at most 1 known bytes ≡ Ok (all, after)
    → entries_at most (count - i) known bytes ≡ total → entries_at most (count - (i + 1)) all after ≡ total
entries_go most count i known all bytes after total lt h so_far =
    sym (ap (λ (k : ℕ). entries_at most k known bytes) (more_left count i lt) ∙ (first_entry most (count - (i + 1)) known bytes ∙ then_is (entries_at most 1 known bytes) (λ x. entries_at most (count - (i + 1)) x.0 x.1) (all, after) h)) ∙ so_far

pub entries_stop : (most : ℕ) (e : Stop) (count i : ℕ) (known : List (List ℕ)) (bytes : List ℕ) (total : Read) → i < count → Fails e (entries_at most 1 known bytes) → entries_at most (count - i) known bytes ≡ total → Fails e total
entries_stop most stops.Memory count i known bytes total lt h so_far = tt
entries_stop most (stops.Left left) count i known bytes total lt h so_far =
    sym so_far ∙ (ap (λ (k : ℕ). entries_at most k known bytes) (more_left count i lt) ∙ (first_entry most (count - (i + 1)) known bytes ∙ stopped (entries_at most 1 known bytes) (λ x. entries_at most (count - (i + 1)) x.0 x.1) left h))

pub entries_done : (most count i : ℕ) (known : List (List ℕ)) (bytes : List ℕ) (total : Read) → count ≤ i → entries_at most (count - i) known bytes ≡ total → total ≡ Ok (known, bytes)
unfolding entries_at
entries_done most count i known bytes total le so_far =
    let k : count - i ≡ 0 = omega arith in
    let one : entries_at most (count - i) known bytes ≡ Ok (known, bytes) = rw k refl in
    sym so_far ∙ one

-- so many are added
pub entries_count : (most n : ℕ) (known : List (List ℕ)) (bytes : List ℕ) (x : List (List ℕ) × List ℕ) → entries_at most n known bytes ≡ Ok x → length x.0 ≡ length known + n
unfolding entries_at
entries_count most zero known bytes x e = let none : length known ≡ length known + 0 = omega arith in sym (ap (λ (y : List (List ℕ) × List ℕ). length y.0) (ok_is (known, bytes) x e)) ∙ none
entries_count most (suc n) known bytes x e =
    let a = bind_ok (entry_at most known bytes) (λ y. entries_at most n (known ++ y.0 ∷ []) y.1) x e in
    omega (arith, entries_count most n (known ++ a.0.0 ∷ []) a.0.1 x a.2, length_push known a.0.0)

abbrev Codes : Type 0
Codes = Result (List ℕ × List ℕ) ℕ

pub code_goes : (n i d used : ℕ) (codes bytes : List ℕ) (c : ℕ) (after : List ℕ) (total : Codes) → i < n → code_at ((n - i) - 1) d used bytes ≡ Ok (c, after)
    → codes_at (n - i) d used codes bytes ≡ total → codes_at (n - (i + 1)) d (used_with used c) (codes ++ c ∷ []) after ≡ total
unfolding codes_at
code_goes n i d used codes bytes c after total lt h so_far =
    let k = more_left n i lt in
    let m : (n - i) - 1 ≡ n - (i + 1) = omega arith in
    let g : code_at (n - (i + 1)) d used bytes ≡ Ok (c, after) = rw m at h in
    let one : codes_at (n - i) d used codes bytes ≡ codes_at (n - (i + 1)) d (used_with used c) (codes ++ c ∷ []) after = rw (k, g) refl in
    sym one ∙ so_far

pub code_stops : (e : Stop) (n i d used : ℕ) (codes bytes : List ℕ) (total : Codes) → i < n → Fails e (code_at ((n - i) - 1) d used bytes) → codes_at (n - i) d used codes bytes ≡ total → Fails e total
unfolding codes_at
code_stops stops.Memory n i d used codes bytes total lt h so_far = tt
code_stops (stops.Left left) n i d used codes bytes total lt h so_far =
    let k = more_left n i lt in
    let m : (n - i) - 1 ≡ n - (i + 1) = omega arith in
    let g : code_at (n - (i + 1)) d used bytes ≡ Err left = rw m at h in
    let one : codes_at (n - i) d used codes bytes ≡ Err left = rw (k, g) refl in
    sym so_far ∙ one

pub codes_done : (n i d used : ℕ) (codes bytes : List ℕ) (total : Codes) → n ≤ i → codes_at (n - i) d used codes bytes ≡ total → total ≡ Ok (codes, bytes)
unfolding codes_at
codes_done n i d used codes bytes total le so_far =
    let k : n - i ≡ 0 = omega arith in
    let one : codes_at (n - i) d used codes bytes ≡ Ok (codes, bytes) = rw k refl in
    sym so_far ∙ one

pub used_within : (d used c : ℕ) → used ≤ d → c < d → used_with used c ≤ d
used_within d used c le lt =
    (elim (nat_lt c used) as (λ b. nat_lt c used ≡ b → cond b used (used + 1) ≤ d) [
      | true ↦ λ e. le
      | false ↦ λ e. omega (arith, ltb-false c used e)
    ]) refl

pub not_false : (b h : Bool) → b ≡ not h → b ≡ false → h ≡ true
not_false b true e f = refl
not_false b false e f = absurd (let g : true ≡ false = sym e ∙ f in cc)

pub not_true : (b h : Bool) → b ≡ not h → b ≡ true → h ≡ false
not_true b true e f = absurd (let g : false ≡ true = sym e ∙ f in cc)
not_true b false e f = refl

pub with_new : (known : List (List ℕ)) (x : List ℕ) → has known x ≡ false → with_entry known x ≡ known ++ x ∷ []
with_new known x e = rw e refl
