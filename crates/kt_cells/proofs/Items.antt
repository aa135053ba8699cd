-- Items read one after the other, each behind those before it.
use Rattle.std.proofs.Common.{◌≡◌, ℕ, zero, suc, ◌-◌, ◌+◌, ◌<◌, ◌≤◌, List, [], ◌∷◌, ◌++◌, length, get_or, take, Result, Ok, Err, refl, sym, subst, ◌∙◌, append_assoc, arith}
use Rattle.std.proofs.lemmas.List.{append-nil}
use Rattle.kt_bytes.specs.declared.fault.Stop.{Stop}
use Rattle.kt_bytes.specs.declared.fault.Stop.TheVariants as stop
use Rattle.kt_bytes.specs.Reading.{EachAfter, Fails, many_at}

-- ---- a loop that reads them

pub goes_on : {X : Type 0} (item : List X → List ℕ → Result (X × List ℕ) ℕ) (front : List X) (count i : ℕ) (bytes : List ℕ) (x : X) (after : List ℕ) (total : Result (List X × List ℕ) ℕ) → i < count → item front bytes ≡ Ok (x, after)
    → many_at item (count - i) front bytes ≡ total → many_at item (count - (i + 1)) (front ++ x ∷ []) after ≡ total
unfolding many_at
goes_on item front count i bytes x after total lt h so_far =
    let k : count - i ≡ suc (count - (i + 1)) = omega arith in
    let one : many_at item (count - i) front bytes ≡ many_at item (count - (i + 1)) (front ++ x ∷ []) after = rw (k, h) refl in
    sym one ∙ so_far

pub ends : {X : Type 0} (item : List X → List ℕ → Result (X × List ℕ) ℕ) (e : Stop) (front : List X) (count i : ℕ) (bytes : List ℕ) (total : Result (List X × List ℕ) ℕ) → i < count → Fails e (item front bytes)
    → many_at item (count - i) front bytes ≡ total → Fails e total
unfolding many_at
ends item stop.Memory front count i bytes total lt h so_far = tt
ends item (stop.Left left) front count i bytes total lt h so_far =
    let k : count - i ≡ suc (count - (i + 1)) = omega arith in
    let one : many_at item (count - i) front bytes ≡ Err left = rw (k, h) refl in
    sym so_far ∙ one

pub is_done : {X : Type 0} (item : List X → List ℕ → Result (X × List ℕ) ℕ) (front : List X) (count i : ℕ) (bytes : List ℕ) (total : Result (List X × List ℕ) ℕ) → count ≤ i → many_at item (count - i) front bytes ≡ total → total ≡ Ok (front, bytes)
unfolding many_at
is_done item front count i bytes total le so_far =
    let k : count - i ≡ 0 = omega arith in
    let one : many_at item (count - i) front bytes ≡ Ok (front, bytes) = rw k refl in
    sym so_far ∙ one

-- ---- items of a list

-- the item at a place, behind those before it
pub each_at : {X : Type 0} (Keeps : List X → X → Type 0) (xs front : List X) (i : ℕ) (d : X) → EachAfter Keeps front xs → i < length xs → Keeps (front ++ take i xs) (get_or xs i d)
each_at Keeps [] front i d keeps lt = absurd (omega arith)
each_at {X} Keeps (x ∷ xs) front zero d keeps lt = subst (λ (f : List X). Keeps f x) (sym (append-nil front)) keeps.0
each_at {X} Keeps (x ∷ xs) front (suc i) d keeps lt = subst (λ (f : List X). Keeps f (get_or xs i d)) (append_assoc front (x ∷ []) (take i xs)) (each_at Keeps xs (front ++ x ∷ []) i d keeps.1 (omega arith))
