-- What a torn write leaves of a file.
use Rattle.std.proofs.Common.{◌≡◌, ℕ, ◌+◌, ◌<◌, ◌≤◌, min, List, ◌∷◌, ◌++◌, length, get_or, take, drop, Option, sym, ◌∙◌, ap, arith, take-append-drop}
use Rattle.std.proofs.lemmas.List.{drop_more}
use Rattle.kt_disk.specs.Disk.{bytes_of, Torn}

-- what lies before the range stays
pub torn_front : (at n : ℕ) (old new : Option (List ℕ)) → Torn at n old new → at ≤ length (bytes_of old) → take at (bytes_of new) ≡ take at (bytes_of old)
torn_front at n old new torn within =
    let same : min at (length (bytes_of old)) ≡ at = omega arith in
    ap (λ (k : ℕ). take k (bytes_of new)) (sym same) ∙ torn.before

-- so the file is that, and anything
pub torn_from : (at n : ℕ) (old new : Option (List ℕ)) → Torn at n old new → at ≤ length (bytes_of old) → bytes_of new ≡ take at (bytes_of old) ++ drop at (bytes_of new)
torn_from at n old new torn within =
    sym (take-append-drop at (bytes_of new)) ∙ ap (λ (l : List ℕ). l ++ drop at (bytes_of new)) (torn_front at n old new torn within)

-- a write of one byte inside the file leaves all others
pub torn_byte : (at : ℕ) (old new : Option (List ℕ)) → Torn at 1 old new → at < length (bytes_of old)
    → bytes_of new ≡ take at (bytes_of old) ++ get_or (bytes_of new) at 0 ∷ drop (at + 1) (bytes_of old)
torn_byte at old new torn within =
    let long : at < length (bytes_of new) = omega (arith, torn.no_shorter) in
    let rest : drop at (bytes_of new) ≡ get_or (bytes_of new) at 0 ∷ drop (at + 1) (bytes_of old) =
    drop_more (bytes_of new) at 0 long ∙ ap (λ (l : List ℕ). get_or (bytes_of new) at 0 ∷ l) torn.after in
    torn_from at 1 old new torn (omega arith) ∙ ap (λ (l : List ℕ). take at (bytes_of old) ++ l) rest
