-- What frames stand for.
use Rattle.std.proofs.Common.{◌≡◌, ◌≢◌, ℕ, zero, suc, ◌+◌, ◌^◌, ◌<◌, ◌≤◌, false, ltb, List, [], ◌∷◌, ◌++◌, length, drop, Some, refl, ◌∙◌, ap, arith, append_assoc, length-append}
use Rattle.std.specs.List.{flat_map}
use Rattle.std.specs.Int.{w32, to_le_bytes}
use Rattle.std.proofs.lemmas.Bool.{le-ltb}
use Rattle.std.proofs.lemmas.List.{take_at, drop_at}
use Rattle.std.proofs.lemmas.List.Elements.{All-head, All-tail}
use Rattle.std.proofs.lemmas.Nat.{from_le_bytes-to_le_bytes_4}
use Rattle.std.proofs.lemmas.Bool.Decides.{nat_tests}
use Rattle.kt_journal.specs.Frames.{body, frame, AllFit, is_open, body_at, frames_at, sound, frames_in, then_more, IsBatch}

-- what is behind a gate is read again
pub body_again : (payload rest : List ℕ) → length payload < 2 ^ 32 → body_at (body payload ++ rest) ≡ Some (payload, rest)
unfolding body_at
body_again payload rest fits =
    let long : ltb (length (payload ++ rest)) (length payload) ≡ false = le-ltb _ _ (omega (arith, length-append payload rest)) in
    let four : ltb (length (body payload ++ rest)) 4 ≡ false = le-ltb _ _ (omega (arith, length-append (body payload) rest, length-append (to_le_bytes w32 (length payload)) payload)) in
    rw (four, from_le_bytes-to_le_bytes_4 (length payload) fits, long, take_at payload rest (length payload) refl, drop_at payload rest (length payload) refl) refl

pub shut_gate : (gate : ℕ) (rest : List ℕ) → gate ≢ 1 → is_open (gate ∷ rest) ≡ false
shut_gate gate [] shut = refl
shut_gate gate (b ∷ rest) shut = grind (arith, nat_tests)

pub frames_read : (payloads : List (List ℕ)) (rest : List ℕ) (most offset : ℕ) → AllFit payloads → is_open rest ≡ false → length payloads ≤ most
    → frames_at most offset (flat_map frame payloads ++ rest) ≡ sound payloads
unfolding frames_at
frames_read [] rest zero offset fit shut le = refl
frames_read [] rest (suc most) offset fit shut le = rw shut refl
frames_read (p ∷ payloads) rest zero offset fit shut le = absurd (omega arith)
frames_read (p ∷ payloads) rest (suc most) offset fit shut le =
    let split : drop 1 ((frame p ++ flat_map frame payloads) ++ rest) ≡ body p ++ (flat_map frame payloads ++ rest) = append_assoc (body p) (flat_map frame payloads) rest in
    let first = ap body_at split ∙ body_again p (flat_map frame payloads ++ rest) (All-head (λ (q : List ℕ). length q < 2 ^ 32) p payloads fit) in
    ap (then_more (frames_at most) offset) first ∙ rw (frames_read payloads rest most (offset + 5 + length p) (All-tail (λ (q : List ℕ). length q < 2 ^ 32) p payloads fit) shut (omega arith)) refl

pub count_le : (payloads : List (List ℕ)) → length payloads ≤ length (flat_map frame payloads)
count_le [] = omega arith
count_le (p ∷ payloads) = omega (arith, count_le payloads, length-append (frame p) (flat_map frame payloads))

-- whatever closes the frames ends the log
pub log_read : (payloads : List (List ℕ)) (rest : List ℕ) → AllFit payloads → is_open rest ≡ false → frames_in (flat_map frame payloads ++ rest) ≡ sound payloads
log_read payloads rest fit shut =
    frames_read payloads rest (length (flat_map frame payloads ++ rest)) 0 fit shut (omega (arith, count_le payloads, length-append (flat_map frame payloads) rest))

-- without its first gate a spelled list is a batch
pub is_batch : (payloads : List (List ℕ)) (whole batch : List ℕ) → 0 < length payloads → AllFit payloads → whole ≡ flat_map frame payloads ++ 0 ∷ [] → batch ≡ drop 1 whole → IsBatch batch payloads
is_batch [] whole batch some fit is rest = absurd (omega arith)
is_batch (p ∷ payloads) whole batch some fit is rest = record { spelled = ap (λ (l : List ℕ). 1 ∷ l) (rest ∙ ap (λ (l : List ℕ). drop 1 l) is); fit = fit }
