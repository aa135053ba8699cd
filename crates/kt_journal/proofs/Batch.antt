-- The bytes of a batch.
use Rattle.std.proofs.Common.{◌≡◌, ℕ, suc, ◌+◌, List, [], ◌∷◌, ◌++◌, length, set, refl, ap, ◌∙◌, arith}
use Rattle.std.specs.Prelude.{◌/◌, ◌%◌}
use Rattle.kt_journal.specs.Frames.{frame}

patched_at : (front payload : List ℕ) (b0 b1 b2 b3 : ℕ) → set (set (set (set (front ++ 1 ∷ 0 ∷ 0 ∷ 0 ∷ 0 ∷ payload) (suc (length front)) b0) (suc (suc (length front))) b1) (suc (suc (suc (length front)))) b2) (suc (suc (suc (suc (length front))))) b3 ≡ front ++ 1 ∷ b0 ∷ b1 ∷ b2 ∷ b3 ∷ payload
patched_at [] payload b0 b1 b2 b3 = refl
patched_at (x ∷ front) payload b0 b1 b2 b3 = ap (λ (l : List ℕ). x ∷ l) (patched_at front payload b0 b1 b2 b3)

patched : (front payload : List ℕ) (b0 b1 b2 b3 i0 i1 i2 i3 : ℕ) → i0 ≡ suc (length front) → i1 ≡ suc (suc (length front)) → i2 ≡ suc (suc (suc (length front))) → i3 ≡ suc (suc (suc (suc (length front))))
    → set (set (set (set (front ++ 1 ∷ 0 ∷ 0 ∷ 0 ∷ 0 ∷ payload) i0 b0) i1 b1) i2 b2) i3 b3 ≡ front ++ 1 ∷ b0 ∷ b1 ∷ b2 ∷ b3 ∷ payload
patched front payload b0 b1 b2 b3 i0 i1 i2 i3 e0 e1 e2 e3 = rw (e0, e1, e2, e3) (patched_at front payload b0 b1 b2 b3)

-- a gate, an empty length and a payload, once the length is written
pub framed : (old payload items new : List ℕ) (gate len : ℕ) → gate ≡ length old → items ≡ old ++ 1 ∷ 0 ∷ 0 ∷ 0 ∷ 0 ∷ payload → len ≡ length payload
    → new ≡ set (set (set (set items (gate + 1) (len % 256)) (gate + 2) (len / 256 % 256)) (gate + 3) (len / 65536 % 256)) (gate + 4) (len / 16777216 % 256) → new ≡ old ++ frame payload
framed old payload items new gate len gate_is is len_is written =
    written
    ∙ ap (λ (l : List ℕ). set (set (set (set l (gate + 1) (len % 256)) (gate + 2) (len / 256 % 256)) (gate + 3) (len / 65536 % 256)) (gate + 4) (len / 16777216 % 256)) is
    ∙ patched old payload (len % 256) (len / 256 % 256) (len / 65536 % 256) (len / 16777216 % 256) (gate + 1) (gate + 2) (gate + 3) (gate + 4) (omega arith) (omega arith) (omega arith) (omega arith)
    ∙ ap (λ (n : ℕ). old ++ 1 ∷ (n % 256) ∷ (n / 256 % 256) ∷ (n / 65536 % 256) ∷ (n / 16777216 % 256) ∷ payload) len_is
