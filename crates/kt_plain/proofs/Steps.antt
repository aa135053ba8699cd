-- The loops that write or read one field after another.
use Rattle.std.proofs.Common.{◌≡◌, ℕ, ◌+◌, ◌-◌, ◌*◌, ◌<◌, ◌≤◌, List, [], ◌∷◌, ◌++◌, length, take, drop, set, get_or, refl, sym, ◌∙◌, arith}
use Rattle.std.specs.List.{flat_map}
use borrow.Rule.Slice.PartMut.{post_of}
use Rattle.std.proofs.lemmas.List.{append_assoc, append-nil, drop_all, drop-drop, take_rest, length-append, length-take-le, take_at, take_more, take_more_set}
use Rattle.std.proofs.lemmas.List.Concat.{flat_map-append}

-- one field more is written
pub written_more : {X : Type 0} (f : X → List ℕ) (n : ℕ) (xs : List X) (d : X) (out rest : List ℕ) (i : ℕ)
    → n * i ≤ length out → i < length xs → length (f (get_or xs i d)) ≡ n
    → take (n * i) out ≡ flat_map f (take i xs)
    → take (n * i + n) (take (n * i) out ++ (f (get_or xs i d) ++ rest)) ≡ flat_map f (take (i + 1) xs)
written_more f n xs d out rest i room fits len before =
    let front : List ℕ = take (n * i) out in
    let bytes : List ℕ = f (get_or xs i d) in
    let front_len : length front ≡ n * i = length-take-le (n * i) out room in
    let grouped : front ++ (bytes ++ rest) ≡ (front ++ bytes) ++ rest = sym (append_assoc front bytes rest) in
    let whole : length (front ++ bytes) ≡ n * i + n = length-append front bytes ∙ rw (front_len, len) refl in
    rw (grouped, take_at (front ++ bytes) rest (n * i + n) whole, before, take_more xs i d fits, flat_map-append, append-nil) refl

-- one byte more is written
pub byte_more : {X : Type 0} (f : X → ℕ) (xs : List X) (d : X) (out : List ℕ) (byte i : ℕ)
    → i < length out → i < length xs → byte ≡ f (get_or xs i d)
    → take i out ≡ flat_map (λ x. f x ∷ []) (take i xs)
    → take (i + 1) (set out i byte) ≡ flat_map (λ x. f x ∷ []) (take (i + 1) xs)
byte_more f xs d out byte i room fits is before =
    rw (take_more_set out i byte room, before, is, take_more xs i d fits, flat_map-append) refl

-- what lies behind n bytes that were written at a place
pub behind_written : (at n : ℕ) (out : List ℕ) → at + n ≤ length out
    → drop n (take (length out - at) (drop at out)) ++ post_of at (length out - at) out ≡ drop (at + n) out
behind_written at n out fits =
    rw (take_rest out at, drop-drop (length out - at) at out, drop_all (at + (length out - at)) out (omega arith), append-nil) (drop-drop n at out)
