-- A slot that tells a superblock is spelled as it is.
use Rattle.std.proofs.Common.{◌≡◌, ℕ, zero, suc, suc, ◌+◌, ◌<◌, ◌≤◌, Bool, true, false, ◌&&◌, cond, eqb, ltb, leb, List, [], ◌∷◌, ◌++◌, length, take, drop, Some, None, Result, Ok, Err, refl, sym, ap, ◌∙◌, append_assoc, arith, inl, inr}
use Rattle.std.specs.List.{All}
use Rattle.std.specs.Int.{w32, to_le_bytes, from_le_bytes}
use Rattle.std.proofs.lemmas.Bool.{cases_lt, eqb-true, ltb-false, leb-true}
use Rattle.std.proofs.lemmas.List.{append-nil, take-append-drop, length-take, get_or_past}
use Rattle.kt_super.specs.declared.meta.Meta.{Meta}
use Rattle.kt_super.specs.Body.{spelled_body, body_at}
use Rattle.kt_super.specs.Slots.{misfit, settled, of_length, opened_at, slot_at, spelled_slot}
use Rattle.kt_bytes.proofs.Numbers.{IsBytes, IsBytes-drop, IsBytes-take, wide32}
use Rattle.kt_super.proofs.ColumnParts.{both}
use Rattle.kt_super.proofs.BodyParts.{body_takes}

pub bytes_fit : (bytes : List ℕ) → All (λ b. b < 256) bytes → IsBytes bytes
bytes_fit bytes all i = elim (cases_lt i (length bytes)) [ inl lt ↦ all i 0 lt | inr le ↦ rw (get_or_past bytes i 0 le) (omega arith) ]

none_left : (rest : List ℕ) → length rest ≡ 0 → rest ≡ []
none_left [] e = refl
none_left (b ∷ rest) e = absurd (omega (arith, e))

abbrev read_as : Meta → List ℕ → Result (Meta × List ℕ) ℕ
read_as m rest = Ok (m, rest)

settled_ok : (there : Bool) (end size : ℕ) (m : Meta) (r : Result (Meta × List ℕ) ℕ) → settled there end size r ≡ Ok (Some m) → (there ≡ true) × (r ≡ Ok (m, []))
settled_ok there end size m (Err zero) e = absurd cc
settled_ok there end size m (Err (suc left)) e = absurd cc
settled_ok there end size m (Ok (k, rest)) e = pick (there && eqb (length rest) 0) refl e
  where
    pick : (b : Bool) → (there && eqb (length rest) 0) ≡ b → cond b (Ok (Some k)) (Err (misfit there end)) ≡ Ok (Some m) → (there ≡ true) × (read_as k rest ≡ read_as m [])
    pick false is f = absurd cc
    pick true is f =
        let parts = both there (eqb (length rest) 0) is in
        let none : rest ≡ [] = none_left rest (eqb-true (length rest) 0 parts.1) in
        let same : k ≡ m = cc in
        (parts.0, cc)

length_takes : (slot len : ℕ) (rest : List ℕ) (m : Meta) → IsBytes rest → of_length slot len rest ≡ Ok (Some m) → (len ≡ length (spelled_body m)) × (rest ≡ spelled_body m ++ drop len rest)
length_takes slot len rest m fits e =
    let s = settled_ok (leb len (length rest)) (5 + length rest) (length (take len rest)) m (body_at slot (take len rest)) e in
    let t = body_takes slot (take len rest) (m, []) (IsBytes-take len rest fits) s.1 in
    let there : len ≤ length rest = leb-true len (length rest) s.0 in
    let front : take len rest ≡ spelled_body m = t.0 ∙ append-nil (spelled_body m) in
    (omega (arith, length-take len rest, ap length front), sym (take-append-drop len rest) ∙ ap (λ (l : List ℕ). l ++ drop len rest) front)

tail_takes : (slot : ℕ) (tail : List ℕ) (m : Meta) → IsBytes tail → 4 ≤ length tail → of_length slot (from_le_bytes w32 (take 4 tail)) (drop 4 tail) ≡ Ok (Some m) → (more : List ℕ) × (tail ≡ spelled_slot m ++ more)
tail_takes slot tail m fits long e =
    let len : ℕ = from_le_bytes w32 (take 4 tail) in
    let rest : List ℕ = drop 4 tail in
    let more : List ℕ = drop len rest in
    let body : List ℕ = spelled_body m in
    let t = length_takes slot len rest m (IsBytes-drop 4 tail fits) e in
    let front : to_le_bytes w32 len ≡ take 4 tail = wide32.back (take 4 tail) (omega (arith, length-take 4 tail)) (IsBytes-take 4 tail fits) in (
      more,
      sym (take-append-drop 4 tail) ∙ ap (λ (l : List ℕ). l ++ rest) (sym front ∙ ap (λ (n : ℕ). to_le_bytes w32 n) t.0)
          ∙ ap (λ (l : List ℕ). to_le_bytes w32 (length body) ++ l) t.1 ∙ sym (append_assoc (to_le_bytes w32 (length body)) body more),
    )

pub slot_takes : (slot : ℕ) (bytes : List ℕ) (m : Meta) → IsBytes bytes → slot_at slot bytes ≡ Ok (Some m) → (more : List ℕ) × (bytes ≡ 1 ∷ (spelled_slot m ++ more))
slot_takes slot [] m fits e = absurd cc
slot_takes slot (gate ∷ []) m fits e = absurd cc
slot_takes slot (gate ∷ byte ∷ bytes) m fits e = pick (eqb gate 1) refl e
  where
    tail : List ℕ
    tail = byte ∷ bytes

    all : List ℕ
    all = gate ∷ tail

    long : (b : Bool) → ltb (length all) 5 ≡ b → cond b (Err (length all)) (of_length slot (from_le_bytes w32 (take 4 tail)) (drop 4 tail)) ≡ Ok (Some m) → (more : List ℕ) × (tail ≡ spelled_slot m ++ more)
    long true is f = absurd cc
    long false is f = let enough : 5 ≤ length all = ltb-false (length all) 5 is in tail_takes slot tail m (λ i. fits (suc i)) (omega (arith, enough)) f

    pick : (b : Bool) → eqb gate 1 ≡ b → cond b (opened_at slot all) (Ok None) ≡ Ok (Some m) → (more : List ℕ) × (all ≡ 1 ∷ (spelled_slot m ++ more))
    pick false is f = absurd cc
    pick true is f =
        let one : gate ≡ 1 = eqb-true gate 1 is in
        let t = long (ltb (length all) 5) refl f in
        (t.0, cc)
