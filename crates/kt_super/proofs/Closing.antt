-- What a write to a slot makes of what it tells.
use Rattle.std.proofs.Common.{◌≡◌, ◌≢◌, ℕ, ◌+◌, ◌<◌, ◌≤◌, min, true, false, not, eqb, List, [], ◌∷◌, ◌++◌, length, take, drop, get_or, Option, Some, None, Ok, inl, inr, refl, sym, ◌∙◌, ap, arith}
use Rattle.std.proofs.lemmas.Bool.{cases_eq}
use Rattle.std.proofs.lemmas.Bool.Decides.{nat_tests}
use Rattle.kt_disk.specs.Disk.{bytes_of, put, Torn}
use Rattle.kt_disk.proofs.Steps.{torn_byte}
use Rattle.kt_super.specs.declared.meta.Meta.{Meta}
use Rattle.kt_super.specs.Slots.{is_open, is_shut, slot_at, IsOldOrNone, IsNoneOrNew}

-- any gate byte but 1 closes
closed_by : (gate : ℕ) (rest : List ℕ) → gate ≢ 1 → is_open (gate ∷ rest) ≡ false
closed_by gate [] other = refl
closed_by gate (b ∷ rest) other = grind (arith, nat_tests)

pub closed_tells : (slot : ℕ) (bytes : List ℕ) → is_open bytes ≡ false → slot_at slot bytes ≡ Ok None
closed_tells slot bytes closed = rw closed refl

-- a slot with a closed gate is not open
pub shut_closed : (bytes : List ℕ) → is_shut bytes ≡ true → is_open bytes ≡ false
shut_closed [] shut = refl
shut_closed (gate ∷ []) shut = refl
shut_closed (gate ∷ b ∷ bytes) shut = grind (arith, nat_tests)

few : (gate : ℕ) (bytes : List ℕ) → length bytes ≤ 1 → is_open bytes ≡ false
few gate [] le = refl
few gate (b ∷ []) le = refl
few gate (b ∷ c ∷ bytes) le = absurd (omega arith)

-- ---- closing

shuts : (slot : ℕ) (old new : List ℕ) (gate : ℕ) → is_shut old ≡ false → 0 < length old → new ≡ gate ∷ drop 1 old → IsOldOrNone (slot_at slot old) (slot_at slot new)
shuts slot [] new gate ajar some is = absurd (omega arith)
shuts slot (g ∷ rest) new gate ajar some is = elim (cases_eq gate 1) [
  | inl one ↦
      let was : g ≡ 1 = grind (arith, nat_tests) in
      inl (ap (λ (l : List ℕ). slot_at slot l) (is ∙ ap (λ (k : ℕ). k ∷ rest) (one ∙ sym was)))
  | inr other ↦ inr (closed_tells slot new (ap is_open is ∙ closed_by gate rest other))
]

-- a write of one byte over the gate of an open slot, or where there is none
pub shutting : (slot : ℕ) (old new : Option (List ℕ)) → is_shut (bytes_of old) ≡ false → Torn 0 1 old new → IsOldOrNone (slot_at slot (bytes_of old)) (slot_at slot (bytes_of new))
shutting slot old new ajar torn = elim (cases_eq (length (bytes_of old)) 0) [
  | inl none ↦ inr (closed_tells slot (bytes_of new) (few 0 (bytes_of new) (omega (arith, torn.no_longer))))
  | inr some ↦ shuts slot (bytes_of old) (bytes_of new) (get_or (bytes_of new) 0 0) ajar (omega arith) (torn_byte 0 old new torn (omega arith))
]

-- the gate that was written is closed
pub shut_by : (old : List ℕ) → is_shut (put old 0 (0 ∷ [])) ≡ true
shut_by old = refl

-- ---- writing behind a closed gate

gate_stays : (old new : List ℕ) → is_shut old ≡ true → length old ≤ length new → take (min 1 (length old)) new ≡ take 1 old → is_shut new ≡ true
gate_stays [] new shut longer front = absurd cc
gate_stays (g ∷ old) [] shut longer front = absurd (omega arith)
gate_stays (g ∷ old) (h ∷ new) shut longer front =
    let one : min 1 (length (g ∷ old)) ≡ 1 = omega arith in
    let heads : h ∷ [] ≡ g ∷ [] = ap (λ (k : ℕ). take k (h ∷ new)) (sym one) ∙ front in
    let same : h ≡ g = cc in
    ap (λ (k : ℕ). not (eqb k 1)) same ∙ shut

pub writing : (slot n : ℕ) (old new : Option (List ℕ)) → is_shut (bytes_of old) ≡ true → Torn 1 n old new → slot_at slot (bytes_of new) ≡ Ok None
writing slot n old new shut torn = closed_tells slot (bytes_of new) (shut_closed (bytes_of new) (gate_stays (bytes_of old) (bytes_of new) shut torn.no_shorter torn.before))

pub shut_some : (bytes : List ℕ) → is_shut bytes ≡ true → 1 ≤ length bytes
shut_some [] shut = absurd cc
shut_some (g ∷ bytes) shut = omega arith

-- what stands there then
pub written : (old rest : List ℕ) → is_shut old ≡ true → (is_open (put old 1 rest) ≡ false) × (drop 1 (put old 1 rest) ≡ rest ++ drop (1 + length rest) old)
written [] rest shut = absurd cc
written (g ∷ old) rest shut = (shut_closed (g ∷ (rest ++ drop (1 + length rest) (g ∷ old))) shut, refl)

-- ---- opening

opens : (slot : ℕ) (m : Meta) (old new : List ℕ) (gate : ℕ) → slot_at slot (1 ∷ drop 1 old) ≡ Ok (Some m) → new ≡ gate ∷ drop 1 old → IsNoneOrNew m (slot_at slot new)
opens slot m old new gate behind is = elim (cases_eq gate 1) [
  | inl one ↦ inr (ap (λ (l : List ℕ). slot_at slot l) (is ∙ ap (λ (k : ℕ). k ∷ drop 1 old) one) ∙ behind)
  | inr other ↦ inl (closed_tells slot new (ap is_open is ∙ closed_by gate (drop 1 old) other))
]

lone : (slot : ℕ) (m : Meta) (old : List ℕ) → slot_at slot (1 ∷ drop 1 old) ≡ Ok (Some m) → 0 < length old
lone slot m [] behind = absurd cc
lone slot m (g ∷ old) behind = omega arith

pub opening : (slot : ℕ) (m : Meta) (old new : Option (List ℕ)) → slot_at slot (1 ∷ drop 1 (bytes_of old)) ≡ Ok (Some m) → Torn 0 1 old new → IsNoneOrNew m (slot_at slot (bytes_of new))
opening slot m old new behind torn =
    opens slot m (bytes_of old) (bytes_of new) (get_or (bytes_of new) 0 0) behind (torn_byte 0 old new torn (lone slot m (bytes_of old) behind))
