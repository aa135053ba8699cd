-- A slot told from its first five bytes, and from its body alone.
use Rattle.std.proofs.Common.{◌≡◌, ℕ, ◌<◌, ◌≤◌, Bool, true, cond, List, [], ◌∷◌, length, take, drop, None, Option, Result, Ok, Err, refl, sym, ap, subst, ◌∙◌, arith, inr}
use Rattle.std.specs.Int.{w32, from_le_bytes}
use Rattle.std.proofs.lemmas.Bool.{le-ltb, lt-ltb}
use Rattle.std.proofs.lemmas.List.{length-take}
use Rattle.kt_super.specs.declared.meta.Meta.{Meta}
use Rattle.kt_super.specs.declared.slot.Head.TheVariants.{Closed, Short, Body}
use Rattle.kt_disk.specs.Disk.{Files, held}
use Rattle.kt_super.specs.declared.refusal.SuperNo.{SuperNo}
use Rattle.kt_super.specs.declared.refusal.SuperNo.TheVariants.{Place}
use Rattle.kt_super.specs.Slots.{is_open, IsHead, of_length, opened_at, slot_at}
use Rattle.kt_super.specs.Faults.{IsFaultBehind, IsSlotFault}
use Rattle.kt_super.specs.Told.{TellsOf}

open_front : (bytes : List ℕ) → is_open (take 5 bytes) ≡ is_open bytes
open_front [] = refl
open_front (a ∷ []) = refl
open_front (a ∷ b ∷ bytes) = refl

size_front : (bytes : List ℕ) → 5 ≤ length bytes → from_le_bytes w32 (take 4 (drop 1 (take 5 bytes))) ≡ from_le_bytes w32 (take 4 (drop 1 bytes))
size_front [] le = absurd (omega arith)
size_front (a ∷ []) le = absurd (omega arith)
size_front (a ∷ b ∷ []) le = absurd (omega arith)
size_front (a ∷ b ∷ c ∷ []) le = absurd (omega arith)
size_front (a ∷ b ∷ c ∷ d ∷ []) le = absurd (omega arith)
size_front (a ∷ b ∷ c ∷ d ∷ e ∷ bytes) le = refl

opened : (slot : ℕ) (bytes : List ℕ) → is_open bytes ≡ true → slot_at slot bytes ≡ opened_at slot bytes
opened slot bytes e = ap (λ (b : Bool). cond b (opened_at slot bytes) (Ok None)) e

pub closed_slot : (slot : ℕ) (bytes : List ℕ) → IsHead (take 5 bytes) Closed → slot_at slot bytes ≡ Ok None
closed_slot slot bytes h = ap (λ (b : Bool). cond b (opened_at slot bytes) (Ok None)) (sym (open_front bytes) ∙ h)

pub short_slot : (slot : ℕ) (bytes : List ℕ) → IsHead (take 5 bytes) Short → slot_at slot bytes ≡ Err (length bytes)
short_slot slot bytes h =
    let lt : length bytes < 5 = omega (arith, h.1, length-take 5 bytes) in
    opened slot bytes (sym (open_front bytes) ∙ h.0)
    ∙ ap (λ (b : Bool). cond b (Err (length bytes)) (of_length slot (from_le_bytes w32 (take 4 (drop 1 bytes))) (drop 5 bytes))) (lt-ltb (length bytes) 5 lt)

pub slot_with_body : (slot len : ℕ) (bytes : List ℕ) → IsHead (take 5 bytes) (Body len) → slot_at slot bytes ≡ of_length slot len (drop 5 bytes)
slot_with_body slot len bytes h =
    let le : 5 ≤ length bytes = omega (arith, h.1, length-take 5 bytes) in
    opened slot bytes (sym (open_front bytes) ∙ h.0)
    ∙ ap (λ (b : Bool). cond b (Err (length bytes)) (of_length slot (from_le_bytes w32 (take 4 (drop 1 bytes))) (drop 5 bytes))) (le-ltb (length bytes) 5 le)
    ∙ ap (λ (n : ℕ). of_length slot n (drop 5 bytes)) (sym (h.2 ∙ size_front bytes le))

pub fault_with_body : (slot len : ℕ) (bytes : List ℕ) (place : ℕ) → IsHead (take 5 bytes) (Body len) → IsFaultBehind slot len (drop 5 bytes) place → IsSlotFault slot bytes place
fault_with_body slot len bytes place h f =
    let le : 5 ≤ length bytes = omega (arith, h.1, length-take 5 bytes) in
    (sym (open_front bytes) ∙ h.0, inr (le, subst (λ (n : ℕ). IsFaultBehind slot n (drop 5 bytes) place) (h.2 ∙ size_front bytes le) f))

-- the fault of a slot of a disk that reads as before
pub of_slot : (files base : Files) (n at offset : ℕ) (r : Result (Option Meta) SuperNo) (told : Result (Option Meta) ℕ) → files ≡ base → r ≡ Err (Place at offset) → TellsOf n r told → IsSlotFault n (held files n) offset → IsSlotFault at (held base at) offset
of_slot files base n at offset r told same e tells f =
    let here : at ≡ n = (subst (λ (x : Result (Option Meta) SuperNo). TellsOf n x told) e tells).0 in
    subst (λ (k : ℕ). IsSlotFault k (held base k) offset) (sym here) (subst (λ (b : Files). IsSlotFault n (held b n) offset) same f)
