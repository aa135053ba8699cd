-- A disk in memory, as it reads, is one of its images, and each of these is of bytes.
use Rattle.std.specs.Prelude.{◌-◌}
use Rattle.std.proofs.Common.{◌≡◌, ℕ, ◌+◌, ◌<◌, min, Bool, true, false, cond, eqb, List, [], ◌∷◌, ◌++◌, length, get_or, take, drop, reverse, Option, Some, None, inl, inr, refl, sym, ◌∙◌, ap, subst, arith, length-append}
use Rattle.std.specs.List.{All}
use Rattle.std.proofs.lemmas.Bool.{cases_lt}
use Rattle.std.proofs.lemmas.List.Elements.{All-nil, All-map}
use Rattle.std.proofs.lemmas.List.{take_all, drop_all, take_min, length-take, length-drop, take_at, drop_at, append_assoc}
use Rattle.kt_disk.specs.Disk.{Files, HoldBytes, bytes_of, put, shortened, Torn, Cut}
use Rattle.kt_disk.specs.Memory.{MemView, listed, after, Moves, MovesIf, contents, IsLeft, as_byte, as_bytes, stored, IsImage, mem_seen, mem_now, mem_leaves}
use Rattle.kt_disk.specs.declared.event.Event.{Event}
use Rattle.kt_disk.specs.declared.event.Change.{Change}
use Rattle.kt_disk.specs.declared.event.Change.TheVariants as change

module _ (at : ℕ) (bytes old : List ℕ) where
  pub length-put : length (put old at bytes) ≡ min at (length old) + length bytes + (length old - (at + length bytes))
  length-put = omega (arith, length-append (take at old ++ bytes) (drop (at + length bytes) old), length-append (take at old) bytes, length-take at old, length-drop (at + length bytes) old)

  pub put-front : take (min at (length old)) (put old at bytes) ≡ take at old
  put-front =
      ap (λ (l : List ℕ). take (min at (length old)) l) (append_assoc (take at old) bytes (drop (at + length bytes) old))
      ∙ take_at (take at old) (bytes ++ drop (at + length bytes) old) (min at (length old)) (length-take at old)

  pub put-back : drop (at + length bytes) (put old at bytes) ≡ drop (at + length bytes) old
  put-back = elim (cases_lt (length old) at) [
    | inl short ↦ drop_all (at + length bytes) (put old at bytes) (omega (arith, length-put)) ∙ sym (drop_all (at + length bytes) old (omega arith))
    | inr within ↦ drop_at (take at old ++ bytes) (drop (at + length bytes) old) (at + length bytes) (omega (arith, length-append (take at old) bytes, length-take at old))
  ]

torn_put : (at : ℕ) (bytes : List ℕ) (old : Option (List ℕ)) → Torn at (length bytes) old (Some (put (bytes_of old) at bytes))
torn_put at bytes old = record {
  no_shorter = omega (arith, length-put at bytes (bytes_of old));
  no_longer = omega (arith, length-put at bytes (bytes_of old));
  before = put-front at bytes (bytes_of old);
  after = put-back at bytes (bytes_of old);
  stays = λ there. refl;
}

cut_to : (to : ℕ) (old : Option (List ℕ)) → Cut to old (shortened to old)
cut_to to None = record { no_shorter = omega arith; front = refl; stays = λ there. there }
cut_to to (Some bytes) = record {
  no_shorter = omega (arith, length-take to bytes);
  front = ap (λ (k : ℕ). take k bytes) (length-take to bytes) ∙ take_min to bytes;
  stays = λ there. refl;
}

moves_to : (c : Change) (seen : Option (List ℕ)) → Moves c seen seen (after c seen)
moves_to (change.Write at bytes) seen = torn_put at bytes seen
moves_to (change.Cut to) seen = cut_to to seen
moves_to change.Sync seen = (refl, refl)
moves_to change.Remove seen = inr refl
moves_to change.Look seen = refl

moves_if : (b : Bool) (c : Change) (seen : Option (List ℕ)) → MovesIf b c seen seen (cond b (after c seen) seen)
moves_if true c seen = moves_to c seen
moves_if false c seen = refl

pub is_left : (n : ℕ) (start : Option (List ℕ)) (calls : List Event) → IsLeft n start calls (contents n start calls)
is_left n start [] = refl
is_left n start (e ∷ earlier) = (contents n start earlier, is_left n start earlier, moves_if (eqb e.file n) e.change (contents n start earlier))

pub reads_as_image : (disk : MemView) → mem_leaves disk (mem_now disk) (mem_seen disk)
reads_as_image disk n =
    subst (λ (l : List Event). IsImage n (listed disk.start n) (reverse l) (mem_seen disk n)) (sym (take_all (length disk.calls) disk.calls (omega arith)))
    (stored disk n, is_left n (listed disk.start n) (reverse disk.calls), refl)

below_256 : (x : ℕ) → as_byte x < 256
below_256 x = omega arith

hold_bytes : (d : Option (List ℕ)) → All (λ b. b < 256) (bytes_of (as_bytes d))
hold_bytes None = All-nil (λ b. b < 256)
hold_bytes (Some numbers) = All-map (λ b. b < 256) as_byte numbers (λ k d lt. below_256 (get_or numbers k d))

pub images_hold_bytes : (disk : MemView) (m : ℕ) (c : Files) → mem_leaves disk m c → HoldBytes c
images_hold_bytes disk m c left n = subst (λ (x : Option (List ℕ)). All (λ b. b < 256) (bytes_of x)) (sym (left n).2) (hold_bytes (left n).0)
