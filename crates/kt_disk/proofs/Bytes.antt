-- What a disk in memory does to numbers, it does to the bytes that they count as.
use Rattle.std.specs.Prelude.{IsSome, ◌↔◌}
use Rattle.std.proofs.Common.{◌≡◌, ℕ, suc, ◌+◌, ◌<◌, min, Bool, true, false, List, [], ◌∷◌, ◌++◌, length, get_or, take, drop, map, Option, Some, None, inl, inr, refl, sym, ◌∙◌, ap, arith}
use Rattle.std.proofs.lemmas.List.{take-map, drop-map, map-append, length-map}
use Rattle.kt_disk.specs.Disk.{bytes_of, put, shortened, Torn, Cut}
use Rattle.kt_disk.specs.Memory.{Moves, MovesIf, as_byte, as_bytes}
use Rattle.kt_disk.specs.declared.event.Change.{Change}
use Rattle.kt_disk.specs.declared.event.Change.TheVariants as change

-- bytes count as themselves
pub same_bytes : (bytes : List ℕ) → ((i : ℕ) → get_or bytes i 0 < 256) → map as_byte bytes ≡ bytes
same_bytes [] small = refl
same_bytes (b ∷ bytes) small =
    let first : as_byte b ≡ b = omega (arith, small 0) in
    let rest : map as_byte bytes ≡ bytes = same_bytes bytes (λ i. small (suc i)) in
    ap (λ (x : ℕ). x ∷ map as_byte bytes) first ∙ ap (λ (l : List ℕ). b ∷ l) rest

pub bytes_as : (d : Option (List ℕ)) → bytes_of (as_bytes d) ≡ map as_byte (bytes_of d)
bytes_as None = refl
bytes_as (Some numbers) = refl

pub length-bytes : (d : Option (List ℕ)) → length (bytes_of (as_bytes d)) ≡ length (bytes_of d)
length-bytes None = refl
length-bytes (Some numbers) = length-map numbers as_byte

take_bytes : (k : ℕ) (d : Option (List ℕ)) → take k (bytes_of (as_bytes d)) ≡ map as_byte (take k (bytes_of d))
take_bytes k d = ap (take k) (bytes_as d) ∙ take-map as_byte k (bytes_of d)

drop_bytes : (k : ℕ) (d : Option (List ℕ)) → drop k (bytes_of (as_bytes d)) ≡ map as_byte (drop k (bytes_of d))
drop_bytes k d = ap (drop k) (bytes_as d) ∙ drop-map as_byte k (bytes_of d)

some_as : (d : Option (List ℕ)) → IsSome d → IsSome (as_bytes d)
some_as None some = some
some_as (Some numbers) some = refl

some_from : (d : Option (List ℕ)) → IsSome (as_bytes d) → IsSome d
some_from None some = some
some_from (Some numbers) some = refl

pub some_bytes : (d : Option (List ℕ)) → IsSome d ↔ IsSome (as_bytes d)
some_bytes d = (some_as d, some_from d)

-- bytes that are read
pub read_bytes : (d : Option (List ℕ)) (at n : ℕ) (into : List ℕ) → into ≡ take n (drop at (bytes_of d)) → ((i : ℕ) → get_or into i 0 < 256) → into ≡ take n (drop at (bytes_of (as_bytes d)))
read_bytes d at n into are small =
    sym (same_bytes into small)
    ∙ ap (map as_byte) are
    ∙ sym (take-map as_byte n (drop at (bytes_of d)))
    ∙ ap (take n) (sym (drop_bytes at d))

-- bytes that are written
pub put_bytes : (d : Option (List ℕ)) (at : ℕ) (bytes : List ℕ) → ((i : ℕ) → get_or bytes i 0 < 256)
    → as_bytes (Some (put (bytes_of d) at bytes)) ≡ Some (put (bytes_of (as_bytes d)) at bytes)
put_bytes d at bytes small =
    let front : map as_byte (take at (bytes_of d) ++ bytes) ≡ take at (bytes_of (as_bytes d)) ++ bytes =
    map-append as_byte (take at (bytes_of d)) bytes ∙ ap (λ (l : List ℕ). l ++ map as_byte bytes) (sym (take_bytes at d)) ∙ ap (λ (l : List ℕ). take at (bytes_of (as_bytes d)) ++ l) (same_bytes bytes small) in
    ap (λ (l : List ℕ). Some l)
    (map-append as_byte (take at (bytes_of d) ++ bytes) (drop (at + length bytes) (bytes_of d))
    ∙ ap (λ (l : List ℕ). l ++ map as_byte (drop (at + length bytes) (bytes_of d))) front
    ∙ ap (λ (l : List ℕ). (take at (bytes_of (as_bytes d)) ++ bytes) ++ l) (sym (drop_bytes (at + length bytes) d)))

pub shortened_bytes : (to : ℕ) (d : Option (List ℕ)) → as_bytes (shortened to d) ≡ shortened to (as_bytes d)
shortened_bytes to None = refl
shortened_bytes to (Some numbers) = ap (λ (l : List ℕ). Some l) (sym (take-map as_byte to numbers))

torn_bytes : (at n : ℕ) (old new : Option (List ℕ)) → Torn at n old new → Torn at n (as_bytes old) (as_bytes new)
torn_bytes at n old new torn = record {
  no_shorter = omega (arith, length-bytes old, length-bytes new, torn.no_shorter);
  no_longer = omega (arith, length-bytes old, length-bytes new, torn.no_longer);
  before = ap (λ (k : ℕ). take (min at k) (bytes_of (as_bytes new))) (length-bytes old)
      ∙ take_bytes (min at (length (bytes_of old))) new
      ∙ ap (map as_byte) torn.before
      ∙ sym (take_bytes at old);
  after = drop_bytes (at + n) new ∙ ap (map as_byte) torn.after ∙ sym (drop_bytes (at + n) old);
  stays = λ some. some_as new (torn.stays (some_from old some));
}

cut_bytes : (to : ℕ) (old new : Option (List ℕ)) → Cut to old new → Cut to (as_bytes old) (as_bytes new)
cut_bytes to old new cut = record {
  no_shorter = omega (arith, length-bytes old, length-bytes new, cut.no_shorter);
  front = ap (λ (k : ℕ). take k (bytes_of (as_bytes old))) (length-bytes new)
      ∙ take_bytes (length (bytes_of new)) old
      ∙ ap (map as_byte) cut.front
      ∙ sym (bytes_as new);
  stays = λ some. some_as new (cut.stays (some_from old some));
}

moves_bytes : (c : Change) (seen old new : Option (List ℕ)) → Moves c seen old new → Moves c (as_bytes seen) (as_bytes old) (as_bytes new)
moves_bytes (change.Write at bytes) seen old new moves = torn_bytes at (length bytes) old new moves
moves_bytes (change.Cut to) seen old new moves = cut_bytes to old new moves
moves_bytes change.Sync seen old new moves = (ap as_bytes moves.0, ap as_bytes moves.1)
moves_bytes change.Remove seen old new moves = elim moves [ inl stays ↦ inl (ap as_bytes stays) | inr gone ↦ inr (ap as_bytes gone) ]
moves_bytes change.Look seen old new moves = ap as_bytes moves

pub moves_if_bytes : (b : Bool) (c : Change) (seen old new : Option (List ℕ)) → MovesIf b c seen old new → MovesIf b c (as_bytes seen) (as_bytes old) (as_bytes new)
moves_if_bytes true c seen old new moves = moves_bytes c seen old new moves
moves_if_bytes false c seen old new moves = ap as_bytes moves
