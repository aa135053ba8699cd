-- What a write that is cut short makes of a file.
use Rattle.std.proofs.Common.{◌≡◌, ℕ, ◌+◌, ◌≤◌, min, List, ◌++◌, length, take, drop, Option, Some, refl, inl, inr, sym, ◌∙◌, ap, arith}
use Rattle.std.specs.Prelude.{◌-◌}
use Rattle.std.proofs.lemmas.Bool.{cases_lt}
use Rattle.std.proofs.lemmas.List.{take_min, drop_all, drop-drop, take_all}
use Rattle.kt_disk.specs.Disk.{bytes_of, put, Torn, Cut}
use Rattle.kt_disk.specs.MemoryLaw.{length-put, put-front, put-back}

pub put_min : (old : List ℕ) (at : ℕ) (bytes : List ℕ) → put old (min (length old) at) bytes ≡ put old at bytes
put_min old at bytes = elim (cases_lt (length old) at) [
  | inl short ↦
      let same : min (length old) at ≡ length old = omega arith in
      ap (λ (k : ℕ). (take k old ++ bytes) ++ drop (k + length bytes) old) same
      ∙ ap (λ (l : List ℕ). (l ++ bytes) ++ drop (length old + length bytes) old) (take_all (length old) old (omega arith) ∙ sym (take_all at old (omega arith)))
      ∙ ap (λ (l : List ℕ). (take at old ++ bytes) ++ l) (drop_all (length old + length bytes) old (omega arith) ∙ sym (drop_all (at + length bytes) old (omega arith)))
  | inr within ↦ let same : min (length old) at ≡ at = omega arith in ap (λ (k : ℕ). (take k old ++ bytes) ++ drop (k + length bytes) old) same
]

-- nothing of it, all of it or a part of it
pub torn_none : (at n : ℕ) (old : Option (List ℕ)) → Torn at n old old
torn_none at n old = record { no_shorter = omega arith; no_longer = omega arith; before = take_min at (bytes_of old); after = refl; stays = λ there. there }

pub torn_part : (at n : ℕ) (bytes : List ℕ) (old : Option (List ℕ)) → length bytes ≤ n → Torn at n old (Some (put (bytes_of old) at bytes))
torn_part at n bytes old le =
    let more : at + length bytes + (n - length bytes) ≡ at + n = omega arith in
    record {
      no_shorter = omega (arith, length-put at bytes (bytes_of old));
      no_longer = omega (arith, length-put at bytes (bytes_of old));
      before = put-front at bytes (bytes_of old);
      after = ap (λ (k : ℕ). drop k (put (bytes_of old) at bytes)) (sym more)
          ∙ sym (drop-drop (n - length bytes) (at + length bytes) (put (bytes_of old) at bytes))
          ∙ ap (λ (l : List ℕ). drop (n - length bytes) l) (put-back at bytes (bytes_of old))
          ∙ drop-drop (n - length bytes) (at + length bytes) (bytes_of old)
          ∙ ap (λ (k : ℕ). drop k (bytes_of old)) more;
      stays = λ there. refl;
    }

pub cut_none : (to : ℕ) (old : Option (List ℕ)) → Cut to old old
cut_none to old = record { no_shorter = omega arith; front = take_all (length (bytes_of old)) (bytes_of old) (omega arith); stays = λ there. there }
