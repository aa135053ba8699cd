-- Bytes taken and written piece by piece.
use Rattle.std.proofs.Common.{◌≡◌, ℕ, ◌+◌, ◌<◌, ◌≤◌, List, [], ◌∷◌, ◌++◌, Option, Some, None, refl, sym, ap, ◌∙◌, arith, length, append_assoc, take, drop, ◌-◌, take_all, take-add, length-drop, length-append}
use mathlib.Core.List.{append-nil}
use Rattle.std.specs.Io.KnownBytes.{Appends, Consumes}
use Rattle.std.specs.Prelude.{IfSome}
use Rattle.kt_streams.specs.Outside.{Reads}

pub appends_more : (a b c : Option (List ℕ)) (xs ys : List ℕ) → Appends a b xs → Appends b c ys → Appends a c (xs ++ ys)
appends_more None b c xs ys g h = tt
appends_more (Some a) None c xs ys g h = absurd g
appends_more (Some a) (Some b) None xs ys g h = absurd h
appends_more (Some a) (Some b) (Some c) xs ys g h = h ∙ ap (λ l. l ++ ys) g ∙ append_assoc a xs ys

rest_is : (xs : List ℕ) (k : ℕ) → take (length xs - k) (drop k xs) ≡ drop k xs
rest_is xs k = let n : length (drop k xs) ≤ length xs - k = omega (arith, length-drop k xs) in take_all (length xs - k) (drop k xs) n

-- the next bytes of a text that is written from a place on
pub next_bytes : (xs : List ℕ) (k n : ℕ) → take (k + n) xs ≡ take k xs ++ take n (take (length xs - k) (drop k xs))
next_bytes xs k n = take-add k n xs ∙ ap (λ l. take k xs ++ take n l) (sym (rest_is xs k))

-- fewer bytes than so many are all that a source had
pub read_whole : (old new : Option (List ℕ)) (bytes : List ℕ) (many : ℕ) → Reads old new bytes many → length bytes < many → IfSome old (λ script. script ≡ bytes)
read_whole None new bytes many r h = tt
read_whole (Some script) None bytes many r h = absurd r.taken
read_whole (Some script) (Some left) bytes many r h = r.taken ∙ ap (λ l. bytes ++ l) (r.all h) ∙ append-nil bytes
