-- Records of so many rows.
use Rattle.std.proofs.Common.{◌≡◌, ◌≤◌, ◌<◌, ◌+◌, ◌^◌, ℕ, List, [], ◌∷◌, ◌++◌, drop, length, get_or, sym, subst}
use Rattle.std.specs.Prelude.{nat_le, nat_lt}
use Rattle.std.specs.List.{AllByRecursion}
use Rattle.std.proofs.lemmas.List.{drop_all}
use Rattle.std.proofs.lemmas.Bool.{lt-ltb}
use Rattle.kt_history.specs.declared.changes.Delta.{Delta}
use Rattle.kt_bytes.specs.Reading.{EachAfter}
use Rattle.kt_deltafile.specs.declared.file.Way.{Way}
use Rattle.kt_deltafile.specs.Order.{last_ordinal}
use Rattle.kt_deltafile.specs.Rules.{Follows, FileFits, IsFile}
use Rattle.kt_deltafile.proofs.Sorted.{both, both_left}
use Rattle.kt_rowfiles.proofs.Ordered.{rest_is}

-- what holds of the rest, and of the element before it
pub in_turn : {X : Type 0} (P : List X → Type 0) (xs : List X) (i : ℕ) (x : X) (Whole : Type 0) → i < length xs → x ≡ get_or xs i x → ((rest : List X) → P rest → P (x ∷ rest)) → (P (drop i xs) → Whole) → P (drop (i + 1) xs) → Whole
in_turn P xs i x Whole low is more whole rest = whole (subst P (sym (rest_is xs i x low is)) (more (drop (i + 1) xs) rest))

pub at_end : {X : Type 0} (P : List X → Type 0) (xs : List X) (i : ℕ) (Whole : Type 0) → length xs ≤ i → P [] → (P (drop i xs) → Whole) → Whole
at_end P xs i Whole past none whole = whole (subst P (sym (drop_all i xs past)) none)

each_over : (way : Way) (n : ℕ) (front list : List Delta) → EachAfter (Follows way (2 ^ 32)) front list → AllByRecursion (λ (d : Delta). d.ordinal < n) list → EachAfter (Follows way n) front list
each_over way n front [] h k = tt
each_over way n front (d ∷ list) h k = (
  record {
    comes = both (nat_le (last_ordinal front) d.ordinal) (nat_lt d.ordinal n) (both_left (nat_le (last_ordinal front) d.ordinal) (nat_lt d.ordinal (2 ^ 32)) h.0.comes) (lt-ltb d.ordinal n k.0);
    ordinal = h.0.ordinal;
    order = h.0.order;
    ts = h.0.ts;
    change = h.0.change;
  },
  each_over way n (front ++ d ∷ []) list h.1 k.1,
)

pub file_over : (way : Way) (n : ℕ) (list : List Delta) → IsFile way list → AllByRecursion (λ (d : Delta). d.ordinal < n) list → FileFits way n list
file_over way n list file inside = record { count = file.count; each = each_over way n [] list file.each inside }
