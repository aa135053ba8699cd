-- A change whose cells stand behind other bytes that are added with them.
use Rattle.std.proofs.Common.{◌≡◌, ℕ, ◌+◌, ◌-◌, ◌≤◌, true, List, [], ◌∷◌, ◌++◌, length, take, drop, refl, sym, ap, subst, ◌∙◌, arith, append_assoc, length-append, length-take, length-drop}
use Rattle.std.proofs.lemmas.List.{take-append-drop}
use Rattle.kt_cells.specs.Reading.{cells_behind}
use Rattle.kt_history.specs.declared.changes.KeyChange.{KeyChange}
use Rattle.kt_history.specs.declared.change_list.Part.{Part}
use Rattle.kt_history.specs.declared.change_list.Head.{Head}
use Rattle.kt_history.specs.declared.target.Kindly.{Kindly}
use Rattle.kt_history.specs.AsBytes.{change_with, part_of, changes_at, are_inside, AreTold, IsToldNext}
use Rattle.kt_history.proofs.AsBytes.{inside_more, kept_more, added, inside_added, told_more, told_added, next_more, stays}

module _ (bytes all : List ℕ) (heads : List Head) (key : Part) (at n front ts : ℕ) (kind : Kindly) (known : key.from + key.len ≤ length bytes) (inside : are_inside (length bytes) heads ≡ true) (told : AreTold bytes heads) (next : IsToldNext bytes heads key)
    (within : front ≤ length all) (size : n ≡ length all - front) (is : at ≡ length (bytes ++ all) - n) where
  abbrev head : Head
  head = record { key = key; cells = record { from = at; len = n }; ts = ts; kind = kind }

  split : (bytes ++ take front all) ++ drop front all ≡ bytes ++ all
  split = append_assoc bytes (take front all) (drop front all) ∙ ap (λ xs. bytes ++ xs) (take-append-drop front all)

  more : length bytes ≤ length (bytes ++ take front all)
  more = omega (arith, length-append bytes (take front all))

  at_is : at ≡ length (bytes ++ take front all)
  at_is = omega (arith, is, size, within, length-append bytes all, length-append bytes (take front all), length-take front all)

  size_is : n ≡ length (drop front all)
  size_is = omega (arith, size, length-drop front all)

  pub placed_added : changes_at (bytes ++ all) (heads ++ (record { key = key; cells = record { from = at; len = n }; ts = ts; kind = kind }) ∷ []) ≡ changes_at bytes heads ++ (record { key = part_of bytes key; ts = ts; change = change_with kind (cells_behind (drop front all)) }) ∷ []
  placed_added =
      ap (λ (bs : List ℕ). changes_at bs (heads ++ head ∷ [])) (sym split)
      ∙ added (bytes ++ take front all) (drop front all) key at n ts kind (omega (arith, known, more)) at_is size_is heads (inside_more bytes (take front all) heads inside)
      ∙ ap (λ (cs : List KeyChange). cs ++ (record { key = part_of (bytes ++ take front all) key; ts = ts; change = change_with kind (cells_behind (drop front all)) }) ∷ []) (kept_more bytes (take front all) heads inside)
      ∙ ap (λ (k : List ℕ). changes_at bytes heads ++ (record { key = k; ts = ts; change = change_with kind (cells_behind (drop front all)) }) ∷ []) (stays bytes (take front all) key known)

  pub placed_inside : are_inside (length (bytes ++ all)) (heads ++ (record { key = key; cells = record { from = at; len = n }; ts = ts; kind = kind }) ∷ []) ≡ true
  placed_inside =
      subst (λ (bs : List ℕ). are_inside (length bs) (heads ++ head ∷ []) ≡ true) split
      (inside_added (bytes ++ take front all) (drop front all) key at n ts kind (omega (arith, known, more)) at_is size_is heads (inside_more bytes (take front all) heads inside))

  pub placed_told : AreTold (bytes ++ all) (heads ++ (record { key = key; cells = record { from = at; len = n }; ts = ts; kind = kind }) ∷ [])
  placed_told = told_added (bytes ++ all) heads head (told_more bytes all heads inside told) (next_more bytes all heads inside key known next)
