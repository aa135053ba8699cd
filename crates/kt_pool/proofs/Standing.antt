-- A place that stands, as cells.
use Rattle.std.proofs.Common.{◌≡◌, ℕ, ◌<◌, ◌≢◌, inl, inr, List, [], length, get_or, refl, sym, ap, ◌∙◌, arith, subst, Some, None, Option}
use Rattle.std.specs.Prelude.{IsSome}
use Rattle.std.specs.Option.{unwrap_or}
use Rattle.std.proofs.lemmas.Bool.{cases_lt, cases_eq, false≢true}
use Rattle.std.proofs.lemmas.List.{get_or_past}
use Rattle.kt_pool.specs.Contents.{Contents, cells_for, at_cell, Stands, bytes_at}
use Rattle.kt_pool.specs.Cells.{nothing, IsChain, len_at, content}
use Rattle.kt_pool.specs.Sound.{places_in, padded, IsSound}
use Rattle.kt_pool.specs.declared.cells.Cell.{Cell}
use Rattle.kt_pool.proofs.Padded.{get_or-padded}
use Rattle.kt_pool.proofs.Views.{length-content, length-places, get_or-places, no_place, some_place, chain_owned}

-- these bytes are placed at this cell
pub record IsStanding (cells : List Cell) (p : ℕ) (bytes : List ℕ) : Type 0 where
  pub inside : p < length cells
  pub has : len_at cells p ≢ nothing
  pub chain : IsChain cells p (cells_for (len_at cells p))
  pub is : bytes ≡ content cells p (len_at cells p)
  pub long : length bytes ≡ len_at cells p

module _ (cells : List Cell) (first free : ℕ) (s : IsSound cells first free) (p : ℕ) where
  at_place : p < length cells → len_at cells p ≢ nothing → get_or (places_in cells) p None ≡ Some (content cells p (len_at cells p))
  at_place inside has = get_or-places cells p inside ∙ some_place cells p has

  by_cells : IsSome (get_or (places_in cells) p None) → IsStanding cells p (unwrap_or (get_or (places_in cells) p None) [])
  by_cells some = elim (cases_lt p (length cells)) [
    | inr past ↦ absurd (false≢true (subst IsSome (get_or_past (places_in cells) p None (let l = length-places cells in omega arith)) some))
    | inl inside ↦ elim (cases_eq (len_at cells p) nothing) [
      | inl none ↦ absurd (false≢true (subst IsSome (get_or-places cells p inside ∙ no_place cells p none) some))
      | inr has ↦
          let e : unwrap_or (get_or (places_in cells) p None) [] ≡ content cells p (len_at cells p) = ap (λ o. unwrap_or o []) (at_place inside has) in
          record {
            inside = inside;
            has = has;
            chain = chain_owned cells first free s p inside has;
            is = e;
            long = ap length e ∙ length-content cells p (len_at cells p);
          }
    ]
  ]

  -- a place that stands has its cells
  pub standing : (blank reserved : ℕ) (pool : Contents) → record { places = padded (places_in cells) blank; reserved = reserved } ≡ pool → Stands pool p → IsStanding cells p (bytes_at pool p)
  standing blank reserved pool e =
      let same : get_or (places_in cells) p None ≡ at_cell pool p = sym (get_or-padded (places_in cells) blank p) ∙ ap (λ (pool : Contents). at_cell pool p) e in
      let P : Option (List ℕ) → Type 0 = λ o. IsSome o → IsStanding cells p (unwrap_or o []) in
      subst P same by_cells

some_bytes : (o : Option (List ℕ)) (at : ℕ) → at < length (unwrap_or o []) → IsSome o
some_bytes None at low = absurd (omega arith)
some_bytes (Some bytes) at low = refl

-- where there is a byte, a place stands
pub stands_there : (pool : Contents) (p at : ℕ) → at < length (bytes_at pool p) → Stands pool p
stands_there pool p at low = some_bytes (at_cell pool p) at low
