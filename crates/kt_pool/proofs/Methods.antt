-- What the calls of a pool leave, in the words of their contracts.
use Rattle.std.proofs.Common.{◌≡◌, ℕ, ◌+◌, ◌-◌, ◌<◌, ◌≤◌, ◌*◌, ◌≢◌, List, [], ◌++◌, length, take, drop, set, get_or, refl, sym, ap, ◌∙◌, arith, subst, Some, None, Option}
use Rattle.std.proofs.lemmas.List.{take_at, set-get_or, append-nil, take-append-drop, nil_from_length}
use Rattle.std.proofs.lemmas.Bool.{false≢true}
use Rattle.std.specs.Prelude.{IsSome}
use Rattle.std.specs.Option.{unwrap_or}
use Rattle.kt_pool.specs.Contents.{Contents, cells_for, at_cell, Stands, bytes_at, with_place, overwritten}
use Rattle.kt_pool.specs.Cells.{KeepsChains, IsChain, Fills, Frees, walk, len_at, load_at, byte_at, written}
use Rattle.kt_pool.specs.Sound.{places_in, padded, IsSound}
use Rattle.kt_pool.specs.declared.cells.Cell.{Cell}
use Rattle.kt_pool.proofs.Padded.{length-padded, get_or-padded, set-padded}
use Rattle.kt_pool.proofs.Views.{length-places}
use Rattle.kt_pool.proofs.Standing.{IsStanding, standing}
use Rattle.kt_pool.proofs.Changes.{placed_sound, placed_places, vacant, first_inside, freed_sound, freed_places, set_sound, set_places}

-- what a list holds after all of it was lent and came back
pub lent_all : (new items : List Cell) (n : ℕ) → length new ≡ length items → n ≡ length items → take n (new ++ drop (length new) items) ≡ new
lent_all new items n e l = take_at new (drop (length new) items) n (e ∙ sym l)

module _ (items : List Cell) (n first free size reserved : ℕ) (s : IsSound items first free) (long : n ≡ length items) (pool : Contents) (e : record { places = padded (places_in items) (size - length items); reserved = reserved } ≡ pool) (lent : List Cell) (value : lent ≡ items) (new : List Cell) where
  abbrev pub back : List Cell
  back = take n (new ++ drop (length new) items)

  pub reserved_is : reserved ≡ pool.reserved
  reserved_is = ap (λ (p : Contents). p.reserved) e

  at_is : (p : ℕ) → get_or (places_in items) p None ≡ at_cell pool p
  at_is p = sym (get_or-padded (places_in items) (size - length items) p) ∙ ap (λ (pool : Contents). at_cell pool p) e

  pub back_length : length new ≡ length items → length back ≡ length items
  back_length count = ap length (lent_all new items n count long) ∙ count

  seen : (o : Option (List ℕ)) (p r r' : ℕ) → length new ≡ length items → p < length items → places_in new ≡ set (places_in items) p o → r ≡ r' → record { places = padded (places_in back) (size - length back); reserved = r } ≡ with_place pool p o r'
  seen o p r r' count inside places same =
      let W : List (Option (List ℕ)) → ℕ → Contents = λ ps r. record { places = ps; reserved = r } in
      let pad : List Cell → List (Option (List ℕ)) = λ xs. padded (places_in xs) (size - length xs) in
      let within : p < length (places_in items) = let l = length-places items in omega arith in
      ap (λ xs. W (pad xs) r) (lent_all new items n count long)
      ∙ ap (λ k. W (padded (places_in new) (size - k)) r) count
      ∙ ap (λ ps. W (padded ps (size - length items)) r) places
      ∙ ap (λ ps. W ps r) (sym (set-padded (places_in items) (size - length items) p o within))
      ∙ ap (λ (q : Contents). W (set q.places p o) r) e
      ∙ ap (λ r. W (set pool.places p o) r) same

  sound_back : (p f : ℕ) → length new ≡ length items → IsSound new p f → IsSound back p f
  sound_back p f count t = let P : List Cell → Type 0 = λ xs. IsSound xs p f in subst P (sym (lent_all new items n count long)) t

  -- ---- give_back

  module _ (p taken : ℕ) (stands : Stands pool p) (count : taken ≡ cells_for (len_at lent p)) (fr : Frees lent new p first) where
    frees : Frees items new p first
    frees = let P : List Cell → Type 0 = λ xs. Frees xs new p first in subst P value fr

    st : IsStanding items p (bytes_at pool p)
    st = standing items first free s p (size - length items) reserved pool e stands

    taken_is : taken ≡ cells_for (len_at items p)
    taken_is = count ∙ ap (λ xs. cells_for (len_at xs p)) value

    pub given_sound : IsSound back p (free + taken)
    given_sound = sound_back p (free + taken) frees.count (let P : ℕ → Type 0 = λ t. IsSound new p (free + t) in subst P (sym taken_is) (freed_sound items new first free s p (bytes_at pool p) st frees))

    pub given_fits : free + taken ≤ length items
    given_fits = let t = freed_sound items new first free s p (bytes_at pool p) st frees in let k = taken_is in let a = t.counted in let c = frees.count in omega arith

    pub given_long : length back ≡ length items
    given_long = back_length frees.count

    pub given_view : record { places = padded (places_in back) (size - length back); reserved = reserved } ≡ with_place pool p None pool.reserved
    given_view = seen None p reserved pool.reserved frees.count st.inside (freed_places items new first free s p (bytes_at pool p) st frees) reserved_is

  -- ---- place

  module _ (bytes : List ℕ) (after taken : ℕ) (enough : cells_for (length bytes) ≤ free) (count : taken ≡ cells_for (length bytes)) (fl : Fills lent new first bytes after) where
    fills : Fills items new first bytes after
    fills = let P : List Cell → Type 0 = λ xs. Fills xs new first bytes after in subst P value fl

    pub placed_all : IsSound back after (free - taken)
    placed_all = sound_back after (free - taken) fills.count (let P : ℕ → Type 0 = λ t. IsSound new after (free - t) in subst P (sym count) (placed_sound items new first free s bytes after fills enough))

    pub placed_long : length back ≡ length items
    placed_long = back_length fills.count

    pub placed_view : record { places = padded (places_in back) (size - length back); reserved = reserved - taken } ≡ with_place pool first (Some bytes) (pool.reserved - cells_for (length bytes))
    placed_view = seen (Some bytes) first (reserved - taken) (pool.reserved - cells_for (length bytes)) fills.count (first_inside items new first free s bytes after fills enough) (placed_places items new first free s bytes after fills enough) (let r = reserved_is in omega arith)

    pub placed_vacant : at_cell pool first ≡ None
    placed_vacant = sym (at_is first) ∙ vacant items new first free s bytes after fills enough

    pub placed_inside : first < length pool.places
    placed_inside = let i = first_inside items new first free s bytes after fills enough in let l = length-places items in let m = length-padded (places_in items) (size - length items) in let k = ap (λ (p : Contents). length p.places) e in omega arith

  -- ---- set

  module _ (p at : ℕ) (bytes : List ℕ) (stands : Stands pool p) (fits : at + length bytes ≤ length (bytes_at pool p)) (kept : KeepsChains lent new) (done : (m i : ℕ) → IsChain lent p m → i < 56 * m → byte_at new p i ≡ written at bytes (byte_at lent p) i) (frame : (k : ℕ) → ((j : ℕ) → j < cells_for (at + length bytes) → walk lent p j ≢ k) → load_at new k ≡ load_at lent k) where
    kept_items : KeepsChains items new
    kept_items = let P : List Cell → Type 0 = λ xs. KeepsChains xs new in subst P value kept

    done_items : (m i : ℕ) → IsChain items p m → i < 56 * m → byte_at new p i ≡ written at bytes (byte_at items p) i
    done_items = let P : List Cell → Type 0 = λ xs. (m i : ℕ) → IsChain xs p m → i < 56 * m → byte_at new p i ≡ written at bytes (byte_at xs p) i in subst P value done

    frame_items : (k : ℕ) → ((j : ℕ) → j < cells_for (at + length bytes) → walk items p j ≢ k) → load_at new k ≡ load_at items k
    frame_items = let P : List Cell → Type 0 = λ xs. (k : ℕ) → ((j : ℕ) → j < cells_for (at + length bytes) → walk xs p j ≢ k) → load_at new k ≡ load_at xs k in subst P value frame

    over : IsStanding items p (bytes_at pool p)
    over = standing items first free s p (size - length items) reserved pool e stands

    pub over_sound : IsSound back first free
    over_sound = sound_back first free kept_items.count (set_sound items new first free s p (bytes_at pool p) over at bytes fits kept_items done_items frame_items)

    pub over_long : length back ≡ length items
    over_long = back_length kept_items.count

    pub over_view : record { places = padded (places_in back) (size - length back); reserved = reserved } ≡ with_place pool p (Some (overwritten at bytes (bytes_at pool p))) pool.reserved
    over_view = seen (Some (overwritten at bytes (bytes_at pool p))) p reserved pool.reserved kept_items.count over.inside (set_places items new first free s p (bytes_at pool p) over at bytes fits kept_items done_items frame_items) reserved_is

abbrev with_places : List (Option (List ℕ)) → ℕ → Contents
with_places ps r = record { places = ps; reserved = r }

none_written : (at : ℕ) (bytes old : List ℕ) → bytes ≡ [] → overwritten at bytes old ≡ old
none_written at bytes old e =
    ap (λ xs. overwritten at xs old) e ∙ ap (λ xs. xs ++ drop (at + 0) old) (append-nil (take at old)) ∙ ap (λ n. take at old ++ drop n old) (omega arith) ∙ take-append-drop at old

some_again : (o : Option (List ℕ)) → IsSome o → Some (unwrap_or o []) ≡ o
some_again None h = absurd (false≢true h)
some_again (Some x) h = refl

-- a write of no bytes leaves the pool
pub nothing_written : (pool : Contents) (p at : ℕ) (bytes : List ℕ) → Stands pool p → length bytes ≡ 0 → pool ≡ with_place pool p (Some (overwritten at bytes (bytes_at pool p))) pool.reserved
nothing_written pool p at bytes stands none =
    sym (ap (λ xs. with_place pool p (Some xs) pool.reserved) (none_written at bytes (bytes_at pool p) (nil_from_length bytes none)) ∙ ap (λ o. with_place pool p o pool.reserved) (some_again (at_cell pool p) stands) ∙ ap (λ ps. with_places ps pool.reserved) (set-get_or pool.places p None))
