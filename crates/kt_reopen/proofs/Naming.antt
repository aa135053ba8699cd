-- The names that opened stores get make just their places needed.
use Rattle.std.proofs.Common.{◌≡◌, ◌<◌, ℕ, List, [], ◌∷◌, map, Option, Some, None, Ok, refl, ap, ◌∙◌, subst, cond, true, false, Bool, arith}
use Rattle.std.specs.Prelude.{◌==◌, unwrap_or}
use Rattle.std.proofs.lemmas.Bool.{lt-ltb}
use Rattle.std.proofs.lemmas.Bool.Decides.{nat_tests}
use Rattle.kt_history.specs.declared.change.Change.{Change}
use Rattle.kt_history.specs.declared.operation.RowOp.{RowOp}
use Rattle.kt_history.specs.declared.target.Target.{Target}
use Rattle.kt_history.specs.Rows.{Row}
use Rattle.kt_history.specs.Operations.{effect}
use Rattle.kt_history.specs.Stores.{push}
use Rattle.kt_records.specs.declared.entry.Entry.{Entry}
use Rattle.kt_rowfiles.specs.Files.{DiskRowset}
use Rattle.kt_content.specs.Places.{Super, Place, memory, disk, same_place, Held, Moves, at_first, in_files, last_dms_of, newer, needs, and_place, needed_in, row_before, standing, or_live, live_in, places_of, joined_in, moved}
use Rattle.kt_content.specs.KeyOps.{KeyOp, decided, to_live, to_place, played, if_fits}
use Rattle.kt_reopen.specs.Numbers.{mem_number, dms_under, name_of}

-- each store that is there has a name that makes its place needed
abbrev pub AllNamed : Super → (Place → Target) → Held → Type 0
AllNamed super name [] = Unit {0}
AllNamed super name (h ∷ held) = (needs super (name h.0) ≡ Some h.0) × AllNamed super name held

-- ---- in the files

-- each of these rowsets is among all
abbrev HasLast : List DiskRowset → List DiskRowset → Type 0
HasLast all [] = Unit {0}
HasLast all (d ∷ rowsets) = ((last : ℕ) × (last_dms_of d.rowset all ≡ Some last)) × HasLast all rowsets

one_more : (x : DiskRowset) (all rowsets : List DiskRowset) → HasLast all rowsets → HasLast (x ∷ all) rowsets
one_more x all [] h = tt
one_more x all (d ∷ rowsets) h = (by (x.rowset == d.rowset) h.0, one_more x all rowsets h.1)
  where
    by : (b : Bool) → ((last : ℕ) × (last_dms_of d.rowset all ≡ Some last)) → (last : ℕ) × (cond b (Some x.last_dms) (last_dms_of d.rowset all) ≡ Some last)
    by true h = (x.last_dms, refl)
    by false h = h

same_number : (n : ℕ) → (n == n) ≡ true
same_number n = grind (arith, nat_tests)

all_have : (rowsets : List DiskRowset) → HasLast rowsets rowsets
all_have [] = tt
all_have (d ∷ rowsets) = (
  (d.last_dms, ap (λ b. cond b (Some d.last_dms) (last_dms_of d.rowset rowsets)) (same_number d.rowset)),
  one_more d rowsets rowsets (all_have rowsets),
)

module _ (super : Super) (records : List Entry) where
  pub memory_needed : needs super (name_of super records memory) ≡ Some memory
  memory_needed =
      let up : super.last_mem < mem_number super.last_mem records = omega arith in
      ap (λ b. cond b (Some memory) None) (lt-ltb super.last_mem (mem_number super.last_mem records) up)

  disk_needed : (r last : ℕ) → last_dms_of r super.rowsets ≡ Some last → needs super (name_of super records (disk r)) ≡ Some (disk r)
  disk_needed r last e =
      let n = dms_under super records r in
      let is : unwrap_or (last_dms_of r super.rowsets) 0 ≡ last = ap (λ o. unwrap_or o 0) e in
      let up : last < n = omega arith in
      ap (newer (disk r) n) e ∙ ap (λ b. cond b (Some (disk r)) None) (lt-ltb last n up)

  files_named : (q : List ℕ) (rowsets : List DiskRowset) → HasLast super.rowsets rowsets → AllNamed super (name_of super records) (in_files q rowsets)
  files_named q [] h = tt
  files_named q (d ∷ rowsets) h = (disk_needed d.rowset h.0.0 h.0.1, files_named q rowsets h.1)

  pub first_named : (q : List ℕ) → AllNamed super (name_of super records) (at_first q super)
  first_named q = (memory_needed, files_named q super.rowsets (all_have super.rowsets))

-- ---- while a log is played

abbrev place_found : Option (Place × Row) → Option Place
place_found None = None
place_found (Some a) = Some a.0

module _ (super : Super) (name : Place → Target) where
  named-joined : (p : Place) (ts : ℕ) (c : Change) (held : Held) → AllNamed super name held → AllNamed super name (joined_in p ts c held)
  named-joined p ts c [] h = tt
  named-joined p ts c (x ∷ held) h = elim (same_place p x.0) as (λ b. AllNamed super name (cond b ((x.0, push ts c x.1) ∷ held) (x ∷ joined_in p ts c held))) [
    | true ↦ h
    | false ↦ (h.0, named-joined p ts c held h.1)
  ]

  named-moved : (ts : ℕ) (ms : Moves) (held : Held) → AllNamed super name held → AllNamed super name (moved ts ms held)
  named-moved ts [] held h = h
  named-moved ts (m ∷ ms) held h = named-moved ts ms (joined_in m.0 ts m.1 held) (named-joined m.0 ts m.1 held h)

  pub named_played : (fill : Row) (held final : Held) (xs : List KeyOp) → AllNamed super name held → played fill super held xs ≡ Ok final → AllNamed super name final
  named_played fill held final [] h e = let same : held ≡ final = cc in subst (AllNamed super name) same h
  named_played fill held final (x ∷ xs) h e = elim (decided fill super (standing x.ts held) x.op x.told) as (λ o. if_fits x.ts (λ moves. played fill super (moved x.ts moves held) xs) o ≡ Ok final → AllNamed super name final) [
    | None ↦ λ e. absurd (cc)
    | Some m ↦ λ e. named_played fill (moved x.ts m held) final xs (named-moved x.ts m held h) e
  ] e

  live_named : (ts : ℕ) (held : Held) (at : Place × Row) → AllNamed super name held → live_in (standing ts held) ≡ Some at → needs super (name at.0) ≡ Some at.0
  live_named ts [] at h e = absurd (let f : None ≡ Some at = e in cc)
  live_named ts (x ∷ held) at h e = by (row_before ts x.1) e (λ f. live_named ts held at h.1 f)
    where
      by : (o : Option Row) → or_live x.0 o (live_in (standing ts held)) ≡ Some at → (live_in (standing ts held) ≡ Some at → needs super (name at.0) ≡ Some at.0) → needs super (name at.0) ≡ Some at.0
      by None f more = more f
      by (Some row) f more =
          let first : Some x.0 ≡ Some at.0 = ap place_found f in
          let same : x.0 ≡ at.0 = cc in
          subst (λ (p : Place). needs super (name p) ≡ Some p) same h.0

  one_needed : (p : Place) → needs super (name p) ≡ Some p → needed_in super (name p ∷ []) ≡ p ∷ []
  one_needed p e = ap (λ o. and_place o []) e

  moves_named : (p : Place) (c : Option Change) → needs super (name p) ≡ Some p → needed_in super (map name (places_of (to_place p c))) ≡ places_of (to_place p c)
  moves_named p None e = refl
  moves_named p (Some c) e = one_needed p e

  -- the names of the stores that an operation changes make just these needed
  pub live_needed : (fill : Row) (op : RowOp) (ts : ℕ) (held : Held) → needs super (name memory) ≡ Some memory → AllNamed super name held
      → needed_in super (map name (places_of (to_live fill op (live_in (standing ts held))))) ≡ places_of (to_live fill op (live_in (standing ts held)))
  live_needed fill op ts held mem h = by (live_in (standing ts held)) refl
    where
      by : (o : Option (Place × Row)) → live_in (standing ts held) ≡ o → needed_in super (map name (places_of (to_live fill op o))) ≡ places_of (to_live fill op o)
      by None e = moves_named memory (effect fill op.kind op.cells None).0 mem
      by (Some at) e = moves_named at.0 (effect fill op.kind op.cells (Some at.1)).0 (live_named ts held at h e)
