-- Rowsets and their files as parts of the format.
use Rattle.std.proofs.Common.{◌≡◌, ℕ, zero, suc, ◌+◌, ◌^◌, ◌<◌, ◌≤◌, Bool, true, false, not, ◌&&◌, eqb, leb, ltb, List, [], ◌∷◌, ◌++◌, length, refl, sym, ap, subst, ◌∙◌, append_assoc, arith, length-append}
use Rattle.std.specs.List.{flat_map}
use Rattle.std.specs.Int.{w32, w64, to_le_bytes}
use Rattle.std.proofs.lemmas.Bool.{ltb-true, lt-ltb, leb-true, le-leb, ne_eqb}
use Rattle.std.proofs.lemmas.List.{append-nil, length_push, length-map, map_push}
use Rattle.kt_bytes.specs.Reading.{checked_at, many_at, EachAfter}
use Rattle.kt_bytes.proofs.Numbers.{wide32, wide64}
use Rattle.kt_bytes.proofs.Formats.{Part}
use Rattle.kt_bytes.proofs.Leaves.{Passes, number_fields, number_part}
use Rattle.kt_bytes.proofs.Joins.{both_part, same_part, made_at, made_part, AreItems, many_part}
use Rattle.kt_super.specs.declared.meta.FileRef.{FileRef}
use Rattle.kt_super.specs.Rowsets.{is_small, has, numbers_of, is_free, IsFile, AreFiles, free_numbers, has_room, file_at, next_file_at, counted_files_at}
use Rattle.kt_super.specs.Fields.{file_fields, files_fields}
use Rattle.kt_super.proofs.Apart.{taken, Apart, none_apart, push_apart, few_apart, free_number}
use Rattle.kt_super.proofs.Names.{neither}
use Rattle.kt_super.proofs.ColumnParts.{both, and_true}

pub small_below : (n : ℕ) → is_small n ≡ true → n < 2 ^ 64
small_below n e = omega (arith, ltb-true n (2 ^ 62) e)

pub small_part : Part (checked_at w64 is_small) (number_fields w64) (Passes is_small (2 ^ 64))
small_part = number_part w64 (2 ^ 64) wide64 is_small (omega arith) 0 refl (omega arith)

-- ---- numbers of files

abbrev own : ℕ → ℕ
own n = n

-- the numbers below 3 are those of the slots, and of no file
abbrev with_slots : List ℕ → List ℕ
with_slots taken = 0 ∷ 1 ∷ 2 ∷ taken

-- numbers of files that differ and are below the next one
abbrev pub Files : ℕ → List ℕ → Type 0
Files next taken = Apart own next (with_slots taken)

not_slot : (n : ℕ) → 3 ≤ n → (taken : List ℕ) → has taken n ≡ false → has (with_slots taken) n ≡ false
not_slot n least taken free = rw (ne_eqb 0 n (λ e. omega (arith, e, least)), ne_eqb 1 n (λ e. omega (arith, e, least)), ne_eqb 2 n (λ e. omega (arith, e, least))) free

not_true : (b : Bool) → not b ≡ true → b ≡ false
not_true true e = absurd cc
not_true false e = refl

pub files_push : (next : ℕ) (taken : List ℕ) (n : ℕ) → Files next taken → is_free next taken n ≡ true → Files next (taken ++ n ∷ [])
files_push next taken n a free =
    let p = both (leb 3 n && ltb n next) (not (has taken n)) free in
    let q = both (leb 3 n) (ltb n next) p.0 in
    push_apart own next (with_slots taken) n a (ltb-true n next q.1) (not_slot n (leb-true 3 n q.0) taken (not_true (has taken n) p.1))

pub files_few : (next : ℕ) (taken : List ℕ) → Files next taken → length taken + 3 ≤ next
files_few next taken a = omega (arith, few_apart own next (with_slots taken) a)

-- three numbers are those of the slots
pub files_none : (next : ℕ) → 3 ≤ next → Files next []
files_none next least =
    push_apart own next (0 ∷ 1 ∷ []) 2 (push_apart own next (0 ∷ []) 1 (push_apart own next [] 0 (none_apart own next) (omega (arith, least)) refl) (omega (arith, least)) refl) (omega (arith, least)) refl

no_slot : (taken : List ℕ) (n : ℕ) → has (with_slots taken) n ≡ false → (3 ≤ n) × (has taken n ≡ false)
no_slot taken zero e = absurd cc
no_slot taken (suc zero) e = absurd cc
no_slot taken (suc (suc zero)) e = absurd cc
no_slot taken (suc (suc (suc n))) e =
    let two = (neither (eqb 0 (suc (suc (suc n)))) _ e).1 in
    let one = (neither (eqb 1 (suc (suc (suc n)))) _ two).1 in
    (omega arith, (neither (eqb 2 (suc (suc (suc n)))) _ one).1)

-- while there are fewer, a number is free
pub some_file : (next : ℕ) (taken : List ℕ) → length taken + 3 < next → (n : ℕ) × (is_free next taken n ≡ true) × (n < next)
some_file next taken lt =
    let p = free_number own next (with_slots taken) (omega (arith, lt)) in
    let q = no_slot taken p.0 p.2 in
    (p.0, and_true (leb 3 p.0 && ltb p.0 next) (not (has taken p.0)) (and_true (leb 3 p.0) (ltb p.0 next) (le-leb 3 p.0 q.0) (lt-ltb p.0 next p.1)) (ap not q.1), p.1)

-- files that differ leave the numbers of files different
pub files_all : (next : ℕ) (taken : List ℕ) (files : List FileRef) → Files next taken → AreFiles next taken files → Files next (taken ++ numbers_of files)
files_all next taken [] a are = subst (Files next) (sym (append-nil taken)) a
files_all next taken (f ∷ files) a are = subst (Files next) (append_assoc taken (f.file ∷ []) (numbers_of files)) (files_all next (taken ++ f.file ∷ []) files (files_push next taken f.file a are.0.0) are.1)

-- ---- a file

module _ (next : ℕ) (fits : next < 2 ^ 62) where
  abbrev file : ℕ → ℕ → FileRef
  file number len = record { file = number; len = len }

  abbrev Numbers : List ℕ → ℕ → Type 0
  Numbers taken = Passes (is_free next taken) (2 ^ 64)

  abbrev Sized : ℕ → FileRef → Type 0
  Sized number f = Passes is_small (2 ^ 64) f.len × (file number f.len ≡ f)

  pub file_part : (taken : List ℕ) → length taken + 3 < next → Part (file_at next taken) file_fields (IsFile next taken)
  unfolding file_at
  file_part taken room =
      let some = some_file next taken room in
      same_part (file_at next taken) file_fields file_fields (λ f. Numbers taken f.file × Sized f.file f) (IsFile next taken) (λ f g. (g.0.0, g.1.0.0)) from (λ f g. refl)
      (both_part (checked_at w64 (is_free next taken)) (number_fields w64) (Numbers taken) (λ number. made_at (checked_at w64 is_small) (file number)) (λ f. to_le_bytes w64 f.len ∷ []) Sized (λ f. f.file) (λ number f g. sym (ap (λ (x : FileRef). x.file) g.1))
      (number_part w64 (2 ^ 64) wide64 (is_free next taken) (omega arith) some.0 some.1 (omega (arith, some.2, fits)))
      (λ number g. made_part (checked_at w64 is_small) (number_fields w64) (Passes is_small (2 ^ 64)) (file number) (λ f. f.len) (λ len h. refl) small_part))
    where
      from : (f : FileRef) → IsFile next taken f → Numbers taken f.file × Sized f.file f
      from f g =
          let low = ltb-true f.file next (both (leb 3 f.file) (ltb f.file next) (both (leb 3 f.file && ltb f.file next) (not (has taken f.file)) g.0).0).1 in
          ((g.0, omega (arith, low, fits)), ((g.1, small_below f.len g.1), refl))

  -- ---- files

  abbrev Keeps : List ℕ → List FileRef → FileRef → Type 0
  Keeps taken front f = IsFile next (taken ++ numbers_of front) f

  -- so many more files have numbers
  pub record Left (taken : List ℕ) (k : ℕ) (front : List FileRef) : Type 0 where
    pub room : length taken + length front + k + 3 ≤ next
    pub apart : Files next (taken ++ numbers_of front)

  one_more : (taken : List ℕ) (front : List FileRef) (f : FileRef) → (taken ++ numbers_of front) ++ f.file ∷ [] ≡ taken ++ numbers_of (front ++ f ∷ [])
  one_more taken front f = append_assoc taken (numbers_of front) (f.file ∷ []) ∙ ap (λ (l : List ℕ). taken ++ l) (sym (map_push (λ (x : FileRef). x.file) front f))

  left_next : (taken : List ℕ) (k : ℕ) (front : List FileRef) (f : FileRef) → Left taken (suc k) front → Keeps taken front f → Left taken k (front ++ f ∷ [])
  left_next taken k front f left g = record {
    room = omega (arith, left.room, length_push front f);
    apart = subst (Files next) (one_more taken front f) (files_push next (taken ++ numbers_of front) f.file left.apart g.0);
  }

  room_for_one : (taken : List ℕ) (k : ℕ) (front : List FileRef) → Left taken (suc k) front → length (taken ++ numbers_of front) + 3 < next
  room_for_one taken k front left = omega (arith, left.room, length-append taken (numbers_of front), length-map front (λ (f : FileRef). f.file))

  each_are : (taken : List ℕ) (front files : List FileRef) → EachAfter (Keeps taken) front files → AreFiles next (taken ++ numbers_of front) files
  each_are taken front [] each = tt
  each_are taken front (f ∷ files) each = (each.0, subst (λ (t : List ℕ). AreFiles next t files) (sym (one_more taken front f)) (each_are taken (front ++ f ∷ []) files each.1))

  are_each : (taken : List ℕ) (front files : List FileRef) → AreFiles next (taken ++ numbers_of front) files → EachAfter (Keeps taken) front files
  are_each taken front [] are = tt
  are_each taken front (f ∷ files) are = (are.0, are_each taken (front ++ f ∷ []) files (subst (λ (t : List ℕ). AreFiles next t files) (one_more taken front f) are.1))

  abbrev Listed : List ℕ → ℕ → List FileRef → Type 0
  Listed taken n files = AreItems (next_file_at next taken) file_fields (Keeps taken) (Left taken) n [] files

  files_part : (taken : List ℕ) (n : ℕ) → length taken + n + 3 ≤ next → Files next taken → Part (many_at (next_file_at next taken) n []) (flat_map file_fields) (Listed taken n)
  files_part taken n room apart =
      many_part (next_file_at next taken) file_fields (Keeps taken) (Left taken) (λ k front left. file_part (taken ++ numbers_of front) (room_for_one taken k front left)) (left_next taken) n
      (record { room = omega (arith, room); apart = subst (Files next) (sym (append-nil taken)) apart })

  -- files that differ, with numbers for so many more, and a count that can be said
  pub record FilesFit (taken : List ℕ) (behind : ℕ) (files : List FileRef) : Type 0 where
    pub room : length taken + length files + behind + 3 ≤ next
    pub count : length files < 2 ^ 32
    pub are : AreFiles next taken files

  pub counted_files_part : (taken : List ℕ) (behind : ℕ) → length taken + behind + 3 ≤ next → Files next taken → Part (counted_files_at next taken behind) files_fields (FilesFit taken behind)
  unfolding counted_files_at
  counted_files_part taken behind room apart =
      same_part (counted_files_at next taken behind) files_fields files_fields (λ files. Counts (length files) × Listed taken (length files) files) (FilesFit taken behind) to from (λ files f. refl)
      (both_part (checked_at w32 (has_room next taken behind)) (number_fields w32) Counts (λ n. many_at (next_file_at next taken) n []) (flat_map file_fields) (Listed taken) length (λ n files f. f.0)
      (number_part w32 (2 ^ 32) wide32 (has_room next taken behind) (omega arith) 0 (le-leb (0 + behind) (free_numbers next taken) (omega (arith, room))) (omega arith))
      (λ n f. files_part taken n (omega (arith, room, leb-true (n + behind) (free_numbers next taken) f.0)) apart))
    where
      Counts : ℕ → Type 0
      Counts = Passes (has_room next taken behind) (2 ^ 32)

      to : (files : List FileRef) → Counts (length files) × Listed taken (length files) files → FilesFit taken behind files
      to files f = record {
        room = omega (arith, room, leb-true (length files + behind) (free_numbers next taken) f.0.0);
        count = f.0.1;
        are = subst (λ (t : List ℕ). AreFiles next t files) (append-nil taken) (each_are taken [] files f.1.1);
      }

      from : (files : List FileRef) → FilesFit taken behind files → Counts (length files) × Listed taken (length files) files
      from files f = ((le-leb (length files + behind) (free_numbers next taken) (omega (arith, f.room)), f.count), (refl, are_each taken [] files (subst (λ (t : List ℕ). AreFiles next t files) (sym (append-nil taken)) f.are)))
