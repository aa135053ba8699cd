-- Where no record is above a time, none is taken back.
use Rattle.std.proofs.Common.{◌≡◌, ◌≤◌, ◌+◌, ◌<◌, ℕ, true, false, cond, List, [], ◌∷◌, ◌++◌, length, take, get_or, Option, refl, sym, ap, ◌∙◌, subst, arith}
use Rattle.std.specs.Prelude.{nat_lt, ◌==◌}
use Rattle.std.specs.List.{AllByRecursion}
use Rattle.std.proofs.lemmas.Bool.{le-ltb}
use Rattle.std.proofs.lemmas.List.{take_more}
use Rattle.kt_history.specs.declared.change.Change.{Change}
use Rattle.kt_history.specs.declared.changes.Delta.{Delta}
use Rattle.kt_history.specs.Rows.{Row, apply}
use Rattle.kt_history.specs.Stores.{Steps}
use Rattle.kt_histlaws.specs.Disks.{back}
use Rattle.kt_rowfiles.specs.Files.{records_for, records_in, put_falling, falling}
use Rattle.kt_deltafile.specs.Order.{AreUpTo}
use Rattle.kt_diskrowset.specs.declared.files.FileHeld.{FileHeld}
use Rattle.kt_diskrowset.specs.Files.{lists_of}

-- no record of these files is above a time
abbrev pub AllUpTo : ℕ → List FileHeld → Type 0
AllUpTo t files = AllByRecursion (λ (f : FileHeld). AreUpTo t f.deltas.value.list) files

module _ (t : ℕ) where
  abbrev StepsUpTo : Steps → Type 0
  StepsUpTo steps = AllByRecursion (λ (s : ℕ × Change). s.0 ≤ t) steps

  for_row : (n : ℕ) (list : List Delta) → AreUpTo t list → StepsUpTo (records_for n list)
  for_row n [] h = tt
  for_row n (d ∷ list) h = elim (d.ordinal == n) as (λ b. StepsUpTo (cond b ((d.ts, d.change) ∷ records_for n list) (records_for n list))) [
    | true ↦ (h.0, for_row n list h.1)
    | false ↦ for_row n list h.1
  ]

  joined : (xs ys : Steps) → StepsUpTo xs → StepsUpTo ys → StepsUpTo (xs ++ ys)
  joined [] ys h k = k
  joined (x ∷ xs) ys h k = (h.0, joined xs ys h.1 k)

  in_files : (n : ℕ) (files : List FileHeld) → AllUpTo t files → StepsUpTo (records_in n (lists_of files))
  in_files n [] h = tt
  in_files n (f ∷ files) h = joined (records_for n f.deltas.value.list) (records_in n (lists_of files)) (for_row n f.deltas.value.list h.0) (in_files n files h.1)

  put : (c : ℕ × Change) (steps : Steps) → c.0 ≤ t → StepsUpTo steps → StepsUpTo (put_falling c steps)
  put c [] le h = (le, tt)
  put c (d ∷ steps) le h = elim (nat_lt c.0 d.0) as (λ b. StepsUpTo (cond b (d ∷ put_falling c steps) (c ∷ d ∷ steps))) [
    | true ↦ (h.0, put c steps le h.1)
    | false ↦ (le, h)
  ]

  fall : (steps : Steps) → StepsUpTo steps → StepsUpTo (falling steps)
  fall [] h = tt
  fall (c ∷ steps) h = put c (falling steps) h.0 (fall steps h.1)

  still : (steps : Steps) (row : Option Row) → StepsUpTo steps → back t steps row ≡ row
  still [] row h = refl
  still (u ∷ steps) row h = ap (λ b. back t steps (cond b (apply u.1 row) row)) (le-ltb t u.0 h.0) ∙ still steps row h.1

  pub none_taken : (n : ℕ) (files : List FileHeld) (row : Option Row) → AllUpTo t files → back t (falling (records_in n (lists_of files))) row ≡ row
  none_taken n files row h = still (falling (records_in n (lists_of files))) row (fall (records_in n (lists_of files)) (in_files n files h))

  later : (s : ℕ) (list : List Delta) → s ≤ t → AreUpTo s list → AreUpTo t list
  later s [] le h = tt
  later s (d ∷ list) le h = ((let at = h.0 in omega arith), later s list le h.1)

  pushed : (files : List FileHeld) (f : FileHeld) → AllUpTo t files → AreUpTo t f.deltas.value.list → AllUpTo t (files ++ f ∷ [])
  pushed [] f h k = (k, tt)
  pushed (x ∷ files) f h k = (h.0, pushed files f h.1 k)

  -- the files up to one more
  pub one_more : (s i : ℕ) (files : List FileHeld) (f : FileHeld) → i < length files → f ≡ get_or files i f → s ≤ t → AreUpTo s f.deltas.value.list → AllUpTo t (take i files) → AllUpTo t (take (i + 1) files)
  one_more s i files f lt is le at h =
      subst (AllUpTo t) (sym (take_more files i f lt)) (subst (λ (x : FileHeld). AllUpTo t (take i files ++ x ∷ [])) is (pushed (take i files) f h (later s f.deltas.value.list le at)))
