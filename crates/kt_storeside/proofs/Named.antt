-- The numbers of the data files that a superblock names lie between those of the slots and its next one.
use Rattle.std.proofs.Common.{◌≡◌, ℕ, ◌≤◌, ◌<◌, Bool, true, false, ◌||◌, eqb, leb, ltb, ◌&&◌, ◌+◌, List, [], ◌∷◌, ◌++◌, refl, sym, subst, ◌∙◌, inl, inr}
use Rattle.std.specs.Prelude.{◌⊎◌, not}
use Rattle.std.proofs.lemmas.Bool.{eqb-true, leb-true, ltb-true}
use Rattle.std.proofs.lemmas.List.Folds.{list_any-append}
use Rattle.kt_base.proofs.Values.{both_true}
use Rattle.kt_super.specs.declared.meta.FileRef.{FileRef}
use Rattle.kt_super.specs.declared.meta.MetaRowset.{MetaRowset}
use Rattle.kt_super.specs.declared.meta.Meta.{Meta}
use Rattle.kt_super.specs.Body.{IsMeta}
use Rattle.kt_super.specs.Rowsets.{has, numbers_of, IsFile, AreFiles, IsRowset, taken_by, AreRowsets}
use Rattle.kt_files.specs.Named.{named_by, named_in}
use Rattle.kt_storeside.specs.Supers.{named}

pub record Between (next n : ℕ) : Type 0 where
  pub least : 3 ≤ n
  pub below : n < next

or_true : (a b : Bool) → (a || b) ≡ true → (a ≡ true) ⊎ (b ≡ true)
or_true true b e = inl refl
or_true false b e = inr e

has_either : (xs ys : List ℕ) (n : ℕ) → has (xs ++ ys) n ≡ true → (has xs n ≡ true) ⊎ (has ys n ≡ true)
has_either xs ys n e = or_true (has xs n) (has ys n) (sym (list_any-append (λ k. eqb k n) xs ys) ∙ e)

first_two : (a b c : Bool) → (a && b && c) ≡ true → (a ≡ true) × (b ≡ true)
first_two true true true e = (refl, refl)
first_two true true false e = absurd cc
first_two true false c e = absurd cc
first_two false b c e = absurd cc

file_between : (next : ℕ) (taken : List ℕ) (f : FileRef) (n : ℕ) → IsFile next taken f → eqb f.file n ≡ true → Between next n
file_between next taken f n is e =
    let two = first_two (leb 3 f.file) (ltb f.file next) (not (has taken f.file)) is.0 in
    subst (Between next) (eqb-true f.file n e) (record { least = leb-true 3 f.file two.0; below = ltb-true f.file next two.1 })

files_between : (next : ℕ) (taken : List ℕ) (files : List FileRef) (n : ℕ) → AreFiles next taken files → has (numbers_of files) n ≡ true → Between next n
files_between next taken [] n are e = absurd cc
files_between next taken (f ∷ files) n are e = elim (or_true (eqb f.file n) (has (numbers_of files) n) e) [
  | inl here ↦ file_between next taken f n are.0 here
  | inr behind ↦ files_between next (taken ++ f.file ∷ []) files n are.1 behind
]

rowset_between : (next_rowset next least : ℕ) (taken : List ℕ) (r : MetaRowset) (n : ℕ) → IsRowset next_rowset next least taken r → has (named_by r) n ≡ true → Between next n
rowset_between next_rowset next least taken r n is e = elim (or_true (eqb r.base.file n) (has (numbers_of r.undo ++ numbers_of r.redo) n) e) [
  | inl base ↦ file_between next taken r.base n is.base base
  | inr behind ↦ elim (has_either (numbers_of r.undo) (numbers_of r.redo) n behind) [
    | inl undo ↦ files_between next (taken ++ r.base.file ∷ []) r.undo n is.undo undo
    | inr redo ↦ files_between next (taken ++ r.base.file ∷ [] ++ numbers_of r.undo) r.redo n is.redo redo
  ]
]

rowsets_between : (next_rowset next least : ℕ) (taken : List ℕ) (rowsets : List MetaRowset) (n : ℕ) → AreRowsets next_rowset next least taken rowsets → has (named_in rowsets) n ≡ true → Between next n
rowsets_between next_rowset next least taken [] n are e = absurd cc
rowsets_between next_rowset next least taken (r ∷ rowsets) n are e = elim (has_either (named_by r) (named_in rowsets) n e) [
  | inl own ↦ rowset_between next_rowset next least taken r n are.0 own
  | inr rest ↦ rowsets_between next_rowset next (r.rowset + 1) (taken_by taken r) rowsets n are.1 rest
]

pub named_between : (m : Meta) (n : ℕ) → IsMeta m → has (named m) n ≡ true → Between m.next_file n
named_between m n rules e = rowsets_between m.next_rowset m.next_file 0 [] m.rowsets n rules.rowsets e

pub first_file : (m : Meta) → IsMeta m → 3 ≤ m.next_file
first_file m rules = leb-true 3 m.next_file (both_true (leb 3 m.next_file) _ rules.next_file).0
