-- The numbers of named files in a set.
use Rattle.std.proofs.Common.{◌≡◌, ◌<◌, ◌+◌, ℕ, List, [], ◌∷◌, ◌++◌, Bool, length, take, get_or, sym, ap, ◌∙◌, append_assoc}
use Rattle.std.specs.Prelude.{◌||◌, ◌==◌}
use Rattle.std.specs.Ordering.{nat_cmp}
use Rattle.std.specs.BTreeSet.{insert_key}
use Rattle.std.proofs.lemmas.List.{take_more, map_push, append-nil}
use Rattle.std.proofs.lemmas.List.Folds.{list_any-append}
use Rattle.kt_super.specs.declared.meta.FileRef.{FileRef}
use Rattle.kt_super.specs.declared.meta.MetaRowset.{MetaRowset}
use Rattle.kt_super.specs.Rowsets.{has, numbers_of, HaveTheSame}
use Rattle.kt_super.proofs.TakenNumbers.{insert_has}
use Rattle.kt_files.specs.Named.{named_by, named_in, is_kept}

has_append : (a b : List ℕ) (n : ℕ) → has (a ++ b) n ≡ (has a n || has b n)
has_append a b n = list_any-append (λ (j : ℕ). j == n) a b

-- the same with more behind
same_append : (a b more : List ℕ) → HaveTheSame a b → HaveTheSame (a ++ more) (b ++ more)
same_append a b more same n = has_append a more n ∙ ap (λ (x : Bool). x || has more n) (same n) ∙ sym (has_append b more n)

-- one file more
pub file_named : (start keys keys1 : List ℕ) (files : List FileRef) (i : ℕ) (d : FileRef) (number : ℕ) → i < length files → (get_or files i d).file ≡ number → HaveTheSame keys (start ++ numbers_of (take i files)) → keys1 ≡ insert_key nat_cmp keys number
    → HaveTheSame keys1 (start ++ numbers_of (take (i + 1) files))
file_named start keys keys1 files i d number lt is so_far added n =
    let front : List ℕ = numbers_of (take i files) in
    let more : numbers_of (take (i + 1) files) ≡ front ++ number ∷ [] =
    ap numbers_of (take_more files i d lt) ∙ map_push (λ (x : FileRef). x.file) (take i files) (get_or files i d) ∙ ap (λ (x : ℕ). front ++ x ∷ []) is in
    ap (λ (l : List ℕ). has l n) added ∙ insert_has keys number n ∙ same_append keys (start ++ front) (number ∷ []) so_far n
    ∙ ap (λ (l : List ℕ). has l n) (append_assoc start front (number ∷ []) ∙ ap (λ (l : List ℕ). start ++ l) (sym more))

-- the files of a rowset
pub rowset_named : (keys keys1 keys2 keys3 undo redo : List ℕ) (base : ℕ) → keys1 ≡ insert_key nat_cmp keys base → HaveTheSame keys2 (keys1 ++ undo) → HaveTheSame keys3 (keys2 ++ redo)
    → HaveTheSame keys3 (keys ++ (base ∷ (undo ++ redo)))
rowset_named keys keys1 keys2 keys3 undo redo base added first second n =
    let with_base : HaveTheSame keys1 (keys ++ base ∷ []) = λ k. ap (λ (l : List ℕ). has l k) added ∙ insert_has keys base k in
    let with_undo : HaveTheSame keys2 ((keys ++ base ∷ []) ++ undo) = λ k. first k ∙ same_append keys1 (keys ++ base ∷ []) undo with_base k in
    let whole : ((keys ++ base ∷ []) ++ undo) ++ redo ≡ keys ++ (base ∷ (undo ++ redo)) = append_assoc (keys ++ base ∷ []) undo redo ∙ append_assoc keys (base ∷ []) (undo ++ redo) in
    second n ∙ same_append keys2 ((keys ++ base ∷ []) ++ undo) redo with_undo n ∙ ap (λ (l : List ℕ). has l n) whole

named_push : (rowsets : List MetaRowset) (r : MetaRowset) → named_in (rowsets ++ r ∷ []) ≡ named_in rowsets ++ named_by r
named_push [] r = append-nil (named_by r)
named_push (x ∷ rowsets) r = ap (λ (l : List ℕ). named_by x ++ l) (named_push rowsets r) ∙ sym (append_assoc (named_by x) (named_in rowsets) (named_by r))

-- one rowset more
pub rowsets_named : (keys keys1 : List ℕ) (rowsets : List MetaRowset) (i : ℕ) (r : MetaRowset) → i < length rowsets → get_or rowsets i r ≡ r → HaveTheSame keys (named_in (take i rowsets)) → HaveTheSame keys1 (keys ++ named_by r)
    → HaveTheSame keys1 (named_in (take (i + 1) rowsets))
rowsets_named keys keys1 rowsets i r lt is so_far added n =
    let more : named_in (take (i + 1) rowsets) ≡ named_in (take i rowsets) ++ named_by r =
    ap named_in (take_more rowsets i r lt) ∙ named_push (take i rowsets) (get_or rowsets i r) ∙ ap (λ (x : MetaRowset). named_in (take i rowsets) ++ named_by x) is in
    added n ∙ same_append keys (named_in (take i rowsets)) (named_by r) so_far n ∙ ap (λ (l : List ℕ). has l n) (sym more)

pub kept_same : (a b : List ℕ) → HaveTheSame a b → (n : ℕ) → is_kept a n ≡ is_kept b n
kept_same a b same n = ap (λ (x : Bool). (n == 1) || ((n == 2) || x)) (same n)
