-- Disk rowsets that a superblock may name, where later numbers come next.
use Rattle.std.proofs.Common.{◌≡◌, ℕ, ◌≤◌, ◌+◌, ◌&&◌, Bool, true, false, leb, ltb, List, [], ◌∷◌, ◌++◌, arith}
use Rattle.std.proofs.lemmas.Bool.{ltb-true, lt-ltb}
use Rattle.kt_base.proofs.Values.{both_true}
use Rattle.kt_super.specs.declared.meta.FileRef.{FileRef}
use Rattle.kt_super.specs.declared.meta.MetaRowset.{MetaRowset}
use Rattle.kt_super.specs.Rowsets.{is_free, numbers_of, taken_by, IsFile, AreFiles, IsRowset, AreRowsets}

both : (a b : Bool) → a ≡ true → b ≡ true → (a && b) ≡ true
both true b e f = f
both false b e f = absurd cc

lt_more : (n next later : ℕ) → next ≤ later → ltb n next ≡ true → ltb n later ≡ true
lt_more n next later le e = let low = ltb-true n next e in lt-ltb n later (omega arith)

free_more : (next later n : ℕ) (taken : List ℕ) → next ≤ later → is_free next taken n ≡ true → is_free later taken n ≡ true
free_more next later n taken le e =
    let all = both_true (leb 3 n && ltb n next) _ e in
    let two = both_true (leb 3 n) _ all.0 in
    both (leb 3 n && ltb n later) _ (both (leb 3 n) _ two.0 (lt_more n next later le two.1)) all.1

file_more : (next later : ℕ) (taken : List ℕ) (f : FileRef) → next ≤ later → IsFile next taken f → IsFile later taken f
file_more next later taken f le is = (free_more next later f.file taken le is.0, is.1)

files_more : (next later : ℕ) (taken : List ℕ) (files : List FileRef) → next ≤ later → AreFiles next taken files → AreFiles later taken files
files_more next later taken [] le are = tt
files_more next later taken (f ∷ files) le are = (file_more next later taken f le are.0, files_more next later (taken ++ f.file ∷ []) files le are.1)

rowset_more : (rowset rowset_later file file_later least : ℕ) (taken : List ℕ) (r : MetaRowset) → rowset ≤ rowset_later → file ≤ file_later → IsRowset rowset file least taken r → IsRowset rowset_later file_later least taken r
rowset_more rowset rowset_later file file_later least taken r le more is = record {
  rowset = (let two = both_true (leb least r.rowset) (ltb r.rowset rowset) is.rowset in both (leb least r.rowset) (ltb r.rowset rowset_later) two.0 (lt_more r.rowset rowset rowset_later le two.1));
  last_dms = is.last_dms;
  base = file_more file file_later taken r.base more is.base;
  undo = files_more file file_later (taken ++ r.base.file ∷ []) r.undo more is.undo;
  redo = files_more file file_later (taken ++ r.base.file ∷ [] ++ numbers_of r.undo) r.redo more is.redo;
}

pub rowsets_more : (rowset rowset_later file file_later least : ℕ) (taken : List ℕ) (rs : List MetaRowset) → rowset ≤ rowset_later → file ≤ file_later → AreRowsets rowset file least taken rs → AreRowsets rowset_later file_later least taken rs
rowsets_more rowset rowset_later file file_later least taken [] le more are = tt
rowsets_more rowset rowset_later file file_later least taken (r ∷ rs) le more are =
    (rowset_more rowset rowset_later file file_later least taken r le more are.0, rowsets_more rowset rowset_later file file_later (r.rowset + 1) (taken_by taken r) rs le more are.1)
