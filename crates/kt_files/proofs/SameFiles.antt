-- Two images that agree on the files of a superblock hold the same, and have the same first fault.
use Rattle.std.proofs.Common.{◌≡◌, ◌<◌, ◌≤◌, ℕ, Bool, true, false, List, [], ◌∷◌, ◌++◌, length, take, refl, sym, ap, subst, ◌∙◌, append_assoc, arith}
use Rattle.std.specs.Prelude.{◌||◌, ◌==◌}
use Rattle.std.specs.List.{list_any}
use Rattle.std.proofs.lemmas.Bool.Decides.{nat_tests}
use Rattle.kt_disk.specs.Disk.{Files, held, bytes_of as bytes_at}
use Rattle.kt_super.specs.declared.meta.FileRef.{FileRef}
use Rattle.kt_super.specs.declared.meta.MetaRowset.{MetaRowset}
use Rattle.kt_super.specs.Rowsets.{has, numbers_of}
use Rattle.kt_baseset.specs.Tables.{BaseValue}
use Rattle.kt_baseset.specs.Spelling.{SpellsBase}
use Rattle.kt_deltafile.specs.declared.file.Way.{Way}
use Rattle.kt_deltafile.specs.declared.file.Way.TheVariants.{Redo, Undo}
use Rattle.kt_deltafile.specs.File.{FileView}
use Rattle.kt_diskrowset.specs.Rowset.{HeldFiles}
use Rattle.kt_files.specs.Bytes.{bytes_of, IsThere, IsFileFault}
use Rattle.kt_files.specs.Bytes.IsFileFault.{short, inside}
use Rattle.kt_files.specs.Named.{named_by, named_in}
use Rattle.kt_files.specs.Reading.{HoldsBase, HoldsDeltas, HoldEach, HoldsRowset, HoldAll, IsNoBase, IsNoDeltas, IsListFault, IsRowsetFault, IsFirstFault}
use Rattle.kt_files.specs.Reading.IsRowsetFault.{in_base, in_undo, in_redo}

-- the images agree on these files
abbrev pub Agree : Files → Files → List ℕ → Type 0
Agree s t [] = Unit {0}
Agree s t (n ∷ numbers) = (s n ≡ t n) × Agree s t numbers

agree_front : (s t : Files) (xs ys : List ℕ) → Agree s t (xs ++ ys) → Agree s t xs
agree_front s t [] ys h = tt
agree_front s t (x ∷ xs) ys h = (h.0, agree_front s t xs ys h.1)

agree_behind : (s t : Files) (xs ys : List ℕ) → Agree s t (xs ++ ys) → Agree s t ys
agree_behind s t [] ys h = h
agree_behind s t (x ∷ xs) ys h = agree_behind s t xs ys h.1

-- as an equation of each file that is among them
pub agree_of : (s t : Files) (xs : List ℕ) → ((n : ℕ) → has xs n ≡ true → s n ≡ t n) → Agree s t xs
agree_of s t [] h = tt
agree_of s t (x ∷ xs) h = (h x (here x xs), agree_of s t xs (λ n in_rest. h n (behind x n xs in_rest)))
  where
    here : (x : ℕ) (xs : List ℕ) → has (x ∷ xs) x ≡ true
    here x xs = ap (λ (b : Bool). b || list_any (λ k. k == x) xs) (let same : (x == x) ≡ true = grind (arith, nat_tests) in same)

    behind : (x n : ℕ) (xs : List ℕ) → has xs n ≡ true → has (x ∷ xs) n ≡ true
    behind x n xs h = elim (x == n) as (λ (b : Bool). (b || list_any (λ k. k == n) xs) ≡ true) [ true ↦ refl | false ↦ h ]

-- ---- one file

held_same : (s t : Files) (n : ℕ) → s n ≡ t n → held s n ≡ held t n
held_same s t n e = ap bytes_at e

there_on : (s t : Files) (f : FileRef) → s f.file ≡ t f.file → IsThere s f → IsThere t f
there_on s t f e h = subst (λ (bytes : List ℕ). f.len ≤ length bytes) (held_same s t f.file e) h

bytes_same : (s t : Files) (f : FileRef) → s f.file ≡ t f.file → bytes_of s f ≡ bytes_of t f
bytes_same s t f e = (λ i. take f.len (held_same s t f.file e i))

base_on : (s t : Files) (f : FileRef) (b : ℕ × ℕ × BaseValue) → s f.file ≡ t f.file → HoldsBase s f b → HoldsBase t f b
base_on s t f b e h = record { file = h.file; len = h.len; there = there_on s t f e h.there; spelled = subst (SpellsBase b.2.schema b.2.rows) (bytes_same s t f e) h.spelled }

deltas_on : (s t : Files) (way : Way) (rows : ℕ) (f : FileRef) (x : ℕ × ℕ × FileView) → s f.file ≡ t f.file → HoldsDeltas s way rows f x → HoldsDeltas t way rows f x
deltas_on s t way rows f x e h = record { file = h.file; len = h.len; there = there_on s t f e h.there; way_is = h.way_is; fits = h.fits; spelled = sym (bytes_same s t f e) ∙ h.spelled }

fault_on : (s t : Files) (f : FileRef) (P : List ℕ → ℕ → Type 0) (offset : ℕ) → s f.file ≡ t f.file → IsFileFault s f P offset → IsFileFault t f P offset
fault_on s t f P offset e (short h) =
    let same : length (held s f.file) ≡ length (held t f.file) = ap (λ l. length l) (held_same s t f.file e) in
    short (record { short = subst (λ (n : ℕ). n < f.len) same h.short; end = h.end ∙ same })
fault_on s t f P offset e (inside there h) = inside (there_on s t f e there) (subst (λ (bytes : List ℕ). P bytes offset) (bytes_same s t f e) h)

-- ---- lists of files

each_on : (s t : Files) (way : Way) (rows : ℕ) (fs : List FileRef) (xs : List (ℕ × ℕ × FileView)) → Agree s t (numbers_of fs) → HoldEach s way rows fs xs → HoldEach t way rows fs xs
each_on s t way rows [] [] a h = tt
each_on s t way rows [] (x ∷ xs) a h = absurd h
each_on s t way rows (f ∷ fs) [] a h = absurd h
each_on s t way rows (f ∷ fs) (x ∷ xs) a h = (deltas_on s t way rows f x a.0 h.0, each_on s t way rows fs xs a.1 h.1)

-- the numbers of files, part by part
numbers_parts : (xs ys : List FileRef) → numbers_of (xs ++ ys) ≡ numbers_of xs ++ numbers_of ys
numbers_parts [] ys = refl
numbers_parts (x ∷ xs) ys = ap (λ (l : List ℕ). x.file ∷ l) (numbers_parts xs ys)

list_on : (s t : Files) (way : Way) (rows : ℕ) (fs : List FileRef) (file offset : ℕ) → Agree s t (numbers_of fs) → IsListFault s way rows fs file offset → IsListFault t way rows fs file offset
list_on s t way rows fs file offset a h =
    let parts : Agree s t (numbers_of h.front ++ numbers_of (h.next ∷ h.behind)) = subst (Agree s t) (ap numbers_of h.parts ∙ numbers_parts h.front (h.next ∷ h.behind)) a in
    record {
      front = h.front;
      next = h.next;
      behind = h.behind;
      parts = h.parts;
      records = h.records;
      stand = each_on s t way rows h.front h.records (agree_front s t (numbers_of h.front) (numbers_of (h.next ∷ h.behind)) parts) h.stand;
      fault = fault_on s t h.next (IsNoDeltas way rows) offset (agree_behind s t (numbers_of h.front) (numbers_of (h.next ∷ h.behind)) parts).0 h.fault;
      file_is = h.file_is;
    }

-- ---- disk rowsets

rowset_on : (s t : Files) (r : MetaRowset) (x : HeldFiles) → Agree s t (named_by r) → HoldsRowset s r x → HoldsRowset t r x
rowset_on s t r x a h = record {
  number = h.number;
  base = base_on s t r.base x.base a.0 h.base;
  undos = each_on s t Undo (length x.base.2.rows) r.undo x.undos (agree_front s t (numbers_of r.undo) (numbers_of r.redo) a.1) h.undos;
  redos = each_on s t Redo (length x.base.2.rows) r.redo x.redos (agree_behind s t (numbers_of r.undo) (numbers_of r.redo) a.1) h.redos;
}

rowset_fault_on : (s t : Files) (r : MetaRowset) (file offset : ℕ) → Agree s t (named_by r) → IsRowsetFault s r file offset → IsRowsetFault t r file offset
rowset_fault_on s t r file offset a (in_base is fault) = in_base is (fault_on s t r.base IsNoBase offset a.0 fault)
rowset_fault_on s t r file offset a (in_undo b held_base fault) =
    in_undo b (base_on s t r.base b a.0 held_base) (list_on s t Undo (length b.2.rows) r.undo file offset (agree_front s t (numbers_of r.undo) (numbers_of r.redo) a.1) fault)
rowset_fault_on s t r file offset a (in_redo b held_base undos stand fault) =
    in_redo b (base_on s t r.base b a.0 held_base) undos (each_on s t Undo (length b.2.rows) r.undo undos (agree_front s t (numbers_of r.undo) (numbers_of r.redo) a.1) stand)
    (list_on s t Redo (length b.2.rows) r.redo file offset (agree_behind s t (numbers_of r.undo) (numbers_of r.redo) a.1) fault)

all_on : (s t : Files) (rs : List MetaRowset) (xs : List HeldFiles) → Agree s t (named_in rs) → HoldAll s rs xs → HoldAll t rs xs
all_on s t [] [] a h = tt
all_on s t [] (x ∷ xs) a h = absurd h
all_on s t (r ∷ rs) [] a h = absurd h
all_on s t (r ∷ rs) (x ∷ xs) a h = (rowset_on s t r x (agree_front s t (named_by r) (named_in rs) a) h.0, all_on s t rs xs (agree_behind s t (named_by r) (named_in rs) a) h.1)

named_parts : (xs ys : List MetaRowset) → named_in (xs ++ ys) ≡ named_in xs ++ named_in ys
named_parts [] ys = refl
named_parts (x ∷ xs) ys = ap (λ (l : List ℕ). named_by x ++ l) (named_parts xs ys) ∙ sym (append_assoc (named_by x) (named_in xs) (named_in ys))

pub holds_on : (s t : Files) (rs : List MetaRowset) (xs : List HeldFiles) → ((n : ℕ) → has (named_in rs) n ≡ true → s n ≡ t n) → HoldAll s rs xs → HoldAll t rs xs
holds_on s t rs xs same = all_on s t rs xs (agree_of s t (named_in rs) same)

pub first_fault_on : (s t : Files) (rs : List MetaRowset) (file offset : ℕ) → ((n : ℕ) → has (named_in rs) n ≡ true → s n ≡ t n) → IsFirstFault s rs file offset → IsFirstFault t rs file offset
first_fault_on s t rs file offset same h =
    let parts : Agree s t (named_in h.front ++ named_in (h.next ∷ h.behind)) = subst (Agree s t) (ap named_in h.parts ∙ named_parts h.front (h.next ∷ h.behind)) (agree_of s t (named_in rs) same) in
    let rest : Agree s t (named_by h.next ++ named_in h.behind) = agree_behind s t (named_in h.front) (named_in (h.next ∷ h.behind)) parts in
    record {
      front = h.front;
      next = h.next;
      behind = h.behind;
      parts = h.parts;
      before = h.before;
      stand = all_on s t h.front h.before (agree_front s t (named_in h.front) (named_in (h.next ∷ h.behind)) parts) h.stand;
      fault = rowset_fault_on s t h.next file offset (agree_front s t (named_by h.next) (named_in h.behind) rest) h.fault;
    }
