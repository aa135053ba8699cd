-- New disk rowsets as a superblock names them.
use Rattle.std.proofs.Common.{◌≡◌, ◌≤◌, ◌<◌, ◌+◌, ℕ, suc, Bool, true, false, List, [], ◌∷◌, ◌++◌, map, length, inl, inr, refl, sym, ap, subst, ◌∙◌, arith}
use Rattle.std.specs.Prelude.{◌==◌, ◌||◌, ◌&&◌, not, nat_le, nat_lt}
use Rattle.std.specs.List.{AllByRecursion}
use Rattle.std.proofs.lemmas.Bool.{false≢true, cases_lt, lt-ltb, le-leb, ltb-true, eqb-true}
use Rattle.std.proofs.lemmas.Bool.Decides.{nat_tests}
use Rattle.std.proofs.lemmas.List.Folds.{list_any-append}
use Rattle.kt_base.proofs.Values.{both_true, both}
use Rattle.kt_super.specs.declared.meta.FileRef.{FileRef}
use Rattle.kt_super.specs.declared.meta.MetaRowset.{MetaRowset}
use Rattle.kt_super.specs.Rowsets.{has, numbers_of, is_small, IsFile, AreFiles, taken_by, IsRowset, AreRowsets}
use Rattle.kt_disk.specs.Disk.{Files}
use Rattle.kt_files.specs.Named.{named_by, named_in, HasNamed}
use Rattle.kt_diskrowset.specs.declared.files.FileHeld.{FileHeld}
use Rattle.kt_diskrowset.specs.declared.data.RowSetData.{RowSetData}
use Rattle.kt_rowfiles.specs.Files.{DiskRowset}
use Rattle.kt_outputs.specs.Outputs.{delta_ref, meta_in, delta_numbers, file_numbers, all_file_numbers, CountUp, AreThere, AreWritten}
use Rattle.kt_outputs.specs.Named.{AreShortFiles, IsShort, AreShort, outputs_come_behind, outputs_stand}

-- one more of which the same holds
all_join : {A : Type 0} (P : A → Type 0) (xs : List A) (x : A) → AllByRecursion P xs → P x → AllByRecursion P (xs ++ x ∷ [])
all_join P [] x all one = (one, tt)
all_join P (y ∷ xs) x all one = (all.0, all_join P xs x all.1 one)

pub all_and : {A : Type 0} (P : A → Type 0) (xs more : List A) (x : A) → more ≡ xs ++ x ∷ [] → AllByRecursion P xs → P x → AllByRecursion P more
all_and P xs more x added all one = subst (AllByRecursion P) (sym added) (all_join P xs x all one)

-- ---- numbers below one

abbrev pub AreBelow : ℕ → List ℕ → Type 0
AreBelow n numbers = AllByRecursion (λ (k : ℕ). k < n) numbers

pub below_join : (n : ℕ) (xs ys : List ℕ) → AreBelow n xs → AreBelow n ys → AreBelow n (xs ++ ys)
below_join n [] ys front back = back
below_join n (x ∷ xs) ys front back = (front.0, below_join n xs ys front.1 back)

pub below_more : (n m : ℕ) (xs : List ℕ) → n ≤ m → AreBelow n xs → AreBelow m xs
below_more n m [] le are = tt
below_more n m (x ∷ xs) le are = ((let lt = are.0 in omega arith), below_more n m xs le are.1)

-- a number from there on is none of them
is_none_of : (n k : ℕ) (xs : List ℕ) → AreBelow n xs → n ≤ k → has xs k ≡ false
is_none_of n k [] are le = refl
is_none_of n k (x ∷ xs) are le =
    let lt = are.0 in
    let other : (x == k) ≡ false = grind (arith, nat_tests, lt, le) in
    ap (λ (b : Bool). b || has xs k) other ∙ is_none_of n k xs are.1 le

-- ---- numbers in turn

pub count_up : (a b : ℕ) (xs : List ℕ) → CountUp a b xs → a ≤ b
count_up a b [] up = let e = up in omega arith
count_up a b (x ∷ xs) up = let le = count_up (suc a) b xs up.1 in omega arith

count_front : (a c : ℕ) (xs ys : List ℕ) → CountUp a c (xs ++ ys) → CountUp a (a + length xs) xs
count_front a c [] ys up = omega arith
count_front a c (x ∷ xs) ys up = (up.0, subst (λ (n : ℕ). CountUp (suc a) n xs) (let e : suc a + length xs ≡ a + length (x ∷ xs) = omega arith in e) (count_front (suc a) c xs ys up.1))

count_behind : (a c : ℕ) (xs ys : List ℕ) → CountUp a c (xs ++ ys) → CountUp (a + length xs) c ys
count_behind a c [] ys up = subst (λ (n : ℕ). CountUp n c ys) (let e : a ≡ a + 0 = omega arith in e) up
count_behind a c (x ∷ xs) ys up = subst (λ (n : ℕ). CountUp n c ys) (let e : suc a + length xs ≡ a + length (x ∷ xs) = omega arith in e) (count_behind (suc a) c xs ys up.1)

pub count_below : (a b : ℕ) (xs : List ℕ) → CountUp a b xs → AreBelow b xs
count_below a b [] up = tt
count_below a b (x ∷ xs) up = ((let e = up.0 in let le = count_up (suc a) b xs up.1 in omega arith), count_below (suc a) b xs up.1)

-- one of them lies between both ends
pub among : (a b n : ℕ) (xs : List ℕ) → CountUp a b xs → has xs n ≡ true → (a ≤ n) × (n < b)
among a b n [] up is = absurd cc
among a b n (x ∷ xs) up is = by (λ rest. among (suc a) b n xs up.1 rest) (x == n) refl
  where
    by : (has xs n ≡ true → (suc a ≤ n) × (n < b)) → (k : Bool) → (x == n) ≡ k → (a ≤ n) × (n < b)
    by later true e =
        let same : x ≡ n = eqb-true x n e in
        let first = up.0 in
        let le = count_up (suc a) b xs up.1 in
        ((omega arith), (omega arith))
    by later false e =
        let rest = later (ap (λ (k : Bool). k || has xs n) (sym e) ∙ is) in
        let low = rest.0 in
        ((omega arith), rest.1)

-- ---- files

pub refs_numbers : (files : List FileHeld) → numbers_of (map delta_ref files) ≡ delta_numbers files
refs_numbers [] = refl
refs_numbers (f ∷ files) = ap (λ (l : List ℕ). f.file ∷ l) (refs_numbers files)

pub is_file : (next file n len : ℕ) (taken : List ℕ) → AreBelow file taken → 3 ≤ file → n ≡ file → file < next → is_small len ≡ true → IsFile next taken (record { file = n; len = len })
is_file next file n len taken below low is lt short =
    let none : has taken n ≡ false = is_none_of file n taken below (omega arith) in
    (both (nat_le 3 n && nat_lt n next) (not (has taken n)) (both (nat_le 3 n) (nat_lt n next) (le-leb 3 n (omega arith)) (lt-ltb n next (omega arith))) (ap not none), short)

are_files : (next a b : ℕ) (taken : List ℕ) (files : List FileHeld) → AreBelow a taken → 3 ≤ a → b ≤ next → CountUp a b (delta_numbers files) → AreShortFiles files → AreFiles next taken (map delta_ref files)
are_files next a b taken [] below low le up short = tt
are_files next a b taken (f ∷ files) below low le up short =
    let is : f.file ≡ a = up.0 in
    let on = count_up (suc a) b (delta_numbers files) up.1 in (
      is_file next a f.file f.len taken below low is (omega arith) short.0,
      are_files next (suc a) b (taken ++ f.file ∷ []) files (below_join (suc a) taken (f.file ∷ []) (below_more a (suc a) taken (omega arith) below) ((omega arith), tt)) (omega arith) le up.1 short.1,
    )

-- ---- the outputs

-- the numbers of one's files, each part in turn
pub record Parts (d : RowSetData) (a c : ℕ) (rest : List ℕ) : Type 0 where
  pub base : d.base.file ≡ a
  pub mid : ℕ
  pub undo : CountUp (suc a) mid (delta_numbers d.undo)
  pub end : ℕ
  pub redo : CountUp mid end (delta_numbers d.redo)
  pub behind : CountUp end c rest

pub parts_of : (d : RowSetData) (a c : ℕ) (rest : List ℕ) → CountUp a c (file_numbers d ++ rest) → Parts d a c rest
parts_of d a c rest up =
    let own = count_front a c (file_numbers d) rest up in
    let end = a + length (file_numbers d) in
    let mid = suc a + length (delta_numbers d.undo) in
    record {
      base = up.0;
      mid = mid;
      undo = count_front (suc a) end (delta_numbers d.undo) (delta_numbers d.redo) own.1;
      end = end;
      redo = count_behind (suc a) end (delta_numbers d.undo) (delta_numbers d.redo) own.1;
      behind = count_behind a c (file_numbers d) rest up;
    }

pub is_rowset : (rowset_later file_later least rowset a c : ℕ) (taken : List ℕ) (d : RowSetData) (rest : List ℕ) → Parts d a c rest → c ≤ file_later → d.number ≡ rowset → least ≤ rowset → rowset < rowset_later → AreBelow a taken → 3 ≤ a → IsShort d
    → IsRowset rowset_later file_later least taken (meta_in 0 d)
is_rowset rowset_later file_later least rowset a c taken d rest p le is low lt below up short =
    let first = p.base in
    let one = count_up (suc a) p.mid (delta_numbers d.undo) p.undo in
    let two = count_up p.mid p.end (delta_numbers d.redo) p.redo in
    let three = count_up p.end c rest p.behind in
    let with_base : AreBelow (suc a) (taken ++ d.base.file ∷ []) = below_join (suc a) taken (d.base.file ∷ []) (below_more a (suc a) taken (omega arith) below) ((omega arith), tt) in
    let with_undo : AreBelow p.mid (taken ++ d.base.file ∷ [] ++ numbers_of (map delta_ref d.undo)) =
    below_join p.mid (taken ++ d.base.file ∷ []) (numbers_of (map delta_ref d.undo)) (below_more (suc a) p.mid (taken ++ d.base.file ∷ []) one with_base)
    (subst (AreBelow p.mid) (sym (refs_numbers d.undo)) (count_below (suc a) p.mid (delta_numbers d.undo) p.undo)) in
    record {
      rowset = both (nat_le least d.number) (nat_lt d.number rowset_later) (le-leb least d.number (omega arith)) (lt-ltb d.number rowset_later (omega arith));
      last_dms = refl;
      base = is_file file_later a d.base.file d.base.len taken below up first (omega arith) short.base;
      undo = are_files file_later (suc a) p.mid (taken ++ d.base.file ∷ []) d.undo with_base (omega arith) (omega arith) p.undo short.undo;
      redo = are_files file_later p.mid p.end (taken ++ d.base.file ∷ [] ++ numbers_of (map delta_ref d.undo)) d.redo with_undo (omega arith) (omega arith) p.redo short.redo;
    }

-- what is taken behind one
taken_more : (a c : ℕ) (taken : List ℕ) (d : RowSetData) (rest : List ℕ) → (p : Parts d a c rest) → AreBelow a taken → AreBelow p.end (taken_by taken (meta_in 0 d))
taken_more a c taken d rest p below =
    let first = p.base in
    let one = count_up (suc a) p.mid (delta_numbers d.undo) p.undo in
    let two = count_up p.mid p.end (delta_numbers d.redo) p.redo in
    below_join p.end (taken ++ d.base.file ∷ [] ++ numbers_of (map delta_ref d.undo)) (numbers_of (map delta_ref d.redo))
    (below_join p.end (taken ++ d.base.file ∷ []) (numbers_of (map delta_ref d.undo)) (below_join p.end taken (d.base.file ∷ []) (below_more a p.end taken (omega arith) below) ((omega arith), tt))
    (subst (AreBelow p.end) (sym (refs_numbers d.undo)) (below_more p.mid p.end (delta_numbers d.undo) two (count_below (suc a) p.mid (delta_numbers d.undo) p.undo))))
    (subst (AreBelow p.end) (sym (refs_numbers d.redo)) (count_below p.mid p.end (delta_numbers d.redo) p.redo))

named_outputs : (rowset_later file_later least rowset a : ℕ) (taken : List ℕ) (outputs done : List RowSetData) → least ≤ rowset → AreBelow a taken → 3 ≤ a
    → AreWritten rowset outputs done → rowset_later ≡ rowset + length outputs → CountUp a file_later (all_file_numbers done) → AreShort done → AreRowsets rowset_later file_later least taken (map (meta_in 0) done)
named_outputs rowset_later file_later least rowset a taken [] [] low below up written is count short = tt
named_outputs rowset_later file_later least rowset a taken [] (d ∷ done) low below up written is count short = absurd written
named_outputs rowset_later file_later least rowset a taken (r ∷ outputs) [] low below up written is count short = absurd written
named_outputs rowset_later file_later least rowset a taken (r ∷ outputs) (d ∷ done) low below up written is count short =
    let number : d.number ≡ rowset = ap (λ (x : DiskRowset). x.rowset) written.0 in
    let p = parts_of d a file_later (all_file_numbers done) count in
    let one = count_up (suc a) p.mid (delta_numbers d.undo) p.undo in
    let two = count_up p.mid p.end (delta_numbers d.redo) p.redo in (
      is_rowset rowset_later file_later least rowset a file_later taken d (all_file_numbers done) p (omega arith) number low (omega arith) below up short.0,
      named_outputs rowset_later file_later (d.number + 1) (suc rowset) p.end (taken_by taken (meta_in 0 d)) outputs done (omega arith) (taken_more a file_later taken d (all_file_numbers done) p below) (omega arith)
          written.2 (omega arith) p.behind short.1,
    )

-- ---- behind those of a superblock

pub file_below : (next : ℕ) (taken : List ℕ) (f : FileRef) → IsFile next taken f → f.file < next
file_below next taken f is = ltb-true f.file next (both_true (nat_le 3 f.file) (nat_lt f.file next) (both_true (nat_le 3 f.file && nat_lt f.file next) (not (has taken f.file)) is.0).0).1

pub files_below : (next : ℕ) (taken : List ℕ) (files : List FileRef) → AreFiles next taken files → AreBelow next (numbers_of files)
files_below next taken [] are = tt
files_below next taken (f ∷ files) are = (file_below next taken f are.0, files_below next (taken ++ f.file ∷ []) files are.1)

come_behind : (rowsets : List MetaRowset) (next_rowset next_file rowset file rowset_later file_later least : ℕ) (taken : List ℕ) (outputs done : List RowSetData)
    → AreRowsets next_rowset next_file least taken rowsets → AreRowsets rowset_later file_later least taken rowsets → next_rowset ≤ rowset → next_file ≤ file → 3 ≤ file → least ≤ rowset → AreBelow file taken
    → AreWritten rowset outputs done → rowset_later ≡ rowset + length outputs → CountUp file file_later (all_file_numbers done) → AreShort done
    → AreRowsets rowset_later file_later least taken (rowsets ++ map (meta_in 0) done)
come_behind [] next_rowset next_file rowset file rowset_later file_later least taken outputs done are later rl fl up low below written is count short =
    named_outputs rowset_later file_later least rowset file taken outputs done low below up written is count short
come_behind (r ∷ rowsets) next_rowset next_file rowset file rowset_later file_later least taken outputs done are later rl fl up low below written is count short =
    let own = are.0 in
    let number : r.rowset < next_rowset = ltb-true r.rowset next_rowset (both_true (nat_le least r.rowset) (nat_lt r.rowset next_rowset) own.rowset).1 in
    let base : r.base.file < next_file = file_below next_file taken r.base own.base in
    let base_too : AreBelow file (taken ++ r.base.file ∷ []) = below_join file taken (r.base.file ∷ []) below ((omega arith), tt) in
    let undo_too : AreBelow file (taken ++ r.base.file ∷ [] ++ numbers_of r.undo) =
    below_join file (taken ++ r.base.file ∷ []) (numbers_of r.undo) base_too (below_more next_file file (numbers_of r.undo) fl (files_below next_file (taken ++ r.base.file ∷ []) r.undo own.undo)) in
    let all_too : AreBelow file (taken_by taken r) =
    below_join file (taken ++ r.base.file ∷ [] ++ numbers_of r.undo) (numbers_of r.redo) undo_too (below_more next_file file (numbers_of r.redo) fl (files_below next_file (taken ++ r.base.file ∷ [] ++ numbers_of r.undo) r.redo own.redo)) in
    (later.0, come_behind rowsets next_rowset next_file rowset file rowset_later file_later (r.rowset + 1) (taken_by taken r) outputs done are.1 later.1 rl fl up (omega arith) all_too written is count short)

pub behind : outputs_come_behind
behind rowsets next_rowset next_file rowset file rowset_later file_later outputs done are later rl fl up written is count short =
    come_behind rowsets next_rowset next_file rowset file rowset_later file_later 0 [] outputs done are later rl fl up (omega arith) tt written is count short

-- ---- their files

named_files : (done : List RowSetData) → named_in (map (meta_in 0) done) ≡ all_file_numbers done
named_files [] = refl
named_files (d ∷ done) =
    ap (λ (l : List ℕ). (d.base.file ∷ (l ++ numbers_of (map delta_ref d.redo))) ++ named_in (map (meta_in 0) done)) (refs_numbers d.undo)
    ∙ ap (λ (l : List ℕ). (d.base.file ∷ (delta_numbers d.undo ++ l)) ++ named_in (map (meta_in 0) done)) (refs_numbers d.redo) ∙ ap (λ (l : List ℕ). file_numbers d ++ l) (named_files done)

pub named_join : (xs ys : List MetaRowset) (n : ℕ) → has (named_in (xs ++ ys)) n ≡ (has (named_in xs) n || has (named_in ys) n)
named_join [] ys n = refl
named_join (x ∷ xs) ys n =
    list_any-append (λ (k : ℕ). k == n) (named_by x) (named_in (xs ++ ys)) ∙ ap (λ (b : Bool). has (named_by x) n || b) (named_join xs ys n)
    ∙ either (has (named_by x) n) (has (named_in xs) n) (has (named_in ys) n) ∙ ap (λ (b : Bool). b || has (named_in ys) n) (sym (list_any-append (λ (k : ℕ). k == n) (named_by x) (named_in xs)))
  where
    either : (a b c : Bool) → (a || (b || c)) ≡ ((a || b) || c)
    either true b c = refl
    either false b c = refl

pub stand : outputs_stand
stand rowsets file file_later done files c count there named n is = by (has (named_in rowsets) n) refl
  where
    by : (k : Bool) → has (named_in rowsets) n ≡ k → c n ≡ files n
    by true e = named n e
    by false e =
        let own : has (all_file_numbers done) n ≡ true =
        ap (λ (l : List ℕ). has l n) (sym (named_files done)) ∙ sym (ap (λ (b : Bool). b || has (named_in (map (meta_in 0) done)) n) e) ∙ sym (named_join rowsets (map (meta_in 0) done) n) ∙ is in
        let both_ends = among file file_later n (all_file_numbers done) count own in
        there n both_ends.0 both_ends.1

-- ---- those that were written before

named_below : (rowsets : List MetaRowset) (next_rowset next_file least : ℕ) (taken : List ℕ) → AreRowsets next_rowset next_file least taken rowsets → AreBelow next_file (named_in rowsets)
named_below [] next_rowset next_file least taken are = tt
named_below (r ∷ rowsets) next_rowset next_file least taken are =
    below_join next_file (named_by r) (named_in rowsets) (
      file_below next_file taken r.base are.0.base,
      below_join next_file (numbers_of r.undo) (numbers_of r.redo) (files_below next_file (taken ++ r.base.file ∷ []) r.undo are.0.undo) (files_below next_file (taken ++ r.base.file ∷ [] ++ numbers_of r.undo) r.redo are.0.redo),
    )
    (named_below rowsets next_rowset next_file (r.rowset + 1) (taken_by taken r) are.1)

one_below : (n k : ℕ) (xs : List ℕ) → AreBelow n xs → has xs k ≡ true → k < n
one_below n k xs are is = elim (cases_lt k n) [
  | inl lt ↦ lt
  | inr up ↦ absurd (false≢true (sym (is_none_of n k xs are up) ∙ is))
]

-- their files have numbers below the next one
pub named_before : (rowsets : List MetaRowset) (next_rowset next_file : ℕ) (done : List RowSetData) (files later : Files) → AreRowsets next_rowset next_file 0 [] (rowsets ++ map (meta_in 0) done) → AreThere 0 next_file files later
    → HasNamed (map (meta_in 0) done) files later
named_before rowsets next_rowset next_file done files later are there n is =
    let own = map (meta_in 0) done in
    there n (omega arith) (one_below next_file n (named_in (rowsets ++ own)) (named_below (rowsets ++ own) next_rowset next_file 0 [] are) (named_join rowsets own n ∙ behind_any (has (named_in rowsets) n) (has (named_in own) n) is))
  where
    behind_any : (a b : Bool) → b ≡ true → (a || b) ≡ true
    behind_any true b e = refl
    behind_any false b e = e
