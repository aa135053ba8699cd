-- The files of the disk rowsets in memory are those that a superblock names, as each event changes either.
use Rattle.std.proofs.Common.{◌≡◌, ◌≢◌, ◌≤◌, ◌<◌, ◌+◌, ◌⊎◌, ℕ, Bool, true, false, List, [], ◌∷◌, ◌++◌, map, Option, Some, None, inl, inr, refl, sym, ap, ◌∙◌, subst, arith, cond}
use Rattle.std.specs.Prelude.{◌==◌, ◌||◌, nat_le, nat_lt, not, IsTrue}
use Rattle.std.specs.List.{list_any}
use Rattle.std.proofs.lemmas.Bool.{eqb-true, eq-eqb, ne_eqb, ltb-true, le-leb, lt-leb, or_left, or_right}
use Rattle.std.proofs.lemmas.List.{append-nil}
use Rattle.std.proofs.lemmas.List.Folds.{list_any-append}
use Rattle.kt_base.proofs.Values.{both_true}
use Rattle.kt_disk.specs.Disk.{Files}
use Rattle.kt_rowfiles.specs.Fitting.{undos_fit}
use Rattle.kt_super.specs.declared.meta.FileRef.{FileRef}
use Rattle.kt_super.specs.declared.meta.MetaRowset.{MetaRowset}
use Rattle.kt_super.specs.Rowsets.{has, AreRowsets, taken_by}
use Rattle.kt_diskrowset.specs.declared.data.RowSetData.{RowSetData}
use Rattle.kt_diskrowset.specs.declared.files.FileHeld.{FileHeld}
use Rattle.kt_diskrowset.specs.Data.{held_in}
use Rattle.kt_diskrowset.specs.Files.{as_files}
use Rattle.kt_diskrowset.specs.Held.{files_told, IsReadOf}
use Rattle.kt_diskrowset.specs.Rowset.{HeldFiles}
use Rattle.kt_files.specs.Content.{rowsets_in}
use Rattle.kt_files.specs.Named.{named_by, named_in, deltas_named, Names, AreNamed}
use Rattle.kt_files.specs.Reading.{HoldsRowset, HoldAll}
use Rattle.kt_files.proofs.SameFiles.{holds_on}
use Rattle.kt_content.specs.Flushes.{AreFrom}
use Rattle.kt_outputs.specs.InPlace.{in_place, entry_of}
use Rattle.kt_outputs.specs.Outputs.{delta_ref, meta_in}
use Rattle.kt_reopen.specs.Opened.{AreReadOf}
use Rattle.kt_stores.specs.Takes.{Takes, mems as memory, rowsets as disks, files_left}
use Rattle.kt_tablet.specs.Jobs.{files_of, with_files}
use Rattle.kt_engine.specs.Jobs.{JobView, UpkeepsView}
use Rattle.kt_engine.specs.Files.{IsFiled, AreFiled, publisher, publisher_by, job_at, files_over}
use Rattle.kt_engine.specs.JobMeta.{left_metas, metas_left}

some_is : {X : Type 0} (x y : X) → Some x ≡ Some y → x ≡ y
some_is x y e = cc

no_some : {X : Type 0} (y : X) → None ≡ Some y → ⊥
no_some y e = cc

-- ---- among entries and files

-- an entry is of its number
pub entry_number : (r : ℕ) (entry : MetaRowset) (rowsets : List MetaRowset) → entry_of r rowsets ≡ Some entry → entry.rowset ≡ r
entry_number r entry [] there = absurd (no_some entry there)
entry_number r entry (m ∷ rowsets) there = by (m.rowset == r) refl there (entry_number r entry rowsets)
  where
    by : (b : Bool) → (m.rowset == r) ≡ b → cond b (Some m) (entry_of r rowsets) ≡ Some entry → (entry_of r rowsets ≡ Some entry → entry.rowset ≡ r) → entry.rowset ≡ r
    by true same is rest = ap (λ (x : MetaRowset). x.rowset) (sym (some_is m entry is)) ∙ eqb-true m.rowset r same
    by false other is rest = rest is

-- its files are named
has_join : (xs ys : List ℕ) (n : ℕ) → has (xs ++ ys) n ≡ (has xs n || has ys n)
has_join xs ys n = list_any-append (λ (k : ℕ). k == n) xs ys

entry_named : (r : ℕ) (entry : MetaRowset) (n : ℕ) (rowsets : List MetaRowset) → entry_of r rowsets ≡ Some entry → has (named_by entry) n ≡ true → has (named_in rowsets) n ≡ true
entry_named r entry n [] there is = absurd (no_some entry there)
entry_named r entry n (m ∷ rowsets) there is = has_join (named_by m) (named_in rowsets) n ∙ by (m.rowset == r) there (λ e. entry_named r entry n rowsets e is)
  where
    by : (b : Bool) → cond b (Some m) (entry_of r rowsets) ≡ Some entry → (entry_of r rowsets ≡ Some entry → has (named_in rowsets) n ≡ true) → (has (named_by m) n || has (named_in rowsets) n) ≡ true
    by true e rest = or_left (has (named_by m) n) (has (named_in rowsets) n) (ap (λ (x : MetaRowset). has (named_by x) n) (some_is m entry e) ∙ is)
    by false e rest = or_right (has (named_by m) n) (has (named_in rowsets) n) (rest e)

-- files are of their number
pub files_number : (r : ℕ) (h : HeldFiles) (files : List HeldFiles) → files_of r files ≡ Some h → h.number ≡ r
files_number r h [] there = absurd (no_some h there)
files_number r h (x ∷ files) there = by (x.number == r) refl there (files_number r h files)
  where
    by : (b : Bool) → (x.number == r) ≡ b → cond b (Some x) (files_of r files) ≡ Some h → (files_of r files ≡ Some h → h.number ≡ r) → h.number ≡ r
    by true same is rest = ap (λ (y : HeldFiles). y.number) (sym (some_is x h is)) ∙ eqb-true x.number r same
    by false other is rest = rest is

-- ---- images

-- files that hold the same
pub filed_on : (tells : Bool) (s t : Files) (rowsets : List MetaRowset) (files : List HeldFiles) → (IsTrue tells → (n : ℕ) → has (named_in rowsets) n ≡ true → s n ≡ t n) → AreFiled tells s rowsets files → AreFiled tells t rowsets files
filed_on tells s t rowsets files same filed r h there =
    let is = filed r h there in
    let own : IsTrue tells → (n : ℕ) → has (named_in (is.entry ∷ [])) n ≡ true → s n ≡ t n = λ t_is n e.
    same t_is n (entry_named r is.entry n rowsets is.there (ap (λ (l : List ℕ). has l n) (sym (append-nil (named_by is.entry))) ∙ e)) in
    record { entry = is.entry; there = is.there; held = is.held; names = is.names; holds = λ t_is. (holds_on s t (is.entry ∷ []) (is.held ∷ []) (own t_is) (is.holds t_is, tt)).0; is = is.is }

-- ---- as they are read

read_number : (h read : HeldFiles) → IsReadOf h read → read.number ≡ h.number
read_number h read (inl same) = ap (λ (x : HeldFiles). x.number) same
read_number h read (inr some) = ap (λ (x : HeldFiles). x.number) some ∙ by (undos_fit (files_told h))
  where
    by : (b : Bool) → (cond b h (record h { undos = [] })).number ≡ h.number
    by true = refl
    by false = refl

-- the files of a superblock, or what can be read of them
pub filed_read : (tells : Bool) (seen : Files) (rowsets : List MetaRowset) (held files : List HeldFiles) → AreNamed rowsets held → AreReadOf held files → (IsTrue tells → HoldAll seen rowsets held) → AreFiled tells seen rowsets files
filed_read tells seen [] [] [] named read hold r h there = absurd (no_some h there)
filed_read tells seen [] [] (f ∷ files) named read hold r h there = absurd read
filed_read tells seen [] (g ∷ held) files named read hold r h there = absurd named
filed_read tells seen (m ∷ rowsets) [] files named read hold r h there = absurd named
filed_read tells seen (m ∷ rowsets) (g ∷ held) [] named read hold r h there = absurd read
filed_read tells seen (m ∷ rowsets) (g ∷ held) (f ∷ files) named read hold r h there = by (f.number == r) refl there (filed_read tells seen rowsets held files named.1 read.1 (λ t. (hold t).1) r h)
  where
    same_number : f.number ≡ m.rowset
    same_number = read_number g f read.0 ∙ ap (λ (x : MetaRowset). x.rowset) named.0

    own : (b : Bool) → (f.number == r) ≡ b → entry_of r (m ∷ rowsets) ≡ cond b (Some m) (entry_of r rowsets)
    own b e = ap (λ (k : ℕ). cond (k == r) (Some m) (entry_of r rowsets)) (sym same_number) ∙ ap (λ (c : Bool). cond c (Some m) (entry_of r rowsets)) e

    by : (b : Bool) → (f.number == r) ≡ b → cond b (Some f) (files_of r files) ≡ Some h → (files_of r files ≡ Some h → IsFiled tells seen rowsets r h) → IsFiled tells seen (m ∷ rowsets) r h
    by true e is behind = record { entry = m; there = own true e; held = g; names = named.0; holds = λ t. (hold t).0; is = subst (IsReadOf g) (some_is f h is) read.0 }
    by false e is behind =
        let rest = behind is in
        record { entry = rest.entry; there = own false e ∙ rest.there; held = rest.held; names = rest.names; holds = rest.holds; is = rest.is }

read_whole : (files : List HeldFiles) → AreReadOf files files
read_whole [] = tt
read_whole (f ∷ files) = (inl refl, read_whole files)

-- ---- some leave

no_true : true ≡ false → ⊥
no_true e = cc

-- of none that leaves
files_stay : (numbers : List ℕ) (r : ℕ) (h : HeldFiles) (files : List HeldFiles) → files_of r (files_left (disks numbers) files) ≡ Some h → (list_any (λ (s : ℕ). s == r) numbers ≡ false) × (files_of r files ≡ Some h)
files_stay numbers r h [] there = absurd (no_some h there)
files_stay numbers r h (x ∷ files) there = by (list_any (λ (s : ℕ). s == x.number) numbers) refl there (files_stay numbers r h files)
  where
    left : List HeldFiles
    left = files_left (disks numbers) files

    same : (b : Bool) → (x.number == r) ≡ b → list_any (λ (s : ℕ). s == x.number) numbers ≡ false → cond b (Some x) (files_of r left) ≡ Some h → (files_of r left ≡ Some h → (list_any (λ (s : ℕ). s == r) numbers ≡ false) × (files_of r files ≡ Some h))
        → (list_any (λ (s : ℕ). s == r) numbers ≡ false) × (cond b (Some x) (files_of r files) ≡ Some h)
    same true e stays is rest = (subst (λ (k : ℕ). list_any (λ (s : ℕ). s == k) numbers ≡ false) (eqb-true x.number r e) stays, is)
    same false e stays is rest = rest is

    by : (b : Bool) → list_any (λ (s : ℕ). s == x.number) numbers ≡ b → files_of r (cond (not b) (x ∷ left) left) ≡ Some h → (files_of r left ≡ Some h → (list_any (λ (s : ℕ). s == r) numbers ≡ false) × (files_of r files ≡ Some h))
        → (list_any (λ (s : ℕ). s == r) numbers ≡ false) × (files_of r (x ∷ files) ≡ Some h)
    by true e is rest =
        let own = rest is in
        let other : x.number ≢ r = λ one. no_true (sym e ∙ ap (λ (k : ℕ). list_any (λ (s : ℕ). s == k) numbers) one ∙ own.0) in
        (own.0, ap (λ (c : Bool). cond c (Some x) (files_of r files)) (ne_eqb x.number r other) ∙ own.1)
    by false e is rest = same (x.number == r) refl e is rest

-- and its entry stays
entry_left : (numbers : List ℕ) (r : ℕ) (rowsets : List MetaRowset) → list_any (λ (s : ℕ). s == r) numbers ≡ false → entry_of r (left_metas numbers rowsets) ≡ entry_of r rowsets
entry_left numbers r [] stays = refl
entry_left numbers r (m ∷ rowsets) stays = by (list_any (λ (s : ℕ). s == m.rowset) numbers) refl (entry_left numbers r rowsets stays)
  where
    left : List MetaRowset
    left = left_metas numbers rowsets

    by : (b : Bool) → list_any (λ (s : ℕ). s == m.rowset) numbers ≡ b → entry_of r left ≡ entry_of r rowsets → entry_of r (cond (not b) (m ∷ left) left) ≡ entry_of r (m ∷ rowsets)
    by true e rest =
        let other : m.rowset ≢ r = λ one. no_true (sym e ∙ ap (λ (k : ℕ). list_any (λ (s : ℕ). s == k) numbers) one ∙ stays) in
        rest ∙ sym (ap (λ (c : Bool). cond c (Some m) (entry_of r rowsets)) (ne_eqb m.rowset r other))
    by false e rest = ap (λ (o : Option MetaRowset). cond (m.rowset == r) (Some m) o) rest

filed_left : (tells : Bool) (seen : Files) (numbers : List ℕ) (named : List MetaRowset) (files : List HeldFiles) → AreFiled tells seen named files → AreFiled tells seen (left_metas numbers named) (files_left (disks numbers) files)
filed_left tells seen numbers named files filed r h there =
    let own = files_stay numbers r h files there in
    let is = filed r h own.1 in
    record { entry = is.entry; there = entry_left numbers r named own.0 ∙ is.there; held = is.held; names = is.names; holds = is.holds; is = is.is }

-- ---- outputs more

files_both : (r : ℕ) (h : HeldFiles) (files outputs : List HeldFiles) → files_of r (files ++ outputs) ≡ Some h → (files_of r files ≡ Some h) ⊎ (files_of r outputs ≡ Some h)
files_both r h [] outputs there = inr there
files_both r h (x ∷ files) outputs there = by (x.number == r) there (files_both r h files outputs)
  where
    by : (b : Bool) → cond b (Some x) (files_of r (files ++ outputs)) ≡ Some h → (files_of r (files ++ outputs) ≡ Some h → (files_of r files ≡ Some h) ⊎ (files_of r outputs ≡ Some h)) → (cond b (Some x) (files_of r files) ≡ Some h) ⊎ (files_of r outputs ≡ Some h)
    by true is rest = inl is
    by false is rest = rest is

-- an entry stays, with others behind it
entry_front : (r : ℕ) (entry : MetaRowset) (rowsets metas : List MetaRowset) → entry_of r rowsets ≡ Some entry → entry_of r (rowsets ++ metas) ≡ Some entry
entry_front r entry [] metas there = absurd (no_some entry there)
entry_front r entry (m ∷ rowsets) metas there = by (m.rowset == r) there (entry_front r entry rowsets metas)
  where
    by : (b : Bool) → cond b (Some m) (entry_of r rowsets) ≡ Some entry → (entry_of r rowsets ≡ Some entry → entry_of r (rowsets ++ metas) ≡ Some entry) → cond b (Some m) (entry_of r (rowsets ++ metas)) ≡ Some entry
    by true is rest = is
    by false is rest = rest is

-- a superblock names rowsets below its next number, and so do those that are left
abbrev AreLowMetas : ℕ → List MetaRowset → Type 0
AreLowMetas next [] = Unit {0}
AreLowMetas next (m ∷ rowsets) = (m.rowset < next) × AreLowMetas next rowsets

low_metas : (next file least : ℕ) (taken : List ℕ) (rowsets : List MetaRowset) → AreRowsets next file least taken rowsets → AreLowMetas next rowsets
low_metas next file least taken [] are = tt
low_metas next file least taken (m ∷ rowsets) are = (ltb-true m.rowset next (both_true (nat_le least m.rowset) (nat_lt m.rowset next) are.0.rowset).1, low_metas next file (m.rowset + 1) (taken_by taken m) rowsets are.1)

low_left : (next : ℕ) (numbers : List ℕ) (rowsets : List MetaRowset) → AreLowMetas next rowsets → AreLowMetas next (left_metas numbers rowsets)
low_left next numbers [] low = low
low_left next numbers (m ∷ rowsets) low = by (list_any (λ (s : ℕ). s == m.rowset) numbers) (low_left next numbers rowsets low.1)
  where
    by : (b : Bool) → AreLowMetas next (left_metas numbers rowsets) → AreLowMetas next (cond (not b) (m ∷ left_metas numbers rowsets) (left_metas numbers rowsets))
    by true rest = rest
    by false rest = (low.0, rest)

-- an entry that is not among those in front is behind them
entry_behind : (next r : ℕ) (rowsets metas : List MetaRowset) → AreLowMetas next rowsets → next ≤ r → entry_of r (rowsets ++ metas) ≡ entry_of r metas
entry_behind next r [] metas low le = refl
entry_behind next r (m ∷ rowsets) metas low le =
    let here : m.rowset < next = low.0 in
    ap (λ (b : Bool). cond b (Some m) (entry_of r (rowsets ++ metas))) (ne_eqb m.rowset r (λ e. omega arith)) ∙ entry_behind next r rowsets metas low.1 le

-- outputs have numbers from one on
number_from : (first r : ℕ) (h : HeldFiles) (metas : List MetaRowset) (outputs : List HeldFiles) → AreNamed metas outputs → AreFrom first (rowsets_in metas outputs) → files_of r outputs ≡ Some h → first ≤ r
number_from first r h [] [] named from there = absurd (no_some h there)
number_from first r h [] (x ∷ outputs) named from there = absurd named
number_from first r h (m ∷ metas) [] named from there = absurd named
number_from first r h (m ∷ metas) (x ∷ outputs) named from there = by (x.number == r) refl there (number_from first r h metas outputs named.1 from.1)
  where
    by : (b : Bool) → (x.number == r) ≡ b → cond b (Some x) (files_of r outputs) ≡ Some h → (files_of r outputs ≡ Some h → first ≤ r) → first ≤ r
    by true same is rest = subst (λ (k : ℕ). first ≤ k) (eqb-true x.number r same) from.0
    by false other is rest = rest is

filed_both : (tells : Bool) (seen : Files) (next first : ℕ) (rowsets metas : List MetaRowset) (files outputs : List HeldFiles) → AreLowMetas next rowsets → next ≤ first → AreFrom first (rowsets_in metas outputs)
    → AreNamed metas outputs → (IsTrue tells → HoldAll seen metas outputs) → AreFiled tells seen rowsets files → AreFiled tells seen (rowsets ++ metas) (files ++ outputs)
filed_both tells seen next first rowsets metas files outputs low le from named hold filed r h there = elim (files_both r h files outputs there) [
  | inl was ↦ (
      let is = filed r h was in
      record { entry = is.entry; there = entry_front r is.entry rowsets metas is.there; held = is.held; names = is.names; holds = is.holds; is = is.is }
      )
  | inr own ↦ (
      let is = filed_read tells seen metas outputs outputs named (read_whole outputs) hold r h own in
      let high : next ≤ r = (let up = number_from first r h metas outputs named from own in omega arith) in
      record { entry = is.entry; there = entry_behind next r rowsets metas low high ∙ is.there; held = is.held; names = is.names; holds = is.holds; is = is.is }
      )
]

-- a job is over: what it takes has left, and its outputs stand behind
pub filed_over : (tells : Bool) (seen : Files) (t : Takes) (next file first : ℕ) (named metas : List MetaRowset) (files outputs : List HeldFiles) → AreRowsets next file 0 [] named → next ≤ first → AreFrom first (rowsets_in metas outputs)
    → AreNamed metas outputs → (IsTrue tells → HoldAll seen metas outputs) → AreFiled tells seen named files → AreFiled tells seen (metas_left t named ++ metas) (files_left t files ++ outputs)
filed_over tells seen (memory last) next file first named metas files outputs are le from beside hold filed = filed_both tells seen next first named metas files outputs (low_metas next file 0 [] named are) le from beside hold filed
filed_over tells seen (disks numbers) next file first named metas files outputs are le from beside hold filed =
    filed_both tells seen next first (left_metas numbers named) metas (files_left (disks numbers) files) outputs (low_left next numbers named (low_metas next file 0 [] named are)) le from beside hold (filed_left tells seen numbers named files filed)

-- ---- others in their place

refs_named : (files : List FileHeld) → deltas_named (as_files files) ≡ map delta_ref files
refs_named [] = refl
refs_named (f ∷ files) = ap (λ (l : List FileRef). delta_ref f ∷ l) (refs_named files)

pub own_names : (dms : ℕ) (d : RowSetData) → Names (meta_in dms d) (held_in d)
own_names dms d = λ i. record (meta_in dms d) { undo = refs_named d.undo i; redo = refs_named d.redo i }

-- the entry of its number
pub entry_own : (r : ℕ) (m entry : MetaRowset) (rowsets : List MetaRowset) → m.rowset ≡ r → entry_of r rowsets ≡ Some entry → entry_of r (in_place m rowsets) ≡ Some m
entry_own r m entry [] same there = absurd (no_some entry there)
entry_own r m entry (x ∷ rowsets) same there = by (x.rowset == m.rowset) refl (entry_own r m entry rowsets same)
  where
    by : (b : Bool) → (x.rowset == m.rowset) ≡ b → (entry_of r rowsets ≡ Some entry → entry_of r (in_place m rowsets) ≡ Some m) → cond ((cond b m x).rowset == r) (Some (cond b m x)) (entry_of r (in_place m rowsets)) ≡ Some m
    by true e rest = ap (λ (c : Bool). cond c (Some m) (entry_of r (in_place m rowsets))) (eq-eqb m.rowset r same)
    by false e rest =
        let other : (x.rowset == r) ≡ false = ap (λ (k : ℕ). x.rowset == k) (sym same) ∙ e in
        ap (λ (c : Bool). cond c (Some x) (entry_of r (in_place m rowsets))) other
        ∙ rest (sym (ap (λ (c : Bool). cond c (Some x) (entry_of r rowsets)) other) ∙ there)

-- another is as it was
entry_other : (r : ℕ) (m : MetaRowset) (rowsets : List MetaRowset) → m.rowset ≢ r → entry_of r (in_place m rowsets) ≡ entry_of r rowsets
entry_other r m [] other = refl
entry_other r m (x ∷ rowsets) other = by (x.rowset == m.rowset) refl ∙ ap (λ (o : Option MetaRowset). cond (x.rowset == r) (Some x) o) (entry_other r m rowsets other)
  where
    by : (b : Bool) → (x.rowset == m.rowset) ≡ b → cond ((cond b m x).rowset == r) (Some (cond b m x)) (entry_of r (in_place m rowsets)) ≡ cond (x.rowset == r) (Some x) (entry_of r (in_place m rowsets))
    by true e =
        ap (λ (c : Bool). cond c (Some m) (entry_of r (in_place m rowsets))) (ne_eqb m.rowset r other)
        ∙ sym (ap (λ (c : Bool). cond c (Some x) (entry_of r (in_place m rowsets))) (ne_eqb x.rowset r (λ same. other (sym (eqb-true x.rowset m.rowset e) ∙ same))))
    by false e = refl

-- the files of its number, where some are there
pub files_own : (r : ℕ) (h now : HeldFiles) (files : List HeldFiles) → h.number ≡ r → files_of r (with_files h files) ≡ Some now → (was : HeldFiles) × (files_of r files ≡ Some was) × (now ≡ h)
files_own r h now [] same there = absurd (no_some now there)
files_own r h now (x ∷ files) same there = by (x.number == h.number) refl there (files_own r h now files same)
  where
    by : (b : Bool) → (x.number == h.number) ≡ b → files_of r (cond b (h ∷ files) (x ∷ with_files h files)) ≡ Some now → (files_of r (with_files h files) ≡ Some now → (was : HeldFiles) × (files_of r files ≡ Some was) × (now ≡ h)) → (was : HeldFiles) × (files_of r (x ∷ files) ≡ Some was) × (now ≡ h)
    by true e is behind = (
      x,
      ap (λ (c : Bool). cond c (Some x) (files_of r files)) (eq-eqb x.number r (eqb-true x.number h.number e ∙ same)),
      sym (some_is h now (sym (ap (λ (c : Bool). cond c (Some h) (files_of r files)) (eq-eqb h.number r same)) ∙ is)),
    )
    by false e is behind =
        let other : (x.number == r) ≡ false = ap (λ (k : ℕ). x.number == k) (sym same) ∙ e in
        let rest = behind (sym (ap (λ (c : Bool). cond c (Some x) (files_of r (with_files h files))) other) ∙ is) in
        (rest.0, ap (λ (c : Bool). cond c (Some x) (files_of r files)) other ∙ rest.1, rest.2)

pub files_other : (r : ℕ) (h : HeldFiles) (files : List HeldFiles) → h.number ≢ r → files_of r (with_files h files) ≡ files_of r files
files_other r h [] other = refl
files_other r h (x ∷ files) other = by (x.number == h.number) refl (files_other r h files other)
  where
    by : (b : Bool) → (x.number == h.number) ≡ b → files_of r (with_files h files) ≡ files_of r files → files_of r (cond b (h ∷ files) (x ∷ with_files h files)) ≡ cond (x.number == r) (Some x) (files_of r files)
    by true e rest =
        ap (λ (c : Bool). cond c (Some h) (files_of r files)) (ne_eqb h.number r other)
        ∙ sym (ap (λ (c : Bool). cond c (Some x) (files_of r files)) (ne_eqb x.number r (λ same. other (sym (eqb-true x.number h.number e) ∙ same))))
    by false e rest = ap (λ (o : Option HeldFiles). cond (x.number == r) (Some x) o) rest

pub filed_in_place : (tells : Bool) (seen : Files) (rowsets : List MetaRowset) (files : List HeldFiles) (dms : ℕ) (d : RowSetData) → (IsTrue tells → HoldsRowset seen (meta_in dms d) (held_in d)) → AreFiled tells seen rowsets files
    → AreFiled tells seen (in_place (meta_in dms d) rowsets) (with_files (held_in d) files)
filed_in_place tells seen rowsets files dms d hold filed r h there = by (d.number == r) refl
  where
    by : (b : Bool) → (d.number == r) ≡ b → IsFiled tells seen (in_place (meta_in dms d) rowsets) r h
    by true e =
        let same : d.number ≡ r = eqb-true d.number r e in
        let own = files_own r (held_in d) h files same there in
        let was = filed r own.0 own.1 in
        record { entry = meta_in dms d; there = entry_own r (meta_in dms d) was.entry rowsets same was.there; held = held_in d; names = own_names dms d; holds = hold; is = inl own.2 }
    by false e =
        let other : d.number ≢ r = λ same. (let no : true ≡ false = sym (eq-eqb d.number r same) ∙ e in cc) in
        let was = filed r h (sym (files_other r (held_in d) files other) ∙ there) in
        record { entry = was.entry; there = entry_other r (meta_in dms d) rowsets other ∙ was.there; held = was.held; names = was.names; holds = was.holds; is = was.is }

-- ---- which superblock is told of which files

-- none publishes
pub none_at : (number : ℕ) (v : UpkeepsView) (files : List HeldFiles) → v.publishing ≡ None → files_over (job_at number (publisher v)) files ≡ files
none_at number v files none = ap (λ (p : Option ℕ). files_over (job_at number (publisher_by p v)) files) none

-- one that publishes
pub before_job : (number : ℕ) (job : JobView) → number < job.super → job_at number (Some job) ≡ None
before_job number job low = ap (λ (b : Bool). cond b (Some job) None) (lt-leb job.super number low)

pub own_job : (number : ℕ) (job : JobView) → job.super ≤ number → job_at number (Some job) ≡ Some job
own_job number job le = ap (λ (b : Bool). cond b (Some job) None) (le-leb job.super number le)
