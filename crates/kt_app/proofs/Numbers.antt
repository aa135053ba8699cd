-- The files beside the log, and the numbers that a run adds to those that both devices had.
use Rattle.std.proofs.Common.{◌≡◌, ℕ, ◌+◌, ◌<◌, ◌≤◌, max, List, [], ◌∷◌, ◌++◌, map, length, zero, suc, Option, Some, None, Result, Ok, Err, inl, inr, refl, sym, ap, subst, ◌∙◌, arith, Bool, true, false, cond, leb, ltb, ◌&&◌}
use Rattle.std.specs.Prelude.{◌⊎◌, IsTrue, ◌^◌, ◌==◌, nat_lt, unwrap_or}
use Rattle.std.specs.List.{All, AllByRecursion, Contains, flat_map}
use Rattle.std.proofs.lemmas.List.Elements.{All-nil, All-cons, All-head, All-tail, All-append, All-contains, Contains-append_cases, Contains-append_left, Contains-append_right}
use Rattle.std.proofs.lemmas.Bool.{ltb-true}
use Rattle.std.proofs.lemmas.Grind.{flat_map-append}
use Rattle.kt_base.proofs.Values.{both_true}
use Rattle.kt_disk.specs.Disk.{Files, held}
use Rattle.kt_history.specs.declared.target.Target.{Target}
use Rattle.kt_history.specs.declared.target.Target.TheVariants.{Mem, Delta}
use Rattle.kt_records.specs.declared.entry.Entry.{Entry}
use Rattle.kt_records.specs.declared.entry.Entry.TheVariants.{Replicate, Commit}
use Rattle.kt_records.specs.declared.entry.CommitRow.{CommitRow}
use Rattle.kt_records.specs.Numbers.{numbers_in, numbers_of, all_numbers}
use Rattle.kt_journal.specs.Log.{log_of, found_in, records_of}
use Rattle.kt_journal.specs.Numbers as journal
use Rattle.kt_journal.proofs.Faults.{same_log}
use Rattle.kt_journal.proofs.Near.{image_up_to}
use Rattle.kt_super.specs.declared.meta.Meta.{Meta}
use Rattle.kt_super.specs.declared.meta.FileRef.{FileRef}
use Rattle.kt_super.specs.declared.meta.MetaRowset.{MetaRowset}
use Rattle.kt_super.specs.Body.{IsMeta}
use Rattle.kt_super.specs.Rowsets.{numbers_of as files_of, IsFile, AreFiles, IsRowset, taken_by, AreRowsets}
use Rattle.kt_super.specs.declared.refusal.Place.{Place as Fault}
use Rattle.kt_super.specs.Slots.{super_of, slot_at, newer, of_both}
use Rattle.kt_rowfiles.specs.Files.{DiskRowset}
use Rattle.kt_diskrowset.specs.Rowset.{HeldFiles}
use Rattle.kt_files.specs.Content.{rowset_in, rowsets_in}
use Rattle.kt_files.specs.Reading.{HoldAll}
use Rattle.kt_content.specs.Places.{Super, disk, memory, last_dms_of}
use Rattle.kt_content.specs.Opening.{Placed}
use Rattle.kt_schema.specs.declared.column.Column.{Column}
use Rattle.kt_schema.specs.Columns.{fill_of}
use Rattle.kt_reopen.specs.Bare.{places_under}
use Rattle.kt_reopen.specs.declared.why.Why.{Why}
use Rattle.kt_reopen.specs.Both.{Read, Found, Answers, AnswersLater, read_both, count_why, unless, super_in, stores_after, nothing, found_or_late}
use Rattle.kt_reopen.specs.Both.Answers.{at_once, first, later}
use Rattle.kt_reopen.specs.Both.AnswersLater.{in_file, in_column, too_late, whole}
use Rattle.kt_storeside.specs.Supers.{SpellNoOther}
use Rattle.kt_storeside.specs.Sides.{Most, greatest_dms as dms_among, most_from}
use Rattle.kt_reopen.specs.Holding.{IsOfStore}
use Rattle.kt_reopen.specs.Opened.{found_of, first_meta}
use Rattle.kt_reopen.specs.Numbers.{next_rowset, behind_rowsets, named_of, named_by, greatest_mem, greatest_dms, dms_under, name_of}
use Rattle.kt_engine.specs.Engines.{KeepsOthers}
use Rattle.kt_engine.specs.Logged.{HoldsRecords}
use Rattle.kt_engine.specs.Near.{NamesEach, IsUpTo, IsBelow, first_number}
use Rattle.kt_app.specs.Images.{Image, CrashLeaves, Both, KeepsFrames, KeepsFiles, IsSlotNumber, numbers_by, numbers_in as spelled, AreUpTo, NumbersAreNear, IsMadeNear, SpellNear}

-- ---- the files beside the log

-- images with the frames of before have the files of before
pub frames_files : (before after : Files → Type 0) → KeepsFrames before after → KeepsFiles before after
frames_files before after keeps files is = let was = keeps files is in (was.0, was.1, was.3)

pub keeps_files : {L : Type 0} (tells : Bool) (now : L → ℕ) (leaves : L → ℕ → Files → Type 0) (log logged : L) → (IsTrue tells → KeepsOthers now leaves log logged) → KeepsFiles (CrashLeaves tells now leaves log) (CrashLeaves tells now leaves logged)
keeps_files tells now leaves log logged others files left = let was = others left.0 files left.1 in (was.image, (left.0, was.was_left), λ n apart. was.others n (apart, tt))

-- ---- numbers of stores up to a bound

no_number : (n : ℕ) → Contains [] n → ⊥
no_number n has = omega (arith, has.1)

-- of a list that begins with a number
first_or : (m : ℕ) (ns : List ℕ) (n : ℕ) → Contains (m ∷ ns) n → (m ≡ n) ⊎ Contains ns n
first_or m ns n (zero, low, is) = inl is
first_or m ns n (suc k, low, is) = inr (k, omega arith, is)

has_first : (m : ℕ) (ns : List ℕ) → Contains (m ∷ ns) m
has_first m ns = (0, omega arith, refl)

has_rest : (m : ℕ) (ns : List ℕ) (n : ℕ) → Contains ns n → Contains (m ∷ ns) n
has_rest m ns n has = Contains-append_right (m ∷ []) ns n has

module _ (b : ℕ) where
  abbrev Low : List ℕ → Type 0
  Low numbers = (n : ℕ) → Contains numbers n → n ≤ b

  -- stores are up to it where their numbers are, and the other way round
  numbers_low : (targets : List Target) → All (IsUpTo b) targets → Low (numbers_in targets)
  numbers_low [] all n has = absurd (no_number n has)
  numbers_low (Mem m ∷ targets) all n has = elim (first_or m (numbers_in targets) n has) [
    | inl is ↦ subst (λ x. x ≤ b) is (All-head (IsUpTo b) (Mem m) targets all)
    | inr more ↦ numbers_low targets (All-tail (IsUpTo b) (Mem m) targets all) n more
  ]
  numbers_low (Delta r d ∷ targets) all n has = elim (first_or r (d ∷ numbers_in targets) n has) [
    | inl is ↦ subst (λ x. x ≤ b) is (All-head (IsUpTo b) (Delta r d) targets all).0
    | inr more ↦ elim (first_or d (numbers_in targets) n more) [
      | inl is ↦ subst (λ x. x ≤ b) is (All-head (IsUpTo b) (Delta r d) targets all).1
      | inr rest ↦ numbers_low targets (All-tail (IsUpTo b) (Delta r d) targets all) n rest
    ]
  ]

  targets_low : (targets : List Target) → Low (numbers_in targets) → All (IsUpTo b) targets
  targets_low [] low = All-nil (IsUpTo b)
  targets_low (Mem m ∷ targets) low = All-cons (IsUpTo b) (Mem m) targets (low m (has_first m (numbers_in targets))) (targets_low targets (λ n has. low n (has_rest m (numbers_in targets) n has)))
  targets_low (Delta r d ∷ targets) low = All-cons (IsUpTo b) (Delta r d) targets (low r (has_first r (d ∷ numbers_in targets)), low d (has_rest r (d ∷ numbers_in targets) d (has_first d (numbers_in targets))))
      (targets_low targets (λ n has. low n (has_rest r (d ∷ numbers_in targets) n (has_rest d (numbers_in targets) n has))))

  -- what records name is up to it where their numbers are
  named_low : (rows : List CommitRow) → Low (flat_map (λ (row : CommitRow). numbers_in row.targets) rows) → All (IsUpTo b) (named_of rows)
  named_low [] low = All-nil (IsUpTo b)
  named_low (row ∷ rows) low = All-append (IsUpTo b) row.targets (named_of rows)
      (targets_low row.targets (λ n has. low n (Contains-append_left (numbers_in row.targets) (flat_map (λ (r : CommitRow). numbers_in r.targets) rows) n has)))
      (named_low rows (λ n has. low n (Contains-append_right (numbers_in row.targets) (flat_map (λ (r : CommitRow). numbers_in r.targets) rows) n has)))

  all_named_low : (records : List Entry) → Low (all_numbers records) → All (IsUpTo b) (named_by records)
  all_named_low [] low = All-nil (IsUpTo b)
  all_named_low (Replicate ts ops ∷ records) low = all_named_low records low
  all_named_low (Commit ts rows ∷ records) low = All-append (IsUpTo b) (named_of rows) (named_by records)
      (named_low rows (λ n has. low n (Contains-append_left (numbers_of (Commit ts rows)) (all_numbers records) n has)))
      (all_named_low records (λ n has. low n (Contains-append_right (numbers_of (Commit ts rows)) (all_numbers records) n has)))

  -- and so are the greatest of them
  mem_low : (targets : List Target) → All (IsUpTo b) targets → greatest_mem targets ≤ b
  mem_low [] all = omega arith
  mem_low (Mem m ∷ targets) all = omega (arith, All-head (IsUpTo b) (Mem m) targets all, mem_low targets (All-tail (IsUpTo b) (Mem m) targets all))
  mem_low (Delta r d ∷ targets) all = mem_low targets (All-tail (IsUpTo b) (Delta r d) targets all)

  dms_low : (r : ℕ) (targets : List Target) → All (IsUpTo b) targets → greatest_dms r targets ≤ b
  dms_low r [] all = omega arith
  dms_low r (Mem m ∷ targets) all = dms_low r targets (All-tail (IsUpTo b) (Mem m) targets all)
  dms_low r (Delta s d ∷ targets) all =
      let here : d ≤ b = (All-head (IsUpTo b) (Delta s d) targets all).1 in
      let more : greatest_dms r targets ≤ b = dms_low r targets (All-tail (IsUpTo b) (Delta s d) targets all) in
      elim (s == r) as (λ c. cond c (max d (greatest_dms r targets)) (greatest_dms r targets) ≤ b) [ true ↦ omega arith | false ↦ more ]

-- COMMITs that name numbers below a bound alone
module _ (b : ℕ) where
  abbrev Short : List ℕ → Type 0
  Short numbers = (n : ℕ) → Contains numbers n → n < b

  below_short : (targets : List Target) → All (IsBelow b) targets → Short (numbers_in targets)
  below_short [] all n has = absurd (no_number n has)
  below_short (Mem m ∷ targets) all n has = elim (first_or m (numbers_in targets) n has) [
    | inl is ↦ subst (λ x. x < b) is (All-head (IsBelow b) (Mem m) targets all)
    | inr more ↦ below_short targets (All-tail (IsBelow b) (Mem m) targets all) n more
  ]
  below_short (Delta r d ∷ targets) all n has = elim (first_or r (d ∷ numbers_in targets) n has) [
    | inl is ↦ subst (λ x. x < b) is (All-head (IsBelow b) (Delta r d) targets all).0
    | inr more ↦ elim (first_or d (numbers_in targets) n more) [
      | inl is ↦ subst (λ x. x < b) is (All-head (IsBelow b) (Delta r d) targets all).1
      | inr rest ↦ below_short targets (All-tail (IsBelow b) (Delta r d) targets all) n rest
    ]
  ]

  abbrev Named : CommitRow → Type 0
  Named row = All (IsBelow b) row.targets

  rows_short : (rows : List CommitRow) → All Named rows → Short (flat_map (λ (row : CommitRow). numbers_in row.targets) rows)
  rows_short [] each n has = absurd (no_number n has)
  rows_short (row ∷ rows) each n has = elim (Contains-append_cases (numbers_in row.targets) (flat_map (λ (r : CommitRow). numbers_in r.targets) rows) n has) [
    | inl here ↦ below_short row.targets (All-head Named row rows each) n here
    | inr more ↦ rows_short rows (All-tail Named row rows each) n more
  ]

  records_short : (records : List Entry) → All (NamesEach (IsBelow b)) records → Short (all_numbers records)
  records_short [] each n has = absurd (no_number n has)
  records_short (Replicate ts ops ∷ records) each n has = records_short records (All-tail (NamesEach (IsBelow b)) (Replicate ts ops) records each) n has
  records_short (Commit ts rows ∷ records) each n has = elim (Contains-append_cases (numbers_of (Commit ts rows)) (all_numbers records) n has) [
    | inl here ↦ rows_short rows (All-head (NamesEach (IsBelow b)) (Commit ts rows) records each) n here
    | inr more ↦ records_short records (All-tail (NamesEach (IsBelow b)) (Commit ts rows) records each) n more
  ]

-- ---- the names that are given at opening

-- the rowsets of a superblock and its last MemRowSet are up to a bound
pub record IsLow (b : ℕ) (super : Super) : Type 0 where
  pub mem : super.last_mem ≤ b
  pub rowsets : All (λ (d : DiskRowset). (d.rowset ≤ b) × (d.last_dms ≤ b)) super.rowsets

last_low : (b r : ℕ) (rowsets : List DiskRowset) → All (λ (d : DiskRowset). (d.rowset ≤ b) × (d.last_dms ≤ b)) rowsets → unwrap_or (last_dms_of r rowsets) 0 ≤ b
last_low b r [] all = omega arith
last_low b r (d ∷ rowsets) all =
    let P = λ (e : DiskRowset). (e.rowset ≤ b) × (e.last_dms ≤ b) in
    let here : d.last_dms ≤ b = (All-head P d rowsets all).1 in
    elim (d.rowset == r) as (λ c. unwrap_or (cond c (Some d.last_dms) (last_dms_of r rowsets)) 0 ≤ b) [ true ↦ here | false ↦ last_low b r rowsets (All-tail P d rowsets all) ]

-- each number that is given is one above them at most
module _ (b : ℕ) (super : Super) (records : List Entry) (low : IsLow b super) (numbers : (n : ℕ) → Contains (all_numbers records) n → n ≤ b) where
  abbrev named : All (IsUpTo b) (named_by records)
  named = all_named_low b records numbers

  dms_given : (r : ℕ) → dms_under super records r ≤ b + 1
  dms_given r = omega (arith, last_low b r super.rowsets low.rowsets, dms_low b r (named_by records) named)

  rowsets_given : (rowsets : List DiskRowset) → All (λ (d : DiskRowset). (d.rowset ≤ b) × (d.last_dms ≤ b)) rowsets → All (IsUpTo (b + 1)) (map (name_of super records) (map (λ (d : DiskRowset). disk d.rowset) rowsets))
  rowsets_given [] all = All-nil (IsUpTo (b + 1))
  rowsets_given (d ∷ rowsets) all =
      let P = λ (e : DiskRowset). (e.rowset ≤ b) × (e.last_dms ≤ b) in
      let here : d.rowset ≤ b = (All-head P d rowsets all).0 in
      All-cons (IsUpTo (b + 1)) (name_of super records (disk d.rowset)) (map (name_of super records) (map (λ (e : DiskRowset). disk e.rowset) rowsets)) (omega arith, dms_given d.rowset) (rowsets_given rowsets (All-tail P d rowsets all))

  pub names_low : All (IsUpTo (b + 1)) (map (name_of super records) (places_under super))
  names_low = All-cons (IsUpTo (b + 1)) (name_of super records memory) (map (name_of super records) (map (λ (d : DiskRowset). disk d.rowset) super.rowsets)) (omega (arith, low.mem, mem_low b (named_by records) named)) (rowsets_given super.rowsets low.rowsets)

-- ---- the superblock of an image

-- one of both slots spells it
of_newer : (one two : Option Meta) (m : Meta) → newer one two ≡ Some m → (one ≡ Some m) ⊎ (two ≡ Some m)
of_newer None two m e = inr e
of_newer (Some x) None m e = inl e
of_newer (Some x) (Some y) m e = by (nat_lt x.number y.number) e
  where
    by : (c : Bool) → cond c (Some y) (Some x) ≡ Some m → (Some x ≡ Some m) ⊎ (Some y ≡ Some m)
    by true e = inr e
    by false e = inl e

slots_spell : (one two : Result (Option Meta) ℕ) (m : Meta) → of_both one two ≡ Ok (Some m) → (one ≡ Ok (Some m)) ⊎ (two ≡ Ok (Some m))
slots_spell (Err offset) two m e = absurd cc
slots_spell (Ok x) (Err offset) m e = absurd cc
slots_spell (Ok x) (Ok y) m e =
    let is : newer x y ≡ Some m = cc in
    elim (of_newer x y m is) [ inl is_one ↦ inl (ap (λ (o : Option Meta). Ok o) is_one) | inr is_two ↦ inr (ap (λ (o : Option Meta). Ok o) is_two) ]

spelled_there : (files : Files) (m : Meta) (n : ℕ) → super_of files ≡ Ok (Some m) → Contains (spelled m) n → IsSlotNumber files n
spelled_there files m n is has = elim (slots_spell (slot_at 1 (held files 1)) (slot_at 2 (held files 2)) m is) [
  | inl one ↦ record { slot = 1; is_slot = inl refl; superblock = m; spells = one; has = has }
  | inr two ↦ record { slot = 2; is_slot = inr refl; superblock = m; spells = two; has = has }
]

-- its rowsets, with what their files hold, are up to a bound where its numbers are
rowsets_low : (b : ℕ) (files : Files) (rs : List MetaRowset) (hs : List HeldFiles) → HoldAll files rs hs → ((n : ℕ) → Contains (flat_map numbers_by rs) n → n ≤ b)
    → All (λ (d : DiskRowset). (d.rowset ≤ b) × (d.last_dms ≤ b)) (rowsets_in rs hs)
rowsets_low b files [] [] hold low = All-nil (λ (d : DiskRowset). (d.rowset ≤ b) × (d.last_dms ≤ b))
rowsets_low b files [] (h ∷ hs) hold low = absurd hold
rowsets_low b files (r ∷ rs) [] hold low = absurd hold
rowsets_low b files (r ∷ rs) (h ∷ hs) hold low =
    let own : Contains (numbers_by r) r.rowset = (0, omega arith, refl) in
    let stores : Contains (numbers_by r) r.last_dms = (1, omega arith, refl) in
    let rowset : r.rowset ≤ b = low r.rowset (Contains-append_left (numbers_by r) (flat_map numbers_by rs) r.rowset own) in
    let dms : r.last_dms ≤ b = low r.last_dms (Contains-append_left (numbers_by r) (flat_map numbers_by rs) r.last_dms stores) in
    let named : h.number ≤ b = subst (λ x. x ≤ b) (sym hold.0.number) rowset in
    All-cons (λ (d : DiskRowset). (d.rowset ≤ b) × (d.last_dms ≤ b)) (rowset_in r h) (rowsets_in rs hs) (named, dms)
    (rowsets_low b files rs hs hold.1 (λ n has. low n (Contains-append_right (numbers_by r) (flat_map numbers_by rs) n has)))

super_low : (b : ℕ) (files : Files) (m : Meta) (hs : List HeldFiles) → HoldAll files m.rowsets hs → ((n : ℕ) → Contains (spelled m) n → n ≤ b) → IsLow b (super_in m hs)
super_low b files m hs hold low =
    let second : Contains (spelled m) m.last_mem = (1, omega arith, refl) in
    record {
      mem = low m.last_mem second;
      rowsets = rowsets_low b files m.rowsets hs hold (λ n has. low n (Contains-append_right (m.number ∷ m.last_mem ∷ m.next_rowset ∷ m.next_file ∷ []) (flat_map numbers_by m.rowsets) n has));
    }

-- ---- what was found

abbrev meta_in : Read → Option Meta
meta_in (Ok read) = read.0
meta_in (Err why) = None

its_super : (x : Result (Option Meta) Fault) (log : Result (List Entry) ℕ) (m : Meta) (records : List Entry) → read_both x log ≡ Ok (Some m, records) → x ≡ Ok (Some m)
its_super (Err place) log m records e = absurd cc
its_super (Ok found) (Err offset) m records e = absurd cc
its_super (Ok found) (Ok rs) m records e = ap (λ (o : Option Meta). Ok o) (by (count_why found (length rs)) e)
  where
    by : (o : Option Why) → unless found rs o ≡ Ok (Some m, records) → found ≡ Some m
    by None h = ap meta_in h
    by (Some why) h = absurd cc

its_found : (f : Found) (super : Super) (records : List Entry) (stores : Result Placed ℕ) → Ok f ≡ found_or_late super records stores → f.super ≡ super
its_found f super records (Ok placed) e =
    let same : f ≡ found_of super records placed = cc in
    ap (λ (x : Found). x.super) same
its_found f super records (Err ts) e = absurd cc

later_low : (b : ℕ) (columns : List Column) (m : Meta) (records : List Entry) (store : Files) (f : Found) → ((n : ℕ) → Contains (spelled m) n → n ≤ b) → AnswersLater columns m records store (Ok f) → IsLow b f.super
later_low b columns m records store f low (in_file file offset fault e) = absurd cc
later_low b columns m records store f low (in_column hs at hold differ e) = absurd cc
later_low b columns m records store f low (too_late hs hold alike late e) = absurd cc
later_low b columns m records store f low (whole hs hold alike less e) =
    subst (IsLow b) (sym (its_found f (super_in m hs) records (stores_after (fill_of columns) (super_in m hs) records) e)) (super_low b store m hs hold low)

found_low : (b : ℕ) (columns : List Column) (log store : Files) (f : Found) → ((n : ℕ) → IsSlotNumber store n → n ≤ b) → Answers columns log store (Ok f) → IsLow b f.super
found_low b columns log store f low (at_once why read e) = absurd cc
found_low b columns log store f low (first read e) =
    let is : f ≡ nothing = cc in
    let none : IsLow b nothing.super = record { mem = omega arith; rowsets = All-nil (λ (d : DiskRowset). (d.rowset ≤ b) × (d.last_dms ≤ b)) } in
    subst (λ (x : Found). IsLow b x.super) (sym is) none
found_low b columns log store f low (later m records read behind) =
    later_low b columns m records store f (λ n has. low n (spelled_there store m n (its_super (super_of store) (log_of log) m records read) has)) behind

-- ---- the numbers of a superblock

has_next : (m : Meta) → Contains (spelled m) m.next_rowset
has_next m = has_rest m.number (m.last_mem ∷ m.next_rowset ∷ m.next_file ∷ flat_map numbers_by m.rowsets) m.next_rowset (has_rest m.last_mem (m.next_rowset ∷ m.next_file ∷ flat_map numbers_by m.rowsets) m.next_rowset (has_first m.next_rowset (m.next_file ∷ flat_map numbers_by m.rowsets)))

has_file : (m : Meta) → Contains (spelled m) m.next_file
has_file m = has_rest m.number (m.last_mem ∷ m.next_rowset ∷ m.next_file ∷ flat_map numbers_by m.rowsets) m.next_file (has_rest m.last_mem (m.next_rowset ∷ m.next_file ∷ flat_map numbers_by m.rowsets) m.next_file
    (has_rest m.next_rowset (m.next_file ∷ flat_map numbers_by m.rowsets) m.next_file (has_first m.next_file (flat_map numbers_by m.rowsets))))

has_rows : (m : Meta) (n : ℕ) → Contains (flat_map numbers_by m.rowsets) n → Contains (spelled m) n
has_rows m n has = has_rest m.number (m.last_mem ∷ m.next_rowset ∷ m.next_file ∷ flat_map numbers_by m.rowsets) n (has_rest m.last_mem (m.next_rowset ∷ m.next_file ∷ flat_map numbers_by m.rowsets) n
    (has_rest m.next_rowset (m.next_file ∷ flat_map numbers_by m.rowsets) n (has_rest m.next_file (flat_map numbers_by m.rowsets) n has)))

-- files lie below the number that a superblock gives next
file_low : (next : ℕ) (taken : List ℕ) (f : FileRef) → IsFile next taken f → f.file < next
file_low next taken f is = ltb-true f.file next (both_true (leb 3 f.file) _ (both_true (leb 3 f.file && ltb f.file next) _ is.0).0).1

files_low : (next : ℕ) (taken : List ℕ) (files : List FileRef) (n : ℕ) → AreFiles next taken files → Contains (files_of files) n → n < next
files_low next taken [] n are has = absurd (no_number n has)
files_low next taken (f ∷ files) n are has = elim (first_or f.file (files_of files) n has) [
  | inl is ↦ subst (λ x. x < next) is (file_low next taken f are.0)
  | inr more ↦ files_low next (taken ++ f.file ∷ []) files n are.1 more
]

row_low : (next_rowset next least top : ℕ) (taken : List ℕ) (r : MetaRowset) (n : ℕ) → IsRowset next_rowset next least taken r → next_rowset ≤ top → next ≤ top → r.last_dms ≤ top → Contains (numbers_by r) n → n ≤ top
row_low next_rowset next least top taken r n is rowset file dms has = elim (first_or r.rowset (r.last_dms ∷ r.base.file ∷ (files_of r.undo ++ files_of r.redo)) n has) [
  | inl own ↦ (let low = ltb-true r.rowset next_rowset (both_true (leb least r.rowset) _ is.rowset).1 in omega (arith, own, low, rowset))
  | inr rest ↦ elim (first_or r.last_dms (r.base.file ∷ (files_of r.undo ++ files_of r.redo)) n rest) [
    | inl last ↦ omega (arith, last, dms)
    | inr more ↦ elim (first_or r.base.file (files_of r.undo ++ files_of r.redo) n more) [
      | inl base ↦ (let low = file_low next taken r.base is.base in omega (arith, base, low, file))
      | inr behind ↦ elim (Contains-append_cases (files_of r.undo) (files_of r.redo) n behind) [
        | inl undo ↦ (let low = files_low next (taken ++ r.base.file ∷ []) r.undo n is.undo undo in omega (arith, low, file))
        | inr redo ↦ (let low = files_low next (taken ++ r.base.file ∷ [] ++ files_of r.undo) r.redo n is.redo redo in omega (arith, low, file))
      ]
    ]
  ]
]

rows_low : (next_rowset next least most top : ℕ) (taken : List ℕ) (rs : List MetaRowset) (n : ℕ) → AreRowsets next_rowset next least taken rs → next_rowset ≤ top → next ≤ top → AllByRecursion (λ (r : MetaRowset). r.last_dms ≤ most) rs → most ≤ top → Contains (flat_map numbers_by rs) n → n ≤ top
rows_low next_rowset next least most top taken [] n are rowset file dms up has = absurd (no_number n has)
rows_low next_rowset next least most top taken (r ∷ rs) n are rowset file dms up has = elim (Contains-append_cases (numbers_by r) (flat_map numbers_by rs) n has) [
  | inl own ↦ row_low next_rowset next least top taken r n are.0 rowset file (let low = dms.0 in omega (arith, low, up)) own
  | inr behind ↦ rows_low next_rowset next (r.rowset + 1) most top (taken_by taken r) rs n are.1 rowset file dms.1 up behind
]

-- no number of a superblock is greater than these
spelled_low : (m : Meta) (most top n : ℕ) → IsMeta m → m.number ≤ top → m.last_mem ≤ top → m.next_rowset ≤ top → m.next_file ≤ top → AllByRecursion (λ (r : MetaRowset). r.last_dms ≤ most) m.rowsets → most ≤ top → Contains (spelled m) n → n ≤ top
spelled_low m most top n rules number mem rowset file dms up has = elim (first_or m.number (m.last_mem ∷ m.next_rowset ∷ m.next_file ∷ flat_map numbers_by m.rowsets) n has) [
  | inl own ↦ omega (arith, own, number)
  | inr rest ↦ elim (first_or m.last_mem (m.next_rowset ∷ m.next_file ∷ flat_map numbers_by m.rowsets) n rest) [
    | inl last ↦ omega (arith, last, mem)
    | inr more ↦ elim (first_or m.next_rowset (m.next_file ∷ flat_map numbers_by m.rowsets) n more) [
      | inl next ↦ omega (arith, next, rowset)
      | inr behind ↦ elim (first_or m.next_file (flat_map numbers_by m.rowsets) n behind) [
        | inl next ↦ omega (arith, next, file)
        | inr rows ↦ rows_low m.next_rowset m.next_file 0 most top [] m.rowsets n rules.rowsets rowset file dms up rows
      ]
    ]
  ]
]

-- bounds that lie near a number
pub record AreNearMost (bound : ℕ) (most : Most) : Type 0 where
  pub number : most.number ≤ bound + 2 ^ 44
  pub last_mem : most.last_mem ≤ bound + 1 + 2 ^ 24
  pub last_dms : most.last_dms ≤ bound + 1 + 2 ^ 44

-- a superblock that a run made
made_low : (first_rowset first_file bound : ℕ) (most : Most) (m : Meta) (n : ℕ) → IsMadeNear first_rowset first_file most m → AreNearMost bound most → first_rowset ≤ bound + 1 → first_file ≤ bound → Contains (spelled m) n → n < bound + 2 ^ 45
made_low first_rowset first_file bound most m n made near rowset file has =
    let number = made.within.number in
    let mem = made.within.last_mem in
    let given = made.rowsets in
    let files = made.files in
    let number_near = near.number in
    let mem_near = near.last_mem in
    let dms_near = near.last_dms in
    let le : n ≤ bound + 35184372088831 = spelled_low m most.last_dms (bound + 35184372088831) n made.rules (omega (arith, number, number_near)) (omega (arith, mem, mem_near)) (omega (arith, given, rowset)) (omega (arith, files, file)) made.within.last_dms (omega (arith, dms_near)) has in
    omega (arith, le)

-- files whose slots spell what others do, or the first superblock, have none that is greater
pub slots_up : (columns : List Column) (image c : Files) (bound : ℕ) → 3 ≤ bound → SpellNoOther image (first_meta columns) c → ((k : ℕ) → IsSlotNumber image k → k ≤ bound) → (n : ℕ) → IsSlotNumber c n → n ≤ bound
slots_up columns image c bound three no_other up n g = elim (no_other g.slot g.is_slot g.superblock g.spells) [
  | inl was ↦ up n (record { slot = g.slot; is_slot = g.is_slot; superblock = g.superblock; spells = was; has = g.has })
  | inr new ↦
      let has : Contains (1 ∷ 0 ∷ 1 ∷ 3 ∷ []) n = subst (λ (m : Meta). Contains (spelled m) n) new g.has in
      elim (first_or 1 (0 ∷ 1 ∷ 3 ∷ []) n has) [
        | inl is ↦ omega arith
        | inr more ↦ elim (first_or 0 (1 ∷ 3 ∷ []) n more) [
          | inl is ↦ omega arith
          | inr rest ↦ elim (first_or 1 (3 ∷ []) n rest) [
            | inl is ↦ omega arith
            | inr last ↦ elim (first_or 3 [] n last) [ inl is ↦ omega arith | inr none ↦ absurd (no_number n none) ]
          ]
        ]
      ]
]

-- and those of files that a run leaves are near
slots_near : (first_rowset first_file bound : ℕ) (most : Most) (old files : Files) → SpellNear first_rowset first_file most old files → AreNearMost bound most → first_rowset ≤ bound + 1 → first_file ≤ bound → ((k : ℕ) → IsSlotNumber old k → k ≤ bound) → (n : ℕ) → IsSlotNumber files n → n < bound + 2 ^ 45
slots_near first_rowset first_file bound most old files spell near rowset file low n g = elim (spell g.slot g.is_slot g.superblock g.spells) [
  | inl was ↦ (let le = low n (record { slot = g.slot; is_slot = g.is_slot; superblock = g.superblock; spells = was; has = g.has }) in omega (arith, le))
  | inr made ↦ made_low first_rowset first_file bound most g.superblock n made near rowset file g.has
]

-- the next file number of the superblock that files have
pub next_spelled : (files : Files) (m : Meta) → super_of files ≡ Ok (Some m) → IsSlotNumber files m.next_file
next_spelled files m is = spelled_there files m m.next_file is (has_file m)

-- the bounds that a store begins with lie near the numbers of its superblock, of the MemRowSet and of the rowset that come next
dms_low_among : (least top : ℕ) (rs : List MetaRowset) → least ≤ top → ((k : ℕ) → Contains (flat_map numbers_by rs) k → k ≤ top) → dms_among least rs ≤ top
dms_low_among least top [] le low = le
dms_low_among least top (r ∷ rs) le low =
    let own : r.last_dms ≤ top = low r.last_dms (Contains-append_left (numbers_by r) (flat_map numbers_by rs) r.last_dms (1, omega arith, refl)) in
    let more = dms_low_among least top rs le (λ k has. low k (Contains-append_right (numbers_by r) (flat_map numbers_by rs) k has)) in
    omega (arith, own, more)

most_near : (bound mem rowset : ℕ) (m : Meta) → ((k : ℕ) → Contains (spelled m) k → k ≤ bound) → mem ≤ bound + 1 → rowset ≤ bound + 1 → AreNearMost bound (most_from m mem rowset)
most_near bound mem rowset m low mem_low rowset_low =
    let number : m.number ≤ bound = low m.number (has_first m.number (m.last_mem ∷ m.next_rowset ∷ m.next_file ∷ flat_map numbers_by m.rowsets)) in
    let last : m.last_mem ≤ bound = low m.last_mem (1, omega arith, refl) in
    record {
      number = omega (arith, number);
      last_mem = omega (arith, last, mem_low);
      last_dms = dms_low_among (rowset + 2 ^ 44) (bound + 1 + 2 ^ 44) m.rowsets (omega (arith, rowset_low)) (λ k has. let le = low k (has_rows m k has) in omega (arith, le));
    }

first_low : (b : ℕ) (names : List Target) → All (IsUpTo b) names → first_number names ≤ b
first_low b [] all = omega arith
first_low b (Mem n ∷ names) all = All-head (IsUpTo b) (Mem n) names all
first_low b (Delta r n ∷ names) all = omega arith

-- ---- numbers that are near

-- the same numbers where it has the frames and the other files of one before
pub frames_near : (columns : List Column) (logs stores logs' stores' : Files → Type 0) → KeepsFrames logs logs' → ((files : Files) → stores' files → (old : Files) × stores old × SpellNoOther old (first_meta columns) files) → NumbersAreNear (Both logs stores) (Both logs' stores')
frames_near columns logs stores logs' stores' keeps had bound three up image after n is =
    let was = keeps image.log after.0 in
    let store = had image.store after.1 in
    let each : journal.AreUpTo bound logs = λ files left k named. up (record { log = files; store = store.0 }) (left, store.1) k (inl named) in
    let same : records_of image.log ≡ records_of was.0 = ap found_in (same_log (held image.log 1) (held was.0 1) was.2) in
    elim is [
      | inl named ↦
          let le : n ≤ bound = image_up_to logs bound (omega arith) each image.log was.0 was.1 was.3 (λ k told. each was.0 was.1 k (inl (subst (λ (records : List Entry). Contains (all_numbers records) k) same told))) n named in
          omega (arith, le)
      | inr spelt ↦
          let le : n ≤ bound = slots_up columns store.0 image.store bound three store.2 (λ k slot. up (record { log = was.0; store = store.0 }) (was.1, store.1) k (inr slot)) n spelt in
          omega (arith, le)
    ]

-- devices that were let be have no number more
pub still_near : {L D : Type 0} (tells : Bool) (now : L → ℕ) (leaves : L → ℕ → Files → Type 0) (tells' : Bool) (now' : D → ℕ) (leaves' : D → ℕ → Files → Type 0) (log logged : L) (store stored : D) → logged ≡ log → stored ≡ store
    → NumbersAreNear (Both (CrashLeaves tells now leaves log) (CrashLeaves tells' now' leaves' store)) (Both (CrashLeaves tells now leaves logged) (CrashLeaves tells' now' leaves' stored))
still_near tells now leaves tells' now' leaves' log logged store stored log_is store_is =
    let before = Both (CrashLeaves tells now leaves log) (CrashLeaves tells' now' leaves' store) in
    subst (λ l. NumbersAreNear before (Both (CrashLeaves tells now leaves l) (CrashLeaves tells' now' leaves' stored))) (sym log_is)
    (subst (λ s. NumbersAreNear before (Both (CrashLeaves tells now leaves log) (CrashLeaves tells' now' leaves' s))) (sym store_is) itself)
  where
    itself : NumbersAreNear (Both (CrashLeaves tells now leaves log) (CrashLeaves tells' now' leaves' store)) (Both (CrashLeaves tells now leaves log) (CrashLeaves tells' now' leaves' store))
    itself bound three up image is n numbered = let le = up image is n numbered in omega (arith, le)

-- ---- the rowset number that is given first

behind_low : (b : ℕ) (targets : List Target) → All (IsUpTo b) targets → behind_rowsets targets ≤ b + 1
behind_low b [] all = omega arith
behind_low b (Mem m ∷ targets) all = behind_low b targets (All-tail (IsUpTo b) (Mem m) targets all)
behind_low b (Delta r d ∷ targets) all =
    let here : r ≤ b = (All-head (IsUpTo b) (Delta r d) targets all).0 in
    let more : behind_rowsets targets ≤ b + 1 = behind_low b targets (All-tail (IsUpTo b) (Delta r d) targets all) in
    omega arith

-- the superblock that opening leaves is that of an image before, or the first one
pub next_low : {D : Type 0} (now : D → ℕ) (leaves : D → ℕ → Files → Type 0) (columns : List Column) (store : D) (c : Files) (m : Meta) (b : ℕ) → 1 ≤ b → IsOfStore now leaves (first_meta columns) store c → super_of c ≡ Ok (Some m)
    → ((files : Files) → leaves store (now store) files → (n : ℕ) → IsSlotNumber files n → n ≤ b) → m.next_rowset ≤ b
next_low now leaves columns store c m b one of is up = elim of.super [
  | inl same ↦ up of.image of.was_left m.next_rowset (spelled_there of.image m m.next_rowset (sym same ∙ is) (has_next m))
  | inr fresh ↦ (let e : Some (first_meta columns) ≡ Some m = is_ok (sym fresh.1 ∙ is) in let n : 1 ≡ m.next_rowset = ap next_of e in omega (arith, n, one))
]
  where
    is_ok : {A E : Type 0} {x y : A} → ◌≡◌ {A = Result A E} (Ok x) (Ok y) → x ≡ y
    is_ok e = cc

    next_of : Option Meta → ℕ
    next_of None = 0
    next_of (Some o) = o.next_rowset

-- Behind the records that were found in both devices as they were read a run's COMMITs name numbers that are near those that opening gave.
module _ (logs stores logs' stores' : Files → Type 0) (columns : List Column) (names : List Target) (first next : ℕ) where
  -- the stores that opening made have such names
  names_up : (log store : Files) → logs log → stores store → (f : Found) → Answers columns log store (Ok f) → (records : List Entry) → log_of log ≡ Ok records → f.records ≡ records → names ≡ map (name_of f.super f.records) (places_under f.super)
      → (bound : ℕ) → AreUpTo bound (Both logs stores) → All (IsUpTo (bound + 1)) names
  names_up log store had stored f answer records reads records_are names_are bound up =
      let low : (k : ℕ) → Contains (all_numbers records) k → k ≤ bound = λ k has. up (record { log = log; store = store }) (had, stored) k (inl (inl (subst (λ (rs : List Entry). Contains (all_numbers rs) k) (sym (ap found_in reads)) has))) in
      let slots : (k : ℕ) → IsSlotNumber store k → k ≤ bound = λ k is. up (record { log = log; store = store }) (had, stored) k (inr is) in
      subst (All (IsUpTo (bound + 1))) (sym names_are)
      (names_low bound f.super f.records (found_low bound columns log store f slots answer) (subst (λ (rs : List Entry). (k : ℕ) → Contains (all_numbers rs) k → k ≤ bound) (sym records_are) low))

  -- of an image after, where both devices told what was found
  pub near_at : (log store : Files) → logs log → stores store → (f : Found) → Answers columns log store (Ok f) → (records : List Entry) → log_of log ≡ Ok records → f.records ≡ records → names ≡ map (name_of f.super f.records) (places_under f.super)
      → KeepsFiles logs logs' → (image : Image) → logs' image.log → ((b : ℕ) → 1 ≤ b → first ≤ b + 1 → All (IsUpTo (b + 1)) names → HoldsRecords records (IsBelow (b + 2 ^ 45)) image.log)
      → first ≡ next_rowset next records → (bound : ℕ) → 3 ≤ bound → AreUpTo bound (Both logs stores) → next ≤ bound → (n : ℕ) → journal.IsNumberOf image.log n → n < bound + 2 ^ 45
  near_at log store had stored f answer records reads records_are names_are files image left run first_is bound three up next_is n named =
      let each : journal.AreUpTo bound logs = λ l left' k told. up (record { log = l; store = store }) (left', stored) k (inl told) in
      let low : (k : ℕ) → Contains (all_numbers records) k → k ≤ bound = λ k has. each log had k (inl (subst (λ (rs : List Entry). Contains (all_numbers rs) k) (sym (ap found_in reads)) has)) in
      let given = names_up log store had stored f answer records reads records_are names_are bound up in
      let behind : behind_rowsets (named_by records) ≤ bound + 1 = behind_low bound (named_by records) (all_named_low bound records low) in
      let more = run bound (omega (arith, three)) (omega (arith, first_is, behind, next_is)) given in
      let own : (k : ℕ) → Contains (all_numbers more.run) k → k < bound + 2 ^ 45 = records_short (bound + 2 ^ 45) more.run more.names in
      let all : (k : ℕ) → Contains (all_numbers (records_of image.log)) k → k ≤ bound + 35184372088831 = λ k told.
      elim (Contains-append_cases (all_numbers records) (all_numbers more.run) k (subst (λ (numbers : List ℕ). Contains numbers k) (ap (λ r. all_numbers (found_in r)) more.reads ∙ flat_map-append numbers_of records more.run) told)) [
        | inl front ↦ let here = low k front in omega (arith, here)
        | inr behind ↦ let here = own k behind in omega (arith, here)
      ] in
      let was = files image.log left in
      let wide : journal.AreUpTo (bound + 35184372088831) logs = λ l left' k told. let le = each l left' k told in omega (arith, le) in
      let le : n ≤ bound + 35184372088831 = image_up_to logs (bound + 35184372088831) (omega (arith, three)) wide image.log was.0 was.1 was.2 all n named in
      omega (arith, le)

  -- and so are the numbers in the store after, where that as opening left it had those of images before
  pub store_at : (log store : Files) → logs log → stores store → (f : Found) → Answers columns log store (Ok f) → (records : List Entry) → log_of log ≡ Ok records → f.records ≡ records → names ≡ map (name_of f.super f.records) (places_under f.super)
      → (opened files : Files) (first_file : ℕ) (m : Meta) → super_of opened ≡ Ok (Some m) → (mem rowset : ℕ) → mem ≡ first_number names → rowset ≡ first → SpellNear first first_file (most_from m mem rowset) opened files → first ≡ next_rowset next records
      → (bound : ℕ) → AreUpTo bound (Both logs stores) → next ≤ bound → first_file ≤ bound → ((k : ℕ) → IsSlotNumber opened k → k ≤ bound) → (n : ℕ) → IsSlotNumber files n → n < bound + 2 ^ 45
  store_at log store had stored f answer records reads records_are names_are opened files first_file m super mem rowset mem_is rowset_is near first_is bound up next_is file_is opened_low n numbered =
      let low : (k : ℕ) → Contains (all_numbers records) k → k ≤ bound = λ k has. up (record { log = log; store = store }) (had, stored) k (inl (inl (subst (λ (rs : List Entry). Contains (all_numbers rs) k) (sym (ap found_in reads)) has))) in
      let behind : behind_rowsets (named_by records) ≤ bound + 1 = behind_low bound (named_by records) (all_named_low bound records low) in
      let begins : first ≤ bound + 1 = omega (arith, first_is, behind, next_is) in
      let mem_low : first_number names ≤ bound + 1 = first_low (bound + 1) names (names_up log store had stored f answer records reads records_are names_are bound up) in
      let most = most_near bound mem rowset m (λ k has. opened_low k (spelled_there opened m k super has)) (omega (arith, mem_is, mem_low)) (omega (arith, rowset_is, begins)) in
      slots_near first first_file bound (most_from m mem rowset) opened files near most begins file_is opened_low n numbered
