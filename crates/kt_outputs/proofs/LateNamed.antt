-- Disk rowsets with REDO files that came to them, as a superblock names them.
use Rattle.std.proofs.Common.{◌≡◌, ◌≢◌, ◌≤◌, ◌+◌, ℕ, suc, List, [], ◌∷◌, ◌++◌, map, Some, cond, Bool, true, inl, inr, refl, sym, ap, subst, ◌∙◌, arith, append_assoc}
use Rattle.std.specs.Prelude.{◌&&◌, not, nat_le, nat_lt}
use Rattle.std.specs.List.{AllByRecursion}
use Rattle.std.proofs.lemmas.Bool.{eq-eqb, leb-true, lt-ltb, ltb-true, ne_eqb}
use Rattle.std.proofs.lemmas.List.{append-nil, map-append}
use Rattle.kt_base.proofs.Values.{both_true, both}
use Rattle.kt_deltafile.specs.File.{FileView}
use Rattle.kt_super.specs.declared.meta.FileRef.{FileRef}
use Rattle.kt_super.specs.declared.meta.MetaRowset.{MetaRowset}
use Rattle.kt_super.specs.Rowsets.{has, numbers_of, is_small, IsFile, AreFiles, taken_by, IsRowset, AreRowsets}
use Rattle.kt_diskrowset.specs.declared.files.FileHeld.{FileHeld}
use Rattle.kt_diskrowset.specs.declared.data.RowSetData.{RowSetData}
use Rattle.kt_diskrowset.specs.Data.{held_in}
use Rattle.kt_diskrowset.specs.Files.{as_files}
use Rattle.kt_diskrowset.specs.Rowset.{HeldFiles}
use Rattle.kt_files.specs.Named.{base_named, delta_named, deltas_named, named_as, Names}
use Rattle.kt_outputs.specs.Outputs.{CountUp, delta_ref, meta_in}
use Rattle.kt_outputs.specs.InPlace.{in_place, entry_of, KeepsFiles, KeepsRowset}
use Rattle.kt_outputs.specs.Rewriting.{AreNumbered, HasNumbers}
use Rattle.kt_outputs.specs.Again.{AddsLate, AllAddLate, AllNumbered, late_files_may_be_named}
use Rattle.kt_outputs.proofs.InPlace.{comes, from_least, others_stay}
use Rattle.kt_outputs.proofs.Numbered.{all_kept, all_given, numbered_parts}

-- ---- where a later file number comes next

file_later : (next later : ℕ) (taken : List ℕ) (f : FileRef) → next ≤ later → IsFile next taken f → IsFile later taken f
file_later next later taken f le is =
    let all = both_true (nat_le 3 f.file && nat_lt f.file next) (not (has taken f.file)) is.0 in
    let low = both_true (nat_le 3 f.file) (nat_lt f.file next) all.0 in
    let lt = ltb-true f.file next low.1 in
    (both (nat_le 3 f.file && nat_lt f.file later) (not (has taken f.file)) (both (nat_le 3 f.file) (nat_lt f.file later) low.0 (lt-ltb f.file later (omega arith))) all.1, is.1)

files_later : (next later : ℕ) (taken : List ℕ) (files : List FileRef) → next ≤ later → AreFiles next taken files → AreFiles later taken files
files_later next later taken [] le are = tt
files_later next later taken (f ∷ files) le are = (file_later next later taken f le are.0, files_later next later (taken ++ f.file ∷ []) files le are.1)

rowsets_later : (next_rowset next later least : ℕ) (taken : List ℕ) (rowsets : List MetaRowset) → next ≤ later → AreRowsets next_rowset next least taken rowsets → AreRowsets next_rowset later least taken rowsets
rowsets_later next_rowset next later least taken [] le are = tt
rowsets_later next_rowset next later least taken (r ∷ rowsets) le are = (
  record {
    rowset = are.0.rowset;
    last_dms = are.0.last_dms;
    base = file_later next later taken r.base le are.0.base;
    undo = files_later next later (taken ++ r.base.file ∷ []) r.undo le are.0.undo;
    redo = files_later next later (taken ++ r.base.file ∷ [] ++ numbers_of r.undo) r.redo le are.0.redo;
  },
  rowsets_later next_rowset next later (r.rowset + 1) (taken_by taken r) rowsets le are.1,
)

-- ---- files that are named have numbers

pub file_number : (next : ℕ) (taken : List ℕ) (f : FileRef) → IsFile next taken f → f.file ≢ 0
file_number next taken f is none =
    let low = leb-true 3 f.file (both_true (nat_le 3 f.file) (nat_lt f.file next) (both_true (nat_le 3 f.file && nat_lt f.file next) (not (has taken f.file)) is.0).0).0 in
    absurd (omega (arith, none))

abbrev pub HaveNumbers : List (ℕ × ℕ × FileView) → Type 0
HaveNumbers files = AllByRecursion (λ (f : ℕ × ℕ × FileView). f.0 ≢ 0) files

pub have_numbers : (next : ℕ) (taken : List ℕ) (files : List (ℕ × ℕ × FileView)) → AreFiles next taken (deltas_named files) → HaveNumbers files
have_numbers next taken [] are = tt
have_numbers next taken (f ∷ files) are = (file_number next taken (delta_named f) are.0, have_numbers next (taken ++ f.0 ∷ []) files are.1)

-- and a superblock names those of plain data
pub refs_named : (files : List FileHeld) → deltas_named (as_files files) ≡ map delta_ref files
refs_named [] = refl
refs_named (f ∷ files) = ap (λ (l : List FileRef). delta_ref f ∷ l) (refs_named files)

pub own_names : (dms : ℕ) (d : RowSetData) → Names (meta_in dms d) (held_in d)
own_names dms d = λ i. record (meta_in dms d) { undo = refs_named d.undo i; redo = refs_named d.redo i }

-- ---- numbers that are given

pub numbered_up : {V : Type 0} (a b : ℕ) (fs gs : List (ℕ × ℕ × V)) → AreNumbered a b fs gs → a ≤ b
numbered_up a b [] [] n = let e : b ≡ a = n in omega arith
numbered_up a b [] (g ∷ gs) n = absurd n
numbered_up a b (f ∷ fs) [] n = absurd n
numbered_up a b (f ∷ fs) (g ∷ gs) n = elim n [
  | inl kept ↦ numbered_up a b fs gs kept.1
  | inr given ↦ (let le = numbered_up (suc a) b fs gs given.1 in omega arith)
]

pub numbers_named : (files : List (ℕ × ℕ × FileView)) → numbers_of (deltas_named files) ≡ map (λ (f : ℕ × ℕ × FileView). f.0) files
numbers_named [] = refl
numbers_named (f ∷ files) = ap (λ (l : List ℕ). f.0 ∷ l) (numbers_named files)

pub short_named : (files : List (ℕ × ℕ × FileView)) → AllByRecursion (λ (f : ℕ × ℕ × FileView). is_small f.1 ≡ true) files → AllByRecursion (λ (f : FileRef). is_small f.len ≡ true) (deltas_named files)
short_named [] short = tt
short_named (f ∷ files) short = (short.0, short_named files short.1)

-- all files stay
keeps_all : {V : Type 0} (a b : ℕ) (name : ℕ × ℕ × V → FileRef) (fs gs : List (ℕ × ℕ × V)) → AllByRecursion (λ (f : ℕ × ℕ × V). f.0 ≢ 0) fs → AreNumbered a b fs gs → KeepsFiles a b (map name fs) (map name gs)
keeps_all a b name fs gs some n =
    let kept = all_kept a b fs gs some n in
    record { kept = map name fs; more = []; are = ap (map name) kept.1 ∙ sym (append-nil (map name fs)); all = inl refl; count = kept.0; short = tt }

-- and others come behind
pub keeps_more : (a b : ℕ) (fs more gs : List (ℕ × ℕ × FileView)) → HaveNumbers fs → AllByRecursion (λ (f : ℕ × ℕ × FileView). f.0 ≡ 0) more → AreNumbered a b (fs ++ more) gs → KeepsFiles a b (deltas_named fs) (deltas_named gs)
keeps_more a b fs more gs some none n =
    let parts = numbered_parts a b fs more gs n in
    let kept = all_kept a parts.0 fs parts.1.0 some parts.1.1.1.1 in
    let given = all_given parts.0 b more parts.1.1.0 none parts.1.1.1.2 in
    record {
      kept = deltas_named fs;
      more = deltas_named parts.1.1.0;
      are = ap deltas_named (parts.1.1.1.0 ∙ ap (λ (l : List (ℕ × ℕ × FileView)). l ++ parts.1.1.0) kept.1) ∙ map-append delta_named fs parts.1.1.0;
      all = inl refl;
      count = subst (CountUp a b) (sym (numbers_named parts.1.1.0)) (subst (λ (m : ℕ). CountUp m b (map (λ (f : ℕ × ℕ × FileView). f.0) parts.1.1.0)) kept.0 given.0);
      short = short_named parts.1.1.0 given.1;
    }

-- ---- one rowset

module _ (first next : ℕ) (old late new : HeldFiles) (adds : AddsLate old late) (numbers : HasNumbers first next late new) where
  pub late_base : AreNumbered first numbers.undo_at (old.base ∷ []) (new.base ∷ [])
  late_base = subst (λ (h : HeldFiles). AreNumbered first numbers.undo_at (h.base ∷ []) (new.base ∷ [])) adds.are numbers.base

  pub late_undos : AreNumbered numbers.undo_at numbers.redo_at old.undos new.undos
  late_undos = subst (λ (h : HeldFiles). AreNumbered numbers.undo_at numbers.redo_at h.undos new.undos) adds.are numbers.undo

  pub late_redos : AreNumbered numbers.redo_at next (old.redos ++ adds.more) new.redos
  late_redos = subst (λ (h : HeldFiles). AreNumbered numbers.redo_at next h.redos new.redos) adds.are numbers.redo

  pub late_up : first ≤ next
  late_up =
      let a = numbered_up first numbers.undo_at (old.base ∷ []) (new.base ∷ []) late_base in
      let b = numbered_up numbers.undo_at numbers.redo_at old.undos new.undos late_undos in
      let c = numbered_up numbers.redo_at next (old.redos ++ adds.more) new.redos late_redos in
      omega arith

  keeps_late : (next_rowset next_file least : ℕ) (taken : List ℕ) → IsRowset next_rowset next_file least taken (named_as 0 old) → KeepsRowset first next (named_as 0 old) (named_as 0 new)
  keeps_late next_rowset next_file least taken is = record {
    number = numbers.number ∙ ap (λ (h : HeldFiles). h.number) adds.are;
    undo_at = numbers.undo_at;
    redo_at = numbers.redo_at;
    base = keeps_all first numbers.undo_at base_named (old.base ∷ []) (new.base ∷ []) (file_number next_file taken (base_named old.base) is.base, tt) late_base;
    undo = keeps_all numbers.undo_at numbers.redo_at delta_named old.undos new.undos (have_numbers next_file (taken ++ old.base.0 ∷ []) old.undos is.undo) late_undos;
    redo = keeps_more numbers.redo_at next old.redos adds.more new.redos (have_numbers next_file (taken ++ old.base.0 ∷ [] ++ numbers_of (deltas_named old.undos)) old.redos is.redo) adds.unwritten late_redos;
  }

-- ---- a rowset among others

record IsNamed (next_rowset next_file : ℕ) (m : MetaRowset) : Type 0 where
  pub least : ℕ
  pub taken : List ℕ
  pub is : IsRowset next_rowset next_file least taken m

module _ (next_rowset next_file : ℕ) (m : MetaRowset) (rest : List MetaRowset) where
  its_rules : (front : List MetaRowset) (least : ℕ) (taken : List ℕ) → AreRowsets next_rowset next_file least taken (front ++ m ∷ rest) → IsNamed next_rowset next_file m
  its_rules [] least taken are = record { least = least; taken = taken; is = are.0 }
  its_rules (f ∷ front) least taken are = its_rules front (f.rowset + 1) (taken_by taken f) are.1

  its_number : (front : List MetaRowset) (least : ℕ) (taken : List ℕ) → AreRowsets next_rowset next_file least taken (front ++ m ∷ rest) → least ≤ m.rowset
  its_number [] least taken are = from_least least next_rowset m.rowset are.0.rowset
  its_number (f ∷ front) least taken are =
      let low = from_least least next_rowset f.rowset are.0.rowset in
      let up = its_number front (f.rowset + 1) (taken_by taken f) are.1 in
      omega arith

  module _ (new : MetaRowset) (same : new.rowset ≡ m.rowset) where
    its_entry : (front : List MetaRowset) (least : ℕ) (taken : List ℕ) → AreRowsets next_rowset next_file least taken (front ++ m ∷ rest) → entry_of new.rowset (front ++ m ∷ rest) ≡ Some m
    its_entry [] least taken are = ap (λ (b : Bool). cond b (Some m) (entry_of new.rowset rest)) (eq-eqb m.rowset new.rowset (sym same))
    its_entry (f ∷ front) least taken are =
        let up = its_number front (f.rowset + 1) (taken_by taken f) are.1 in
        ap (λ (b : Bool). cond b (Some f) (entry_of new.rowset (front ++ m ∷ rest))) (ne_eqb f.rowset new.rowset (λ e. omega (arith, same, up, e)))
        ∙ its_entry front (f.rowset + 1) (taken_by taken f) are.1

    its_place : (front : List MetaRowset) (least : ℕ) (taken : List ℕ) → AreRowsets next_rowset next_file least taken (front ++ m ∷ rest) → in_place new (front ++ m ∷ rest) ≡ front ++ new ∷ rest
    its_place [] least taken are =
        ap (λ (b : Bool). cond b new m ∷ in_place new rest) (eq-eqb m.rowset new.rowset (sym same))
        ∙ ap (λ (l : List MetaRowset). new ∷ l) (others_stay new next_rowset next_file (m.rowset + 1) (taken_by taken m) rest (omega (arith, same)) are.1)
    its_place (f ∷ front) least taken are =
        let up = its_number front (f.rowset + 1) (taken_by taken f) are.1 in
        ap (λ (b : Bool). cond b new f ∷ in_place new (front ++ m ∷ rest)) (ne_eqb f.rowset new.rowset (λ e. omega (arith, same, up, e)))
        ∙ ap (λ (l : List MetaRowset). f ∷ l) (its_place front (f.rowset + 1) (taken_by taken f) are.1)

-- with the files that came to it it may stand there
one_named : (next_rowset first next : ℕ) (front rest : List MetaRowset) (old late new : HeldFiles) → 3 ≤ first → AddsLate old late → HasNumbers first next late new
    → AreRowsets next_rowset first 0 [] (front ++ named_as 0 old ∷ rest) → AreRowsets next_rowset next 0 [] (front ++ named_as 0 new ∷ rest)
one_named next_rowset first next front rest old late new low adds numbers are =
    let was = named_as 0 old in
    let is = named_as 0 new in
    let rowsets = front ++ was ∷ rest in
    let rules = its_rules next_rowset first was rest front 0 [] are in
    let keeps = keeps_late first next old late new adds numbers next_rowset first rules.least rules.taken rules.is in
    subst (AreRowsets next_rowset next 0 []) (its_place next_rowset first was rest is keeps.number front 0 [] are)
    (comes rowsets next_rowset first first next_rowset next was is are (rowsets_later next_rowset first next 0 [] rowsets (late_up first next old late new adds numbers) are) (omega arith) low
    (its_entry next_rowset first was rest is keeps.number front 0 [] are) keeps refl)

-- ---- all of them

all_named : (next_rowset first next : ℕ) (front : List MetaRowset) (olds lates news : List RowSetData) → 3 ≤ first → AllAddLate olds lates → AllNumbered first next lates news
    → AreRowsets next_rowset first 0 [] (front ++ map (meta_in 0) olds) → AreRowsets next_rowset next 0 [] (front ++ map (meta_in 0) news)
all_named next_rowset first next front [] [] [] low adds numbered are = subst (λ (n : ℕ). AreRowsets next_rowset n 0 [] (front ++ [])) (sym numbered) are
all_named next_rowset first next front [] [] (d ∷ news) low adds numbered are = absurd numbered
all_named next_rowset first next front [] (l ∷ lates) news low adds numbered are = absurd adds
all_named next_rowset first next front (o ∷ olds) [] news low adds numbered are = absurd adds
all_named next_rowset first next front (o ∷ olds) (l ∷ lates) [] low adds numbered are = absurd numbered
all_named next_rowset first next front (o ∷ olds) (l ∷ lates) (d ∷ news) low adds numbered are =
    let at = numbered.0 in
    let up = late_up first at (held_in o) (held_in l) (held_in d) adds.0 numbered.1 in
    let was : AreRowsets next_rowset first 0 [] (front ++ named_as 0 (held_in o) ∷ map (meta_in 0) olds) =
    subst (λ (m : MetaRowset). AreRowsets next_rowset first 0 [] (front ++ m ∷ map (meta_in 0) olds)) (sym (own_names 0 o)) are in
    let one = subst (λ (m : MetaRowset). AreRowsets next_rowset at 0 [] (front ++ m ∷ map (meta_in 0) olds)) (own_names 0 d)
    (one_named next_rowset first at front (map (meta_in 0) olds) (held_in o) (held_in l) (held_in d) low adds.0 numbered.1 was) in
    subst (AreRowsets next_rowset next 0 []) (append_assoc front (meta_in 0 d ∷ []) (map (meta_in 0) news))
    (all_named next_rowset at next (front ++ meta_in 0 d ∷ []) olds lates news (omega arith) adds.1 numbered.2
    (subst (AreRowsets next_rowset at 0 []) (sym (append_assoc front (meta_in 0 d ∷ []) (map (meta_in 0) olds))) one))

pub late_named : late_files_may_be_named
late_named rowsets next_rowset file file_later olds lates news are low adds numbered = all_named next_rowset file file_later rowsets olds lates news low adds numbered are
