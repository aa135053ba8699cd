-- Files of a disk rowset that stay, and those that are written beside them: as memory has them, as a superblock names them, and as the device holds them.
use Rattle.std.proofs.Common.{◌≡◌, ◌≢◌, ◌≤◌, ◌+◌, ◌⊎◌, ℕ, Bool, true, false, List, [], ◌∷◌, ◌++◌, map, length, Some, None, inl, inr, refl, sym, ap, subst, ◌∙◌, arith, cond}
use Rattle.std.specs.Prelude.{◌==◌, ◌&&◌, not, nat_le, nat_lt}
use Rattle.std.specs.List.{AllByRecursion}
use Rattle.std.proofs.lemmas.Bool.{leb-true}
use Rattle.std.proofs.lemmas.List.{append-nil, map-append}
use Rattle.kt_base.proofs.Values.{both_true}
use Rattle.kt_disk.specs.Disk.{Files}
use Rattle.kt_baseset.specs.Tables.{BaseValue}
use Rattle.kt_deltafile.specs.declared.file.Way.{Way}
use Rattle.kt_deltafile.specs.declared.file.Way.TheVariants.{Undo, Redo}
use Rattle.kt_deltafile.specs.File.{FileView}
use Rattle.kt_super.specs.declared.meta.FileRef.{FileRef}
use Rattle.kt_super.specs.declared.meta.MetaRowset.{MetaRowset}
use Rattle.kt_super.specs.Rowsets.{has, numbers_of, is_small, IsFile, AreFiles, taken_by, IsRowset, AreRowsets}
use Rattle.kt_diskrowset.specs.declared.data.RowSetData.{RowSetData}
use Rattle.kt_diskrowset.specs.declared.files.FileHeld.{FileHeld}
use Rattle.kt_diskrowset.specs.Data.{held_in}
use Rattle.kt_diskrowset.specs.Files.{as_file, as_files}
use Rattle.kt_diskrowset.specs.Held.{IsReadOf}
use Rattle.kt_diskrowset.specs.Rowset.{HeldFiles}
use Rattle.kt_files.specs.Held.{base_in}
use Rattle.kt_files.specs.Named.{base_named, delta_named, deltas_named, Names}
use Rattle.kt_files.specs.Reading.{HoldsBase, HoldsDeltas, HoldEach, HoldsRowset}
use Rattle.kt_merge.specs.Rewriting.{AreUnwritten, AddsFile, IsOneFile}
use Rattle.kt_outputs.specs.InPlace.{entry_of, KeepsFiles, KeepsRowset}
use Rattle.kt_outputs.specs.Outputs.{CountUp, base_ref, delta_ref, meta_in, AreOfWay, IsWhole}
use Rattle.kt_outputs.specs.Rewriting.{AreNumbered, HasNumbers, EachStands, KeptStand}
use Rattle.kt_outputs.proofs.Numbered.{all_kept, all_given, numbered_parts}
use Rattle.kt_pick.specs.declared.rules.Want.{Want}
use Rattle.kt_pick.specs.declared.rules.Want.TheVariants as want
use Rattle.kt_engine.specs.DeltaJobs.{StayBut, FilesStay}
use Rattle.kt_engine.proofs.DeltaStay.{read_base, read_undos, read_redos}
use Rattle.kt_engine.proofs.Filed.{own_names}
use Rattle.kt_maint.specs.DeltaRuns.{Leaves}

abbrev HeldFile : Type 0
HeldFile = ℕ × ℕ × FileView

-- ---- files that are named have numbers

some_number : (n : ℕ) → 3 ≤ n → n ≢ 0
some_number n low none = absurd (omega arith)

file_number : (next : ℕ) (taken : List ℕ) (f : FileRef) → IsFile next taken f → f.file ≢ 0
file_number next taken f is =
    some_number f.file (leb-true 3 f.file (both_true (nat_le 3 f.file) (nat_lt f.file next) (both_true (nat_le 3 f.file && nat_lt f.file next) (not (has taken f.file)) is.0).0).0)

abbrev HaveNumbers : List HeldFile → Type 0
HaveNumbers files = AllByRecursion (λ (f : HeldFile). f.0 ≢ 0) files

have_numbers : (next : ℕ) (taken : List ℕ) (files : List HeldFile) → AreFiles next taken (deltas_named files) → HaveNumbers files
have_numbers next taken [] are = tt
have_numbers next taken (f ∷ files) are = (file_number next taken (delta_named f) are.0, have_numbers next (taken ++ f.0 ∷ []) files are.1)

-- an entry that is found keeps the rules
pub record IsOfSuper (next_rowset next_file : ℕ) (m : MetaRowset) : Type 0 where
  pub least : ℕ
  pub taken : List ℕ
  pub is : IsRowset next_rowset next_file least taken m

pub entry_rules : (next_rowset next_file least r : ℕ) (taken : List ℕ) (rowsets : List MetaRowset) (entry : MetaRowset) → AreRowsets next_rowset next_file least taken rowsets → entry_of r rowsets ≡ Some entry → IsOfSuper next_rowset next_file entry
entry_rules next_rowset next_file least r taken [] entry are there = absurd (let no : None ≡ Some entry = there in cc)
entry_rules next_rowset next_file least r taken (m ∷ rowsets) entry are there = by (m.rowset == r) there (entry_rules next_rowset next_file (m.rowset + 1) r (taken_by taken m) rowsets entry are.1)
  where
    by : (b : Bool) → cond b (Some m) (entry_of r rowsets) ≡ Some entry → (entry_of r rowsets ≡ Some entry → IsOfSuper next_rowset next_file entry) → IsOfSuper next_rowset next_file entry
    by true e rest = let same : m ≡ entry = cc in record { least = least; taken = taken; is = subst (IsRowset next_rowset next_file least taken) same are.0 }
    by false e rest = rest e

-- ---- numbers that were given

numbers_named : (files : List HeldFile) → numbers_of (deltas_named files) ≡ map (λ (f : HeldFile). f.0) files
numbers_named [] = refl
numbers_named (f ∷ files) = ap (λ (l : List ℕ). f.0 ∷ l) (numbers_named files)

short_named : (files : List HeldFile) → AllByRecursion (λ (f : HeldFile). is_small f.1 ≡ true) files → AllByRecursion (λ (f : FileRef). is_small f.len ≡ true) (deltas_named files)
short_named [] short = tt
short_named (f ∷ files) short = (short.0, short_named files short.1)

-- files that stay, with others behind them
module _ (first next : ℕ) (old mid new : List HeldFile) (adds : AddsFile old mid) (numbers : HaveNumbers old) (numbered : AreNumbered first next mid new) where
  record Stay : Type 0 where
    pub more : List HeldFile
    pub are : new ≡ old ++ more
    pub count : CountUp first next (map (λ (f : HeldFile). f.0) more)
    pub short : AllByRecursion (λ (f : HeldFile). is_small f.1 ≡ true) more
    pub few : length more ≤ 1

  stay : Stay
  stay =
      let parts = numbered_parts first next old adds.more new (subst (λ (l : List HeldFile). AreNumbered first next l new) adds.are numbered) in
      let kept = all_kept first parts.0 old parts.1.0 numbers parts.1.1.1.1 in
      let given = all_given parts.0 next adds.more parts.1.1.0 adds.unwritten parts.1.1.1.2 in
      record {
        more = parts.1.1.0;
        are = parts.1.1.1.0 ∙ ap (λ (l : List HeldFile). l ++ parts.1.1.0) kept.1;
        count = subst (λ (n : ℕ). CountUp n next (map (λ (f : HeldFile). f.0) parts.1.1.0)) kept.0 given.0;
        short = given.1;
        few = (let long = given.2 in let few = adds.few in omega arith);
      }

  pub stay_but : StayBut old new
  stay_but = let s = stay in record { more = s.more; are = s.are; few = s.few }

  -- as they are named, behind all that were or behind none
  pub keeps_of : (refs : List FileRef) → (deltas_named old ≡ refs) ⊎ (deltas_named old ≡ []) → KeepsFiles first next refs (deltas_named new)
  keeps_of refs all =
      let s = stay in
      record {
        kept = deltas_named old;
        more = deltas_named s.more;
        are = ap deltas_named s.are ∙ map-append delta_named old s.more;
        all = all;
        count = subst (CountUp first next) (sym (numbers_named s.more)) s.count;
        short = short_named s.more s.short;
      }

-- all are written
adds_none : (files : List HeldFile) → IsOneFile files → AddsFile [] files
adds_none files one = record { more = files; are = refl; few = one.few; unwritten = one.unwritten }

-- none is
adds_nothing : (old mid : List HeldFile) → mid ≡ old → AddsFile old mid
adds_nothing old mid same = record { more = []; are = same ∙ sym (append-nil old); few = (let e : 0 ≤ 1 = omega arith in e); unwritten = tt }

-- ---- the base file

module _ (first next : ℕ) (old new : ℕ × ℕ × BaseValue) (numbered : AreNumbered first next (old ∷ []) (new ∷ [])) where
  -- it stays
  pub base_kept : old.0 ≢ 0 → (new ≡ old) × (next ≡ first)
  base_kept some = elim numbered [ inl kept ↦ (kept.0.1, kept.1) | inr given ↦ absurd (some given.0.none) ]

  pub keeps_base : old.0 ≢ 0 → (ref : FileRef) → base_named old ≡ ref → KeepsFiles first next (ref ∷ []) (base_named new ∷ [])
  keeps_base some ref same =
      let kept = base_kept some in
      record { kept = base_named new ∷ []; more = []; are = refl; all = inl (ap (λ (f : FileRef). f ∷ []) (ap base_named kept.0 ∙ same)); count = kept.1; short = tt }

  -- it is written
  pub writes_base : old.0 ≡ 0 → (ref : FileRef) → KeepsFiles first next (ref ∷ []) (base_named new ∷ [])
  writes_base none ref = elim numbered [
    | inl kept ↦ absurd (kept.0.0 none)
    | inr given ↦ record { kept = []; more = base_named new ∷ []; are = refl; all = inr refl; count = (given.0.number, given.1); short = (given.0.short, tt) }
  ]

-- ---- a rowset

module _ (next_rowset next_file : ℕ) (entry : MetaRowset) (held was : HeldFiles) (names : Names entry held) (read : IsReadOf held was) (rules : IsOfSuper next_rowset next_file entry) where
  base_number : was.base.0 ≢ 0
  base_number =
      let same : entry.base.file ≡ was.base.0 = sym (ap (λ (m : MetaRowset). m.base.file) names) ∙ sym (ap (λ (b : ℕ × ℕ × BaseValue). b.0) (read_base held was read)) in
      subst (λ (n : ℕ). n ≢ 0) same (file_number next_file rules.taken entry.base rules.is.base)

  base_was : base_named was.base ≡ entry.base
  base_was = ap base_named (read_base held was read) ∙ ap (λ (m : MetaRowset). m.base) names

  undo_was : (deltas_named was.undos ≡ entry.undo) ⊎ (deltas_named was.undos ≡ [])
  undo_was = elim (read_undos held was read) [ inl all ↦ inl (ap deltas_named all ∙ ap (λ (m : MetaRowset). m.undo) names) | inr none ↦ inr (ap deltas_named none) ]

  undo_numbers : HaveNumbers was.undos
  undo_numbers = elim (read_undos held was read) [
    | inl all ↦ subst HaveNumbers (sym all) (have_numbers next_file (rules.taken ++ entry.base.file ∷ []) held.undos (subst (AreFiles next_file (rules.taken ++ entry.base.file ∷ [])) (sym (ap (λ (m : MetaRowset). m.undo) names)) rules.is.undo))
    | inr none ↦ subst HaveNumbers (sym none) tt
  ]

  redo_was : deltas_named was.redos ≡ entry.redo
  redo_was = ap deltas_named (read_redos held was read) ∙ ap (λ (m : MetaRowset). m.redo) names

  redo_numbers : HaveNumbers was.redos
  redo_numbers =
      subst HaveNumbers (sym (read_redos held was read))
      (have_numbers next_file (rules.taken ++ entry.base.file ∷ [] ++ numbers_of entry.undo) held.redos
      (subst (AreFiles next_file (rules.taken ++ entry.base.file ∷ [] ++ numbers_of entry.undo)) (sym (ap (λ (m : MetaRowset). m.redo) names)) rules.is.redo))

  module _ (first next dms : ℕ) (d out : RowSetData) (numbers : HasNumbers first next (held_in d) (held_in out)) (number : out.number ≡ entry.rowset) where
    -- of which parts what is written is made
    record Parts : Type 0 where
      pub base : ((held_in d).base ≡ was.base) ⊎ ((held_in d).base.0 ≡ 0)
      pub undo : AddsFile was.undos (held_in d).undos
      pub redo : AddsFile was.redos (held_in d).redos ⊎ AddsFile [] (held_in d).redos

    keeps_parts : Parts → KeepsRowset first next entry (meta_in dms out)
    keeps_parts p =
        let own = own_names dms out in
        let redo_is : deltas_named (held_in out).redos ≡ map delta_ref out.redo = ap (λ (m : MetaRowset). m.redo) own in
        record {
          number = number;
          undo_at = numbers.undo_at;
          redo_at = numbers.redo_at;
          base = elim p.base [
            | inl same ↦ keeps_base first numbers.undo_at (held_in d).base (held_in out).base numbers.base (subst (λ (b : ℕ × ℕ × BaseValue). b.0 ≢ 0) (sym same) base_number) entry.base (ap base_named same ∙ base_was)
            | inr none ↦ writes_base first numbers.undo_at (held_in d).base (held_in out).base numbers.base none entry.base
          ];
          undo = subst (KeepsFiles numbers.undo_at numbers.redo_at entry.undo) (ap (λ (m : MetaRowset). m.undo) own)
              (keeps_of numbers.undo_at numbers.redo_at was.undos (held_in d).undos (held_in out).undos p.undo undo_numbers numbers.undo entry.undo undo_was);
          redo = subst (KeepsFiles numbers.redo_at next entry.redo) redo_is (elim p.redo [
            | inl adds ↦ keeps_of numbers.redo_at next was.redos (held_in d).redos (held_in out).redos adds redo_numbers numbers.redo entry.redo (inl redo_was)
            | inr all ↦ keeps_of numbers.redo_at next [] (held_in d).redos (held_in out).redos all tt numbers.redo entry.redo (inr refl)
          ]);
        }

    parts_of : (w : Want) → Leaves w was (held_in d) → (w ≡ want.Flush → ⊥) → ((rs : List ℕ) → w ≡ want.Compact rs → ⊥) → Parts
    parts_of want.Flush l flush compact = absurd (flush refl)
    parts_of (want.FlushDeltas r) l flush compact = record { base = inl l.base; undo = adds_nothing was.undos (held_in d).undos l.undos; redo = inl l.redos }
    parts_of (want.Minor r) l flush compact = record { base = inl l.base; undo = adds_nothing was.undos (held_in d).undos l.undos; redo = inr (adds_none (held_in d).redos l.redos) }
    parts_of (want.Major r) l flush compact = record { base = inr l.base; undo = l.undos; redo = inr (adds_none (held_in d).redos l.redos) }
    parts_of (want.Compact rs) l flush compact = absurd (compact rs refl)

    -- a superblock names it beside the files that it named
    pub keeps_rowset : (w : Want) → Leaves w was (held_in d) → (w ≡ want.Flush → ⊥) → ((rs : List ℕ) → w ≡ want.Compact rs → ⊥) → KeepsRowset first next entry (meta_in dms out)
    keeps_rowset w l flush compact = keeps_parts (parts_of w l flush compact)

    same_base : (held_in d).base ≡ was.base → (held_in out).base ≡ was.base
    same_base same = (base_kept first numbers.undo_at (held_in d).base (held_in out).base numbers.base (subst (λ (b : ℕ × ℕ × BaseValue). b.0 ≢ 0) (sym same) base_number)).0 ∙ same

    same_undos : (held_in d).undos ≡ was.undos → (held_in out).undos ≡ was.undos
    same_undos same = (all_kept numbers.undo_at numbers.redo_at (held_in d).undos (held_in out).undos (subst HaveNumbers (sym same) undo_numbers) numbers.undo).1 ∙ same

    -- and of the files that memory has those stay that the want leaves
    pub files_stay : (w : Want) → Leaves w was (held_in d) → FilesStay w was (held_in out)
    files_stay want.Flush l = tt
    files_stay (want.FlushDeltas r) l = (same_base l.base, same_undos l.undos, stay_but numbers.redo_at next was.redos (held_in d).redos (held_in out).redos l.redos redo_numbers numbers.redo)
    files_stay (want.Minor r) l = (same_base l.base, same_undos l.undos)
    files_stay (want.Major r) l = stay_but numbers.undo_at numbers.redo_at was.undos (held_in d).undos (held_in out).undos l.undos undo_numbers numbers.undo
    files_stay (want.Compact rs) l = tt

-- ---- as the device holds them

-- a file, of however many rows
of_rows : (files : Files) (way : Way) (rows others : ℕ) (f : FileHeld) → AreOfWay way rows (f ∷ []) → HoldsDeltas files way others (delta_ref f) (as_file f) → HoldsDeltas files way rows (delta_ref f) (as_file f)
of_rows files way rows others f own h = record { file = h.file; len = h.len; there = h.there; way_is = h.way_is; fits = own.0.fits; spelled = h.spelled }

none_stands : (files : Files) (way : Way) (rows : ℕ) (list : List FileHeld) → AreUnwritten (as_files list) → EachStands files way rows list
none_stands files way rows [] none = tt
none_stands files way rows (f ∷ list) none = ((λ some. absurd (some none.0)), none_stands files way rows list none.1)

each_stands : (files : Files) (way : Way) (rows others : ℕ) (list : List FileHeld) (old more : List HeldFile) → as_files list ≡ old ++ more → AreUnwritten more → HoldEach files way others (deltas_named old) old → AreOfWay way rows list → EachStands files way rows list
each_stands files way rows others list [] more are none hold own = none_stands files way rows list (subst AreUnwritten (sym are) none)
each_stands files way rows others [] (o ∷ old) more are none hold own = tt
each_stands files way rows others (f ∷ list) (o ∷ old) more are none hold own =
    let same : as_file f ≡ o = (let e : as_file f ∷ as_files list ≡ o ∷ (old ++ more) = are in cc) in
    let rest : as_files list ≡ old ++ more = (let e : as_file f ∷ as_files list ≡ o ∷ (old ++ more) = are in cc) in
    ((λ some. of_rows files way rows others f (own.0, tt) (subst (λ (x : HeldFile). HoldsDeltas files way others (delta_named x) x) (sym same) hold.0)), each_stands files way rows others list old more rest none hold.1 own.1)

base_stands : (files : Files) (entry : MetaRowset) (held was : HeldFiles) (d : RowSetData) → Names entry held → IsReadOf held was → HoldsRowset files entry held → (held_in d).base ≡ was.base → HoldsBase files (base_ref d.base) (base_in d.base)
base_stands files entry held was d names read hold same =
    subst (λ (b : ℕ × ℕ × BaseValue). HoldsBase files (base_named b) b) (sym (same ∙ read_base held was read))
    (subst (λ (f : FileRef). HoldsBase files f held.base) (sym (ap (λ (m : MetaRowset). m.base) names)) hold.base)

module _ (files : Files) (entry : MetaRowset) (held was : HeldFiles) (d : RowSetData) (names : Names entry held) (read : IsReadOf held was) (hold : HoldsRowset files entry held) (whole : IsWhole d) where
  undos_hold : HoldEach files Undo (length held.base.2.rows) (deltas_named was.undos) was.undos
  undos_hold = elim (read_undos held was read) [
    | inl all ↦ subst (λ (l : List HeldFile). HoldEach files Undo (length held.base.2.rows) (deltas_named l) l) (sym all)
        (subst (λ (l : List FileRef). HoldEach files Undo (length held.base.2.rows) l held.undos) (sym (ap (λ (m : MetaRowset). m.undo) names)) hold.undos)
    | inr none ↦ subst (λ (l : List HeldFile). HoldEach files Undo (length held.base.2.rows) (deltas_named l) l) (sym none) tt
  ]

  redos_hold : HoldEach files Redo (length held.base.2.rows) (deltas_named was.redos) was.redos
  redos_hold =
      subst (λ (l : List HeldFile). HoldEach files Redo (length held.base.2.rows) (deltas_named l) l) (sym (read_redos held was read))
      (subst (λ (l : List FileRef). HoldEach files Redo (length held.base.2.rows) l held.redos) (sym (ap (λ (m : MetaRowset). m.redo) names)) hold.redos)

  undo_stands : AddsFile was.undos (held_in d).undos → EachStands files Undo (length d.base.set.value.rows) d.undo
  undo_stands adds = each_stands files Undo (length d.base.set.value.rows) (length held.base.2.rows) d.undo was.undos adds.more adds.are adds.unwritten undos_hold whole.undo

  redo_stands : AddsFile was.redos (held_in d).redos → EachStands files Redo (length d.base.set.value.rows) d.redo
  redo_stands adds = each_stands files Redo (length d.base.set.value.rows) (length held.base.2.rows) d.redo was.redos adds.more adds.are adds.unwritten redos_hold whole.redo

  -- those that stay hold what they did
  pub kept_stand : (w : Want) → Leaves w was (held_in d) → (w ≡ want.Flush → ⊥) → ((rs : List ℕ) → w ≡ want.Compact rs → ⊥) → KeptStand files d
  kept_stand want.Flush l flush compact = absurd (flush refl)
  kept_stand (want.FlushDeltas r) l flush compact = record {
    base = λ some. base_stands files entry held was d names read hold l.base;
    undo = undo_stands (adds_nothing was.undos (held_in d).undos l.undos);
    redo = redo_stands l.redos;
  }
  kept_stand (want.Minor r) l flush compact = record {
    base = λ some. base_stands files entry held was d names read hold l.base;
    undo = undo_stands (adds_nothing was.undos (held_in d).undos l.undos);
    redo = none_stands files Redo (length d.base.set.value.rows) d.redo l.redos.unwritten;
  }
  kept_stand (want.Major r) l flush compact = record {
    base = λ some. absurd (some l.base);
    undo = undo_stands l.undos;
    redo = none_stands files Redo (length d.base.set.value.rows) d.redo l.redos.unwritten;
  }
  kept_stand (want.Compact rs) l flush compact = absurd (compact rs refl)
