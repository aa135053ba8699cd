-- What is found is not refused.
use Rattle.std.proofs.Common.{◌≡◌, ◌<◌, ℕ, List, [], length, Option, Some, None, Result, Ok, Err, inl, inr, sym, ap, ◌∙◌, subst, arith}
use Rattle.kt_disk.specs.Disk.{Files, HoldBytes, held as held_by}
use Rattle.kt_records.specs.declared.entry.Entry.{Entry}
use Rattle.kt_schema.specs.declared.column.Column.{Column}
use Rattle.kt_schema.specs.Columns.{fill_of}
use Rattle.kt_super.specs.declared.meta.Meta.{Meta}
use Rattle.kt_super.specs.declared.meta.FileRef.{FileRef}
use Rattle.kt_diskrowset.specs.Rowset.{HeldFiles}
use Rattle.kt_files.specs.Bytes.{bytes_of}
use Rattle.kt_files.proofs.OneHolding.{all_one}
use Rattle.kt_files.proofs.OneFault.{none_at_fault}
use Rattle.kt_reopen.proofs.NoOther.{no_other}
use Rattle.kt_bytes.proofs.Numbers.{IsBytes, IsBytes-take}
use Rattle.std.specs.List.{All}
use Rattle.std.proofs.lemmas.Bool.{cases_lt}
use Rattle.std.proofs.lemmas.List.{get_or_past}
use Rattle.std.proofs.lemmas.List.Elements.{All-get_or}
use Rattle.kt_reopen.specs.declared.why.Why.{Why}
use Rattle.kt_reopen.specs.Both.{Read, Found, Answers, AnswersLater, super_in, stores_after, found_or_late}
use Rattle.kt_reopen.specs.Both.Answers.{at_once, first, later}
use Rattle.kt_reopen.specs.Both.AnswersLater.{in_file, in_column, too_late, whole}

-- what was read of the slots and the log, in parts
abbrev meta_in : Read → Option Meta
meta_in (Ok read) = read.0
meta_in (Err why) = None

abbrev records_in : Read → List Entry
records_in (Ok read) = read.1
records_in (Err why) = []

is_both : {G : Type 0} (found : Option Meta × List Entry) (why : Why) {read : Read} → read ≡ Ok found → read ≡ Err why → G
is_both found why e f = let clash : Ok found ≡ Err why = sym e ∙ f in absurd cc

-- Files that hold what a superblock says have no first fault, where what is read of them are bytes.
module _ (store : Files) (are : (f : FileRef) → IsBytes (bytes_of store f)) where
  clash : {G : Type 0} (f : Found) (why : Why) (r : Result Found Why) → Ok f ≡ r → r ≡ Err why → G
  clash f why r a b = let both : Ok f ≡ Err why = a ∙ b in absurd cc

  found_later : (columns : List Column) (m : Meta) (records : List Entry) (f : Found) (why : Why) → AnswersLater columns m records store (Ok f) → AnswersLater columns m records store (Err why) → ⊥
  found_later columns m records f why (in_file file offset fault e) other = absurd cc
  found_later columns m records f why (in_column held at hold differ e) other = absurd cc
  found_later columns m records f why (too_late held hold alike late e) other = absurd cc
  found_later columns m records f why (whole held hold alike low e) (in_file file offset fault g) = none_at_fault store are m.rowsets held file offset hold fault
  found_later columns m records f why (whole held hold alike low e) (in_column others at stands differ g) = no_other columns m.schema at alike differ
  found_later columns m records f why (whole held hold alike low e) (too_late others stands like late g) = absurd (omega (arith, low, late))
  found_later columns m records f why (whole held hold alike low e) (whole others stands like less g) =
      let same : others ≡ held = all_one store m.rowsets others held stands hold in
      let its : Err why ≡ found_or_late (super_in m held) records (stores_after (fill_of columns) (super_in m held) records) =
      subst (λ (x : List HeldFiles). Err why ≡ found_or_late (super_in m x) records (stores_after (fill_of columns) (super_in m x) records)) same g in
      clash f why (found_or_late (super_in m held) records (stores_after (fill_of columns) (super_in m held) records)) e (sym its)

  pub found_is_not_refused : (columns : List Column) (log : Files) (f : Found) (why : Why) → Answers columns log store (Ok f) → Answers columns log store (Err why) → ⊥
  found_is_not_refused columns log f why (at_once reason read e) b = absurd cc
  found_is_not_refused columns log f why (first read e) (at_once reason other g) = is_both (None, []) reason read other
  found_is_not_refused columns log f why (first read e) (first other g) = absurd cc
  found_is_not_refused columns log f why (first read e) (later m records other g) = let clash : None ≡ Some m = ap meta_in (sym read ∙ other) in absurd cc
  found_is_not_refused columns log f why (later m records read a) (at_once reason other g) = is_both (Some m, records) reason read other
  found_is_not_refused columns log f why (later m records read a) (first other g) = let clash : None ≡ Some m = ap meta_in (sym other ∙ read) in absurd cc
  found_is_not_refused columns log f why (later m records read a) (later n others other b) =
      let both : Some n ≡ Some m = ap meta_in (sym other ∙ read) in
      let one : n ≡ m = cc in
      let lists : others ≡ records = ap records_in (sym other ∙ read) in
      found_later columns m records f why a (subst (λ (x : Meta). AnswersLater columns x records store (Err why)) one (subst (λ (rs : List Entry). AnswersLater columns n rs store (Err why)) lists b))

-- what is read of a disk that is of bytes is bytes
each_byte : (bytes : List ℕ) → All (λ (b : ℕ). b < 256) bytes → IsBytes bytes
each_byte bytes all i = elim (cases_lt i (length bytes)) [
  | inl lt ↦ All-get_or (λ (b : ℕ). b < 256) bytes i 0 lt all
  | inr past ↦ rw (get_or_past bytes i 0 past) (omega arith)
]

pub answers_once : (columns : List Column) (log store : Files) → HoldBytes store → (f : Found) (why : Why) → Answers columns log store (Ok f) → Answers columns log store (Err why) → ⊥
answers_once columns log store bytes f why = found_is_not_refused store (λ file. IsBytes-take file.len (held_by store file.file) (each_byte (held_by store file.file) (bytes file.file))) columns log f why
