-- Images that are alike hold the same pasts, and opening answers the same.
use Rattle.std.proofs.Common.{◌≡◌, ℕ, List, [], ◌∷◌, ◌++◌, length, Option, Some, None, Result, Ok, Err, refl, sym, ap, ◌∙◌, subst, arith}
use Rattle.std.specs.Prelude.{slice_get}
use Rattle.kt_disk.specs.Disk.{Files}
use Rattle.kt_history.specs.History.{Past}
use Rattle.kt_records.specs.declared.entry.Entry.{Entry}
use Rattle.kt_journal.specs.Log.{log_of}
use Rattle.kt_schema.specs.declared.column.Column.{Column}
use Rattle.kt_schema.specs.Columns.{fill_of}
use Rattle.kt_super.specs.declared.meta.Meta.{Meta}
use Rattle.kt_super.specs.declared.meta.MetaRowset.{MetaRowset}
use Rattle.kt_super.specs.declared.refusal.Place.{Place}
use Rattle.kt_super.specs.Slots.{super_of}
use Rattle.kt_diskrowset.specs.Rowset.{HeldFiles}
use Rattle.kt_files.specs.Reading.{HoldAll, IsFirstFault}
use Rattle.kt_content.specs.Content.{IsContent}
use Rattle.kt_content.specs.Rules.{Rules}
use Rattle.kt_reopen.specs.declared.why.Why.{Why}
use Rattle.kt_reopen.specs.Tables.{AllAreLike, DifferFirst, Differ}
use Rattle.kt_reopen.specs.Both.{Read, Found, Answers, AnswersLater, read_both, unless, count_why, super_in}
use Rattle.kt_reopen.specs.Both.Answers.{at_once, first, later}
use Rattle.kt_reopen.specs.Both.AnswersLater.{in_file, in_column, too_late, whole}
use Rattle.kt_reopen.specs.Holding.{HoldBoth}
use Rattle.kt_reopen.specs.Holding.HoldBoth.{first as none_yet, later as both_there}
use Rattle.kt_reopen.specs.Opened.{first_meta}

some_is : {X : Type 0} (x y : X) → Some x ≡ Some y → x ≡ y
some_is x y e = cc

-- what was read, in parts
abbrev meta_in : Read → Option (Option Meta)
meta_in (Ok read) = Some read.0
meta_in (Err why) = None

abbrev records_in : Read → List Entry
records_in (Ok read) = read.1
records_in (Err why) = []

none_some : {G : Type 0} (read : Read) (m : Meta) (records : List Entry) → read ≡ Ok (None, []) → read ≡ Ok (Some m, records) → G
none_some read m records e f = let clash : Some None ≡ Some (Some m) = sym (ap meta_in e) ∙ ap meta_in f in absurd (cc)

err_ok : {G : Type 0} (read : Read) (why : Why) (found : Option Meta × List Entry) → read ≡ Err why → read ≡ Ok found → G
err_ok read why found e f = let clash : Err why ≡ Ok found = sym e ∙ f in absurd (cc)

-- what is read is of the superblock
its_super : (x : Result (Option Meta) Place) (log : Result (List Entry) ℕ) (m : Meta) (records : List Entry) → read_both x log ≡ Ok (Some m, records) → x ≡ Ok (Some m)
its_super (Err place) log m records e = absurd (cc)
its_super (Ok meta) (Err offset) m records e = absurd (cc)
its_super (Ok meta) (Ok found) m records e = ap (λ (o : Option Meta). Ok o) (by (count_why meta (length found)) e)
  where
    by : (o : Option Why) → unless meta found o ≡ Ok (Some m, records) → meta ≡ Some m
    by None h = some_is meta (Some m) (ap meta_in h)
    by (Some why) h = absurd (cc)

-- ---- the same log and superblock, and data files that hold the same

module _ (columns : List Column) (l s k t : Files) (logs : log_of l ≡ log_of k) (supers : super_of s ≡ super_of t)
    (holds : (m : Meta) (held : List HeldFiles) → super_of s ≡ Ok (Some m) → HoldAll s m.rowsets held → HoldAll t m.rowsets held)
    (faults : (m : Meta) (file offset : ℕ) → super_of s ≡ Ok (Some m) → IsFirstFault s m.rowsets file offset → IsFirstFault t m.rowsets file offset) where
  both : read_both (super_of t) (log_of k) ≡ read_both (super_of s) (log_of l)
  both = λ i. read_both (sym supers i) (sym logs i)

  pub past_on : (rules : Rules) (c : ℕ) (past : Past) → HoldBoth rules columns l s c past → HoldBoth rules columns k t c past
  past_on rules c past (none_yet e is) = none_yet (both ∙ e) is
  past_on rules c past (both_there m records held e hold same is) = both_there m records held (both ∙ e) (holds m held (its_super (super_of s) (log_of l) m records e) hold) same is

  pub answer_on : (answer : Result Found Why) → Answers columns l s answer → Answers columns k t answer
  answer_on answer (at_once why e a) = at_once why (both ∙ e) a
  answer_on answer (first e a) = first (both ∙ e) a
  answer_on answer (later m records e more) = later m records (both ∙ e) (by more)
    where
      there : super_of s ≡ Ok (Some m)
      there = its_super (super_of s) (log_of l) m records e

      by : AnswersLater columns m records s answer → AnswersLater columns m records t answer
      by (in_file file offset fault a) = in_file file offset (faults m file offset there fault) a
      by (in_column held at h differ a) = in_column held at (holds m held there h) differ a
      by (too_late held h alike late a) = too_late held (holds m held there h) alike late a
      by (whole held h alike low a) = whole held (holds m held there h) alike low a

-- ---- no superblock, or the first one, with a log that has nothing

all_alike : (columns : List Column) → AllAreLike columns columns
all_alike [] = tt
all_alike (c ∷ columns) = (refl, all_alike columns)

-- a table does not differ from itself
not_itself : (columns : List Column) (at : ℕ) → DifferFirst columns columns at → ⊥
not_itself columns at d = by (slice_get columns d.before) d.here
  where
    by : (o : Option Column) → Differ o o → ⊥
    by None h = h
    by (Some c) h = h refl

no_fault : (files : Files) (file offset : ℕ) → IsFirstFault files [] file offset → ⊥
no_fault files file offset fault = by fault.front fault.parts
  where
    by : (front : List MetaRowset) → [] ≡ front ++ fault.next ∷ fault.behind → ⊥
    by [] e = cc
    by (r ∷ front) e = cc

module _ (columns : List Column) (l s k t : Files) (bare : log_of l ≡ Ok []) (empty : log_of k ≡ Ok []) (none : super_of t ≡ Ok None) (named : super_of s ≡ Ok (Some (first_meta columns))) where
  read_old : read_both (super_of t) (log_of k) ≡ Ok (None, [])
  read_old = λ i. read_both (none i) (empty i)

  read_new : read_both (super_of s) (log_of l) ≡ Ok (Some (first_meta columns), [])
  read_new = λ i. read_both (named i) (bare i)

  metas : (m : Meta) (records : List Entry) → read_both (super_of s) (log_of l) ≡ Ok (Some m, records) → (m ≡ first_meta columns) × (records ≡ [])
  metas m records e = (some_is m (first_meta columns) (some_is (Some m) (Some (first_meta columns)) (sym (ap meta_in e) ∙ ap meta_in read_new)), sym (ap records_in e) ∙ ap records_in read_new)

  -- the same pasts
  pub first_past : (rules : Rules) (c : ℕ) (past : Past) → HoldBoth rules columns k t c past → HoldBoth rules columns l s c past
  first_past rules c past (none_yet e is) = both_there (first_meta columns) [] [] read_new tt refl is
  first_past rules c past (both_there m records held e hold same is) = none_some _ m records read_old e

  pub past_first : (rules : Rules) (c : ℕ) (past : Past) → HoldBoth rules columns l s c past → HoldBoth rules columns k t c past
  past_first rules c past (none_yet e is) = none_some _ (first_meta columns) [] e read_new
  past_first rules c past (both_there m records held e hold same is) = by m records held (metas m records e).0 (metas m records e).1 hold is
    where
      by : (m : Meta) (records : List Entry) (held : List HeldFiles) → m ≡ first_meta columns → records ≡ [] → HoldAll s m.rowsets held → IsContent rules (fill_of columns) (super_in m held) records c past → HoldBoth rules columns k t c past
      by m records held one nil hold is =
          none_held held (subst (λ (m : Meta). HoldAll s m.rowsets held) one hold)
          (subst (λ (rs : List Entry). IsContent rules (fill_of columns) (super_in (first_meta columns) held) rs c past) nil (subst (λ (m : Meta). IsContent rules (fill_of columns) (super_in m held) records c past) one is))
        where
          none_held : (held : List HeldFiles) → HoldAll s [] held → IsContent rules (fill_of columns) (super_in (first_meta columns) held) [] c past → HoldBoth rules columns k t c past
          none_held [] hold is = none_yet read_old is
          none_held (h ∷ held) hold is = absurd hold

  -- and the same answer: nothing
  pub first_answer : (answer : Result Found Why) → Answers columns k t answer → Answers columns l s answer
  first_answer answer (at_once why e a) = err_ok _ why (None, []) e read_old
  first_answer answer (first e a) = later (first_meta columns) [] read_new (whole [] tt (all_alike columns) (omega arith) a)
  first_answer answer (later m records e more) = none_some _ m records read_old e

  pub answer_first : (answer : Result Found Why) → Answers columns l s answer → Answers columns k t answer
  answer_first answer (at_once why e a) = err_ok _ why (Some (first_meta columns), []) e read_new
  answer_first answer (first e a) = none_some _ (first_meta columns) [] e read_new
  answer_first answer (later m records e more) =
      by (subst (λ (rs : List Entry). AnswersLater columns (first_meta columns) rs s answer) (metas m records e).1 (subst (λ (m : Meta). AnswersLater columns m records s answer) (metas m records e).0 more))
    where
      by : AnswersLater columns (first_meta columns) [] s answer → Answers columns k t answer
      by (in_file file offset fault a) = absurd (no_fault s file offset fault)
      by (in_column held at h differ a) = absurd (not_itself columns at differ)
      by (too_late held h alike late a) = absurd (omega (arith, late))
      by (whole [] h alike low a) = first read_old a
      by (whole (x ∷ held) h alike low a) = absurd h
