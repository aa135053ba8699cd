-- Literals spell each cell that an opening says.
use Rattle.std.proofs.Common.{◌≡◌, ℕ, zero, suc, ◌+◌, ◌≤◌, Bool, true, false, List, [], ◌∷◌, ◌++◌, length, drop, Option, Some, None, Ok, refl, sym, ap, subst, arith}
use Rattle.std.specs.Prelude.{IfOk, IfSome, nat_le, if◌then◌else◌, codes}
use Rattle.std.specs.List.{AllByRecursion}
use Rattle.std.specs.Option.{option_map}
use Rattle.std.specs.FinMap.Entries.{find}
use Rattle.std.proofs.ByRecursion.{All-append}
use Rattle.std.proofs.lemmas.Bool.{and_parts}
use Rattle.std.proofs.lemmas.Bool.Decides.{nat_tests}
use Rattle.kt_base.specs.Literals.{same}
use Rattle.kt_schema.specs.declared.column.Column.{Column}
use Rattle.kt_schema.specs.Columns.{key_kinds, other_columns}
use Rattle.kt_history.specs.declared.change.Change.{Change}
use Rattle.kt_history.specs.declared.change.Change.TheVariants.{Ins, Upd, Del}
use Rattle.kt_history.specs.Rows.{Row, Rows, Changes, fits, key_cmp}
use Rattle.kt_history.specs.History.{Past, PastWrite}
use Rattle.kt_script.specs.declared.forms.OpForm.TheVariants as form
use Rattle.kt_script.specs.Reasons.{sound, reason_if}
use Rattle.kt_script.specs.Pieces.{cut, words_of}
use Rattle.kt_script.specs.Columns.{IsTable}
use Rattle.kt_script.specs.Writes.{is_empty, none_left_no, key_len, key_of, all_named, cells_said, first_op, later_ops}
use Rattle.kt_opening.specs.OpeningLines.{begin_in, count_in, turn_in, row_in, change_in, change_of_words, may_stand, insert_no, changes_no, delete_no, row_said, named_said, key_said}
use Rattle.kt_opening.specs.OpeningTexts.{Stage, begin, count, rows, turn, changes, rows_due, changes_due, no_rows, rows_now, is_next, joined, fitting, after, Found, found, ending, stop, or_else, or_stop, opening_from, opening_in}
use Rattle.kt_printed.proofs.Spelled.{RowSpelled, KeySpelled, ChangeSpelled, ChangesSpelled, PastSpelled}
use Rattle.kt_printed.proofs.Scripts.{op_of_spelled}

-- ---- lines

stands : (reason : List (List ℕ) → ℕ) (words : List (List ℕ)) → may_stand reason words ≡ true → sound ≤ reason (first_op words)
stands reason words h = let sure = (and_parts (nat_le sound (reason (first_op words))) (is_empty (later_ops words)) h).0 in grind (arith, nat_tests)

if_stands : {A : Type 0} (P : A → Type 0) (b : Bool) (a : A) → (b ≡ true → P a) → IfSome (if b then Some a else None) P
if_stands P true a h = h refl
if_stands P false a h = tt

mapped : {A B : Type 0} (P : A → Type 0) (Q : B → Type 0) (f : A → B) (o : Option A) → ((a : A) → P a → Q (f a)) → IfSome o P → IfSome (option_map f o) Q
mapped P Q f None h all = tt
mapped P Q f (Some a) h all = h a all

module _ (columns : List Column) (table : IsTable columns) where
  abbrev EntrySpelled : List ℕ × Row → Type 0
  EntrySpelled r = KeySpelled (key_kinds columns) r.0 × RowSpelled r.1

  abbrev ChangedSpelled : List ℕ × Change → Type 0
  ChangedSpelled c = KeySpelled (key_kinds columns) c.0 × ChangeSpelled c.1

  row_is : (words : List (List ℕ)) → IfSome (row_said columns words) EntrySpelled
  row_is words = if_stands EntrySpelled (may_stand (insert_no columns) words) _ (λ h. op_of_spelled columns table (codes "insert" ∷ first_op words) (stands (insert_no columns) words h))

  key_is : (words : List (List ℕ)) → IfSome (key_said columns words) (KeySpelled (key_kinds columns))
  key_is words = if_stands (KeySpelled (key_kinds columns)) (may_stand (delete_no columns) words) _ (λ h. (op_of_spelled columns table (codes "delete" ∷ first_op words) (stands (delete_no columns) words h)).0)

  named_is : (words : List (List ℕ)) → IfSome (named_said columns words) EntrySpelled
  named_is words = if_stands EntrySpelled (may_stand (changes_no columns) words) _ (λ h. by (drop (key_len columns) (first_op words)) refl (stands (changes_no columns) words h))
    where
      by : (behind : List (List ℕ)) → drop (key_len columns) (first_op words) ≡ behind → sound ≤ changes_no columns (first_op words) → EntrySpelled (key_of columns (first_op words), cells_said columns form.Names (first_op words))
      by [] e h =
          let none : none_left_no (drop (key_len columns) (first_op words)) ≡ sound = ap none_left_no e in
          let key = op_of_spelled columns table (codes "delete" ∷ first_op words) (omega (arith, h, none)) in
          (key.0, subst RowSpelled (sym (ap (all_named (other_columns columns) []) e)) tt)
      by (w ∷ ws) e h =
          let some : reason_if (is_empty (drop (key_len columns) (first_op words))) 12 ≡ sound = ap (λ behind. reason_if (is_empty behind) 12) e in
          op_of_spelled columns table (codes "update" ∷ first_op words) (omega (arith, h, some))

  change_is : (words : List (List ℕ)) → IfSome (change_of_words columns words) ChangedSpelled
  change_is [] = tt
  change_is (word ∷ more) = by (same word (codes "ins")) (same word (codes "upd")) (same word (codes "del"))
    where
      by : (a b c : Bool) → IfSome (if a then option_map (λ (r : List ℕ × Row). (r.0, Ins r.1)) (row_said columns more) else (if b then option_map (λ (r : List ℕ × Row). (r.0, Upd r.1)) (named_said columns more) else (if c then option_map (λ key. (key, Del)) (key_said columns more) else None))) ChangedSpelled
      by true b c = mapped EntrySpelled ChangedSpelled (λ (r : List ℕ × Row). (r.0, Ins r.1)) (row_said columns more) (λ r is. is) (row_is more)
      by false true c = mapped EntrySpelled ChangedSpelled (λ (r : List ℕ × Row). (r.0, Upd r.1)) (named_said columns more) (λ r is. is) (named_is more)
      by false false true = mapped (KeySpelled (key_kinds columns)) ChangedSpelled (λ key. (key, Del)) (key_said columns more) (λ key is. (is, tt)) (key_is more)
      by false false false = tt

  -- ---- stages

  abbrev StageSpelled : Stage → Type 0
  StageSpelled begin = Unit {0}
  StageSpelled (count a c) = Unit {0}
  StageSpelled (rows c past due) = PastSpelled (key_kinds columns) past
  StageSpelled (turn c low past) = PastSpelled (key_kinds columns) past
  StageSpelled (changes c past ts done due) = PastSpelled (key_kinds columns) past × ChangesSpelled (key_kinds columns) done

  joined_is : {A : Type 0} (P : List ℕ × A → Type 0) (entries : List (List ℕ × A)) (o : Option (List ℕ × A)) → AllByRecursion P entries → IfSome o P → IfSome (joined entries o) (AllByRecursion P)
  joined_is P entries None all is = tt
  joined_is P entries (Some e) all is = if_stands (AllByRecursion P) (is_next entries e.0) (entries ++ e ∷ []) (λ h. All-append P entries (e ∷ []) all (is, tt))

  fitting_is : (table : Rows) (o : Option (List ℕ × Change)) → IfSome o ChangedSpelled → IfSome (fitting table o) ChangedSpelled
  fitting_is table None is = tt
  fitting_is table (Some c) is = if_stands ChangedSpelled (fits c.1 (find key_cmp c.0 table)) c (λ h. is)

  rows_are : (c : ℕ) (past : Past) (due : ℕ) → PastSpelled (key_kinds columns) past → StageSpelled (rows_due c past due)
  rows_are c past zero is = is
  rows_are c past (suc due) is = is

  changes_are : (c : ℕ) (past : Past) (ts : ℕ) (done : Changes) (due : ℕ) → PastSpelled (key_kinds columns) past → ChangesSpelled (key_kinds columns) done → StageSpelled (changes_due c past ts done due)
  changes_are c past ts done zero is all = record { base = is.base; writes = All-append (λ (w : PastWrite). ChangesSpelled (key_kinds columns) w.changes) past.writes (record { ts = ts; changes = done } ∷ []) is.writes (all, tt) }
  changes_are c past ts done (suc due) is all = (is, all)

  anything : {A : Type 0} (o : Option A) → IfSome o (λ a. Unit {0})
  anything None = tt
  anything (Some a) = tt

  stage_after : (stage : Stage) (line : List ℕ) → StageSpelled stage → IfSome (after columns stage line) StageSpelled
  stage_after begin line is = mapped (λ (x : ℕ × ℕ). Unit {0}) StageSpelled (λ (x : ℕ × ℕ). count x.0 x.1) (begin_in line) (λ x u. tt) (anything (begin_in line))
  stage_after (count a c) line is = mapped (λ (n : ℕ). Unit {0}) StageSpelled (rows_due c (no_rows a)) (count_in line) (λ n u. rows_are c (no_rows a) n (record { base = tt; writes = tt })) (anything (count_in line))
  stage_after (rows c past due) line is = mapped (AllByRecursion EntrySpelled) StageSpelled (λ (base : Rows). rows_due c (record past { base = base }) due) (joined past.base (row_in columns line))
      (λ base all. rows_are c (record past { base = base }) due (record { base = all; writes = is.writes })) (joined_is EntrySpelled past.base (row_in columns line) is.base (row_is (words_of line)))
  stage_after (turn c low past) line is = mapped (λ (w : ℕ × ℕ). Unit {0}) StageSpelled (λ (w : ℕ × ℕ). changes_due c past w.0 [] w.1) (turn_in low c line) (λ w u. changes_are c past w.0 [] w.1 is tt) (anything (turn_in low c line))
  stage_after (changes c past ts done due) line is = mapped (AllByRecursion ChangedSpelled) StageSpelled (λ (more : Changes). changes_due c past ts more due) (joined done (fitting (rows_now past) (change_in columns line)))
      (λ more all. changes_are c past ts more due is.0 all) (joined_is ChangedSpelled done (fitting (rows_now past) (change_in columns line)) is.1 (fitting_is (rows_now past) (change_in columns line) (change_is (words_of line))))

  -- ---- the end

  found_is : (stage : Stage) (at : ℕ) → StageSpelled stage → IfSome (found stage at) (λ f. PastSpelled (key_kinds columns) f.past)
  found_is begin at is = tt
  found_is (count a c) at is = tt
  found_is (rows c past due) at is = tt
  found_is (turn c low past) at is = is
  found_is (changes c past ts done due) at is = tt

  end_is : (stage : Stage) (line : List ℕ) (at : ℕ) → StageSpelled stage → IfSome (ending stage line at) (λ f. PastSpelled (key_kinds columns) f.past)
  end_is stage line at is = by (same line (codes "output"))
    where
      by : (b : Bool) → IfSome (if b then found stage at else None) (λ f. PastSpelled (key_kinds columns) f.past)
      by true = found_is stage at is
      by false = tt

  all_stages : (stage : Stage) (at : ℕ) (pieces : List (List ℕ)) → StageSpelled stage → IfOk (opening_from columns stage at pieces) (λ f. PastSpelled (key_kinds columns) f.past)
  all_stages stage at [] is = tt
  all_stages stage at (rest ∷ []) is = tt
  all_stages stage at (line ∷ more ∷ pieces) is =
      either (ending stage line (at + length line + 1)) (after columns stage line) (end_is stage line (at + length line + 1) is)
      (later (after columns stage line) (stage_after stage line is) (λ next on. all_stages next (at + length line + 1) (more ∷ pieces) on))
    where
      later : (o : Option Stage) → IfSome o StageSpelled → ((next : Stage) → StageSpelled next → IfOk (opening_from columns next (at + length line + 1) (more ∷ pieces)) (λ f. PastSpelled (key_kinds columns) f.past))
          → IfOk (or_stop (stop stage at) (option_map (λ next. opening_from columns next (at + length line + 1) (more ∷ pieces)) o)) (λ f. PastSpelled (key_kinds columns) f.past)
      later None on rest = tt
      later (Some next) on rest = rest next on

      either : (end : Option Found) (o : Option Stage) → IfSome end (λ f. PastSpelled (key_kinds columns) f.past)
          → IfOk (or_stop (stop stage at) (option_map (λ next. opening_from columns next (at + length line + 1) (more ∷ pieces)) o)) (λ f. PastSpelled (key_kinds columns) f.past)
          → IfOk (or_else end (or_stop (stop stage at) (option_map (λ next. opening_from columns next (at + length line + 1) (more ∷ pieces)) o))) (λ f. PastSpelled (key_kinds columns) f.past)
      either None o ends rest = rest
      either (Some f) o ends rest = ends

pub opening_spelled : (columns : List Column) (text : List ℕ) (f : Found) → IsTable columns → opening_in columns text ≡ Ok f → PastSpelled (key_kinds columns) f.past
opening_spelled columns text f table e = subst (λ r. IfOk r (λ g. PastSpelled (key_kinds columns) g.past)) e (all_stages columns table begin 0 (cut 10 text) tt)
