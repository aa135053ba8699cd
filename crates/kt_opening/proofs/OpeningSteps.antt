-- The rows, the changes and the writes of an opening, a line at a time.
use Rattle.std.proofs.Common.{◌≡◌, ℕ, zero, suc, ◌+◌, ◌-◌, ◌<◌, ◌≤◌, List, [], length, Some, None, Ok, Bor, true, false, refl, ap, subst, arith}
use Rattle.std.specs.Prelude.{if◌then◌else◌, codes}
use Rattle.std.specs.Option.{option_map}
use Rattle.kt_base.specs.Literals.{same}
use Rattle.kt_schema.specs.declared.column.Column.{Column}
use Rattle.kt_history.specs.Rows.{Rows, Changes}
use Rattle.kt_history.specs.History.{Past, PastWrite}
use Rattle.kt_opening.specs.declared.lines.Due.TheVariants as is_due
use Rattle.kt_opening.specs.Lines.{IsLineFrom}
use Rattle.kt_opening.specs.OpeningLines.{begin_in, count_in, turn_in, row_in, change_in}
use Rattle.kt_opening.specs.OpeningTexts.{Stage, begin, count, rows, turn, changes, rows_due, changes_due, no_rows, rows_now, fitting, joined, Found, ending}
use Rattle.kt_opening.specs.Reading.{opening_at, Leads, Stops, with_rows, with_writes}
use Rattle.kt_opening.proofs.Leading.{unended, missing, refused, more, last}

-- with some rows due one is due
due_row : (c : ℕ) (past : Past) (due : ℕ) → 0 < due → rows_due c past due ≡ rows c past (due - 1)
due_row c past zero some = absurd (omega (arith, some))
due_row c past (suc due) some = let less : due ≡ suc due - 1 = omega arith in ap (rows c past) less

due_change : (c : ℕ) (past : Past) (ts : ℕ) (done : Changes) (due : ℕ) → 0 < due → changes_due c past ts done due ≡ changes c past ts done (due - 1)
due_change c past ts done zero some = absurd (omega (arith, some))
due_change c past ts done (suc due) some = let less : due ≡ suc due - 1 = omega arith in ap (changes c past ts done) less

module _ (columns : List Column) (text : List ℕ) where
  -- ---- the first two lines

  pub no_line : IsLineFrom text 0 None → Stops columns text begin 0 (record { at = 0; due = is_due.Head })
  no_line line = missing columns text begin 0 begin 0 refl line (omega arith)

  module _ (l : Bor (List ℕ)) (line : IsLineFrom text 0 (Some l)) where
    pub no_head : begin_in l.now ≡ None → Stops columns text begin 0 (record { at = 0; due = is_due.Head })
    no_head none = refused columns text begin 0 begin 0 refl l line (unended (same l.now (codes "output"))) (ap (option_map (λ (head : ℕ × ℕ). count head.0 head.1)) none) (omega arith)

    pub headed_so : (a c : ℕ) → begin_in l.now ≡ Some (a, c) → Leads columns text begin 0 (count a c) (length l.now + 1)
    headed_so a c is =
        let at : 0 + length l.now + 1 ≡ length l.now + 1 = omega arith in
        subst (λ (n : ℕ). Leads columns text begin 0 (count a c) n) at
        (more columns text begin 0 begin 0 refl l line (count a c) (unended (same l.now (codes "output"))) (ap (option_map (λ (head : ℕ × ℕ). count head.0 head.1)) is))

  module _ (a c at : ℕ) (lead : Leads columns text begin 0 (count a c) at) where
    pub count_missing : IsLineFrom text at None → at ≤ length text → Stops columns text begin 0 (record { at = at; due = is_due.Count })
    count_missing line within = missing columns text begin 0 (count a c) at lead line within

    module _ (l : Bor (List ℕ)) (line : IsLineFrom text at (Some l)) where
      pub no_count : count_in l.now ≡ None → at ≤ length text → Stops columns text begin 0 (record { at = at; due = is_due.Count })
      no_count none within = refused columns text begin 0 (count a c) at lead l line (unended (same l.now (codes "output"))) (ap (option_map (rows_due c (no_rows a))) none) within

      pub counted_so : (n : ℕ) → count_in l.now ≡ Some n → Leads columns text begin 0 (rows_due c (no_rows a) n) (at + length l.now + 1)
      counted_so n is = more columns text begin 0 (count a c) at lead l line (rows_due c (no_rows a) n) (unended (same l.now (codes "output"))) (ap (option_map (rows_due c (no_rows a))) is)

  -- ---- rows

  module _ (a c due start left at : ℕ) (read : Rows) (lead : Leads columns text (rows_due c (no_rows a) due) start (rows_due c (with_rows a read) left) at) (some : 0 < left) where
    row_here : Leads columns text (rows_due c (no_rows a) due) start (rows c (with_rows a read) (left - 1)) at
    row_here = subst (λ (s : Stage). Leads columns text (rows_due c (no_rows a) due) start s at) (due_row c (with_rows a read) left some) lead

    pub row_missing : IsLineFrom text at None → at ≤ length text → Stops columns text (rows_due c (no_rows a) due) start (record { at = at; due = is_due.Row })
    row_missing line within = missing columns text (rows_due c (no_rows a) due) start (rows c (with_rows a read) (left - 1)) at row_here line within

    module _ (l : Bor (List ℕ)) (line : IsLineFrom text at (Some l)) where
      pub row_refused : joined read (row_in columns l.now) ≡ None → at ≤ length text → Stops columns text (rows_due c (no_rows a) due) start (record { at = at; due = is_due.Row })
      row_refused none within =
          refused columns text (rows_due c (no_rows a) due) start (rows c (with_rows a read) (left - 1)) at row_here l line (unended (same l.now (codes "output")))
          (ap (option_map (λ (base : Rows). rows_due c (with_rows a base) (left - 1))) none) within

      pub row_more : (new : Rows) → joined read (row_in columns l.now) ≡ Some new → Leads columns text (rows_due c (no_rows a) due) start (rows_due c (with_rows a new) (left - 1)) (at + length l.now + 1)
      row_more new is =
          more columns text (rows_due c (no_rows a) due) start (rows c (with_rows a read) (left - 1)) at row_here l line (rows_due c (with_rows a new) (left - 1)) (unended (same l.now (codes "output")))
          (ap (option_map (λ (base : Rows). rows_due c (with_rows a base) (left - 1))) is)

  -- ---- changes

  module _ (c : ℕ) (past : Past) (ts due start left at : ℕ) (read : Changes) (lead : Leads columns text (changes_due c past ts [] due) start (changes_due c past ts read left) at) (some : 0 < left) where
    change_here : Leads columns text (changes_due c past ts [] due) start (changes c past ts read (left - 1)) at
    change_here = subst (λ (s : Stage). Leads columns text (changes_due c past ts [] due) start s at) (due_change c past ts read left some) lead

    pub change_missing : IsLineFrom text at None → at ≤ length text → Stops columns text (changes_due c past ts [] due) start (record { at = at; due = is_due.Change })
    change_missing line within = missing columns text (changes_due c past ts [] due) start (changes c past ts read (left - 1)) at change_here line within

    module _ (l : Bor (List ℕ)) (line : IsLineFrom text at (Some l)) where
      pub change_refused : joined read (fitting (rows_now past) (change_in columns l.now)) ≡ None → at ≤ length text → Stops columns text (changes_due c past ts [] due) start (record { at = at; due = is_due.Change })
      change_refused none within =
          refused columns text (changes_due c past ts [] due) start (changes c past ts read (left - 1)) at change_here l line (unended (same l.now (codes "output")))
          (ap (option_map (λ (done : Changes). changes_due c past ts done (left - 1))) none) within

      pub change_more : (new : Changes) → joined read (fitting (rows_now past) (change_in columns l.now)) ≡ Some new → Leads columns text (changes_due c past ts [] due) start (changes_due c past ts new (left - 1)) (at + length l.now + 1)
      change_more new is =
          more columns text (changes_due c past ts [] due) start (changes c past ts read (left - 1)) at change_here l line (changes_due c past ts new (left - 1)) (unended (same l.now (codes "output")))
          (ap (option_map (λ (done : Changes). changes_due c past ts done (left - 1))) is)

  -- ---- writes

  module _ (a c start : ℕ) (base : Rows) (low at : ℕ) (read : List PastWrite) (lead : Leads columns text (turn c a (with_rows a base)) start (turn c low (with_writes a base read)) at) where
    pub turn_missing : IsLineFrom text at None → at ≤ length text → Stops columns text (turn c a (with_rows a base)) start (record { at = at; due = is_due.Turn low c })
    turn_missing line within = missing columns text (turn c a (with_rows a base)) start (turn c low (with_writes a base read)) at lead line within

    module _ (l : Bor (List ℕ)) (line : IsLineFrom text at (Some l)) where
      pub all_read : same l.now (codes "output") ≡ true → opening_at columns text (turn c a (with_rows a base)) start ≡ Ok (record { past = with_writes a base read; last = c; at = at + length l.now + 1 })
      all_read is =
          let f : Found = record { past = with_writes a base read; last = c; at = at + length l.now + 1 } in
          last columns text (turn c a (with_rows a base)) start (turn c low (with_writes a base read)) at lead l line f (ap (λ b. if b then Some f else None) is)

      module _ (not : same l.now (codes "output") ≡ false) where
        quiet : ending (turn c low (with_writes a base read)) l.now (at + length l.now + 1) ≡ None
        quiet = ap (λ b. if b then Some (record { past = with_writes a base read; last = c; at = at + length l.now + 1 }) else None) not

        pub no_write : turn_in low c l.now ≡ None → at ≤ length text → Stops columns text (turn c a (with_rows a base)) start (record { at = at; due = is_due.Turn low c })
        no_write none within =
            refused columns text (turn c a (with_rows a base)) start (turn c low (with_writes a base read)) at lead l line quiet
            (ap (option_map (λ (write : ℕ × ℕ). changes_due c (with_writes a base read) write.0 [] write.1)) none) within

        pub begun_so : (ts n : ℕ) → turn_in low c l.now ≡ Some (ts, n) → Leads columns text (turn c a (with_rows a base)) start (changes_due c (with_writes a base read) ts [] n) (at + length l.now + 1)
        begun_so ts n is =
            more columns text (turn c a (with_rows a base)) start (turn c low (with_writes a base read)) at lead l line (changes_due c (with_writes a base read) ts [] n) quiet
            (ap (option_map (λ (write : ℕ × ℕ). changes_due c (with_writes a base read) write.0 [] write.1)) is)
