-- The stores that COMMITs name, one more each time.
use Rattle.std.proofs.Common.{◌≡◌, ◌<◌, ◌+◌, ℕ, max, Bool, true, false, cond, Option, Some, unwrap_or, arith, List, [], ◌∷◌, ◌++◌, length, take, get_or, refl, sym, ap, ◌∙◌, subst, append_assoc}
use Rattle.std.specs.Prelude.{◌==◌}
use Rattle.std.proofs.lemmas.Bool.Decides.{nat_tests}
use Rattle.std.proofs.lemmas.List.{append-nil, take_more}
use Rattle.kt_history.specs.declared.operation.RowOp.{RowOp}
use Rattle.kt_history.specs.declared.target.Target.{Target}
use Rattle.kt_history.specs.declared.target.Target.TheVariants.{Mem, Delta}
use Rattle.kt_records.specs.declared.entry.CommitRow.{CommitRow}
use Rattle.kt_records.specs.declared.entry.Entry.{Entry}
use Rattle.kt_records.specs.declared.entry.Entry.TheVariants.{Replicate, Commit}
use Rattle.kt_reopen.specs.declared.numbers.Named.{Named}
use Rattle.kt_reopen.specs.Numbers.{named_of, named_by, greatest_mem, greatest_dms, behind, behind_rowsets, IsNamed}
use Rattle.kt_reopen.specs.Opened.{IsNamedBy}

one_more : {A : Type 0} (xs : List A) (i : ℕ) (x : A) → i < length xs → x ≡ get_or xs i x → take (i + 1) xs ≡ take i xs ++ x ∷ []
one_more xs i x lt is = take_more xs i x lt ∙ ap (λ y. take i xs ++ y ∷ []) (sym is)

of-push : (rows : List CommitRow) (row : CommitRow) → named_of (rows ++ row ∷ []) ≡ named_of rows ++ row.targets
of-push [] row = append-nil row.targets
of-push (r ∷ rows) row = ap (λ ts. r.targets ++ ts) (of-push rows row) ∙ sym (append_assoc r.targets (named_of rows) row.targets)

by-push_commit : (records : List Entry) (ts : ℕ) (rows : List CommitRow) → named_by (records ++ Commit ts rows ∷ []) ≡ named_by records ++ named_of rows
by-push_commit [] ts rows = append-nil (named_of rows)
by-push_commit (Replicate t ops ∷ records) ts rows = by-push_commit records ts rows
by-push_commit (Commit t more ∷ records) ts rows = ap (λ targets. named_of more ++ targets) (by-push_commit records ts rows) ∙ sym (append_assoc (named_of more) (named_by records) (named_of rows))

by-push_write : (records : List Entry) (ts : ℕ) (ops : List RowOp) → named_by (records ++ Replicate ts ops ∷ []) ≡ named_by records
by-push_write [] ts ops = refl
by-push_write (Replicate t o ∷ records) ts ops = by-push_write records ts ops
by-push_write (Commit t rows ∷ records) ts ops = ap (λ targets. named_of rows ++ targets) (by-push_write records ts ops)

module _ (named : Named) where
  pub target_more : (before targets : List Target) (i : ℕ) (t : Target) → IsNamedBy named ((before ++ take i targets) ++ t ∷ []) → i < length targets → t ≡ get_or targets i t → IsNamedBy named (before ++ take (i + 1) targets)
  target_more before targets i t h lt is = subst (IsNamedBy named) (append_assoc before (take i targets) (t ∷ []) ∙ ap (λ ts. before ++ ts) (sym (one_more targets i t lt is))) h

  pub row_more : (before : List Target) (rows : List CommitRow) (i : ℕ) (row : CommitRow) → i < length rows → row ≡ get_or rows i row → IsNamedBy named ((before ++ named_of (take i rows)) ++ row.targets) → IsNamedBy named (before ++ named_of (take (i + 1) rows))
  row_more before rows i row lt is h =
      subst (IsNamedBy named) (append_assoc before (named_of (take i rows)) row.targets ∙ ap (λ ts. before ++ ts) (sym (of-push (take i rows) row) ∙ ap named_of (sym (one_more rows i row lt is)))) h

  pub commit_more : (records : List Entry) (i ts : ℕ) (rows : List CommitRow) (x : Entry) → i < length records → x ≡ get_or records i x → x ≡ Commit ts rows → IsNamedBy named (named_by (take i records) ++ named_of rows) → IsNamedBy named (named_by (take (i + 1) records))
  commit_more records i ts rows x lt is e h =
      subst (IsNamedBy named) (sym (by-push_commit (take i records) ts rows) ∙ ap (λ (y : Entry). named_by (take i records ++ y ∷ [])) (sym e) ∙ ap named_by (sym (one_more records i x lt is))) h

  pub write_more : (records : List Entry) (i ts : ℕ) (ops : List RowOp) (x : Entry) → i < length records → x ≡ get_or records i x → x ≡ Replicate ts ops → IsNamedBy named (named_by (take i records)) → IsNamedBy named (named_by (take (i + 1) records))
  write_more records i ts ops x lt is e h =
      subst (IsNamedBy named) (sym (by-push_write (take i records) ts ops) ∙ ap (λ (y : Entry). named_by (take i records ++ y ∷ [])) (sym e) ∙ ap named_by (sym (one_more records i x lt is))) h

-- ---- one name more

mem-push : (targets : List Target) (n : ℕ) → greatest_mem (targets ++ Mem n ∷ []) ≡ max (greatest_mem targets) n
mem-push [] n = omega arith
mem-push (Mem k ∷ targets) n = let rest = mem-push targets n in omega arith
mem-push (Delta r k ∷ targets) n = mem-push targets n

mem-push_delta : (targets : List Target) (r n : ℕ) → greatest_mem (targets ++ Delta r n ∷ []) ≡ greatest_mem targets
mem-push_delta [] r n = refl
mem-push_delta (Mem k ∷ targets) r n = ap (max k) (mem-push_delta targets r n)
mem-push_delta (Delta s k ∷ targets) r n = mem-push_delta targets r n

next-push : (targets : List Target) (r n : ℕ) → behind_rowsets (targets ++ Delta r n ∷ []) ≡ max (behind_rowsets targets) (behind r)
next-push [] r n = omega arith
next-push (Mem k ∷ targets) r n = next-push targets r n
next-push (Delta s k ∷ targets) r n = let rest = next-push targets r n in omega arith

next-push_mem : (targets : List Target) (n : ℕ) → behind_rowsets (targets ++ Mem n ∷ []) ≡ behind_rowsets targets
next-push_mem [] n = refl
next-push_mem (Mem k ∷ targets) n = next-push_mem targets n
next-push_mem (Delta s k ∷ targets) n = ap (max (behind s)) (next-push_mem targets n)

dms-push : (r : ℕ) (targets : List Target) (s n : ℕ) → greatest_dms r (targets ++ Delta s n ∷ []) ≡ cond (s == r) (max (greatest_dms r targets) n) (greatest_dms r targets)
dms-push r [] s n = elim (s == r) as (λ b. cond b (max n 0) 0 ≡ cond b (max 0 n) 0) [ true ↦ omega arith | false ↦ refl ]
dms-push r (Mem k ∷ targets) s n = dms-push r targets s n
dms-push r (Delta t k ∷ targets) s n =
    ap (λ g. cond (t == r) (max k g) g) (dms-push r targets s n)
    ∙ elim (t == r) as (λ a. cond a (max k (cond (s == r) (max (greatest_dms r targets) n) (greatest_dms r targets))) (cond (s == r) (max (greatest_dms r targets) n) (greatest_dms r targets))
    ≡ cond (s == r) (max (cond a (max k (greatest_dms r targets)) (greatest_dms r targets)) n) (cond a (max k (greatest_dms r targets)) (greatest_dms r targets))) [
      | true ↦ elim (s == r) as (λ b. max k (cond b (max (greatest_dms r targets) n) (greatest_dms r targets)) ≡ cond b (max (max k (greatest_dms r targets)) n) (max k (greatest_dms r targets))) [ true ↦ omega arith | false ↦ refl ]
      | false ↦ refl
    ]

dms-push_mem : (r : ℕ) (targets : List Target) (n : ℕ) → greatest_dms r (targets ++ Mem n ∷ []) ≡ greatest_dms r targets
dms-push_mem r [] n = refl
dms-push_mem r (Mem k ∷ targets) n = dms-push_mem r targets n
dms-push_mem r (Delta s k ∷ targets) n = ap (λ g. cond (s == r) (max k g) g) (dms-push_mem r targets n)

pub mem_added : (mem next n new : ℕ) (dms : ℕ → ℕ) (targets : List Target) → new ≡ max mem n → IsNamed mem next dms targets → IsNamed new next dms (targets ++ Mem n ∷ [])
mem_added mem next n new dms targets is h = record {
  mem_is = is ∙ ap (λ m. max m n) h.mem_is ∙ sym (mem-push targets n);
  next_is = h.next_is ∙ sym (next-push_mem targets n);
  dms_is = λ r. h.dms_is r ∙ sym (dms-push_mem r targets n);
}

same_number : (a b : ℕ) → (a == b) ≡ true → a ≡ b
same_number a b h = grind (arith, nat_tests)

pub dms_added : (mem next s n next2 greatest : ℕ) (dms dms2 : ℕ → ℕ) (targets : List Target) → next2 ≡ max next (behind s) → greatest ≡ max (dms s) n → ((r : ℕ) → dms2 r ≡ cond (s == r) greatest (dms r))
    → IsNamed mem next dms targets → IsNamed mem next2 dms2 (targets ++ Delta s n ∷ [])
dms_added mem next s n next2 greatest dms dms2 targets next_is is puts h = record {
  mem_is = h.mem_is ∙ sym (mem-push_delta targets s n);
  next_is = next_is ∙ ap (λ m. max m (behind s)) h.next_is ∙ sym (next-push targets s n);
  dms_is = λ r. puts r ∙ elim (s == r) as (λ b. (s == r) ≡ b → cond b greatest (dms r) ≡ cond b (max (greatest_dms r targets) n) (greatest_dms r targets)) [
    | true ↦ λ e. is ∙ ap (λ m. max m n) (ap dms (same_number s r e) ∙ h.dms_is r)
    | false ↦ λ e. h.dms_is r
  ] refl ∙ sym (dms-push r targets s n);
}

-- the greatest one under a number, or 0, where one has come
pub put_or : (b : Bool) (greatest : ℕ) (o : Option ℕ) → unwrap_or (cond b (Some greatest) o) 0 ≡ cond b greatest (unwrap_or o 0)
put_or true greatest o = refl
put_or false greatest o = refl
