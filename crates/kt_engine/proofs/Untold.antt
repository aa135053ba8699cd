-- An operation of a key without a COMMIT is one of a flying write, so it lies above the mark.
use Rattle.std.proofs.Common.{◌≡◌, ℕ, ◌<◌, List, [], ◌∷◌, ◌++◌, map, Option, Some, None, Bool, true, false, ◌||◌, refl, sym, ap, ◌∙◌, subst, cond, inl, inr}
use Rattle.std.specs.Prelude.{◌==◌, ◌⊎◌}
use Rattle.std.specs.List.{list_any}
use Rattle.std.specs.Ordering.{eq_by_cmp}
use Rattle.std.proofs.lemmas.Bool.{eqb-true}
use Rattle.kt_history.specs.declared.operation.RowOp.{RowOp}
use Rattle.kt_history.specs.Rows.{Row, key_cmp}
use Rattle.kt_history.specs.History.{Past}
use Rattle.kt_records.specs.declared.entry.Entry.{Entry}
use Rattle.kt_records.specs.declared.entry.Entry.TheVariants.{Replicate, Commit}
use Rattle.kt_records.specs.declared.entry.CommitRow.{CommitRow}
use Rattle.kt_loglaws.specs.Replay.{commit_of}
use Rattle.kt_loglaws.specs.Fronts.{ops_of}
use Rattle.kt_loglaws.proofs.LogOrder.{same}
use Rattle.kt_histlaws.specs.Core.{flown_by}
use Rattle.kt_histlaws.specs.Flights.{AllFly}
use Rattle.kt_histlaws.specs.Pending.{Aloft}
use Rattle.kt_content.specs.KeyOps.{KeyOp, op_on, seen}
use Rattle.kt_content.specs.MoreOps.{untold}
use Rattle.kt_content.specs.Keeping.{FliesAbove}
use Rattle.kt_engine.specs.Logged.{UntoldFly}

abbrev Among : KeyOp → List KeyOp → Type 0
Among x [] = ⊥
Among x (y ∷ ys) = (x ≡ y) ⊎ Among x ys

last_among : (x : KeyOp) (front : List KeyOp) → Among x (front ++ x ∷ [])
last_among x [] = inl refl
last_among x (y ∷ front) = inr (last_among x front)

either : (x : KeyOp) (xs ys : List KeyOp) → Among x (xs ++ ys) → Among x xs ⊎ Among x ys
either x [] ys h = inr h
either x (y ∷ xs) ys (inl is) = inl (inl is)
either x (y ∷ xs) ys (inr more) = elim (either x xs ys more) [ inl front ↦ inl (inr front) | inr behind ↦ inr behind ]

-- without a COMMIT it is one of its write's
of_write : (q : List ℕ) (t : ℕ) (ops : List RowOp) (o : Option (List CommitRow)) (x : KeyOp) → x.told ≡ None → Among x (op_on q t ops o) → (x.ts ≡ t) × (o ≡ None)
of_write q t [] o x none h = absurd h
of_write q t (op ∷ ops) None x none h = elim (eq_by_cmp key_cmp q op.key) as (λ b. Among x (cond b (record { ts = t; op = op; told = None } ∷ []) (op_on q t ops None)) → (x.ts ≡ t) × (◌≡◌ {A = Option (List CommitRow)} None None)) [
  | true ↦ λ h. elim h [ inl is ↦ (ap (λ (y : KeyOp). y.ts) is, refl) | inr more ↦ absurd more ]
  | false ↦ λ h. of_write q t ops None x none h
] h
of_write q t (op ∷ ops) (Some []) x none h = absurd h
of_write q t (op ∷ ops) (Some (row ∷ rows)) x none h = elim (eq_by_cmp key_cmp q op.key) as (λ b. Among x (cond b (record { ts = t; op = op; told = Some row.targets } ∷ []) (op_on q t ops (Some rows))) → (x.ts ≡ t) × (Some (row ∷ rows) ≡ None)) [
  | true ↦ λ h. elim h [ inl is ↦ absurd (let no : None ≡ Some row.targets = sym none ∙ ap (λ (y : KeyOp). y.told) is in cc) | inr more ↦ absurd more ]
  | false ↦ λ h. absurd (let no : Some rows ≡ None = (of_write q t ops (Some rows) x none h).1 in cc)
] h

record InLog (all xs : List Entry) (ts : ℕ) : Type 0 where
  ops : List RowOp
  has : ops_of ts xs ≡ Some ops
  none : commit_of ts all ≡ None

in_log : (q : List ℕ) (all xs : List Entry) (x : KeyOp) → x.told ≡ None → Among x (seen q all xs) → InLog all xs x.ts
in_log q all [] x none h = absurd h
in_log q all (Replicate t ops ∷ xs) x none h = elim (either x (op_on q t ops (commit_of t all)) (seen q all xs) h) [
  | inl own ↦ (
      let of = of_write q t ops (commit_of t all) x none own in
      record { ops = ops; has = ap (λ b. cond b (Some ops) (ops_of x.ts xs)) (ap (λ n. t == n) of.0 ∙ same t); none = ap (λ n. commit_of n all) of.0 ∙ of.1 }
      )
  | inr behind ↦ (
      let rest = in_log q all xs x none behind in
      elim (t == x.ts) as (λ b. cond b (Some ops) (ops_of x.ts xs) ≡ ops_of x.ts (Replicate t ops ∷ xs) → InLog all (Replicate t ops ∷ xs) x.ts) [
        | true ↦ λ e. record { ops = ops; has = sym e; none = rest.none }
        | false ↦ λ e. record { ops = rest.ops; has = sym e ∙ rest.has; none = rest.none }
      ] refl
      )
]
in_log q all (Commit t rows ∷ xs) x none h = let rest = in_log q all xs x none h in record { ops = rest.ops; has = rest.has; none = rest.none }

above_mark : (fill : Row) (past : Past) (a c ts : ℕ) (aloft : List Aloft) → AllFly fill past a c (map flown_by aloft) → list_any (λ w. w.ts == ts) aloft ≡ true → a < ts
above_mark fill past a c ts [] fly any = absurd (let no : false ≡ true = any in cc)
above_mark fill past a c ts (w ∷ aloft) fly any = elim (w.ts == ts) as (λ b. (w.ts == ts) ≡ b → (b || list_any (λ v. v.ts == ts) aloft) ≡ true → a < ts) [
  | true ↦ λ e any. subst (λ (n : ℕ). a < n) (eqb-true w.ts ts e) fly.0
  | false ↦ λ e any. above_mark fill past a c ts aloft fly.4 any
] refl any

pub flies_above : (fill : Row) (past : Past) (a c : ℕ) (aloft : List Aloft) (all : List Entry) (q : List ℕ) → AllFly fill past a c (map flown_by aloft) → UntoldFly all aloft → FliesAbove a all q
flies_above fill past a c aloft all q fly untold front ts op is =
    let x = untold_op in
    let at = in_log q all all x refl (subst (Among x) (sym is) (last_among x front)) in
    above_mark fill past a c ts aloft fly (untold ts at.ops at.has at.none)
  where
    untold_op : KeyOp
    untold_op = record { ts = ts; op = op; told = None }
