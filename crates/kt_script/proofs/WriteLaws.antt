-- A write line that is taken keeps the rules of its table, and is printed as it was but for the order of names; what is printed is read again; each order of the names says the same.
use Rattle.std.proofs.Common.{◌≡◌, ℕ, suc, ◌+◌, ◌≤◌, Bool, true, false, List, [], ◌∷◌, ◌++◌, length, take, drop, map, Option, Some, None, inl, inr, refl, sym, ap, subst, ◌∙◌, arith}
use mathlib.Core.List.{append-nil}
use Rattle.std.specs.Prelude.{if◌then◌else◌, nat_lt, codes}
use Rattle.std.specs.List.{onto_first, AllByRecursion}
use Rattle.std.specs.List.Sorted.{IsPermutation}
use Rattle.std.proofs.lemmas.List.{take-append-drop, length-map}
use Rattle.std.proofs.lemmas.List.Sorted.{IsPermutation-refl, IsPermutation-cons, IsPermutation-append_right}
use Rattle.kt_base.specs.Literals.{same}
use Rattle.kt_base.proofs.Decimals.{same_text}
use Rattle.kt_schema.specs.declared.column.Column.{Column}
use Rattle.kt_history.specs.declared.operation.OpKind.{OpKind}
use Rattle.kt_history.specs.declared.operation.RowOp.{RowOp}
use Rattle.kt_script.specs.declared.forms.OpForm.{OpForm}
use Rattle.kt_script.specs.declared.forms.OpForm.TheVariants as form
use Rattle.kt_script.specs.declared.leads.Word.TheVariants as word
use Rattle.kt_script.specs.declared.leads.Lead.TheVariants as lead
use Rattle.kt_script.specs.Reasons.{sound, reason_if}
use Rattle.kt_script.specs.Columns.{IsTable}
use Rattle.kt_script.specs.Scripts.{first_lead}
use Rattle.kt_script.specs.Pieces.{words_of}
use Rattle.kt_script.specs.Texts.{words}
use Rattle.kt_script.specs.Writes.{key_len, op_form, op_word, op_kind, op_no, op_of, op_key, ops_of, first_op, later_ops, ops_no, twice, write_no, write_of}
use Rattle.kt_script.specs.Fit.{OpFits, WriteFits}
use Rattle.kt_script.specs.Print.{parted, op_words, write_words, OpBytes}
use Rattle.kt_script.specs.Alike.{behind_alike, kind_alike, op_alike, ops_alike}
use Rattle.kt_script.proofs.Cuts.{Without}
use Rattle.kt_script.proofs.InLine.{words_in_line}
use Rattle.kt_script.proofs.FirstWords.{op_leads}
use Rattle.kt_script.proofs.Parted.{parted_each}
use Rattle.kt_script.proofs.FormLaws.{Plain, all_of, zip_all}
use Rattle.kt_script.proofs.PrintedWords.{IsWord, high, words_alone}
use Rattle.kt_script.proofs.PrintedTables.{Tabled}
use Rattle.kt_script.proofs.ByName.{renamed_permutes, size, permuted_size}
use Rattle.kt_script.proofs.OpWords.{ops_split, keys_same, limit}
use Rattle.kt_script.proofs.OpForms.{operation, operation_law, op_read, op_printed, form_alike, alike_form, op_fits, op_keeps}

-- ---- operations in the words of a line

abbrev Unbroken : List ℕ → Type 0
Unbroken w = same w (codes ";") ≡ false

ops_alone : (ws : List (List ℕ)) → AllByRecursion Unbroken ws → ops_of ws ≡ ws ∷ []
ops_alone [] p = refl
ops_alone (w ∷ ws) p = ap (λ t. if t then [] ∷ ops_of ws else onto_first w (ops_of ws)) p.0 ∙ ap (onto_first w) (ops_alone ws p.1)

ops_then : (ws more : List (List ℕ)) → AllByRecursion Unbroken ws → ops_of (ws ++ (59 ∷ []) ∷ more) ≡ ws ∷ ops_of more
ops_then [] more p = refl
ops_then (w ∷ ws) more p = ap (λ t. if t then [] ∷ ops_of (ws ++ (59 ∷ []) ∷ more) else onto_first w (ops_of (ws ++ (59 ∷ []) ∷ more))) p.0 ∙ ap (onto_first w) (ops_then ws more p.1)

ops_again : (ws : List (List ℕ)) (more : List (List (List ℕ))) → AllByRecursion (AllByRecursion Unbroken) (ws ∷ more) → ops_of (parted (codes ";") (ws ∷ more)) ≡ ws ∷ more
ops_again ws [] p = ap ops_of (append-nil ws) ∙ ops_alone ws p.0
ops_again ws (vs ∷ more) p = ops_then ws (parted (codes ";") (vs ∷ more)) p.0 ∙ ap (λ xs. ws ∷ xs) (ops_again vs more p.1)

each_of : (Q : List ℕ → Type 0) (ops : List (List (List ℕ))) → ((w : List ℕ) → Plain w → Q w) → AllByRecursion (AllByRecursion Plain) ops → AllByRecursion (AllByRecursion Q) ops
each_of Q ops f all = all_of (AllByRecursion Plain) (AllByRecursion Q) ops (λ ws p. all_of Plain Q ws f p) all

-- words that stand between spaces, in a line
pub record InLine (ws : List (List ℕ)) : Type 0 where
  pub words : AllByRecursion IsWord ws
  pub line : AllByRecursion (Without 10) ws

pub plain_in_line : (ws : List (List ℕ)) → AllByRecursion Plain ws → InLine ws
plain_in_line ws p = record { words = all_of Plain IsWord ws (λ w q. q.word) p; line = all_of Plain (Without 10) ws (λ w q. q.line) p }

-- words of operations, with a semicolon between each two
parted_in_line : (ops : List (List (List ℕ))) → AllByRecursion (AllByRecursion Plain) ops → InLine (parted (codes ";") ops)
parted_in_line ops p = record {
  words = parted_each IsWord (codes ";") ops (high (codes ";") refl) (each_of IsWord ops (λ w q. q.word) p);
  line = parted_each (Without 10) (codes ";") ops ((λ e. omega arith), tt) (each_of (Without 10) ops (λ w q. q.line) p);
}

-- ---- operations one by one

module _ (columns : List Column) (table : IsTable columns) where
  abbrev Keeps : RowOp → Type 0
  Keeps o = (operation columns).keeps o

  abbrev printed : List RowOp → List (List (List ℕ))
  printed ops = map (op_words columns) ops

  -- operations that keep the rules are read as they are printed
  record OpsRead (ops : List RowOp) : Type 0 where
    taken : sound ≤ ops_no columns (printed ops)
    are : map (op_of columns) (printed ops) ≡ ops
    plain : AllByRecursion (AllByRecursion Plain) (printed ops)

  ops_read : (ops : List RowOp) → AllByRecursion Keeps ops → OpsRead ops
  ops_read [] k = record { taken = omega arith; are = refl; plain = tt }
  ops_read (o ∷ ops) k =
      let r = (operation_law columns table).read o k.0 in
      let ws : List (List ℕ) = op_words columns o in
      let is : ws ≡ (operation columns).words o = op_printed columns o k.0 in
      let form = op_read columns ws in
      let taken : sound ≤ op_no columns ws = subst (λ n. sound ≤ n) (sym (form.0 ∙ ap (operation columns).no is)) r.0 in
      let more = ops_read ops k.1 in
      let later = more.taken in
      record {
        taken = omega (arith, taken, later);
        are = ap (λ x. x ∷ map (op_of columns) (printed ops)) (form.1 taken ∙ (ap (operation columns).value is ∙ r.1)) ∙ ap (λ xs. o ∷ xs) more.are;
        plain = (subst (AllByRecursion Plain) (sym is) r.2, more.plain);
      }

  -- operations that are taken keep the rules, and are printed as they were but for the order of names
  record OpsSaid (ops : List (List (List ℕ))) : Type 0 where
    keeps : AllByRecursion Keeps (map (op_of columns) ops)
    alike : ops_alike columns ops (printed (map (op_of columns) ops))

  ops_said : (ops : List (List (List ℕ))) → sound ≤ ops_no columns ops → OpsSaid ops
  ops_said [] h = record { keeps = tt; alike = tt }
  ops_said (ws ∷ ops) h =
      let taken : sound ≤ op_no columns ws = omega (arith, h) in
      let form = op_read columns ws in
      let is = form.1 taken in
      let s = (operation_law columns table).said ws (subst (λ n. sound ≤ n) form.0 taken) in
      let keeps : Keeps (op_of columns ws) = subst Keeps (sym is) s.0 in
      let more = ops_said ops (omega (arith, h)) in
      record {
        keeps = (keeps, more.keeps);
        alike = (alike_form columns ws (op_words columns (op_of columns ws)) taken (subst ((operation columns).alike ws) (ap (operation columns).words (sym is) ∙ sym (op_printed columns (op_of columns ws) keeps)) s.1), more.alike);
      }

  -- operations in another order of names
  record OpsMoved (ops more : List (List (List ℕ))) : Type 0 where
    taken : sound ≤ ops_no columns more
    said : map (op_of columns) more ≡ map (op_of columns) ops

  ops_moved : (ops more : List (List (List ℕ))) → sound ≤ ops_no columns ops → ops_alike columns ops more → OpsMoved ops more
  ops_moved [] [] h e = record { taken = h; said = refl }
  ops_moved [] (vs ∷ more) h e = absurd e
  ops_moved (ws ∷ ops) [] h e = absurd e
  ops_moved (ws ∷ ops) (vs ∷ more) h e =
      let taken : sound ≤ op_no columns ws = omega (arith, h) in
      let before = op_read columns ws in
      let after = op_read columns vs in
      let m = (operation_law columns table).moved ws vs (subst (λ n. sound ≤ n) before.0 taken) (form_alike columns ws vs taken e.0) in
      let one : sound ≤ op_no columns vs = subst (λ n. sound ≤ n) (sym after.0) m.0 in
      let rest = ops_moved ops more (omega (arith, h)) e.1 in
      let later = rest.taken in
      record {
        taken = omega (arith, one, later);
        said = ap (λ o. o ∷ map (op_of columns) more) (after.1 one ∙ (m.1 ∙ sym (before.1 taken))) ∙ ap (λ os. op_of columns ws ∷ os) rest.said;
      }

-- ---- how long they are

behind_permutes : (columns : List Column) (f : OpForm) (ws vs : List (List ℕ)) → behind_alike columns f ws vs → IsPermutation ws vs
behind_permutes columns f ws vs e = by f e
  where
    itself : ws ≡ vs → IsPermutation ws vs
    itself is = subst (IsPermutation ws) is (IsPermutation-refl ws)

    named : (take (key_len columns) ws ≡ take (key_len columns) vs) → IsPermutation (drop (key_len columns) ws) (drop (key_len columns) vs) → IsPermutation ws vs
    named front moved =
        let n = key_len columns in
        subst (λ xs. IsPermutation xs vs) (take-append-drop n ws) (subst (IsPermutation (take n ws ++ drop n ws)) (ap (λ xs. xs ++ drop n vs) front ∙ take-append-drop n vs) (IsPermutation-append_right (take n ws) (drop n ws) (drop n vs) moved))

    by : (g : OpForm) → behind_alike columns g ws vs → IsPermutation ws vs
    by form.Literals k = itself k
    by form.RowNames k = named k.0 (renamed_permutes (drop (key_len columns) ws) (drop (key_len columns) vs) k.1)
    by form.Names k = named k.0 (renamed_permutes (drop (key_len columns) ws) (drop (key_len columns) vs) k.1)
    by form.Key k = itself k

op_permutes : (columns : List Column) (ws vs : List (List ℕ)) → op_alike columns ws vs → IsPermutation ws vs
op_permutes columns [] [] e = IsPermutation-refl []
op_permutes columns [] (v ∷ vs) e = absurd e
op_permutes columns (w ∷ ws) [] e = absurd e
op_permutes columns (w ∷ ws) (v ∷ vs) e = subst (λ x. IsPermutation (w ∷ ws) (x ∷ vs)) e.0 (IsPermutation-cons w ws vs (by (op_kind w) e.1))
  where
    by : (o : Option OpKind) → kind_alike columns o ws vs → IsPermutation ws vs
    by None k = subst (IsPermutation ws) k (IsPermutation-refl ws)
    by (Some k) g = behind_permutes columns (op_form k) ws vs g

-- the length of operations with a semicolon behind each
abbrev sizes : List (List (List ℕ)) → ℕ
sizes [] = 0
sizes (ws ∷ ops) = size ws + 2 + sizes ops

ops_size : (columns : List Column) (ops more : List (List (List ℕ))) → ops_alike columns ops more → sizes ops ≡ sizes more
ops_size columns [] [] e = refl
ops_size columns [] (vs ∷ more) e = absurd e
ops_size columns (ws ∷ ops) [] e = absurd e
ops_size columns (ws ∷ ops) (vs ∷ more) e = let a = permuted_size ws vs (op_permutes columns ws vs e.0) in let b = ops_size columns ops more e.1 in omega (arith, a, b)

parted_size : (ws : List (List ℕ)) → sizes (ops_of ws) ≡ size ws + 2
parted_size [] = refl
parted_size (w ∷ ws) = by (same w (codes ";")) refl (parted_size ws) (ops_split ws)
  where
    by : (t : Bool) → same w (codes ";") ≡ t → sizes (ops_of ws) ≡ size ws + 2 → ops_of ws ≡ first_op ws ∷ later_ops ws → sizes (if t then [] ∷ ops_of ws else onto_first w (ops_of ws)) ≡ suc (length w) + size ws + 2
    by true e more split = let one = ap length (same_text w (codes ";") e) in omega (arith, more, one)
    by false e more split = let begins = ap (λ ops. sizes (onto_first w ops)) split in let whole_size = ap sizes split in omega (arith, more, begins, whole_size)

pub write_size : (columns : List Column) (ws vs : List (List ℕ)) → ops_alike columns (ops_of ws) (ops_of vs) → size ws ≡ size vs
write_size columns ws vs e = let a = ops_size columns (ops_of ws) (ops_of vs) e in let b = parted_size ws in let c = parted_size vs in omega (arith, a, b, c)

-- ---- the write

free : (t : Bool) → sound ≤ reason_if t 19 → t ≡ false
free true h = absurd (omega arith)
free false h = refl

most : (n : ℕ) → sound ≤ reason_if (nat_lt 64 n) 18 → n ≤ 64
most n h = elim (limit 64 n 18) [
  | inl x ↦ absurd (omega (arith, h, x.1))
  | inr x ↦ x.0
]

fewer : (n : ℕ) → n ≤ 64 → reason_if (nat_lt 64 n) 18 ≡ sound
fewer n h = elim (limit 64 n 18) [
  | inl x ↦ absurd (omega (arith, h, x.0))
  | inr x ↦ x.1
]

-- a write line that is taken fits the columns of its table
pub write_fits : (columns : List Column) (ws : List (List ℕ)) → IsTable columns → sound ≤ write_no columns ws → WriteFits columns (write_of columns ws)
write_fits columns ws table h =
    let ops = ops_of ws in
    let said = ops_said columns table ops (omega (arith, h)) in
    let count = length-map ops (op_of columns) in
    let split = ap length (ops_split ws) in
    let few = most (length ops) (omega (arith, h)) in
    record {
      some = omega (arith, count, split);
      few = omega (arith, count, few);
      apart = ap twice (keys_same columns ops) ∙ free (twice (map (op_key columns) ops)) (omega (arith, h));
      each = all_of (λ o. (operation columns).keeps o) (OpFits columns) (map (op_of columns) ops) (λ o k. op_fits columns o table k) said.keeps;
    }

-- a write in another order of names
pub write_moved : (columns : List Column) (ws vs : List (List ℕ)) → IsTable columns → sound ≤ write_no columns ws → ops_alike columns (ops_of ws) (ops_of vs) → (sound ≤ write_no columns vs) × (write_of columns vs ≡ write_of columns ws)
write_moved columns ws vs table h e =
    let m = ops_moved columns table (ops_of ws) (ops_of vs) (omega (arith, h)) e in
    let taken = m.taken in
    let count : length (ops_of vs) ≡ length (ops_of ws) = sym (length-map (ops_of vs) (op_of columns)) ∙ (ap length m.said ∙ length-map (ops_of ws) (op_of columns)) in
    let keys : map (op_key columns) (ops_of vs) ≡ map (op_key columns) (ops_of ws) = sym (keys_same columns (ops_of vs)) ∙ (ap (map (λ (o : RowOp). o.key)) m.said ∙ keys_same columns (ops_of ws)) in
    let many = ap (λ n. reason_if (nat_lt 64 n) 18) count in
    let again = ap (λ ks. reason_if (twice ks) 19) keys in
    (omega (arith, h, taken, many, again), m.said)

-- the words of a write, which are read as it
pub record WriteRead (columns : List Column) (ops : List RowOp) : Type 0 where
  pub kind : OpKind
  pub leads : first_lead (write_words columns ops) ≡ Some (lead.Command (word.Op kind))
  pub no : write_no columns (write_words columns ops) ≡ sound
  pub is : write_of columns (write_words columns ops) ≡ ops
  pub line : InLine (write_words columns ops)

pub write_read : (columns : List Column) (ops : List RowOp) → Tabled columns → WriteFits columns ops → AllByRecursion (OpBytes columns) ops → WriteRead columns ops
write_read columns [] t fit said = let some = fit.some in absurd (omega arith)
write_read columns (o ∷ ops) t fit said =
    let all : List RowOp = o ∷ ops in
    let keeps = zip_all (OpFits columns) (OpBytes columns) (λ x. (operation columns).keeps x) all (λ x f b. op_keeps columns x t f b) fit.each said in
    let read = ops_read columns t.table all keeps in
    let lines : List (List (List ℕ)) = map (op_words columns) all in
    let ws : List (List ℕ) = write_words columns all in
    let is : ops_of ws ≡ lines = ops_again (op_words columns o) (map (op_words columns) ops) (each_of Unbroken lines (λ w p. p.apart) read.plain) in
    let taken = read.taken in
    let ops_are = ap (ops_no columns) is in
    let many = ap (λ n. reason_if (nat_lt 64 n) 18) (ap length is ∙ length-map all (op_words columns)) ∙ fewer (length all) fit.few in
    let apart = ap (λ os. reason_if (twice (map (op_key columns) os)) 19) is ∙ (ap (λ ks. reason_if (twice ks) 19) (sym (keys_same columns lines) ∙ ap (map (λ (x : RowOp). x.key)) read.are) ∙ ap (λ t. reason_if t 19) fit.apart) in
    record {
      kind = o.kind;
      leads = op_leads o.kind;
      no = omega (arith, taken, ops_are, many, apart);
      is = ap (map (op_of columns)) is ∙ read.are;
      line = parted_in_line lines read.plain;
    }

-- operations that are printed again
pub record Again (columns : List Column) (ops : List (List (List ℕ))) : Type 0 where
  pub alike : ops_alike columns ops (ops_of (words_of (words (write_words columns (map (op_of columns) ops)))))
  pub line : Without 10 (words (write_words columns (map (op_of columns) ops)))

pub write_again : (columns : List Column) (ws : List (List ℕ)) → IsTable columns → sound ≤ write_no columns ws → Again columns (ops_of ws)
write_again columns ws table h = subst (Again columns) (sym (ops_split ws)) (by (first_op ws) (later_ops ws) (subst (λ ops. sound ≤ ops_no columns ops) (ops_split ws) (omega (arith, h))))
  where
    by : (first : List (List ℕ)) (more : List (List (List ℕ))) → sound ≤ ops_no columns (first ∷ more) → Again columns (first ∷ more)
    by first more taken =
        let said = ops_said columns table (first ∷ more) taken in
        let read = ops_read columns table (map (op_of columns) (first ∷ more)) said.keeps in
        let lines : List (List (List ℕ)) = map (op_words columns) (map (op_of columns) (first ∷ more)) in
        let all : List (List ℕ) = parted (codes ";") lines in
        let line = parted_in_line lines read.plain in
        let cut : words_of (words all) ≡ all = words_alone (op_word (op_of columns first).kind) _ line.words.0 line.words.1 in
        let is : ops_of (words_of (words all)) ≡ lines = ap ops_of cut ∙ ops_again (op_words columns (op_of columns first)) (map (op_words columns) (map (op_of columns) more)) (each_of Unbroken lines (λ w p. p.apart) read.plain) in
        record { alike = subst (ops_alike columns (first ∷ more)) (sym is) said.alike; line = words_in_line all line.line }
