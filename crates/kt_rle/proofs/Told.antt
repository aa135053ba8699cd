-- Where the first fault is told.
use Rattle.std.proofs.Common.{◌≡◌, ◌⊎◌, ℕ, ◌+◌, ◌*◌, ◌<◌, ◌≤◌, List, [], ◌∷◌, ◌++◌, length, take, drop, ℤ, Option, refl, sym, ap, ◌∙◌, subst, arith, inl, inr}
use Rattle.std.specs.List.{concat}
use Rattle.std.specs.Int.{w32, to_le_bytes}
use Rattle.std.proofs.lemmas.List.{length-append, length-drop, map-append, take_at, drop_at, take-append-drop}
use Rattle.byteorder.specs.Endian.{little_number}
use Rattle.byteorder.specs.Numbers.{little_number-reads_back}
use Rattle.kt_bytes.specs.Places.{Begins}
use Rattle.kt_bytes.proofs.Places.{one_place}
use Rattle.kt_bytes.proofs.Numbers.{IsBytes, IsBytes-drop}
use Rattle.kt_bytes.proofs.Fronts.{concat-map}
use Rattle.kt_plain.specs.declared.widths.NumberWidth.{NumberWidth as Width}
use Rattle.kt_plain.specs.Widths.{field_len, number, value}
use Rattle.kt_plain.proofs.Fields.{exact}
use Rattle.kt_rle.specs.declared.runs.Run.{Run}
use Rattle.kt_rle.specs.Runs.{run_bytes, run_len, run_at, runs_in}
use Rattle.kt_rle.specs.Reading.{IsNumber, MayFollow, HasWrongNumber, IsBehind}
use Rattle.kt_rle.specs.Spelling.{Spelled, IsWrongNumber, IsTold, IsToldOnce}
use Rattle.kt_rle.proofs.RunLists.{total, total-append, in_width, is_number, len_bytes, AreRuns-push, AreRuns-front, run_within, next_number, next-differs, next-fits, one_runs}
use Rattle.kt_rle.proofs.FirstFault.{fields, one_more, runs_delimited, runs_begin, front_of, HasRead, fault_missing, fault_wrong, fault_follows}

-- ---- a wrong number behind the runs that were read

-- what stands at its run's place
rest_is : (w : Width) (n : ℕ) (bytes : List ℕ) (at : ℕ) → (r : IsWrongNumber w n bytes at) → drop at bytes ≡ to_le_bytes w32 r.run.len ++ r.rest
rest_is w n bytes at r = ap (drop at) r.parts ∙ drop_at (concat r.front) (to_le_bytes w32 r.run.len ++ r.rest) at r.begins

-- its length may stand there
has_length : (w : Width) (n : ℕ) (bytes : List ℕ) (i left : ℕ) (last : Option ℤ) → IsBytes bytes → run_len w * i ≤ length bytes → HasRead w n bytes i left last
    → IsWrongNumber w n bytes (run_len w * i) → let len = little_number 4 (drop (run_len w * i) bytes) in (0 < len) × (len ≤ left)
has_length w n bytes i left last fits within h r =
    let at : ℕ = run_len w * i in
    let rs : List Run = runs_in w i bytes in
    let f = front_of w i bytes within fits in
    let m = one_more w n r.front (run_bytes w r.run) r.goes in
    let few = h.few in
    let sum = h.sum in
    let most = m.sum in
    let here : concat r.front ≡ concat (fields w rs) =
    sym (take_at (concat r.front) (to_le_bytes w32 r.run.len ++ r.rest) at r.begins) ∙ ap (take at) (sym r.parts ∙ f.parts) ∙ take_at (concat (fields w rs)) (drop at bytes) at f.len in
    let same : m.before ≡ rs = one_runs w m.before rs (AreRuns-front w m.before (m.run ∷ m.after) m.are) h.are (omega arith) (omega arith)
    (sym (concat-map (run_bytes w) m.before) ∙ ap concat m.is_front ∙ here ∙ concat-map (run_bytes w) rs) in
    let count = ap total same in
    let some = (run_within w m.before m.run m.after m.are).0 in
    let bytes_of : to_le_bytes w32 r.run.len ≡ to_le_bytes w32 m.run.len =
    sym (take_at (to_le_bytes w32 r.run.len) (number w r.run.value) 4 (omega arith)) ∙ ap (take 4) (sym m.is) ∙ take_at (to_le_bytes w32 m.run.len) (number w m.run.value) 4 (omega arith) in
    let len : little_number 4 (drop at bytes) ≡ m.run.len =
    ap (little_number 4) (rest_is w n bytes at r ∙ ap (λ (xs : List ℕ). xs ++ r.rest) bytes_of) ∙ little_number-reads_back 4 m.run.len r.rest (omega arith) in
    (omega (arith, len), omega (arith, len, count))

-- what is read behind it is no number of the width
none_there : (w : Width) (n : ℕ) (bytes : List ℕ) (at : ℕ) → IsBytes bytes → IsWrongNumber w n bytes at → ¬ IsNumber w (value w (drop 4 (drop at bytes)))
none_there w n bytes at fits r is =
    let behind : drop 4 (drop at bytes) ≡ r.rest = ap (drop 4) (rest_is w n bytes at r) ∙ drop_at (to_le_bytes w32 r.run.len) r.rest 4 (omega arith) in
    let fit : IsBytes r.rest = subst IsBytes behind (IsBytes-drop 4 (drop at bytes) (IsBytes-drop at bytes fits)) in
    let is_ : IsNumber w (value w r.rest) = subst (λ (xs : List ℕ). IsNumber w (value w xs)) behind is in
    r.wrong (value w r.rest) (in_width w r.rest is_)
    (drop (field_len w) r.rest, sym (take-append-drop (field_len w) r.rest) ∙ ap (λ (xs : List ℕ). xs ++ drop (field_len w) r.rest) (sym ((exact w).back r.rest r.whole fit)))

-- a run with another number could stand there
wrong_number : (w : Width) (n : ℕ) (bytes : List ℕ) (i left : ℕ) (last : Option ℤ) → IsBytes bytes → run_len w * i + run_len w ≤ length bytes → HasRead w n bytes i left last
    → HasWrongNumber w left (run_at w (drop (run_len w * i) bytes)) → IsWrongNumber w n bytes (run_len w * i)
wrong_number w n bytes i left last fits long h bad =
    let rs : List Run = runs_in w i bytes in
    let rest : List ℕ = drop (run_len w * i) bytes in
    let r : Run = record { len = little_number 4 rest; value = next_number rs } in
    let f = front_of w i bytes (omega arith) fits in
    let sum = h.sum in
    let most = bad.few in
    let here = f.rest_len in
    let all : total (rs ++ r ∷ []) ≤ n = omega (arith, total-append rs (r ∷ [])) in
    let parted : rest ≡ to_le_bytes w32 (little_number 4 rest) ++ drop 4 rest =
    sym (take-append-drop 4 rest) ∙ ap (λ (xs : List ℕ). xs ++ drop 4 rest) (sym (len_bytes rest (omega arith) (IsBytes-drop (run_len w * i) bytes fits))) in
    record {
      front = fields w rs;
      run = r;
      rest = drop 4 rest;
      parts = f.parts ∙ ap (λ (xs : List ℕ). concat (fields w rs) ++ xs) parted;
      begins = f.len;
      goes = subst (Begins (Spelled w n)) (map-append (run_bytes w) rs (r ∷ [])) (runs_begin w n (rs ++ r ∷ []) (AreRuns-push w rs r h.are bad.some (next-fits w rs) (next-differs rs)) all h.few);
      whole = omega (arith, length-drop 4 rest);
      wrong = λ z fit (more, e). bad.wrong (subst (IsNumber w) (sym (ap (value w) e ∙ (exact w).again z more fit)) (is_number w z fit));
    }

-- ---- the three faults

-- bytes of a run are missing
pub told_missing : (w : Width) (n : ℕ) (bytes : List ℕ) (i left : ℕ) (last : Option ℤ) → IsBytes bytes → run_len w * i ≤ length bytes → length bytes < run_len w * i + run_len w → 0 < left
    → HasRead w n bytes i left last → IsTold w n bytes (length bytes)
told_missing w n bytes i left last fits within short some h = record {
  at = length bytes;
  fault = fault_missing w n bytes i left last fits within short some h;
  told = inr (
    (λ r.
        let len = ap (λ (xs : List ℕ). length xs) r.parts in
        let begins = r.begins in
        omega (arith, len, begins, length-append (concat r.front) (to_le_bytes w32 r.run.len ++ r.rest), length-append (to_le_bytes w32 r.run.len) r.rest)),
    refl,
  );
}

-- a run may not follow
pub told_wrong : (w : Width) (n : ℕ) (bytes : List ℕ) (i left : ℕ) (last : Option ℤ) (k : ℕ) → IsBytes bytes → run_len w * i + run_len w ≤ length bytes
    → HasRead w n bytes i left last → ¬ MayFollow w left last (run_at w (drop (run_len w * i) bytes)) → IsBehind w left (run_at w (drop (run_len w * i) bytes)) k
    → IsTold w n bytes (run_len w * i + k)
told_wrong w n bytes i left last k fits long h wrong (inl b) = record {
  at = run_len w * i;
  fault = fault_wrong w n bytes i left last fits long h wrong;
  told = inl (wrong_number w n bytes i left last fits long h b.0, omega (arith, b.1));
}
told_wrong w n bytes i left last k fits long h wrong (inr b) = record {
  at = run_len w * i;
  fault = fault_wrong w n bytes i left last fits long h wrong;
  told = inr (
    (λ r.
        let l = has_length w n bytes i left last fits (omega arith) h r in
        b.0 (record { some = l.0; few = l.1; wrong = none_there w n bytes (run_len w * i) fits r })),
    omega (arith, b.1),
  );
}

-- bytes follow the last run
pub told_follows : (w : Width) (n : ℕ) (bytes : List ℕ) (i : ℕ) (last : Option ℤ) → IsBytes bytes → run_len w * i < length bytes → HasRead w n bytes i 0 last → IsTold w n bytes (run_len w * i)
told_follows w n bytes i last fits lt h = record {
  at = run_len w * i;
  fault = fault_follows w n bytes i last fits lt h;
  told = inr (
    (λ r.
        let l = has_length w n bytes i 0 last fits (omega arith) h r in
        omega (arith, l.0, l.1)),
    refl,
  );
}

-- ---- one place

one_place_told : (w : Width) (n : ℕ) (bytes : List ℕ) (at a b : ℕ) → (IsWrongNumber w n bytes at × (a ≡ at + 4)) ⊎ ((¬ IsWrongNumber w n bytes at) × (a ≡ at))
    → (IsWrongNumber w n bytes at × (b ≡ at + 4)) ⊎ ((¬ IsWrongNumber w n bytes at) × (b ≡ at)) → a ≡ b
one_place_told w n bytes at a b (inl p) (inl q) = p.1 ∙ sym q.1
one_place_told w n bytes at a b (inl p) (inr q) = absurd (q.0 p.0)
one_place_told w n bytes at a b (inr p) (inl q) = absurd (p.0 q.0)
one_place_told w n bytes at a b (inr p) (inr q) = p.1 ∙ sym q.1

pub told_once : IsToldOnce
told_once w n bytes a b s t =
    let same : s.at ≡ t.at = one_place (Spelled w n) bytes s.at t.at (runs_delimited w n) s.fault t.fault in
    one_place_told w n bytes t.at a b (subst (λ (at : ℕ). (IsWrongNumber w n bytes at × (a ≡ at + 4)) ⊎ ((¬ IsWrongNumber w n bytes at) × (a ≡ at))) same s.told) t.told
