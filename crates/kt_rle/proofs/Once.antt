-- Each list of numbers has its own runs.
use Rattle.std.proofs.Common.{◌≡◌, ℕ, zero, suc, ◌<◌, List, [], ◌∷◌, ◌++◌, length, drop, get_or, replicate, ℤ, pos, refl, sym, ap, ◌∙◌, subst, arith, inl, inr}
use Rattle.std.specs.List.{flat_map}
use Rattle.std.proofs.lemmas.Bool.{cases_lt}
use Rattle.std.proofs.lemmas.List.{append_cancel_left, length-append, length-replicate}
use Rattle.kt_plain.specs.declared.widths.NumberWidth.{NumberWidth as Width}
use Rattle.kt_rle.specs.declared.runs.Run.{Run}
use Rattle.kt_rle.specs.Runs.{expand, run_bytes, DiffersFirst, AreRuns}
use Rattle.kt_rle.specs.Spelling.{IsSpelledOnce}

first_value : (n : ℕ) (z d : ℤ) (zs : List ℤ) → 0 < n → get_or (replicate n z ++ zs) 0 d ≡ z
first_value zero z d zs some = absurd (omega arith)
first_value (suc n) z d zs some = refl

-- a run that stops before another does not give the same numbers
longer : (w : Width) (rs : List Run) (n m : ℕ) (z : ℤ) (zs : List ℤ) → AreRuns w rs → DiffersFirst z rs → n < m → replicate n z ++ flat_map expand rs ≡ replicate m z ++ zs → ⊥
longer w rs n zero z zs are differs lt e = omega arith
longer w rs (suc n) (suc m) z zs are differs lt e = longer w rs n m z zs are differs (omega arith) (ap (λ (xs : List ℤ). drop 1 xs) e)
longer w [] zero (suc m) z zs are differs lt e = cc
longer w (t ∷ ts) zero (suc m) z zs are differs lt e =
    let first : t.value ≡ z = sym (first_value t.len t.value (pos 0) (flat_map expand ts) are.0) ∙ ap (λ (xs : List ℤ). get_or xs 0 (pos 0)) e in
    differs (sym first)

same_run_of : (r s : Run) → r.len ≡ s.len → r.value ≡ s.value → r ≡ s
same_run_of r s len number_ = ap (λ (n : ℕ). record { len = n; value = r.value }) len ∙ ap (λ (z : ℤ). record { len = s.len; value = z }) number_

no_numbers : (w : Width) (r : Run) (rs : List Run) → AreRuns w (r ∷ rs) → [] ≡ flat_map expand (r ∷ rs) → ⊥
no_numbers w r rs are e =
    let len = ap (λ (xs : List ℤ). length xs) e in
    let some = are.0 in
    omega (arith, len, some, length-append (replicate r.len r.value) (flat_map expand rs), length-replicate r.len r.value)

-- the runs of a list of numbers are the only ones
pub runs_once : (w : Width) (rs ss : List Run) → AreRuns w rs → AreRuns w ss → flat_map expand rs ≡ flat_map expand ss → rs ≡ ss
runs_once w [] [] a b e = refl
runs_once w [] (s ∷ ss) a b e = absurd (no_numbers w s ss b e)
runs_once w (r ∷ rs) [] a b e = absurd (no_numbers w r rs a (sym e))
runs_once w (r ∷ rs) (s ∷ ss) a b e =
    let number_ : r.value ≡ s.value =
    sym (first_value r.len r.value (pos 0) (flat_map expand rs) a.0) ∙ ap (λ (xs : List ℤ). get_or xs 0 (pos 0)) e ∙ first_value s.len s.value (pos 0) (flat_map expand ss) b.0 in
    let e' : replicate r.len r.value ++ flat_map expand rs ≡ replicate s.len r.value ++ flat_map expand ss = e ∙ ap (λ (z : ℤ). replicate s.len z ++ flat_map expand ss) (sym number_) in
    let len : r.len ≡ s.len = elim (cases_lt r.len s.len) [
      | inl less ↦ absurd (longer w rs r.len s.len r.value (flat_map expand ss) a.3 a.2 less e')
      | inr le ↦ elim (cases_lt s.len r.len) [
        | inl more ↦ absurd (longer w ss s.len r.len r.value (flat_map expand rs) b.3 (subst (λ (z : ℤ). DiffersFirst z ss) (sym number_) b.2) more (sym e'))
        | inr ge ↦ omega arith
      ]
    ] in
    let rest : flat_map expand rs ≡ flat_map expand ss =
    append_cancel_left (replicate s.len r.value) (flat_map expand rs) (flat_map expand ss) (ap (λ (k : ℕ). replicate k r.value ++ flat_map expand rs) (sym len) ∙ e') in
    ap (λ (x : Run). x ∷ rs) (same_run_of r s len number_) ∙ ap (λ (xs : List Run). s ∷ xs) (runs_once w rs ss a.3 b.3 rest)

pub spelled_once : IsSpelledOnce
spelled_once w n items a b s t = s.spelled ∙ ap (flat_map (run_bytes w)) (runs_once w s.runs t.runs s.are t.are (sym s.expanded ∙ t.expanded)) ∙ sym t.spelled
