-- Outcomes with a space before each: where a text stops being the front of some.
use Rattle.std.proofs.Common.{◌≡◌, ℕ, zero, suc, ◌+◌, ◌<◌, ◌≤◌, List, [], ◌∷◌, ◌++◌, length, map, take, drop, Ok, Err, refl, sym, ap, subst, ◌∙◌, arith, append_assoc, length-append}
use Rattle.std.specs.Prelude.{codes}
use Rattle.std.specs.List.{flat_map}
use Rattle.std.proofs.lemmas.List.{drop-drop}
use Rattle.std.proofs.Math.Seq.{take-add}
use Rattle.kt_base.proofs.Decimals.{no_byte}
use Rattle.kt_history.specs.declared.change.Outcome.{Outcome}
use Rattle.kt_history.specs.declared.change.Outcome.TheVariants.{Done}
use Rattle.kt_script.specs.Texts.{spaced, outcome_word}
use Rattle.kt_script.specs.Outputs.{outcome_in}
use Rattle.kt_script.specs.Places.{CanGoOn, IsFault}
use Rattle.kt_script.specs.Fronts.{Chain, IsWord}
use Rattle.kt_script.specs.OutForms.{AreOutcomes, IsOutcome, IsSpacedOutcome, IsFront}
use Rattle.kt_script.proofs.Cuts.{Without}
use Rattle.kt_script.proofs.InLine.{outcome_ink}
use Rattle.kt_script.proofs.Places.{Parted, alike, whole, second_at, first_at, word_parted}
use Rattle.kt_script.proofs.ToldLines.{outcome_is}
use Rattle.kt_script.proofs.WordBytes.{word_whole}
use Rattle.kt_script.proofs.LineForms.{some_of}

-- ---- one outcome behind a space

no_space_in : (w : List ℕ) → IsSpacedOutcome w → 0 < length w
no_space_in w p = omega (arith, ap length p.4, length-append p.0 p.1, ap length p.2)

pub outcome_missing : (text : List ℕ) → IsFault (IsWord (32 ∷ [])) text 0 → IsFront IsSpacedOutcome text (Err 0)
outcome_missing text p = (
  first_at (IsWord (32 ∷ [])) IsOutcome text (codes "ok") 0 (word_parted (32 ∷ []) IsOutcome) p (λ e. omega (arith, ap length e)) refl,
  λ q. let some = no_space_in (take 0 text) q in omega (arith, some),
)

module _ (text rest : List ℕ) (at n : ℕ) (p : IsFault (IsWord (32 ∷ [])) text at) (some : 1 ≤ at) (is : rest ≡ drop at text) (q : IsFault IsOutcome rest n) where
  space : take at text ≡ 32 ∷ []
  space = word_whole text (32 ∷ []) at p some

  place : IsFault IsSpacedOutcome text (at + n)
  place = second_at (IsWord (32 ∷ [])) IsOutcome text at n (word_parted (32 ∷ []) IsOutcome) p space (subst (λ (x : List ℕ). IsFault IsOutcome x n) is q)

  parts : take (at + n) text ≡ (32 ∷ []) ++ take n rest
  parts = take-add at n text ∙ ap (λ (w : List ℕ). w ++ take n (drop at text)) space ∙ ap (λ (w : List ℕ). 32 ∷ take n w) (sym is)

  pub outcome_there : IsOutcome (take n rest) → IsFront IsSpacedOutcome text (Ok (at + n))
  outcome_there o = (place, (32 ∷ [], take n rest, refl, o, parts))

  pub outcome_wrong : (IsOutcome (take n rest) → ⊥) → IsFront IsSpacedOutcome text (Err (at + n))
  outcome_wrong not = (place, λ o. let e : 32 ∷ take n rest ≡ 32 ∷ o.1 = sym parts ∙ o.4 ∙ ap (λ (w : List ℕ). w ++ o.1) o.2 in let same : take n rest ≡ o.1 = cc in not (subst IsOutcome (sym same) o.3))

-- ---- one behind the other

without_mid : (w x : List ℕ) → Without 32 (w ++ 32 ∷ x) → ⊥
without_mid [] x p = p.0 refl
without_mid (b ∷ w) x p = without_mid w x p.1

pub outcomes_spaced : (c : ℕ) (y : List ℕ) → AreOutcomes (c ∷ y) → c ≡ 32
outcomes_spaced c y p = by p.0 p.1
  where
    by : (os : List Outcome) → c ∷ y ≡ flat_map spaced (map outcome_word os) → c ≡ 32
    by [] e = absurd cc
    by (o ∷ os) e = cc

outcomes_parted : Parted IsSpacedOutcome AreOutcomes
outcomes_parted a c x y p q b =
    let o = some_of (outcome_in q.1) q.3 in
    let ink = no_byte 32 (omega arith) (outcome_word o.0) (outcome_ink o.0) in
    let flat : 32 ∷ (p.1 ++ c ∷ x) ≡ 32 ∷ q.1 = ap (λ (w : List ℕ). w ++ (p.1 ++ c ∷ x)) (sym p.2) ∙ sym (append_assoc p.0 p.1 (c ∷ x)) ∙ ap (λ (w : List ℕ). w ++ c ∷ x) (sym p.4) ∙ q.4 ∙ ap (λ (w : List ℕ). w ++ q.1) q.2 in
    let same : p.1 ++ c ∷ x ≡ q.1 = cc in
    without_mid p.1 x (subst (Without 32) (sym (outcome_is q.1 o.0 o.1) ∙ sym same ∙ ap (λ i. p.1 ++ i ∷ x) (outcomes_spaced c y b)) ink)

chained : (x : List ℕ) → Chain IsSpacedOutcome AreOutcomes x → AreOutcomes x
chained x p =
    let o = some_of (outcome_in p.2.1) p.2.3 in
    let first : p.0 ≡ 32 ∷ outcome_word o.0 = p.2.4 ∙ ap (λ (w : List ℕ). w ++ p.2.1) p.2.2 ∙ ap (λ (w : List ℕ). 32 ∷ w) (outcome_is p.2.1 o.0 o.1) in
    (o.0 ∷ p.3.0, p.4 ∙ ap (λ (w : List ℕ). w ++ p.1) first ∙ ap (λ (w : List ℕ). (32 ∷ outcome_word o.0) ++ w) p.3.1)

spelled : (o : Outcome) → IsOutcome (outcome_word o)
spelled o = by o
  where
    by : (o : Outcome) → IsOutcome (outcome_word o)
    by Done = refl
    by other = refl

unchained : (x : List ℕ) → AreOutcomes x → CanGoOn (Chain IsSpacedOutcome AreOutcomes) x
unchained x p = by p.0 p.1
  where
    by : (os : List Outcome) → x ≡ flat_map spaced (map outcome_word os) → CanGoOn (Chain IsSpacedOutcome AreOutcomes) x
    by [] e = (codes " ok", (codes " ok", [], (32 ∷ [], codes "ok", refl, refl, refl), ([], refl), ap (λ (w : List ℕ). w ++ codes " ok") e))
    by (o ∷ os) e = whole (Chain IsSpacedOutcome AreOutcomes) x (32 ∷ outcome_word o, flat_map spaced (map outcome_word os), (32 ∷ [], outcome_word o, refl, spelled o, refl), (os, refl), e)

module _ (text rest : List ℕ) (at n : ℕ) (is : rest ≡ drop at text) where
  pub outcomes_more : (m : ℕ) → IsFront IsSpacedOutcome rest (Ok n) → IsFault AreOutcomes (drop (at + n) text) m → IsFault AreOutcomes (drop at text) (n + m)
  outcomes_more m p q =
      let behind : drop (at + n) text ≡ drop n rest = sym (drop-drop n at text) ∙ ap (drop n) (sym is) in
      subst (λ (x : List ℕ). IsFault AreOutcomes x (n + m)) is
      (alike (Chain IsSpacedOutcome AreOutcomes) AreOutcomes rest (n + m) (λ x c. whole AreOutcomes x (chained x c)) unchained
      (second_at IsSpacedOutcome AreOutcomes rest n m outcomes_parted p.0 p.1 (subst (λ (x : List ℕ). IsFault AreOutcomes x m) behind q)))

  pub outcomes_stop : IsFront IsSpacedOutcome rest (Err n) → IsFault AreOutcomes (drop at text) n
  outcomes_stop p =
      subst (λ (x : List ℕ). IsFault AreOutcomes x n) is
      (alike (Chain IsSpacedOutcome AreOutcomes) AreOutcomes rest n (λ x c. whole AreOutcomes x (chained x c)) unchained
      (first_at IsSpacedOutcome AreOutcomes rest [] n outcomes_parted p.0 p.1 ([], refl)))

  pub outcome_some : IsFront IsSpacedOutcome rest (Ok n) → 0 < n
  outcome_some p =
      let some = no_space_in (take n rest) p.1 in
      by n some
    where
      by : (n : ℕ) → 0 < length (take n rest) → 0 < n
      by zero h = h
      by (suc n) h = omega arith
