-- Which lines may stand at a stage, told by kinds of lines.
use Rattle.std.proofs.Common.{◌≡◌, ℕ, zero, suc, ◌+◌, ◌<◌, ◌≤◌, ◌^◌, true, ◌||◌, List, ◌++◌, length, take, drop, refl, ap, subst, ◌∙◌, inl, inr, ◌⊎◌, arith}
use Rattle.std.specs.Prelude.{codes, is_some, nat_lt}
use Rattle.std.proofs.lemmas.Bool.{and_parts, or_cases}
use Rattle.std.proofs.lemmas.List.{length-take-le}
use Rattle.std.proofs.Math.Bool.{or-true}
use Rattle.kt_base.specs.Literals.{same}
use Rattle.kt_base.proofs.Decimals.{same_text}
use Rattle.kt_script.specs.Texts.{session_line}
use Rattle.kt_script.specs.Laws.{Fits64}
use Rattle.kt_script.specs.Outputs.{first_in, event_in, last_in, IsRowLine}
use Rattle.kt_script.specs.Places.{IsFault}
use Rattle.kt_script.specs.Fronts.{Either, Chain, IsWord}
use Rattle.kt_script.specs.OutForms.{IsEventLine, IsLastLine, IsReplyLine}
use Rattle.kt_script.specs.Stages.{sessions, history, begins_session, MayStand}
use Rattle.kt_script.proofs.Places.{same_kind, second_at, first_at, word_parted}
use Rattle.kt_script.proofs.WordBytes.{word_whole}
use Rattle.kt_script.proofs.RowBytes.{row_line}
use Rattle.kt_script.proofs.ToldLines.{same-self}
use Rattle.kt_script.proofs.ToldTexts.{begins_own}

-- ---- a word in two parts

chained : (a b x : List ℕ) → Chain (IsWord a) (IsWord b) x → IsWord (a ++ b) x
chained a b x p = p.4 ∙ ap (λ (w : List ℕ). w ++ p.1) p.2 ∙ ap (λ (w : List ℕ). a ++ w) p.3

unchained : (a b x : List ℕ) → IsWord (a ++ b) x → Chain (IsWord a) (IsWord b) x
unchained a b x e = (a, b, refl, refl, e)

pub first_short : (a b text : List ℕ) (at : ℕ) → IsFault (IsWord a) text at → at < length a → IsFault (IsWord (a ++ b)) text at
first_short a b text at p lt =
    let size : length (take at text) ≡ at = length-take-le at text p.within in
    same_kind (Chain (IsWord a) (IsWord b)) (IsWord (a ++ b)) text at (chained a b) (unchained a b)
    (first_at (IsWord a) (IsWord b) text b at (word_parted a (IsWord b)) p (λ e. omega (arith, ap length e, size)) refl)

pub second_more : (a b text rest : List ℕ) (at n : ℕ) → IsFault (IsWord a) text at → length a ≤ at → rest ≡ drop at text → IsFault (IsWord b) rest n → IsFault (IsWord (a ++ b)) text (at + n)
second_more a b text rest at n p le is q =
    same_kind (Chain (IsWord a) (IsWord b)) (IsWord (a ++ b)) text (at + n) (chained a b) (unchained a b)
    (second_at (IsWord a) (IsWord b) text at n (word_parted a (IsWord b)) p (word_whole text a at p le) (subst (λ (x : List ℕ). IsFault (IsWord b) x n) is q))

-- ---- below sessions

abbrev pub Below : ℕ → List ℕ → Type 0
Below n x = Either (IsWord (session_line (suc n))) (IsWord (codes "history")) x

below_stands : (n : ℕ) (x : List ℕ) → Fits64 (suc n) → Below n x → (begins_session n x || same x (codes "history")) ≡ true
below_stands n x fits (inl e) = ap (λ b. b || same x (codes "history")) (begins_own n x true fits (ap (λ (w : List ℕ). same w (session_line (suc n))) e ∙ same-self (session_line (suc n))))
below_stands n x fits (inr e) = ap (λ b. begins_session n x || b) (ap (λ (w : List ℕ). same w (codes "history")) e) ∙ or-true (begins_session n x)

stands_below : (n : ℕ) (x : List ℕ) → (begins_session n x || same x (codes "history")) ≡ true → Below n x
stands_below n x may = by (or_cases (begins_session n x) (same x (codes "history")) may)
  where
    by : (begins_session n x ≡ true) ⊎ (same x (codes "history") ≡ true) → Below n x
    by (inl e) = inl (same_text x (session_line (suc n)) (and_parts (nat_lt (suc n) (2 ^ 64)) (same x (session_line (suc n))) e).1)
    by (inr e) = inr (same_text x (codes "history") e)

pub fault_first : (above : ℕ) (text : List ℕ) (m : ℕ) → above ≡ 0 → Fits64 (suc above) → IsFault (Below above) text m → IsFault (MayStand (sessions above 0)) text m
fault_first zero text m e fits p = same_kind (Below 0) (MayStand (sessions 0 0)) text m (λ x b. below_stands 0 x fits b) (λ x may. stands_below 0 x may) p
fault_first (suc n) text m e fits p = absurd (omega (arith, e))

pub fault_later : (above : ℕ) (text : List ℕ) (m : ℕ) → 0 < above → Fits64 (suc above) → IsFault (Either IsReplyLine (Below above)) text m → IsFault (MayStand (sessions above 0)) text m
fault_later zero text m some fits p = absurd (omega (arith, some))
fault_later (suc n) text m some fits p = same_kind (Either IsReplyLine (Below (suc n))) (MayStand (sessions (suc n) 0)) text m to back p
  where
    to : (x : List ℕ) → Either IsReplyLine (Below (suc n)) x → MayStand (sessions (suc n) 0) x
    to x (inl e) = ap (λ b. b || (begins_session (suc n) x || same x (codes "history"))) e
    to x (inr e) = ap (λ b. is_some (first_in x) || b) (below_stands (suc n) x fits e) ∙ or-true (is_some (first_in x))

    back : (x : List ℕ) → MayStand (sessions (suc n) 0) x → Either IsReplyLine (Below (suc n)) x
    back x may = by (or_cases (is_some (first_in x)) (begins_session (suc n) x || same x (codes "history")) may)
      where
        by : (is_some (first_in x) ≡ true) ⊎ ((begins_session (suc n) x || same x (codes "history")) ≡ true) → Either IsReplyLine (Below (suc n)) x
        by (inl e) = inl e
        by (inr e) = inr (stands_below (suc n) x e)

-- ---- rows and the history

pub fault_row : (n due : ℕ) (text : List ℕ) (m : ℕ) → IsFault IsRowLine text m → IsFault (MayStand (sessions n (suc due))) text m
fault_row n due text m p = same_kind IsRowLine (MayStand (sessions n (suc due))) text m (λ x r. r.1) (λ x may. row_line x may) p

pub fault_history : (text : List ℕ) (m : ℕ) → IsFault (Either IsEventLine IsLastLine) text m → IsFault (MayStand history) text m
fault_history text m p = same_kind (Either IsEventLine IsLastLine) (MayStand history) text m to back p
  where
    to : (x : List ℕ) → Either IsEventLine IsLastLine x → MayStand history x
    to x (inl e) = ap (λ b. b || is_some (last_in x)) e
    to x (inr e) = ap (λ b. is_some (event_in x) || b) e ∙ or-true (is_some (event_in x))

    back : (x : List ℕ) → MayStand history x → Either IsEventLine IsLastLine x
    back x may = or_cases (is_some (event_in x)) (is_some (last_in x)) may
