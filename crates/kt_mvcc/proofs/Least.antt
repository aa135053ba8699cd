-- The least timestamp of some writes, one write after another.
use Rattle.std.proofs.Common.{◌≡◌, ℕ, ◌+◌, ◌<◌, ◌≤◌, min, true, false, cond, List, ◌∷◌, length, drop, get_or, Option, Some, None, refl, sym, ap, ◌∙◌, arith, add-one, drop-cons}
use Rattle.std.specs.List.{filter}
use Rattle.std.proofs.Math.ListN.{drop_of_length-le}
use Rattle.kt_mvcc.specs.declared.flier.Flier.{Flier}
use Rattle.kt_mvcc.specs.Flying.{least_of, holds_one, holder}
use Rattle.kt_mvcc.specs.Waits.{lesser_of}

-- the lesser of two numbers that may be missing
abbrev pub merged : Option ℕ → Option ℕ → Option ℕ
merged None o = o
merged (Some m) None = Some m
merged (Some m) (Some n) = Some (min m n)

pub merged-none : (o : Option ℕ) → merged o None ≡ o
merged-none None = refl
merged-none (Some m) = refl

least_cons : (f : Flier) (flying : List Flier) → least_of (f ∷ flying) ≡ Some (lesser_of (least_of flying) f.ts)
least_cons f flying = by (least_of flying) refl
  where
    by : (o : Option ℕ) → least_of flying ≡ o → least_of (f ∷ flying) ≡ Some (lesser_of (least_of flying) f.ts)
    by None e = rw e refl
    by (Some m) e = rw e refl

merged_step : (found o : Option ℕ) (ts : ℕ) → merged (Some (lesser_of found ts)) o ≡ merged found (Some (lesser_of o ts))
merged_step None None ts = refl
merged_step None (Some n) ts = ap Some (omega arith)
merged_step (Some m) None ts = refl
merged_step (Some m) (Some n) ts = ap Some (omega arith)

pub least_more : (found : Option ℕ) (flying : List Flier) (i : ℕ) (f : Flier) (whole : Option ℕ) → i < length flying → f ≡ get_or flying i f → merged found (least_of (drop i flying)) ≡ whole
    → merged (Some (lesser_of found f.ts)) (least_of (drop (i + 1) flying)) ≡ whole
least_more found flying i f whole within is so_far =
    let here : drop i flying ≡ f ∷ drop (i + 1) flying = rw add-one (drop-cons flying i f within) ∙ ap (λ g. g ∷ drop (i + 1) flying) (sym is) in
    merged_step found (least_of (drop (i + 1) flying)) f.ts ∙ ap (merged found) (sym (least_cons f (drop (i + 1) flying))) ∙ ap (λ fs. merged found (least_of fs)) (sym here) ∙ so_far

pub holder_more : (keys : List (List ℕ)) (found : Option ℕ) (flying : List Flier) (i : ℕ) (f : Flier) (whole : Option ℕ) → i < length flying → f ≡ get_or flying i f → holds_one keys f ≡ true
    → merged found (holder keys (drop i flying)) ≡ whole → merged (Some (lesser_of found f.ts)) (holder keys (drop (i + 1) flying)) ≡ whole
holder_more keys found flying i f whole within is holds so_far =
    let here : drop i flying ≡ f ∷ drop (i + 1) flying = rw add-one (drop-cons flying i f within) ∙ ap (λ g. g ∷ drop (i + 1) flying) (sym is) in
    let rest = drop (i + 1) flying in
    merged_step found (holder keys rest) f.ts ∙ ap (merged found) (sym (least_cons f (filter (holds_one keys) rest)))
    ∙ ap (λ b. merged found (least_of (cond b (f ∷ filter (holds_one keys) rest) (filter (holds_one keys) rest)))) (sym holds) ∙ ap (λ fs. merged found (holder keys fs)) (sym here) ∙ so_far

pub holder_less : (keys : List (List ℕ)) (found : Option ℕ) (flying : List Flier) (i : ℕ) (f : Flier) (whole : Option ℕ) → i < length flying → f ≡ get_or flying i f → holds_one keys f ≡ false
    → merged found (holder keys (drop i flying)) ≡ whole → merged found (holder keys (drop (i + 1) flying)) ≡ whole
holder_less keys found flying i f whole within is rests so_far =
    let here : drop i flying ≡ f ∷ drop (i + 1) flying = rw add-one (drop-cons flying i f within) ∙ ap (λ g. g ∷ drop (i + 1) flying) (sym is) in
    let rest = drop (i + 1) flying in
    ap (λ b. merged found (least_of (cond b (f ∷ filter (holds_one keys) rest) (filter (holds_one keys) rest)))) (sym rests) ∙ ap (λ fs. merged found (holder keys fs)) (sym here) ∙ so_far

pub least_all : (found : Option ℕ) (flying : List Flier) (n : ℕ) (whole : Option ℕ) → length flying ≤ n → merged found (least_of (drop n flying)) ≡ whole → found ≡ whole
least_all found flying n whole past so_far = sym (merged-none found) ∙ ap (λ fs. merged found (least_of fs)) (sym (drop_of_length-le flying past)) ∙ so_far

pub holder_all : (keys : List (List ℕ)) (found : Option ℕ) (flying : List Flier) (n : ℕ) (whole : Option ℕ) → length flying ≤ n → merged found (holder keys (drop n flying)) ≡ whole → found ≡ whole
holder_all keys found flying n whole past so_far = sym (merged-none found) ∙ ap (λ fs. merged found (holder keys fs)) (sym (drop_of_length-le flying past)) ∙ so_far
