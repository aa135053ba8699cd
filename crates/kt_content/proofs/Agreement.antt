-- What is played is what agrees in the end.
use Rattle.std.proofs.Common.{◌≡◌, ◌≤◌, ℕ, zero, suc, List, [], ◌∷◌, Some, None, Ok, refl, sym, ap, ◌∙◌, arith, cond, true, false}
use Rattle.kt_history.specs.declared.change.Change.{Change}
use Rattle.kt_history.specs.Stores.{Hist, push}
use Rattle.kt_histlaws.proofs.OneKey.{row-push_below}
use Rattle.kt_content.specs.Places.{Place, Held, Moves, same_place, row_before, standing, joined_in, moved}
use Rattle.kt_content.specs.KeyOps.{KeyOp, decided, played, if_fits}
use Rattle.kt_content.specs.Agreement.{OpsRise, all_moved, Agree, moves_that_agree_are_played, what_is_played_agrees}

pub before-push : (ts u : ℕ) (c : Change) (h : Hist) → ts ≤ u → row_before ts (push u c h) ≡ row_before ts h
before-push zero u c h le = refl
before-push (suc t) u c h le = row-push_below t u c h (omega arith)

-- a change shows nothing below it
pub standing-joined : (ts u : ℕ) (p : Place) (c : Change) (held : Held) → ts ≤ u → standing ts (joined_in p u c held) ≡ standing ts held
standing-joined ts u p c [] le = refl
standing-joined ts u p c (h ∷ held) le = elim (same_place p h.0) as (λ b. standing ts (cond b ((h.0, push u c h.1) ∷ held) (h ∷ joined_in p u c held)) ≡ (h.0, row_before ts h.1) ∷ standing ts held) [
  | true ↦ ap (λ r. (h.0, r) ∷ standing ts held) (before-push ts u c h.1 le)
  | false ↦ ap (λ rows. (h.0, row_before ts h.1) ∷ rows) (standing-joined ts u p c held le)
]

pub standing-moved : (ts u : ℕ) (ms : Moves) (held : Held) → ts ≤ u → standing ts (moved u ms held) ≡ standing ts held
standing-moved ts u [] held le = refl
standing-moved ts u (m ∷ ms) held le = standing-moved ts u ms (joined_in m.0 u m.1 held) le ∙ standing-joined ts u m.0 m.1 held le

pub standing-all_moved : (ts low : ℕ) (xs : List KeyOp) (ms : List Moves) (held : Held) → ts ≤ low → OpsRise low xs → standing ts (all_moved xs ms held) ≡ standing ts held
standing-all_moved ts low [] ms held le r = refl
standing-all_moved ts low (x ∷ xs) [] held le r = refl
standing-all_moved ts low (x ∷ xs) (m ∷ ms) held le r = standing-all_moved ts (suc x.ts) xs ms (moved x.ts m held) (omega (arith, r.0)) r.1 ∙ standing-moved ts x.ts m held (omega (arith, r.0))

-- the rows just before an operation are the same in the end
module _ (x : KeyOp) (xs : List KeyOp) (m : Moves) (ms : List Moves) (held : Held) (r : OpsRise (suc x.ts) xs) where
  pub stands_still : standing x.ts (all_moved xs ms (moved x.ts m held)) ≡ standing x.ts held
  stands_still = standing-all_moved x.ts (suc x.ts) xs ms (moved x.ts m held) (omega arith) r ∙ standing-moved x.ts x.ts m held (omega arith)

pub agree_plays : moves_that_agree_are_played
agree_plays fill super low held [] [] r h = refl
agree_plays fill super low held [] (m ∷ ms) r h = absurd h
agree_plays fill super low held (x ∷ xs) [] r h = absurd h
agree_plays fill super low held (x ∷ xs) (m ∷ ms) r h =
    let now : decided fill super (standing x.ts held) x.op x.told ≡ Some m = ap (λ s. decided fill super s x.op x.told) (sym (stands_still x xs m ms held r.1)) ∙ h.0 in
    ap (if_fits x.ts (λ moves. played fill super (moved x.ts moves held) xs)) now ∙ agree_plays fill super (suc x.ts) (moved x.ts m held) xs ms r.1 h.1

pub plays_agree : what_is_played_agrees
plays_agree fill super low held final [] r h = let e : held ≡ final = cc in ([], sym e, tt)
plays_agree fill super low held final (x ∷ xs) r h =
    elim (decided fill super (standing x.ts held) x.op x.told) as (λ o. decided fill super (standing x.ts held) x.op x.told ≡ o → if_fits x.ts (λ moves. played fill super (moved x.ts moves held) xs) o ≡ Ok final
    → (ms : List Moves) × (final ≡ all_moved (x ∷ xs) ms held) × Agree fill super final (x ∷ xs) ms) [
      | None ↦ λ e h. absurd (cc)
      | Some m ↦ λ e h.
          let rest = plays_agree fill super (suc x.ts) (moved x.ts m held) final xs r.1 h in
          let same : standing x.ts final ≡ standing x.ts held = ap (standing x.ts) rest.1 ∙ stands_still x xs m rest.0 held r.1 in
          (m ∷ rest.0, rest.1, (ap (λ s. decided fill super s x.op x.told) same ∙ e, rest.2))
    ] refl h
