-- The sessions of a load own their keys, and 1,024 cells are enough for each write.
use Rattle.std.proofs.Common.{◌≡◌, ℕ, zero, suc, ◌+◌, ◌-◌, ◌*◌, ◌/◌, ◌%◌, ◌^◌, ◌≤◌, List, [], ◌∷◌, ◌++◌, refl, true, false, cond, ap, ◌∙◌, arith, pos, get_or}
use Rattle.std.specs.Prelude.{◌==◌}
use Rattle.std.specs.List.{sum_by}
use Rattle.std.specs.Int.{w64, from_be_bytes}
use Rattle.std.proofs.lemmas.Nat.{from_be_bytes-to_be_bytes_8}
use Rattle.kt_base.specs.declared.cell.Cell.{Cell}
use Rattle.kt_base.specs.Keys.{number_key}
use Rattle.kt_history.specs.declared.command.Command.{Command}
use Rattle.kt_history.specs.declared.command.Command.TheVariants as command
use Rattle.kt_history.specs.declared.operation.OpKind.{OpKind}
use Rattle.kt_history.specs.declared.operation.OpKind.TheVariants as op
use Rattle.kt_history.specs.Operations.{cell_len, op_len, need}
use Rattle.kt_script.specs.declared.forms.OpForm.{OpForm}
use Rattle.kt_script.specs.declared.forms.OpForm.TheVariants as form
use Rattle.kt_script.specs.Writes.{op_form}
use Rattle.kt_script.specs.Loads.{load_kinds, load_cells, row_op, load_op, load_chore, load_step, load_session, load_plan, drawn}
use Rattle.kt_loadlaws.proofs.Folds.{IsOwn, AllOwn, IsOwnPlan}

-- the session of a key: its number tells it
abbrev pub load_owner : List ℕ → ℕ
load_owner key = from_be_bytes w64 key % 4 + 1

owner_of : (h x s : ℕ) → 1 ≤ s → s ≤ 4 → (4 * h + (4 * x + s - 1)) % 4 + 1 ≡ s
owner_of h x s low high = omega arith

owned : (s y : ℕ) → 1 ≤ s → s ≤ 4 → load_owner (number_key w64 (pos (4 * ((y / 4) % 256) + s - 1))) ≡ s
owned s y low high =
    ap (λ n. n % 4 + 1) (from_be_bytes-to_be_bytes_8 (2 ^ 63 + (4 * ((y / 4) % 256) + s - 1)) (omega arith))
    ∙ owner_of (2 ^ 61) ((y / 4) % 256) s low high

few_cells : (f : OpForm) (v : ℕ) → sum_by (λ (c : ℕ × Cell). 2 + cell_len c.1) (load_cells f v) ≤ 11
few_cells form.Literals v = omega arith
few_cells form.RowNames v = omega arith
few_cells form.Names v = omega arith
few_cells form.Key v = omega arith

small : (len : ℕ) → len ≤ 24 → 2 * ((len + 55) / 56 + 4) ≤ 1024
small len le = omega arith

room : (kind : OpKind) (id v : ℕ) → need (row_op kind id v ∷ []) ≤ 1024
room kind id v =
    let few = few_cells (op_form kind) v in
    let l = small (op_len (row_op kind id v)) (omega arith) in
    omega arith

own_op : (cells s y : ℕ) → 1 ≤ s → s ≤ 4 → 1024 ≤ cells → IsOwn load_owner cells s (load_op s y ∷ [])
own_op cells s y low high enough = record {
  differ = (refl, tt);
  room = let r = room (get_or load_kinds (y % 4) op.Delete) (4 * ((y / 4) % 256) + s - 1) ((y / 1024) % 1000) in omega arith;
  owned = (owned s y low high, tt);
}

own_step : (cells s k : ℕ) → 1 ≤ s → s ≤ 4 → 1024 ≤ cells → AllOwn load_owner cells s (load_step s k)
own_step cells s k low high enough = (
  own_op cells s (drawn s k / 2 ^ 33) low high enough,
  elim (k % 64 == 0) as (λ b. AllOwn load_owner cells s (cond b (command.Chore (load_chore s (k / 64)) ∷ []) [])) [
    | true ↦ (record { differ = tt; room = omega arith; owned = tt }, tt)
    | false ↦ tt
  ],
)

own_append : (cells s : ℕ) (xs ys : List Command) → AllOwn load_owner cells s xs → AllOwn load_owner cells s ys → AllOwn load_owner cells s (xs ++ ys)
own_append cells s [] ys h g = g
own_append cells s (c ∷ xs) ys h g = (h.0, own_append cells s xs ys h.1 g)

own_load : (cells s n : ℕ) → 1 ≤ s → s ≤ 4 → 1024 ≤ cells → AllOwn load_owner cells s (load_session n s)
own_load cells s zero low high enough = tt
own_load cells s (suc n) low high enough = own_append cells s (load_session n s) (load_step s (suc n)) (own_load cells s n low high enough) (own_step cells s (suc n) low high enough)

pub own_plan : (cells n : ℕ) → 1024 ≤ cells → IsOwnPlan load_owner cells 1 (load_plan n)
own_plan cells n enough = (
  own_load cells 1 n (omega arith) (omega arith) enough,
  (
    own_load cells 2 n (omega arith) (omega arith) enough,
    (
      own_load cells 3 n (omega arith) (omega arith) enough,
      (own_load cells 4 n (omega arith) (omega arith) enough, tt),
    ),
  ),
)
