-- What a disk row shows is what its history shows.
use Rattle.std.proofs.Common.{◌≡◌, ℕ, ◌+◌, ◌≤◌, [], ◌∷◌, Some, None, Option, refl, cond, sym, ap, ◌∙◌, arith, inl, inr}
use Rattle.std.specs.Prelude.{nat_le}
use Rattle.std.proofs.lemmas.Bool.{cases_lt, le-leb, lt-leb, lt-ltb, le-ltb}
use Rattle.kt_base.specs.declared.cell.Cell.TheVariants as cell
use Rattle.kt_history.specs.declared.change.Change.TheVariants.{Ins, Upd, Del}
use Rattle.kt_history.specs.Rows.{Row, apply, undo}
use Rattle.kt_history.specs.Stores.{Steps, after_steps, row_of}
use Rattle.kt_histlaws.specs.Disks.{DiskRow, back, disk_row_at, before_all, led_over, hist_of, AreUndos}
use Rattle.kt_histlaws.proofs.OneKey.{after_steps-append}

-- at or above the newest nothing is taken back
still : (top t : ℕ) (undos : Steps) (row : Option Row) (under : Option Row) → AreUndos top undos under → top ≤ t + 1 → back t undos row ≡ row
still top t [] row under h le = refl
still top t (u ∷ undos) row under h le = ap (λ b. back t undos (cond b (apply u.1 row) row)) (le-ltb t u.0 (omega (arith, h.0))) ∙ still u.0 t undos row (apply u.1 under) h.2 (omega (arith, h.0))

undone : (top t : ℕ) (undos : Steps) (row : Option Row) → AreUndos top undos row → after_steps t (led_over undos row) (before_all undos row) ≡ back t undos row
undone top t [] row h = refl
undone top t (u ∷ undos) row h =
    after_steps-append t (led_over undos (apply u.1 row)) ((u.0, undo u.1 row) ∷ []) (before_all undos (apply u.1 row))
    ∙ ap (λ r. cond (nat_le u.0 t) (apply (undo u.1 row) r) r) (undone u.0 t undos (apply u.1 row) h.2)
    ∙ elim (cases_lt t u.0) [
      | inl above ↦ ap (λ b. cond b (apply (undo u.1 row) (back t undos (apply u.1 row))) (back t undos (apply u.1 row))) (lt-leb u.0 t above)
          ∙ ap (λ b. back t undos (cond b (apply u.1 row) row)) (sym (lt-ltb t u.0 above))
      | inr below ↦ ap (λ b. cond b (apply (undo u.1 row) (back t undos (apply u.1 row))) (back t undos (apply u.1 row))) (le-leb u.0 t below)
          ∙ ap (apply (undo u.1 row)) (still u.0 t undos (apply u.1 row) (apply u.1 row) h.2 (omega arith))
          ∙ h.1
          ∙ sym (ap (λ b. back t undos (cond b (apply u.1 row) row)) (le-ltb t u.0 below) ∙ still u.0 t undos row (apply u.1 row) h.2 (omega arith))
    ]

pub disk-row : (top t : ℕ) (d : DiskRow) → AreUndos top d.undos (Some d.base) → row_of t (hist_of d) ≡ disk_row_at t d
disk-row top t d h = after_steps-append t (led_over d.undos (Some d.base)) d.redos (before_all d.undos (Some d.base)) ∙ ap (after_steps t d.redos) (undone top t d.undos (Some d.base) h)

-- inserted as "a" at 4096, updated to "b" at 8192, flushed, deleted at 12288
abbrev flushed : DiskRow
flushed = record { base = (2, cell.Bytes (98 ∷ [])) ∷ []; undos = (8192, Upd ((2, cell.Bytes (97 ∷ [])) ∷ [])) ∷ (4096, Del) ∷ []; redos = (12288, Del) ∷ [] }

its_history : hist_of flushed ≡ record { first = None; steps = (4096, Ins ((2, cell.Bytes (97 ∷ [])) ∷ [])) ∷ (8192, Upd ((2, cell.Bytes (98 ∷ [])) ∷ [])) ∷ (12288, Del) ∷ [] }
its_history = refl

at_4096 : disk_row_at 4096 flushed ≡ Some ((2, cell.Bytes (97 ∷ [])) ∷ [])
at_4096 = refl

at_4095 : disk_row_at 4095 flushed ≡ None
at_4095 = refl

at_12288 : disk_row_at 12288 flushed ≡ None
at_12288 = refl
