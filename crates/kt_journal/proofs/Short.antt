-- A log whose frames are followed by one byte at most.
use Rattle.std.proofs.Common.{◌≡◌, ◌≢◌, ℕ, ◌+◌, ◌≤◌, false, List, [], ◌∷◌, ◌++◌, length, take, drop, Option, Some, refl, sym, ◌∙◌, ap, arith, length-append}
use Rattle.std.specs.List.{flat_map}
use Rattle.std.proofs.lemmas.List.{take_at, drop_all, length-drop, append-nil}
use Rattle.kt_disk.specs.Disk.{Files, bytes_of, held, put, Torn, On, Same, Turns, LeavesOnly, Stable}
use Rattle.kt_disk.proofs.Steps.{torn_from}
use Rattle.kt_disk.proofs.Moments.{started, goes_on, goes_on_same}
use Rattle.kt_journal.specs.Frames.{frame, AllFit, is_open, sound, frames_in, frames_of, payloads_of, Settled, IsShort}
use Rattle.kt_journal.proofs.Frames.{log_read}
use Rattle.kt_journal.proofs.Publish.{settles}

pub short_shut : (behind : List ℕ) → length behind ≤ 1 → is_open behind ≡ false
short_shut [] le = refl
short_shut (b ∷ []) le = refl
short_shut (a ∷ b ∷ behind) le = absurd (omega arith)

pub short_read : (records : List (List ℕ)) (file : Option (List ℕ)) → AllFit records → IsShort records file → frames_in (bytes_of file) ≡ sound records
short_read records file fit short = ap frames_in short.whole ∙ log_read records short.behind fit (short_shut short.behind short.short)

torn_short : (records : List (List ℕ)) (at : ℕ) (x y : Option (List ℕ)) → at ≡ length (flat_map frame records) → IsShort records x → Torn at 1 x y → IsShort records y
torn_short records at x y at_is short torn =
    let frames = flat_map frame records in
    let long : length (bytes_of x) ≡ at + length short.behind = omega (arith, ap length short.whole, length-append frames short.behind) in
    record {
      behind = drop at (bytes_of y);
      whole = torn_from at 1 x y torn (omega arith) ∙ ap (λ (l : List ℕ). take at l ++ drop at (bytes_of y)) short.whole ∙ ap (λ (l : List ℕ). l ++ drop at (bytes_of y)) (take_at frames short.behind at (sym at_is));
      short = omega (arith, length-drop at (bytes_of y), torn.no_longer, short.short);
    }

module _ {D : Type 0} (seen : D → Files) (now : D → ℕ) (leaves : D → ℕ → Files → Type 0) (file : ℕ) (old : D) (records : List (List ℕ)) (end : ℕ)
    (end_is : end ≡ length (flat_map frame records)) (fit : AllFit records) (images : (c : Files) → leaves old (now old) c → IsShort records (c file)) where
  abbrev Leaves : D → Type 0
  Leaves disk = LeavesOnly now leaves (λ c. frames_of file c ≡ sound records) old disk

  pub shut_behind : (d1 : D) → Turns now leaves (On file (Torn end 1)) old d1 → Leaves d1
  shut_behind d1 turn =
      goes_on seen now leaves (λ c. frames_of file c ≡ sound records) old old d1 (On file (Torn end 1))
      (started seen now leaves (λ c. frames_of file c ≡ sound records) old (λ c left. short_read records (c file) fit (images c left))) turn
      (λ d c left has on. short_read records (c file) fit (torn_short records end (d file) (c file) end_is (images d left) on.here))

  pub shut_kept : (d1 d2 : D) → Leaves d1 → Turns now leaves Same d1 d2 → Leaves d2
  shut_kept d1 d2 so_far turn = goes_on_same seen now leaves (λ c. frames_of file c ≡ sound records) old d1 d2 so_far turn

  pub shut_done : (d1 d2 : D) → IsShort records (seen old file) → seen d1 file ≡ Some (put (held (seen old) file) end (0 ∷ [])) → seen d2 ≡ seen d1 → Stable seen now leaves file d2
      → Settled seen now leaves file d2 end × (payloads_of file (seen d2) ≡ records)
  shut_done d1 d2 short written same stable =
      let frames = flat_map frame records in
      let front : take end (held (seen old) file) ≡ frames = ap (λ (l : List ℕ). take end l) short.whole ∙ take_at frames short.behind end (sym end_is) in
      let back : drop (end + 1) (held (seen old) file) ≡ [] = drop_all (end + 1) (held (seen old) file) (omega (arith, ap length short.whole, length-append frames short.behind, short.short)) in
      let reads : held (seen d2) file ≡ frames ++ 0 ∷ [] =
      ap (λ (files : Files). held files file) same ∙ ap bytes_of written ∙ ap (λ (l : List ℕ). (l ++ 0 ∷ []) ++ drop (end + 1) (held (seen old) file)) front
      ∙ ap (λ (l : List ℕ). (frames ++ 0 ∷ []) ++ l) back ∙ append-nil (frames ++ 0 ∷ []) in
      settles seen now leaves file d2 records end (record { gate = 0; behind = []; whole = reads; shut = shut_zero 0 refl; place_is = end_is; fit = fit }) stable
    where
      shut_zero : (g : ℕ) → g ≡ 0 → g ≢ 1
      shut_zero g zero_is one_is = omega arith
