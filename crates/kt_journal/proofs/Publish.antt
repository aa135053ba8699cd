-- What a crash leaves after each of the four calls of an append, and what stands after them.
use Rattle.std.proofs.Common.{◌≡◌, ℕ, ◌+◌, ◌≤◌, inl, List, [], ◌∷◌, ◌++◌, length, Option, Some, None, refl, sym, ◌∙◌, ap, subst, arith}
use Rattle.std.specs.Prelude.{IsSome}
use Rattle.kt_disk.specs.Disk.{Files, held, bytes_of, put, Torn, On, Same, Turns, LeavesOnly, Stable}
use Rattle.kt_disk.proofs.Moments.{started, goes_on_same, goes_on_at}
use Rattle.kt_journal.specs.Frames.{Frames, frames_in, payloads_of, HoldsFrames, AtRest, Settled, IsBatch, IsEither}
use Rattle.kt_journal.proofs.Crash.{rest_read, torn_behind, staged, written_behind, torn_gate, written_gate, length-staged, length-rest}

-- a file with a byte is there
is_there : (file : Option (List ℕ)) → 1 ≤ length (bytes_of file) → IsSome file
is_there None long = absurd (omega arith)
is_there (Some bytes) long = refl

rest_there : (file : Option (List ℕ)) (records : List (List ℕ)) (place : ℕ) → AtRest (bytes_of file) records place → IsSome file
rest_there file records place rest = is_there file (omega (arith, length-rest _ _ _ rest))

module _ {D : Type 0} (seen : D → Files) (now : D → ℕ) (leaves : D → ℕ → Files → Type 0) (file : ℕ) where
  -- what is pending nowhere and reads as a log at rest is settled, and stands for those records
  pub settles : (disk : D) (records : List (List ℕ)) (place : ℕ) → AtRest (held (seen disk) file) records place → Stable seen now leaves file disk
      → Settled seen now leaves file disk place × (payloads_of file (seen disk) ≡ records)
  settles disk records place rest stable =
      let stands : payloads_of file (seen disk) ≡ records = ap (λ (f : Frames). f.payloads) (rest_read _ _ _ rest) in
      (record { rest = subst (λ (r : List (List ℕ)). AtRest (held (seen disk) file) r place) (sym stands) rest; stable = stable }, stands)

  -- a settled log leaves its records
  pub settled_holds : (disk : D) (place : ℕ) → Settled seen now leaves file disk place → HoldsFrames now leaves file disk (payloads_of file (seen disk))
  settled_holds disk place settled c left = ap (λ (x : Option (List ℕ)). frames_in (bytes_of x)) (settled.stable c left) ∙ rest_read _ _ _ settled.rest

  pub settled_leaves : (disk : D) (place : ℕ) (new : List (List ℕ)) → Settled seen now leaves file disk place → LeavesOnly now leaves (λ c. IsEither (payloads_of file (seen disk)) new (c file)) disk disk
  settled_leaves disk place new settled = started seen now leaves (λ c. IsEither (payloads_of file (seen disk)) new (c file)) disk (λ c left. (rw (settled.stable c left) (rest_there (seen disk file) _ _ settled.rest), inl (settled_holds disk place settled c left)))

  module _ (old : D) (place : ℕ) (settled : Settled seen now leaves file old place) (batch : List ℕ) (new : List (List ℕ)) (spelled : IsBatch batch new) where
    abbrev Q : Option (List ℕ) → Type 0
    Q = IsEither (payloads_of file (seen old)) new

    abbrev Leaves : D → Type 0
    Leaves disk = LeavesOnly now leaves (λ c. Q (c file)) old disk

    abbrev pub IsStaged : D → Type 0
    IsStaged disk = held (seen disk) file ≡ staged (held (seen old) file) (payloads_of file (seen old)) place settled.rest batch new spelled

    pub behind : (d1 : D) → Turns now leaves (On file (Torn (place + 1) (length batch))) old d1 → Leaves d1
    behind d1 turn =
        goes_on_at seen now leaves file Q old old d1 (Torn (place + 1) (length batch)) (settled_leaves old place new settled) turn settled.stable
        (λ x torn. (torn.stays (rest_there (seen old file) _ _ settled.rest), inl (torn_behind _ _ _ settled.rest (length batch) (seen old file) x refl torn)))

    pub kept : (d1 d2 : D) → Leaves d1 → Turns now leaves Same d1 d2 → Leaves d2
    kept d1 d2 so_far turn = goes_on_same seen now leaves (λ c. Q (c file)) old d1 d2 so_far turn

    pub is_staged : (d1 d2 : D) → seen d1 file ≡ Some (put (held (seen old) file) (place + 1) batch) → seen d2 ≡ seen d1 → IsStaged d2
    is_staged d1 d2 written same =
        ap (λ (files : Files). held files file) same ∙ ap bytes_of written ∙ written_behind _ _ _ settled.rest batch new spelled

    pub gate : (d2 d3 : D) → Leaves d2 → Stable seen now leaves file d2 → IsStaged d2 → Turns now leaves (On file (Torn place 1)) d2 d3 → Leaves d3
    gate d2 d3 so_far stable is turn =
        goes_on_at seen now leaves file Q old d2 d3 (Torn place 1) so_far turn stable
        (λ x torn. (torn.stays (is_there (seen d2 file) (omega (arith, ap length is, length-staged _ _ _ settled.rest batch new spelled))), torn_gate _ _ _ settled.rest batch new spelled (seen d2 file) x is torn))

    pub done : (d2 d3 d4 : D) → IsStaged d2 → seen d3 file ≡ Some (put (held (seen d2) file) place (1 ∷ [])) → seen d4 ≡ seen d3 → Stable seen now leaves file d4
        → Settled seen now leaves file d4 (place + length batch) × (payloads_of file (seen d4) ≡ payloads_of file (seen old) ++ new)
    done d2 d3 d4 is written same stable =
        let reads : held (seen d4) file ≡ put (staged (held (seen old) file) (payloads_of file (seen old)) place settled.rest batch new spelled) place (1 ∷ []) =
        ap (λ (files : Files). held files file) same ∙ ap bytes_of written ∙ ap (λ (l : List ℕ). put l place (1 ∷ [])) is in
        settles d4 (payloads_of file (seen old) ++ new) (place + length batch)
        (subst (λ (l : List ℕ). AtRest l (payloads_of file (seen old) ++ new) (place + length batch)) (sym reads) (written_gate _ _ _ settled.rest batch new spelled)) stable
