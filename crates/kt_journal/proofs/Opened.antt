-- What a log stands for once its bytes are read.
use Rattle.std.proofs.Common.{◌≡◌, ◌⊎◌, ℕ, ◌-◌, ◌≤◌, false, List, [], ◌∷◌, ◌++◌, length, drop, Option, None, inl, inr, refl, sym, ◌∙◌, ap, subst, arith}
use Rattle.std.specs.List.{flat_map}
use Rattle.std.proofs.lemmas.Bool.{eq-eqb, false≢true}
use Rattle.std.proofs.lemmas.List.{length-drop, nil_from_length}
use Rattle.kt_disk.specs.Disk.{Files, bytes_of, held, Same, Turns, LeavesOnly, ButFiles}
use Rattle.kt_disk.proofs.Moments.{started, goes_on_same, same_left, joined, weaker}
use Rattle.kt_journal.specs.Frames.{frame, AllFit, is_open, Frames, sound, frames_in, frames_of, payloads_of, EndsAt, AtRest, Settled, IsShort, IsSteady, IsFrom}
use Rattle.kt_journal.proofs.Frames.{log_read}
use Rattle.kt_journal.proofs.Publish.{settles}
use Rattle.kt_journal.proofs.Short.{short_shut}

closed_rest : (bytes : List ℕ) (records : List (List ℕ)) (place : ℕ) (rest : List ℕ) → bytes ≡ flat_map frame records ++ rest → place ≡ length (flat_map frame records) → AllFit records → is_open rest ≡ false → 2 ≤ length rest → AtRest bytes records place
closed_rest bytes records place [] whole place_is fit shut long = absurd (omega arith)
closed_rest bytes records place (g ∷ []) whole place_is fit shut long = absurd (omega arith)
closed_rest bytes records place (g ∷ b ∷ rest) whole place_is fit shut long =
    record { gate = g; behind = b ∷ rest; whole = whole; shut = λ is. false≢true (sym shut ∙ eq-eqb g 1 is); place_is = place_is; fit = fit }

pub ends_read : (bytes : List ℕ) (records : List (List ℕ)) (place : ℕ) → EndsAt bytes records place → frames_in bytes ≡ sound records
ends_read bytes records place ends = ap frames_in ends.whole ∙ log_read records (drop place bytes) ends.fit ends.shut

module _ {D : Type 0} (seen : D → Files) (now : D → ℕ) (leaves : D → ℕ → Files → Type 0) (file : ℕ) where
  pub steady_kept : (d1 d2 : D) → IsSteady seen now leaves file d1 → Turns now leaves Same d1 d2 → seen d2 ≡ seen d1 → IsSteady seen now leaves file d2
  steady_kept d1 d2 steady turn same = record {
    each = λ c left. subst (λ (files : Files). (c file ≡ files file) ⊎ ((files file ≡ None) × (length (held c file) ≤ 1))) (sym same) (steady.each c (same_left now leaves d1 d2 turn c left));
  }

  module _ (disk : D) (records : List (List ℕ)) (place : ℕ) (ends : EndsAt (held (seen disk) file) records place) (steady : IsSteady seen now leaves file disk) where
    pub stands : payloads_of file (seen disk) ≡ records
    stands = ap (λ (f : Frames). f.payloads) (ends_read (held (seen disk) file) records place ends)

    pub short_seen : length (held (seen disk) file) - place ≤ 1 → IsShort records (seen disk file)
    short_seen le = record { behind = drop place (held (seen disk) file); whole = ends.whole; short = omega (arith, length-drop place (held (seen disk) file)) }

    pub short_images : length (held (seen disk) file) - place ≤ 1 → (c : Files) → leaves disk (now disk) c → IsShort records (c file)
    short_images le c left = elim (steady.each c left) [
      | inl same ↦ subst (λ (x : Option (List ℕ)). IsShort records x) (sym same) (short_seen le)
      | inr gone ↦
          let empty : length (held (seen disk) file) ≡ 0 = ap (λ (x : Option (List ℕ)). length (bytes_of x)) gone.0 in
          let no_frames : flat_map frame records ≡ [] = nil_from_length (flat_map frame records) (omega (arith, ends.place_is, ends.within)) in
          record { behind = held c file; whole = ap (λ (l : List ℕ). l ++ held c file) (sym no_frames); short = gone.1 }
    ]

    pub at_rest : 2 ≤ length (held (seen disk) file) - place → Settled seen now leaves file disk place × (payloads_of file (seen disk) ≡ records)
    at_rest long =
        settles seen now leaves file disk records place
        (closed_rest (held (seen disk) file) records place (drop place (held (seen disk) file)) ends.whole ends.place_is ends.fit ends.shut (omega (arith, length-drop place (held (seen disk) file))))
        (λ c left. elim (steady.each c left) [
          | inl same ↦ same
          | inr gone ↦ absurd (omega (arith, ap (λ (x : Option (List ℕ)). length (bytes_of x)) gone.0))
        ])

    pub steady_leaves : LeavesOnly now leaves (λ c. frames_of file c ≡ sound records) disk disk
    steady_leaves = started seen now leaves (λ c. frames_of file c ≡ sound records) disk (λ c left. elim (steady.each c left) [
      | inl same ↦ ap (λ (x : Option (List ℕ)). frames_in (bytes_of x)) same ∙ ends_read (held (seen disk) file) records place ends
      | inr gone ↦
          let empty : length (held (seen disk) file) ≡ 0 = ap (λ (x : Option (List ℕ)). length (bytes_of x)) gone.0 in
          let no_frames : flat_map frame records ≡ [] = nil_from_length (flat_map frame records) (omega (arith, ends.place_is, ends.within)) in
          ap (λ (l : List ℕ). frames_in (l ++ held c file)) (sym no_frames) ∙ log_read records (held c file) ends.fit (short_shut (held c file) gone.1)
    ])

  -- the images of opening, call by call
  module _ (old : D) where
    abbrev From : Files → Type 0
    From = IsFrom now leaves file old

    pub opens : LeavesOnly now leaves From old old
    opens = started seen now leaves From old (λ c left. record { image = c; was_left = left; frames = refl; others = λ n apart. refl })

    pub opens_same : (d1 d2 : D) → LeavesOnly now leaves From old d1 → Turns now leaves Same d1 d2 → LeavesOnly now leaves From old d2
    opens_same d1 d2 so_far turn = goes_on_same seen now leaves From old d1 d2 so_far turn

    -- calls that keep the frames that are read, and all other files
    pub opens_shut : (d1 d2 : D) (records : List (List ℕ)) → LeavesOnly now leaves From old d1 → LeavesOnly now leaves (λ c. frames_of file c ≡ sound records) d1 d2
        → LeavesOnly now leaves (ButFiles now leaves d1 (file ∷ [])) d1 d2 → LeavesOnly now leaves From old d2
    opens_shut d1 d2 records so_far run beside = joined now leaves From old d1 d2 so_far (record {
      later = run.later;
      each = λ m c lo hi left.
          let from = beside.each m c lo hi left in
          let was = so_far.each (now d1) from.image so_far.later (omega arith) from.was_left in
          let reads = run.each (now d1) from.image (omega arith) run.later (run.keeps (now d1) from.image (omega arith) from.was_left) in
          record {
            image = was.image;
            was_left = was.was_left;
            frames = run.each m c lo hi left ∙ sym reads ∙ was.frames;
            others = λ n apart. from.others n apart ∙ was.others n apart;
          };
      past = run.past;
      keeps = run.keeps;
    })

    -- so all files but the log's are left as they were
    pub beside_from : (new : D) → LeavesOnly now leaves From old new → LeavesOnly now leaves (ButFiles now leaves old (file ∷ [])) old new
    beside_from new run =
        weaker now leaves From (ButFiles now leaves old (file ∷ [])) old new (λ c has. record { image = has.image; was_left = has.was_left; others = has.others }) run
