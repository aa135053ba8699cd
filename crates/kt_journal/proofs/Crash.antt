-- What a crash leaves in each of the two writes of an append.
use Rattle.std.proofs.Common.{◌≡◌, ◌≢◌, ◌⊎◌, ℕ, ◌+◌, ◌^◌, ◌<◌, ◌≤◌, inl, inr, List, [], ◌∷◌, ◌++◌, length, get_or, take, drop, Option, refl, sym, ◌∙◌, ap, arith, append_assoc, length-append}
use Rattle.std.specs.List.{flat_map}
use Rattle.std.proofs.lemmas.Bool.{cases_eq}
use Rattle.std.proofs.lemmas.List.{take_at, drop_at}
use Rattle.std.proofs.lemmas.List.Elements.{All-append}
use Rattle.std.proofs.lemmas.List.Concat.{flat_map-append}
use Rattle.kt_disk.specs.Disk.{bytes_of, put, Torn}
use Rattle.kt_disk.proofs.Steps.{torn_from, torn_byte}
use Rattle.kt_journal.specs.Frames.{frame, AllFit, sound, frames_in, AtRest, IsBatch}
use Rattle.kt_journal.proofs.Frames.{shut_gate, log_read}

fit-append : (old new : List (List ℕ)) → AllFit old → AllFit new → AllFit (old ++ new)
fit-append old new a b = All-append (λ (p : List ℕ). length p < 2 ^ 32) old new a b

module _ (bytes : List ℕ) (old : List (List ℕ)) (place : ℕ) (rest : AtRest bytes old place) where
  abbrev frames : List ℕ
  frames = flat_map frame old

  pub length-rest : length bytes ≡ place + 1 + length rest.behind
  length-rest = omega (arith, ap length rest.whole, length-append frames (rest.gate ∷ rest.behind), rest.place_is)

  regrouped : bytes ≡ (frames ++ rest.gate ∷ []) ++ rest.behind
  regrouped = rest.whole ∙ sym (append_assoc frames (rest.gate ∷ []) rest.behind)

  gate_end : length (frames ++ rest.gate ∷ []) ≡ place + 1
  gate_end = omega (arith, length-append frames (rest.gate ∷ []), rest.place_is)

  front : take (place + 1) bytes ≡ frames ++ rest.gate ∷ []
  front = ap (λ (l : List ℕ). take (place + 1) l) regrouped ∙ take_at (frames ++ rest.gate ∷ []) rest.behind (place + 1) gate_end

  -- a log at rest stands for its records
  pub rest_read : frames_in bytes ≡ sound old
  rest_read = ap frames_in rest.whole ∙ log_read old (rest.gate ∷ rest.behind) rest.fit (shut_gate rest.gate rest.behind rest.shut)

  -- the closed gate stands in each outcome of the first write
  pub torn_behind : (n : ℕ) (x y : Option (List ℕ)) → bytes_of x ≡ bytes → Torn (place + 1) n x y → frames_in (bytes_of y) ≡ sound old
  torn_behind n x y is torn =
      let after = drop (place + 1) (bytes_of y) in
      let whole : bytes_of y ≡ frames ++ rest.gate ∷ after =
      torn_from (place + 1) n x y torn (omega (arith, ap length is, length-rest))
      ∙ ap (λ (l : List ℕ). take (place + 1) l ++ after) is ∙ ap (λ (l : List ℕ). l ++ after) front ∙ append_assoc frames (rest.gate ∷ []) after in
      ap frames_in whole ∙ log_read old (rest.gate ∷ after) rest.fit (shut_gate rest.gate after rest.shut)

  module _ (batch : List ℕ) (new : List (List ℕ)) (spelled : IsBatch batch new) where
    abbrev after : List ℕ
    after = drop (place + 1 + length batch) bytes

    -- the file with the batch behind the closed gate
    abbrev pub staged : List ℕ
    staged = frames ++ rest.gate ∷ (batch ++ after)

    pub length-staged : place + 1 ≤ length staged
    length-staged = omega (arith, length-append frames (rest.gate ∷ (batch ++ after)), rest.place_is)

    pub written_behind : put bytes (place + 1) batch ≡ staged
    written_behind =
        ap (λ (l : List ℕ). (l ++ batch) ++ after) front
        ∙ append_assoc (frames ++ rest.gate ∷ []) batch after
        ∙ append_assoc frames (rest.gate ∷ []) (batch ++ after)

    staged_front : take place staged ≡ frames
    staged_front = take_at frames (rest.gate ∷ (batch ++ after)) place (sym rest.place_is)

    staged_back : drop (place + 1) staged ≡ batch ++ after
    staged_back =
        ap (λ (l : List ℕ). drop (place + 1) l) (sym (append_assoc frames (rest.gate ∷ []) (batch ++ after)))
        ∙ drop_at (frames ++ rest.gate ∷ []) (batch ++ after) (place + 1) gate_end

    -- with its gate open it is all the frames, and a closed gate
    opened : frames ++ 1 ∷ (batch ++ after) ≡ flat_map frame (old ++ new) ++ 0 ∷ after
    opened =
        ap (λ (l : List ℕ). frames ++ (l ++ after)) spelled.spelled
        ∙ ap (λ (l : List ℕ). frames ++ l) (append_assoc (flat_map frame new) (0 ∷ []) after)
        ∙ sym (append_assoc frames (flat_map frame new) (0 ∷ after))
        ∙ ap (λ (l : List ℕ). l ++ 0 ∷ after) (sym (flat_map-append frame old new))

    shut_zero : (g : ℕ) → g ≡ 0 → g ≢ 1
    shut_zero g zero_is one_is = omega arith

    -- whatever its gate is, it stands for the old records or for both
    pub torn_gate : (x y : Option (List ℕ)) → bytes_of x ≡ staged → Torn place 1 x y → (frames_in (bytes_of y) ≡ sound old) ⊎ (frames_in (bytes_of y) ≡ sound (old ++ new))
    torn_gate x y is torn =
        let gate = get_or (bytes_of y) place 0 in
        let whole : bytes_of y ≡ frames ++ gate ∷ (batch ++ after) =
        torn_byte place x y torn (omega (arith, ap length is, length-staged))
        ∙ ap (λ (l : List ℕ). take place l ++ gate ∷ drop (place + 1) l) is
        ∙ ap (λ (l : List ℕ). l ++ gate ∷ drop (place + 1) staged) staged_front
        ∙ ap (λ (l : List ℕ). frames ++ gate ∷ l) staged_back in
        elim (cases_eq gate 1) [
          | inl is_open ↦
              inr (ap frames_in (whole ∙ ap (λ (g : ℕ). frames ++ g ∷ (batch ++ after)) is_open ∙ opened)
              ∙ log_read (old ++ new) (0 ∷ after) (fit-append old new rest.fit spelled.fit) (shut_gate 0 after (shut_zero 0 refl)))
          | inr shut ↦ inl (ap frames_in whole ∙ log_read old (gate ∷ (batch ++ after)) rest.fit (shut_gate gate (batch ++ after) shut))
        ]

    pub written_gate : AtRest (put staged place (1 ∷ [])) (old ++ new) (place + length batch)
    written_gate = record {
      gate = 0;
      behind = after;
      whole = ap (λ (l : List ℕ). (l ++ 1 ∷ []) ++ drop (place + 1) staged) staged_front
          ∙ ap (λ (l : List ℕ). (frames ++ 1 ∷ []) ++ l) staged_back
          ∙ append_assoc frames (1 ∷ []) (batch ++ after) ∙ opened;
      shut = shut_zero 0 refl;
      place_is = omega (arith, rest.place_is, ap length spelled.spelled, length-append (flat_map frame new) (0 ∷ []), ap length (flat_map-append frame old new), length-append frames (flat_map frame new));
      fit = fit-append old new rest.fit spelled.fit;
    }
