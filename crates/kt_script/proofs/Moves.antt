-- Reading an output text a line at a time.
use Rattle.std.proofs.Common.{◌≡◌, ◌≢◌, ℕ, suc, ◌+◌, ◌<◌, ◌≤◌, Bool, true, false, cond, eqb, List, [], ◌∷◌, ◌++◌, length, drop, refl, sym, ap, subst, ◌∙◌, arith, append_assoc, length-append, length-drop}
use Rattle.std.specs.Prelude.{All}
use Rattle.std.specs.List.{onto_first}
use Rattle.std.proofs.lemmas.List.{drop-drop, drop_at}
use Rattle.std.proofs.lemmas.List.Elements.{recursion_from_All}
use Rattle.kt_script.specs.Texts.{line}
use Rattle.kt_script.specs.Pieces.{cut}
use Rattle.kt_script.specs.Places.{IsFault}
use Rattle.kt_script.specs.Stages.{Stage, ended, stands, after, goes, MayStand, Goes}
use Rattle.kt_script.specs.Reread.{IsFaultFrom, StandsAt, Moves}
use Rattle.kt_script.proofs.Cuts.{Without, cut_front, some_piece}
use Rattle.kt_script.proofs.Places.{behind_front, byte_off}
use Rattle.kt_script.proofs.ToldTexts.{goes_line}
use Rattle.kt_script.proofs.Stages.{Open, line_fault, rest_fault, rest_none}

-- ---- the line at a place

all_in : (text : List ℕ) (at : ℕ) (front behind : List ℕ) → at ≤ length text → drop at text ≡ front ++ 10 ∷ behind → (drop (at + length front + 1) text ≡ behind) × (at + length front + 1 ≤ length text)
all_in text at front behind within is =
    let sizes : length (drop at text) ≡ length front + suc (length behind) = ap length is ∙ length-append front (10 ∷ behind) in
    let e : drop (at + length front + 1) text ≡ drop (length front + 1) (drop at text) = ap (λ n. drop n text) (omega arith) ∙ sym (drop-drop (length front + 1) at text) in
    let flat : front ++ 10 ∷ behind ≡ (front ++ 10 ∷ []) ++ behind = sym (append_assoc front (10 ∷ []) behind) in
    let size : length (front ++ 10 ∷ []) ≡ length front + 1 = length-append front (10 ∷ []) in
    (e ∙ ap (drop (length front + 1)) (is ∙ flat) ∙ drop_at (front ++ 10 ∷ []) behind (length front + 1) size, omega (arith, sizes, length-drop at text, within))

pub line_found : (text : List ℕ) (at : ℕ) (front behind : List ℕ) → at ≤ length text → drop at text ≡ front ++ 10 ∷ behind → All (λ b. b ≢ 10) front → StandsAt text at front
line_found text at front behind within is none =
    let p = all_in text at front behind within is in
    record {
      parted = ap (cut 10) is ∙ cut_front 10 front behind (recursion_from_All (λ b. b ≢ 10) front none) ∙ ap (λ bytes. front ∷ cut 10 bytes) (sym p.0);
      bytes = is ∙ sym (append_assoc front (10 ∷ []) behind) ∙ ap (λ bytes. line front ++ bytes) (sym p.0);
      within = p.1;
      clean = none;
    }

-- ---- one line more

module _ (text : List ℕ) where
  module _ (from to : Stage) (start at : ℕ) (front : List ℕ) (moves : Moves text from start to at front) where
    pub then : (stage : Stage) (next : ℕ) (more : List ℕ) → Moves text to at stage next more → Moves text from start stage next (front ++ more)
    then stage next more later = record {
      goes_on = λ t. ap (λ x. goes from (cut 10 x)) (append_assoc front more t) ∙ moves.goes_on (more ++ t) ∙ later.goes_on t;
      bytes = moves.bytes ∙ ap (λ bytes. front ++ bytes) later.bytes ∙ sym (append_assoc front more (drop next text));
      begins = moves.begins;
      within = later.within;
    }

    -- how far a move goes
    pub how_far : start + length front ≡ at
    how_far =
        let e : length (drop start text) ≡ length front + length (drop at text) = ap length moves.bytes ∙ length-append front (drop at text) in
        omega (arith, e, length-drop start text, length-drop at text, moves.begins, moves.within)

    -- a line that may stand there
    pub line_more : (l : List ℕ) (stage : Stage) → StandsAt text at l
        → stands to l ≡ true → after to l ≡ stage → Moves text from start stage (at + length l + 1) (front ++ line l)
    line_more l stage here may next =
        then stage (at + length l + 1) (line l) (record {
          goes_on = λ t.
              goes_line to l t (recursion_from_All (λ b. b ≢ 10) l here.clean) ∙ ap (λ b. cond b (goes (after to l) (cut 10 t)) false) may ∙ ap (λ s. goes s (cut 10 t)) next;
          bytes = here.bytes;
          begins = moves.within;
          within = here.within;
        })

    -- the fault behind a move
    pub fault_behind : (offset : ℕ) → IsFaultFrom text to at offset → IsFaultFrom text from start offset
    fault_behind offset f = record {
      far = length front + f.far;
      offset_is = omega (arith, how_far, f.offset_is);
      fault = subst (λ (x : List ℕ). IsFault (Goes from) x (length front + f.far)) (sym moves.bytes) (behind_front (Goes from) (Goes to) front (drop at text) f.far (λ x g. moves.goes_on x ∙ g) (λ x g. sym (moves.goes_on x) ∙ g) f.fault);
      none = ap (λ x. goes from (cut 10 x)) moves.bytes ∙ moves.goes_on (drop at text) ∙ f.none;
    }

    -- a line that may not stand there
    pub line_refused : (l : List ℕ) (m : ℕ) → StandsAt text at l → Open to → stands to l ≡ false → IsFault (MayStand to) l m → IsFaultFrom text from start (at + m)
    line_refused l m here more bad fault =
        let behind : List ℕ = drop (at + length l + 1) text in
        let clean : Without 10 l = recursion_from_All (λ b. b ≢ 10) l here.clean in
        fault_behind (at + m) (record {
          far = m;
          offset_is = refl;
          fault = subst (λ (x : List ℕ). IsFault (Goes to) x m) (sym here.bytes) (line_fault to l behind m more clean bad fault);
          none = ap (λ x. goes to (cut 10 x)) here.bytes ∙ goes_line to l behind clean ∙ ap (λ b. cond b (goes (after to l) (cut 10 behind)) false) bad;
        })

    -- bytes without a newline
    pub rest_refused : (rest : List ℕ) (m : ℕ) → rest ≡ drop at text → All (λ b. b ≢ 10) (drop at text) → Open to → IsFault (MayStand to) rest m → IsFaultFrom text from start (at + m)
    rest_refused rest m is none more fault =
        let clean : Without 10 (drop at text) = recursion_from_All (λ b. b ≢ 10) (drop at text) none in
        fault_behind (at + m) (record {
          far = m;
          offset_is = refl;
          fault = rest_fault to (drop at text) m more clean (subst (λ (x : List ℕ). IsFault (MayStand to) x m) is fault);
          none = rest_none to (drop at text) more clean;
        })

    -- bytes behind the last line
    pub behind_end : to ≡ ended → at < length text → IsFaultFrom text from start at
    behind_end is more =
        fault_behind at (subst (λ s. IsFaultFrom text s at at) (sym is) (record {
          far = 0;
          offset_is = omega arith;
          fault = some_bytes (drop at text) some;
          none = no_end (drop at text) some;
        }))
      where
        some : 0 < length (drop at text)
        some = omega (arith, length-drop at text, more)

        bytes_behind : (b : ℕ) (bytes : List ℕ) → goes ended (cut 10 (b ∷ bytes)) ≡ false
        bytes_behind b bytes = by (eqb b 10) (some_piece 10 bytes)
          where
            parted : (piece : List ℕ) (pieces : List (List ℕ)) → goes ended ((b ∷ piece) ∷ pieces) ≡ false
            parted piece [] = refl
            parted piece (next ∷ pieces) = refl

            by : (t : Bool) → (piece : List ℕ) × (pieces : List (List ℕ)) × (cut 10 bytes ≡ piece ∷ pieces) → goes ended (cond t ([] ∷ cut 10 bytes) (onto_first b (cut 10 bytes))) ≡ false
            by true some = ap (λ pieces. goes ended ([] ∷ pieces)) some.2
            by false some = ap (λ pieces. goes ended (onto_first b pieces)) some.2 ∙ parted some.0 some.1

        no_end : (bytes : List ℕ) → 0 < length bytes → goes ended (cut 10 bytes) ≡ false
        no_end [] some = absurd (omega (arith, some))
        no_end (b ∷ bytes) some = bytes_behind b bytes

        some_bytes : (bytes : List ℕ) → 0 < length bytes → IsFault (Goes ended) bytes 0
        some_bytes [] some = absurd (omega (arith, some))
        some_bytes (b ∷ bytes) some = byte_off (Goes ended) b bytes [] refl (λ y g. let none = bytes_behind b y in cc)
