-- Reading frames one after the other.
use Rattle.std.proofs.Common.{◌≡◌, ℕ, zero, suc, ◌-◌, ◌+◌, ◌^◌, ◌<◌, ◌≤◌, true, List, [], ◌∷◌, ◌++◌, length, drop, None, Some, refl, sym, ◌∙◌, ap, arith, append_assoc, length-append}
use Rattle.std.specs.List.{flat_map}
use Rattle.std.proofs.lemmas.Bool.{eqb-true}
use Rattle.std.proofs.lemmas.List.{drop_at, drop-drop, append-nil}
use Rattle.std.proofs.lemmas.List.Concat.{flat_map-append}
use Rattle.std.proofs.lemmas.List.Elements.{All-head, All-tail}
use Rattle.kt_journal.specs.Frames.{body, frame, AllFit, is_open, body_at, Frames, broken_at, behind_frames, frames_at, frames_in, then_more}
use Rattle.kt_journal.proofs.Frames.{body_again, count_le}

open_gate : (bytes : List ℕ) → is_open bytes ≡ true → bytes ≡ 1 ∷ drop 1 bytes
open_gate [] is = absurd cc
open_gate (gate ∷ []) is = absurd cc
open_gate (gate ∷ b ∷ bytes) is = ap (λ (g : ℕ). g ∷ b ∷ bytes) (eqb-true gate 1 is)

pub open_long : (bytes : List ℕ) → is_open bytes ≡ true → 2 ≤ length bytes
open_long [] is = absurd cc
open_long (gate ∷ []) is = absurd cc
open_long (gate ∷ b ∷ bytes) is = omega arith

-- what the loop keeps over one frame
pub record More (bytes : List ℕ) (records : List (List ℕ)) (end : ℕ) : Type 0 where
  pub whole : bytes ≡ flat_map frame records ++ drop end bytes
  pub within : end ≤ length bytes
  pub place_is : end ≡ length (flat_map frame records)

pub one_more : (bytes : List ℕ) (records : List (List ℕ)) (end : ℕ) (payload rest : List ℕ) → bytes ≡ flat_map frame records ++ drop end bytes → end ≡ length (flat_map frame records)
    → is_open (drop end bytes) ≡ true → drop (end + 1) bytes ≡ body payload ++ rest → More bytes (records ++ payload ∷ []) (end + (5 + length payload))
one_more bytes records end payload rest whole place_is is behind =
    let before = flat_map frame records in
    let after = flat_map frame (records ++ payload ∷ []) in
    let after_is : after ≡ before ++ frame payload = flat_map-append frame records (payload ∷ []) ∙ ap (λ (l : List ℕ). before ++ l) (append-nil (frame payload)) in
    let gate : drop end bytes ≡ 1 ∷ (body payload ++ rest) =
    open_gate (drop end bytes) is ∙ ap (λ (l : List ℕ). 1 ∷ l) (drop-drop 1 end bytes ∙ behind) in
    let split : bytes ≡ after ++ rest =
    whole ∙ ap (λ (l : List ℕ). before ++ l) gate ∙ sym (append_assoc before (frame payload) rest) ∙ ap (λ (l : List ℕ). l ++ rest) (sym after_is) in
    let long : length after ≡ end + (5 + length payload) = omega (arith, ap length after_is, length-append before (frame payload), place_is) in
    let left : drop (end + (5 + length payload)) bytes ≡ rest = ap (λ (l : List ℕ). drop (end + (5 + length payload)) l) split ∙ drop_at after rest (end + (5 + length payload)) long in
    record {
      whole = split ∙ ap (λ (l : List ℕ). after ++ l) (sym left);
      within = omega (arith, ap length split, length-append after rest, long);
      place_is = sym long;
    }

-- more frames behind these
frames_behind : (payloads : List (List ℕ)) (rest : List ℕ) (most k offset at : ℕ) → most ≡ length payloads + k → at ≡ offset + length (flat_map frame payloads) → AllFit payloads
    → frames_at most offset (flat_map frame payloads ++ rest) ≡ behind_frames payloads (frames_at k at rest)
unfolding frames_at
frames_behind [] rest most k offset at is at_is fit =
    let m : most ≡ k = omega arith in
    let o : offset ≡ at = omega arith in
    ap (λ (n : ℕ). frames_at n offset rest) m ∙ ap (λ (n : ℕ). frames_at k n rest) o
frames_behind (p ∷ payloads) rest zero k offset at is at_is fit = absurd (omega arith)
frames_behind (p ∷ payloads) rest (suc most) k offset at is at_is fit =
    let split : drop 1 ((frame p ++ flat_map frame payloads) ++ rest) ≡ body p ++ (flat_map frame payloads ++ rest) = append_assoc (body p) (flat_map frame payloads) rest in
    let first = ap body_at split ∙ body_again p (flat_map frame payloads ++ rest) (All-head (λ (q : List ℕ). length q < 2 ^ 32) p payloads fit) in
    let there : at ≡ offset + 5 + length p + length (flat_map frame payloads) = omega (arith, length-append (frame p) (flat_map frame payloads)) in
    ap (then_more (frames_at most) offset) first
    ∙ ap (λ (f : Frames). behind_frames (p ∷ []) f) (frames_behind payloads rest most k (offset + 5 + length p) at (omega arith) there (All-tail (λ (q : List ℕ). length q < 2 ^ 32) p payloads fit))

one_fault : (k at : ℕ) (rest : List ℕ) → is_open rest ≡ true → body_at (drop 1 rest) ≡ None → frames_at (suc k) at rest ≡ broken_at at
unfolding frames_at
one_fault k at rest is none = rw (is, none) refl

one_frame : (k at : ℕ) (rest p q : List ℕ) → is_open rest ≡ true → body_at (drop 1 rest) ≡ Some (p, q) → frames_at (suc k) at rest ≡ behind_frames (p ∷ []) (frames_at k (at + 5 + length p) q)
unfolding frames_at
one_frame k at rest p q is some = rw (is, some) refl

module _ (bytes : List ℕ) (payloads : List (List ℕ)) (end : ℕ) (whole : bytes ≡ flat_map frame payloads ++ drop end bytes) (place_is : end ≡ length (flat_map frame payloads)) (fit : AllFit payloads) (is : is_open (drop end bytes) ≡ true) where
  abbrev k : ℕ
  k = length bytes - length payloads - 1

  front : frames_in bytes ≡ behind_frames payloads (frames_at (suc k) end (drop end bytes))
  front =
      let rest = drop end bytes in
      let count : length bytes ≡ length payloads + suc k = omega (arith, count_le payloads, ap length whole, length-append (flat_map frame payloads) rest, open_long rest is) in
      ap (λ (l : List ℕ). frames_at (length bytes) 0 l) whole ∙ frames_behind payloads rest (length bytes) (suc k) 0 end count (omega arith) fit

  -- the first frame that reaches past the end
  pub frame_fault : body_at (drop (end + 1) bytes) ≡ None → frames_in bytes ≡ behind_frames payloads (broken_at end)
  frame_fault none = front ∙ ap (λ (f : Frames). behind_frames payloads f) (one_fault k end (drop end bytes) is (ap body_at (drop-drop 1 end bytes) ∙ none))

  -- one frame more
  pub frame_more : (p q : List ℕ) → body_at (drop (end + 1) bytes) ≡ Some (p, q) → frames_in bytes ≡ behind_frames payloads (behind_frames (p ∷ []) (frames_at k (end + 5 + length p) q))
  frame_more p q some = front ∙ ap (λ (f : Frames). behind_frames payloads f) (one_frame k end (drop end bytes) p q is (ap body_at (drop-drop 1 end bytes) ∙ some))
