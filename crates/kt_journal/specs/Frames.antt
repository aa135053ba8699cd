-- The frames of a log's bytes, and what a log at rest is.
use Rattle.std.specs.Prelude.{◌≡◌, ◌≢◌, ◌⊎◌, ◌+◌, ◌^◌, ◌<◌, ◌≤◌, ◌==◌, ℕ, zero, suc, Bool, false, List, [], ◌∷◌, ◌++◌, length, take, drop, Option, Some, None, IsSome, nat_lt, if◌then◌else◌}
use Rattle.std.specs.List.{flat_map, All}
use Rattle.std.specs.Int.{w32, to_le_bytes, from_le_bytes}
use Rattle.kt_disk.specs.Disk.{Files, held, bytes_of, Stable, IsNoneOf}

-- what stands behind a frame's gate: the length and the payload
abbrev pub body : List ℕ → List ℕ
body payload = to_le_bytes w32 (length payload) ++ payload

-- a frame with its gate open
abbrev pub frame : List ℕ → List ℕ
frame payload = 1 ∷ body payload

abbrev pub AllFit : List (List ℕ) → Type 0
AllFit payloads = All (λ payload. length payload < 2 ^ 32) payloads

-- a gate is open where it is 01 and is not the file's last byte
abbrev pub is_open : List ℕ → Bool
is_open [] = false
is_open (gate ∷ []) = false
is_open (gate ∷ byte ∷ bytes) = gate == 1

-- the payload behind a gate and what follows it, or none where the frame reaches past the file's end
unfoldable pub body_at : List ℕ → Option (List ℕ × List ℕ)
body_at bytes =
    if nat_lt (length bytes) 4 then None
    else (if nat_lt (length (drop 4 bytes)) (from_le_bytes w32 (take 4 bytes)) then None
    else Some (take (from_le_bytes w32 (take 4 bytes)) (drop 4 bytes), drop (from_le_bytes w32 (take 4 bytes)) (drop 4 bytes)))

-- the payloads of the whole frames before the first closed gate, and the gate of a frame that reaches past the end
pub record Frames : Type 0 where
  pub payloads : List (List ℕ)
  pub broken : Option ℕ

abbrev pub sound : List (List ℕ) → Frames
sound payloads = record { payloads = payloads; broken = None }

abbrev pub broken_at : ℕ → Frames
broken_at offset = record { payloads = []; broken = Some offset }

-- frames behind others
abbrev pub behind_frames : List (List ℕ) → Frames → Frames
behind_frames payloads frames = record { payloads = payloads ++ frames.payloads; broken = frames.broken }

-- more goes on behind a frame at its offset
abbrev pub then_more : (ℕ → List ℕ → Frames) → ℕ → Option (List ℕ × List ℕ) → Frames
then_more more offset None = broken_at offset
then_more more offset (Some found) = behind_frames (found.0 ∷ []) (more (offset + 5 + length found.0) found.1)

-- at most so many frames, from an offset on
unfoldable pub frames_at : ℕ → ℕ → List ℕ → Frames
frames_at zero offset bytes = sound []
frames_at (suc most) offset bytes = if is_open bytes then then_more (frames_at most) offset (body_at (drop 1 bytes)) else sound []

abbrev pub frames_in : List ℕ → Frames
frames_in bytes = frames_at (length bytes) 0 bytes

-- those of a file
abbrev pub frames_of : ℕ → Files → Frames
frames_of file files = frames_in (held files file)

abbrev pub payloads_of : ℕ → Files → List (List ℕ)
payloads_of file files = (frames_of file files).payloads

-- The file is frames of these payloads and then a gate that is not 01, at this place.
pub record AtRest (bytes : List ℕ) (payloads : List (List ℕ)) (place : ℕ) : Type 0 where
  pub gate : ℕ
  pub behind : List ℕ
  pub whole : bytes ≡ flat_map frame payloads ++ gate ∷ behind
  pub shut : gate ≢ 1
  pub place_is : place ≡ length (flat_map frame payloads)
  pub fit : AllFit payloads

-- The log in this file is at rest, and nothing of it is pending.
pub record Settled {D : Type 0} (seen : D → Files) (now : D → ℕ) (leaves : D → ℕ → Files → Type 0) (file : ℕ) (disk : D) (place : ℕ) : Type 0 where
  pub rest : AtRest (held (seen disk) file) (payloads_of file (seen disk)) place
  pub stable : Stable seen now leaves file disk

-- behind a closed gate these bytes are whole frames, the first one's gate aside, and a closed gate
pub record IsBatch (bytes : List ℕ) (payloads : List (List ℕ)) : Type 0 where
  pub spelled : 1 ∷ bytes ≡ flat_map frame payloads ++ 0 ∷ []
  pub fit : AllFit payloads

-- a crash at the disk's last moment leaves frames of these payloads in the file
abbrev pub HoldsFrames : {D : Type 0} → (D → ℕ) → (D → ℕ → Files → Type 0) → ℕ → D → List (List ℕ) → Type 0
HoldsFrames now leaves file disk payloads = (c : Files) → leaves disk (now disk) c → frames_of file c ≡ sound payloads

-- the file is there, and its frames are the old ones, or the old and the new
abbrev pub IsEither : List (List ℕ) → List (List ℕ) → Option (List ℕ) → Type 0
IsEither old new file = IsSome file × ((frames_in (bytes_of file) ≡ sound old) ⊎ (frames_in (bytes_of file) ≡ sound (old ++ new)))

-- The bytes are frames of these payloads up to this place, where a gate is closed.
pub record EndsAt (bytes : List ℕ) (payloads : List (List ℕ)) (place : ℕ) : Type 0 where
  pub whole : bytes ≡ flat_map frame payloads ++ drop place bytes
  pub within : place ≤ length bytes
  pub place_is : place ≡ length (flat_map frame payloads)
  pub fit : AllFit payloads
  pub shut : is_open (drop place bytes) ≡ false

-- the file is frames of these payloads, and at most one byte more
pub record IsShort (payloads : List (List ℕ)) (file : Option (List ℕ)) : Type 0 where
  pub behind : List ℕ
  pub whole : bytes_of file ≡ flat_map frame payloads ++ behind
  pub short : length behind ≤ 1

-- a crash now leaves what is read of the file, or no more than one byte where nothing is
pub record IsSteady {D : Type 0} (seen : D → Files) (now : D → ℕ) (leaves : D → ℕ → Files → Type 0) (file : ℕ) (disk : D) : Type 0 where
  pub each : (c : Files) → leaves disk (now disk) c → (c file ≡ seen disk file) ⊎ ((seen disk file ≡ None) × (length (held c file) ≤ 1))

-- This image has the frames of one that a crash at the last moment of that disk might have left, and all other files of that one.
pub record IsFrom {D : Type 0} (now : D → ℕ) (leaves : D → ℕ → Files → Type 0) (file : ℕ) (disk : D) (c : Files) : Type 0 where
  pub image : Files
  pub was_left : leaves disk (now disk) image
  pub frames : frames_of file c ≡ frames_of file image
  pub others : (n : ℕ) → IsNoneOf (file ∷ []) n → c n ≡ image n
