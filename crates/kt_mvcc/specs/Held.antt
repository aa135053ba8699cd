-- What the hashes of held keys tell.
use Rattle.std.specs.Prelude.{◌≡◌, ◌≢◌, ◌^◌, ◌*◌, ◌%◌, ◌==◌, ◌&&◌, ℕ, Bool, true, false, List, Some, None, nat_eq, bit_xor}
use Rattle.std.specs.List.{All, fold, list_any}
use Rattle.std.specs.HashMap.{get}
use Rattle.kt_mvcc.specs.declared.flier.Flier.{Flier}
use Rattle.kt_mvcc.specs.declared.held.Held.{Held}

-- one byte more of the hash FNV-1a of 64 bits
abbrev pub hash_step : ℕ → ℕ → ℕ
hash_step hash byte = bit_xor hash byte * 1099511628211 % 2 ^ 64

unfoldable pub hash_of : List ℕ → ℕ
hash_of key = fold hash_step 14695981039346656037 key

-- one of these keys has this hash
abbrev pub has_hash : ℕ → List (List ℕ) → Bool
has_hash hash keys = list_any (λ key. hash_of key == hash) keys

-- a flying write of this writer holds a key of this hash
abbrev pub holds_hash : ℕ → ℕ → List Flier → Bool
holds_hash hash who flying = list_any (λ f. (f.who == who) && has_hash hash f.keys) flying

-- at the hash of each held key stands its writer
abbrev pub HasEach : Held → List Flier → Type 0
HasEach held flying = All (λ f. All (λ key. get nat_eq held.writers (hash_of key) ≡ Some f.who) f.keys) flying

-- and each writer that stands at a hash flies and holds a key of that hash
abbrev pub HasOnly : Held → List Flier → Type 0
HasOnly held flying = (hash who : ℕ) → get nat_eq held.writers hash ≡ Some who → holds_hash hash who flying ≡ true

-- a whole index has the writer of each held key at the key's hash, and no other writer
abbrev pub Tells : Held → List Flier → Type 0
Tells held flying = held.whole ≡ true → HasEach held flying × HasOnly held flying

-- the index is whole, and no writer stands at the hash of any of the keys
abbrev pub IsFree : Held → List (List ℕ) → Type 0
IsFree held keys = (held.whole ≡ true) × All (λ key. get nat_eq held.writers (hash_of key) ≡ None) keys

-- the writers that stood stand, and it was as whole
abbrev pub Keeps : Held → Held → Type 0
Keeps old new = (new.whole ≡ true → old.whole ≡ true) × ((hash who : ℕ) → get nat_eq old.writers hash ≡ Some who → get nat_eq new.writers hash ≡ Some who)

-- the writers that stood stand, but one
abbrev pub KeepsOthers : ℕ → Held → Held → Type 0
KeepsOthers one old new = (new.whole ≡ true → old.whole ≡ true) × ((hash who : ℕ) → who ≢ one → get nat_eq old.writers hash ≡ Some who → get nat_eq new.writers hash ≡ Some who)

-- each writer that stands stood there
abbrev pub Stood : Held → Held → Type 0
Stood old new = (hash who : ℕ) → get nat_eq new.writers hash ≡ Some who → get nat_eq old.writers hash ≡ Some who

-- each writer that stands at another hash than those of these keys stood there
abbrev pub StoodElsewhere : List (List ℕ) → Held → Held → Type 0
StoodElsewhere keys old new = (hash who : ℕ) → has_hash hash keys ≡ false → get nat_eq new.writers hash ≡ Some who → get nat_eq old.writers hash ≡ Some who

-- where the flying write is this writer's, that writer stands at the hash of none of its keys
abbrev pub HasLeft : Held → ℕ → Flier → Type 0
HasLeft held who f = f.who ≡ who → All (λ key. get nat_eq held.writers (hash_of key) ≢ Some who) f.keys

-- where the writer did not stand, it does not stand
abbrev pub Lacks : ℕ → Held → Held → Type 0
Lacks one old new = (hash : ℕ) → get nat_eq old.writers hash ≢ Some one → get nat_eq new.writers hash ≢ Some one
