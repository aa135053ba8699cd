-- The writes that fly, with the keys that they hold.
use Rattle.std.specs.Prelude.{ℕ, Bool, List, [], map, Option, ◌==◌}
use Rattle.std.specs.List.{list_any, filter}
use Rattle.kt_history.specs.Machine as machine
use Rattle.kt_mvcc.specs.Keys.{same_key}
use Rattle.kt_mvcc.specs.declared.flier.Flier.{Flier}

-- c is the last timestamp, a the ancient history mark; room is how many writes more can begin without memory,
-- and key_room how many keys more can be found by their hashes
pub record Clock : Type 0 where
  pub c : ℕ
  pub a : ℕ
  pub flying : List Flier
  pub room : ℕ
  pub key_room : ℕ

-- a flying write as the tablet machine has it. Its session stands for it, and what it writes is not looked at
abbrev pub as_flying : Flier → machine.Flying
as_flying f = record { s = f.who; i = 0; ts = f.ts; ops = [] }

-- the least flying timestamp
abbrev pub least_of : List Flier → Option ℕ
least_of flying = machine.least (map as_flying flying)

-- whether a flying write holds one of these keys
abbrev pub holds_one : List (List ℕ) → Flier → Bool
holds_one keys f = list_any (λ key. list_any (λ held. same_key key held) f.keys) keys

-- the least flying write that holds one of these keys
abbrev pub holder : List (List ℕ) → List Flier → Option ℕ
holder keys flying = least_of (filter (holds_one keys) flying)

abbrev pub flies : ℕ → List Flier → Bool
flies who flying = list_any (λ f. f.who == who) flying
