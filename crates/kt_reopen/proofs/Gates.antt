-- One record more before the gate of a COMMIT.
use Rattle.std.proofs.Common.{◌≡◌, ℕ, ◌+◌, List, ◌∷◌, length, true, false, cond, refl, ap, arith}
use Rattle.kt_records.specs.declared.entry.Entry.{Entry}
use Rattle.kt_records.specs.declared.entry.Entry.TheVariants.{Replicate, Commit}
use Rattle.kt_records.specs.Spelling.{spelling}
use Rattle.kt_loglaws.specs.Replay.{gate_of}
use Rattle.kt_reopen.specs.Commits.{is_commit_of}

-- a gate is behind the records so far, and the rest follows
pub record Gate (ts : ℕ) (records : List Entry) (gate : ℕ) (rest : List Entry) : Type 0 where
  pub more : gate + gate_of ts rest ≡ gate_of ts records

pub first_gate : (ts : ℕ) (records : List Entry) → Gate ts records 0 records
first_gate ts records = record { more = omega arith }

here : (ts : ℕ) (r : Entry) (rest : List Entry) → is_commit_of ts r ≡ true → gate_of ts (r ∷ rest) ≡ 0
here ts (Replicate t ops) rest h = cc
here ts (Commit t rows) rest h = ap (λ b. cond b 0 (5 + length (spelling (Commit t rows)) + gate_of ts rest)) h

on : (ts : ℕ) (r : Entry) (rest : List Entry) → is_commit_of ts r ≡ false → gate_of ts (r ∷ rest) ≡ 5 + length (spelling r) + gate_of ts rest
on ts (Replicate t ops) rest h = refl
on ts (Commit t rows) rest h = ap (λ b. cond b 0 (5 + length (spelling (Commit t rows)) + gate_of ts rest)) h

pub found_gate : (ts : ℕ) (records : List Entry) (gate : ℕ) (r : Entry) (rest : List Entry) → Gate ts records gate (r ∷ rest) → is_commit_of ts r ≡ true → gate ≡ gate_of ts records
found_gate ts records gate r rest g h = let zero_here = here ts r rest h in let more = g.more in omega arith

pub next_gate : (ts : ℕ) (records : List Entry) (gate next : ℕ) (r : Entry) (rest : List Entry) → Gate ts records gate (r ∷ rest) → is_commit_of ts r ≡ false → next ≡ gate + 5 + length (spelling r) → Gate ts records next rest
next_gate ts records gate next r rest g h e = record {
  more = let later = on ts r rest h in let more = g.more in omega arith;
}
