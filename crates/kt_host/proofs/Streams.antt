-- What a call on a stream does after calls that failed.
use Rattle.std.proofs.Common.{ℕ, List, None, Some, Result, Ok, Err, IsErr, refl, sym, ap, take, ◌++◌, ◌∙◌}
use Rattle.std.proofs.lemmas.Bool.{false≢true}
use Rattle.std.specs.Prelude.{Option}
use Rattle.std.specs.Io.KnownBytes.{Keeps, Consumes, Appends, ReadConsumes, WriteAppends}

-- bytes that stayed
pub kept : (a : Option (List ℕ)) → Keeps a a
kept None = tt
kept (Some x) = refl

-- bytes that stayed twice
pub kept_still : (a b c : Option (List ℕ)) → Keeps a b → Keeps b c → Keeps a c
kept_still None b c p q = tt
kept_still (Some x) None c p q = absurd p
kept_still (Some x) (Some y) None p q = absurd q
kept_still (Some x) (Some y) (Some z) p q = q ∙ p

-- bytes that stayed, and then lost their front
kept_consumed : (a b c : Option (List ℕ)) (bytes : List ℕ) → Keeps a b → Consumes b c bytes → Consumes a c bytes
kept_consumed None b c bytes p q = tt
kept_consumed (Some x) None c bytes p q = absurd p
kept_consumed (Some x) (Some y) None bytes p q = absurd q
kept_consumed (Some x) (Some y) (Some z) bytes p q = sym p ∙ q

-- bytes that stayed, and then grew
kept_appended : (a b c : Option (List ℕ)) (bytes : List ℕ) → Keeps a b → Appends b c bytes → Appends a c bytes
kept_appended None b c bytes p q = tt
kept_appended (Some x) None c bytes p q = absurd p
kept_appended (Some x) (Some y) None bytes p q = absurd q
kept_appended (Some x) (Some y) (Some z) bytes p q = q ∙ ap (λ l. l ++ bytes) p

-- a read after calls that left the bytes as they were consumes what it gives
pub read_after : {E : Type 0} → (a b c : Option (List ℕ)) (r : Result ℕ E) (into : List ℕ) → Keeps a b → ReadConsumes b c r into → ReadConsumes a c r into
read_after a b c (Ok n) into p q = (kept_consumed a b c (take n into) p q.0, q.1)
read_after a b c (Err e) into p q = kept_still a b c p q

-- and a write appends what it took
pub write_after : {E : Type 0} → (a b c : Option (List ℕ)) (r : Result ℕ E) (piece : List ℕ) → Keeps a b → WriteAppends b c r piece → WriteAppends a c r piece
write_after a b c (Ok n) piece p q = kept_appended a b c (take n piece) p q
write_after a b c (Err e) piece p q = kept_still a b c p q

-- a call that failed left the bytes as they were
pub read_failed : {E : Type 0} → (a b : Option (List ℕ)) (r : Result ℕ E) (into : List ℕ) → ReadConsumes a b r into → IsErr r → Keeps a b
read_failed a b (Ok n) into p e = absurd (false≢true e)
read_failed a b (Err x) into p e = p

pub write_failed : {E : Type 0} → (a b : Option (List ℕ)) (r : Result ℕ E) (piece : List ℕ) → WriteAppends a b r piece → IsErr r → Keeps a b
write_failed a b (Ok n) piece p e = absurd (false≢true e)
write_failed a b (Err x) piece p e = p
