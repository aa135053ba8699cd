use Rattle.std.proofs.Common.{◌∙◌, sym, ap, Some, List, ℕ}
use Rattle.std.specs.Option.{option_copied}
use Rattle.kt_memrowset.proofs.Releasing.{key_there, key_none}
use Rattle.kt_memrowset.proofs.store.MemRowSet.key_after.Goals as goal

pub returns-in-None : goal.returns-in-None
returns-in-None c = sym (key_none c.args.self.now c.args.pool.now (option_copied c.args.after) c.in-None.ensures.pair)

pub returns-in_ok-octets_at-in-Some : goal.returns-in_ok-octets_at-in-Some
returns-in_ok-octets_at-in-Some c = ap (λ (k : List ℕ). Some k) c.in_ok-octets_at-in-Some.ensures ∙ sym (key_there c.args.self.now c.args.pool.now (option_copied c.args.after) c.in-Some.pair c.in-Some.ensures.pair)
