use Rattle.std.proofs.Common.{◌≡◌, ℕ, ◌+◌, ◌^◌, ◌<◌, List, length, drop, sym, ap, ◌∙◌, subst, arith}
use Rattle.std.specs.Int.{w16, from_le_bytes}
use Rattle.kt_cells.specs.Spelled.{SpellsCells}
use Rattle.kt_history.specs.Spelled.{key_len, op_in}
use Rattle.kt_history.proofs.Spelled.{two_are, key_is, cells_are, cells_of, op_is}
use Rattle.kt_history.proofs.op_list.op_of.Goals as goal

len_is : (c : goal.After-kind_of) → c.from.result ≡ key_len c.args.bytes.now
len_is c = c.from.ensures ∙ (c.from_le_bytes.ensures ∙ ap (from_le_bytes w16) (two_are c.args.bytes.now c.in-len3-up.len_at_least))

key_same : (c : goal.After-kind_of) → c.split_at.result.0.now ≡ (op_in c.args.bytes.now).key
key_same c = key_is c.args.bytes.now c.split_at.result.0.now _ _ (len_is c) (omega arith) c.split_at.ensures.front

cells_same : (c : goal.After-kind_of) → c.split_at.result.1.now ≡ drop (3 + key_len c.args.bytes.now) c.args.bytes.now
cells_same c = cells_are c.args.bytes.now c.split_at.result.1.now _ _ (len_is c) (omega arith) c.split_at.ensures.back

pub invariant_of-result : goal.invariant_of-result
invariant_of-result c = (subst (λ (key : List ℕ). length key < 2 ^ 16) (sym (key_same c)) c.requires.fits.key, subst SpellsCells (sym (cells_same c)) (cells_of c.args.bytes.now c.requires))

pub returns : goal.returns
returns c = op_is c.args.bytes.now c.kind_of.result c.split_at.result.0.now c.split_at.result.1.now c.kind_of.ensures (key_same c) (cells_same c)
