use Rattle.std.proofs.Common.{◌≡◌, ◌∙◌, List, ℕ, ap, sym, subst, IfOk}
use Rattle.kt_baseset.specs.Rows.{keys_in}
use Rattle.kt_baseset.specs.Tables.{BaseValue, keys_of}
use Rattle.kt_baseset.proofs.Transposed.{same_keys}
use Rattle.kt_baseset.proofs.baseset.BaseSet.keys.Goals as goal

pub all_of-requires : goal.all_of-requires
all_of-requires c = c.self.invariant.texts

pub returns : goal.returns
returns c =
    let inside = c.self.inside in
    let is : keys_of inside.keys.cells ≡ keys_in c.args.self.now.rows = sym (same_keys (keys_of inside.keys.cells) inside.columns.items) ∙ ap (λ (v : BaseValue). keys_in v.rows) c.self.view_is in
    subst (λ (ks : List (List ℕ)). IfOk c.all_of.result (λ keys. keys ≡ ks)) is c.all_of.ensures
