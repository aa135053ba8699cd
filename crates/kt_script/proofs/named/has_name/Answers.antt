use Rattle.std.proofs.Common.{◌≡◌, ◌∙◌, sym, ℕ, List, Bor, rules, tests}
use Rattle.std.specs.List.{list_any}
use Rattle.std.proofs.lemmas.Iterator.{YieldsList-from_slice}
use Rattle.std.proofs.lemmas.Iterator.Search.{any_from_yields_List}
use Rattle.kt_base.specs.Literals.{same}
use Rattle.kt_script.proofs.Selections.{any_map}
use Rattle.kt_script.proofs.named.has_name.Goals as goal

pub returns : goal.returns
returns c =
    let found : c.any.result ≡ list_any (λ (n : Bor (List ℕ)). same n.now c.args.name.now) c.args.names.now =
    any_from_yields_List (λ (n : Bor (List ℕ)). same n.now c.args.name.now) _ _ c.any.result c.any.ensures.ran (YieldsList-from_slice c.args.names.now cc) (λ x b q k. search (rules, tests)) in
    found ∙ sym (any_map (λ n. same n c.args.name.now) (λ (n : Bor (List ℕ)). n.now) c.args.names.now)
