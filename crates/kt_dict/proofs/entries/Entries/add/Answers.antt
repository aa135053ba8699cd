use Rattle.std.proofs.Common.{◌≡◌, ◌++◌, ◌∷◌, [], ◌∙◌, ap, sym, subst, length, arith, List, ℕ}
use Rattle.std.specs.List.{flat_map}
use Rattle.kt_dict.specs.Spelling.{with_entry}
use Rattle.kt_dict.specs.Writing.{text}
use Rattle.kt_dict.proofs.Owned.{lists, stays, pushed, is_new, text_more}
use Rattle.kt_dict.proofs.entries.Entries.add.Goals as goal

pub returns-then-contains : goal.returns-then-contains
returns-then-contains c =
    subst (λ (ds : List (List ℕ)). ds ≡ with_entry ds c.args.item.now) c.self.view_is (stays c.self.inside.table.keys c.args.item.now (sym c.contains.ensures ∙ c.if-contains.true))

pub invariant_of-self-2 : goal.invariant_of-self-2
invariant_of-self-2 c =
    let item : List ℕ = c.args.item.now in
    let keys = c.self.inside.table.keys in
    let new : lists c.insert.new.self.keys ≡ lists keys ++ item ∷ [] = pushed keys c.insert.new.self.keys c.in_ok-from_slice.field-0 item (sym c.contains.ensures ∙ c.if-contains.false) c.in_ok-from_slice.ensures.items c.in_ok-insert.ensures.keys in
    omega (arith, c.self.invariant, text_more (lists keys) item, ap (λ (ds : List (List ℕ)). length (flat_map text ds)) new)

pub returns : goal.returns
returns c =
    let item : List ℕ = c.args.item.now in
    let keys = c.self.inside.table.keys in
    let absent = sym c.contains.ensures ∙ c.if-contains.false in
    pushed keys c.insert.new.self.keys c.in_ok-from_slice.field-0 item absent c.in_ok-from_slice.ensures.items c.in_ok-insert.ensures.keys
    ∙ (is_new keys item absent ∙ ap (λ (ds : List (List ℕ)). with_entry ds item) c.self.view_is)
