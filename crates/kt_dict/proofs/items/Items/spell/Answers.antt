use Rattle.std.proofs.Common.{◌≡◌, ◌++◌, ◌∙◌, ap, subst, List, ℕ, length}
use Rattle.std.specs.List.{flat_map}
use Rattle.kt_dict.specs.Spelling.{short, spelling, Fits}
use Rattle.kt_dict.specs.Writing.{text}
use Rattle.kt_dict.proofs.Held.{held_spelled, held_fits}
use Rattle.kt_dict.proofs.items.Items.spell.Goals as goal

pub returns : goal.returns
returns c =
    let entries = c.self.inside.entries in
    let codes = c.self.inside.codes.items in
    let first : c.put_short.new.out.items ≡ short (length entries) = c.in_ok-put_short.ensures ∙ (ap (λ (t : List ℕ). t ++ short c.len.result) c.in_ok-out.ensures.items ∙ ap short c.len.ensures) in
    let second : c.put_texts.new.out.items ≡ short (length entries) ++ flat_map text entries = c.in_ok-put_texts.ensures ∙ ap (λ (t : List ℕ). t ++ flat_map text entries) first in
    let third : c.put_places.new.out.items ≡ (short (length entries) ++ flat_map text entries) ++ flat_map short codes = c.in_ok-put_places.ensures ∙ (ap (λ (t : List ℕ). t ++ flat_map short c.deref.result.now) second ∙ ap (λ (t : List ℕ). (short (length entries) ++ flat_map text entries) ++ flat_map short t) c.deref.ensures.value) in
    (c.of.ensures ∙ (third ∙ (held_spelled entries codes c.self.invariant ∙ ap spelling c.self.view_is)), subst Fits c.self.view_is (held_fits entries codes c.self.invariant))
