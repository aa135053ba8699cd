use Rattle.std.proofs.Common.{◌≡◌, ap, ◌∙◌, ◌++◌, ◌∷◌, [], arith, refl}
use Rattle.kt_bytes.proofs.Cuts.{pushed_cut, pushed_view}
use Rattle.kt_bytes.proofs.texts.Texts.push.Goals as goal

pub invariant_of-self-2 : goal.invariant_of-self-2
invariant_of-self-2 c =
    let ends : c.push.new.self.items ≡ c.self.inside.ends.items ++ c.len-end.result ∷ [] = c.in_ok-push.ensures.items ∙ ap (λ xs. xs ++ c.len-end.result ∷ []) c.reserve.ensures.items in
    pushed_cut c.self.inside.ends.items c.self.inside.bytes.items c.args.text.now c.push.new.self.items c.extend_from_slice.new.self.items c.len-end.result c.self.invariant ends c.in_ok-extend_from_slice.ensures.items (omega arith)

pub returns-clause-ok : goal.returns-clause-ok
returns-clause-ok c =
    let ends : c.push.new.self.items ≡ c.self.inside.ends.items ++ c.len-end.result ∷ [] = c.in_ok-push.ensures.items ∙ ap (λ xs. xs ++ c.len-end.result ∷ []) c.reserve.ensures.items in
    pushed_view c.self.inside.ends.items c.self.inside.bytes.items c.args.text.now c.push.new.self.items c.extend_from_slice.new.self.items c.len-end.result c.args.self.now c.args.text.now c.self.view_is c.self.invariant ends c.in_ok-extend_from_slice.ensures.items (omega arith) refl
