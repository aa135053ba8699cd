use Rattle.std.proofs.Common.{◌≡◌, ap, ◌∙◌, ◌++◌, ◌∷◌, [], arith, refl}
use Rattle.kt_bytes.proofs.Cuts.{pushed_cut, pushed_view}
use Rattle.kt_bytes.proofs.texts.Texts.push_parts.Goals as goal

pub invariant_of-self-2 : goal.invariant_of-self-2
invariant_of-self-2 c =
    let ends : c.push.new.self.items ≡ c.self.inside.ends.items ++ c.len-end.result ∷ [] = c.in_ok-push.ensures.items ∙ ap (λ xs. xs ++ c.len-end.result ∷ []) c.reserve.ensures.items in
    pushed_cut c.self.inside.ends.items c.self.inside.bytes.items _ c.push.new.self.items c.append_parts.new.bytes.items c.len-end.result c.self.invariant ends c.in_ok-append_parts.ensures.ok (omega arith)

pub returns-clause-ok : goal.returns-clause-ok
returns-clause-ok c =
    let ends : c.push.new.self.items ≡ c.self.inside.ends.items ++ c.len-end.result ∷ [] = c.in_ok-push.ensures.items ∙ ap (λ xs. xs ++ c.len-end.result ∷ []) c.reserve.ensures.items in
    pushed_view c.self.inside.ends.items c.self.inside.bytes.items _ c.push.new.self.items c.append_parts.new.bytes.items c.len-end.result c.args.self.now _ c.self.view_is c.self.invariant ends c.in_ok-append_parts.ensures.ok (omega arith) refl
