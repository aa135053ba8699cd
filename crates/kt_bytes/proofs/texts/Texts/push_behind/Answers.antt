use Rattle.std.proofs.Common.{◌≡◌, ◌-◌, ◌+◌, length, ap, ◌∙◌, ◌++◌, ◌∷◌, [], take, arith}
use Rattle.std.specs.List.{between}
use Rattle.kt_bytes.specs.Cuts.{start_at}
use Rattle.kt_bytes.specs.Cuts.{last}
use Rattle.kt_bytes.proofs.Cuts.{pushed_cut, pushed_view, shared_is, last_len}
use Rattle.kt_bytes.proofs.texts.Texts.push_behind.Goals as goal

pub append_behind-requires : goal.append_behind-requires
append_behind-requires c =
    let ends = c.self.inside.ends.items in
    let at : c.saturating_sub.result ≡ length ends - 1 = omega (arith, c.reserve.ensures.len) in
    let start : c.start_at-start.result ≡ start_at 0 ends (length ends - 1) = c.start_at-start.ensures ∙ (ap (λ xs. start_at 0 xs c.saturating_sub.result) (c.deref.ensures.value ∙ c.reserve.ensures.items) ∙ ap (λ k. start_at 0 ends k) at) in
    omega (arith, last_len ends c.self.inside.bytes.items c.args.self.now c.self.view_is c.self.invariant)

pub invariant_of-self-2 : goal.invariant_of-self-2
invariant_of-self-2 c =
    let ends : c.push.new.self.items ≡ c.self.inside.ends.items ++ c.len-end.result ∷ [] = c.in_ok-push.ensures.items ∙ ap (λ xs. xs ++ c.len-end.result ∷ []) c.reserve.ensures.items in
    pushed_cut c.self.inside.ends.items c.self.inside.bytes.items _ c.push.new.self.items c.append_behind.new.bytes.items c.len-end.result c.self.invariant ends c.in_ok-append_behind.ensures.ok (omega arith)

pub returns-clause-ok : goal.returns-clause-ok
returns-clause-ok c =
    let ends = c.self.inside.ends.items in
    let bytes = c.self.inside.bytes.items in
    let at : c.saturating_sub.result ≡ length ends - 1 = omega (arith, c.reserve.ensures.len) in
    let start : c.start_at-start.result ≡ start_at 0 ends (length ends - 1) = c.start_at-start.ensures ∙ (ap (λ xs. start_at 0 xs c.saturating_sub.result) (c.deref.ensures.value ∙ c.reserve.ensures.items) ∙ ap (λ k. start_at 0 ends k) at) in
    let front : between c.start_at-start.result (c.start_at-start.result + c.args.shared) bytes ≡ take c.args.shared (last c.args.self.now) = rw start (shared_is ends bytes c.args.self.now c.args.shared c.self.view_is c.self.invariant) in
    let ends_are : c.push.new.self.items ≡ ends ++ c.len-end.result ∷ [] = c.in_ok-push.ensures.items ∙ ap (λ xs. xs ++ c.len-end.result ∷ []) c.reserve.ensures.items in
    pushed_view ends bytes _ c.push.new.self.items c.append_behind.new.bytes.items c.len-end.result c.args.self.now _ c.self.view_is c.self.invariant ends_are c.in_ok-append_behind.ensures.ok (omega arith) (ap (λ xs. xs ++ c.args.rest.now) front)
