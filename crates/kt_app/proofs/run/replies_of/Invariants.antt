use Rattle.std.proofs.Common.{◌≡◌, ◌++◌, map}
use Rattle.std.specs.Vec.Iter.{into_iter_items}
use Rattle.kt_serve.specs.declared.session.SessionEnd.{SessionEnd}
use Rattle.kt_app.proofs.run.replies_of.Given as goal

abbrev pub invariant-loop-end : goal.invariant-loop-end
invariant-loop-end l = record {
  can_next : goal.iterator-loop-end.can_next l.end-iterator;
  is_finite : goal.iterator-loop-end.is_finite l.end-iterator;
  moved : l.replies.items ++ map (λ (e : SessionEnd). e.replies) (into_iter_items l.end-iterator) ≡ map (λ (e : SessionEnd). e.replies) l.fn.ends.items;
}
