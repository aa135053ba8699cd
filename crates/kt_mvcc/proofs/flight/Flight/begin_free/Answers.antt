use Rattle.std.proofs.Common.{List, [], ◌∷◌, ◌++◌, subst}
use Rattle.kt_mvcc.specs.declared.flier.Flier.{Flier}
use Rattle.kt_mvcc.specs.Held.{Tells}
use Rattle.kt_mvcc.proofs.flight.Flight.begin_free.Goals as goal

pub note-requires : goal.note-requires
note-requires c = rw c.deref.ensures.value c.self.invariant

pub invariant_of-self : goal.invariant_of-self
invariant_of-self c =
    let one : Flier = record { who = c.args.who; ts = c.next-ts.result; keys = c.args.keys } in
    rw c.push_reserved.ensures.items (subst (λ (flying : List Flier). Tells c.note.new.held (flying ++ one ∷ [])) c.deref.ensures.value (c.note.ensures c.next-ts.result))
