use Rattle.std.proofs.Common.{is_some, sym, ap, ◌∙◌}
use Rattle.kt_stores.specs.Shelf.{has_live, stores_of}
use Rattle.kt_stores.proofs.Seeking.{position_is}
use Rattle.kt_stores.proofs.Taking.{live_some}
use Rattle.kt_stores.proofs.stores.Stores.live.Goals as goal

pub returns-clause-live : goal.returns-clause-live
returns-clause-live g c = c.is_some.ensures ∙ ap is_some (c.first.ensures.first ∙ position_is (has_live c.args.key.now) (stores_of c.args.self.now)) ∙ sym (live_some c.args.key.now (stores_of c.args.self.now))
