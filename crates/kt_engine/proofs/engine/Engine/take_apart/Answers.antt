use Rattle.std.proofs.Common.{◌∙◌, ap, sym}
use Rattle.kt_engine.proofs.engine.Engine.take_apart.Goals as goal

pub returns-clause-log : goal.returns-clause-log
returns-clause-log g c = (c.take_apart-journal.result.0, sym (ap (λ v. v.log.home) c.self.view_is) ∙ ap (λ l. l.home) (sym c.into_inner-2.ensures) ∙ c.take_apart-journal.ensures.journal, c.into_disk.ensures)

pub take_apart-journal-requires : goal.take_apart-journal-requires
take_apart-journal-requires g c = record { home = ap (λ l. l.holder) c.into_inner-2.ensures ∙ (ap (λ v. v.log.holder) c.self.view_is ∙ c.requires.home) }

pub take_apart-store-requires : goal.take_apart-store-requires
take_apart-store-requires g c = record { home = ap (λ s. s.holder) c.into_inner-3.ensures ∙ (ap (λ v. v.store.holder) c.self.view_is ∙ c.requires.store_home) }

pub returns-clause-store : goal.returns-clause-store
returns-clause-store g c = sym (ap (λ v. v.store.home) c.self.view_is) ∙ ap (λ s. s.home) (sym c.into_inner-3.ensures) ∙ c.take_apart-store.ensures.device

pub returns-clause-meta : goal.returns-clause-meta
returns-clause-meta g c = c.take_apart-store.ensures.meta ∙ ap (λ s. s.meta) c.into_inner-3.ensures ∙ ap (λ v. v.store.meta) c.self.view_is
