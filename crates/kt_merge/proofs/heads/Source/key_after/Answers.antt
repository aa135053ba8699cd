use Rattle.std.proofs.Common.{sym, subst}
use Rattle.kt_history.specs.Views.{AreRising}
use Rattle.kt_merge.specs.Heads.{source_keys, CanRead}
use Rattle.kt_merge.specs.declared.heads.Source.{Source}
use Rattle.kt_merge.proofs.KeyChanges.{keys_in_rise}
use Rattle.kt_merge.proofs.heads.Source.key_after.Goals as goal

pub returns-in_err-from_slice-in-Some-clause-rise : goal.returns-in_err-from_slice-in-Some-clause-rise
returns-in_err-from_slice-in-Some-clause-rise c = subst (λ (s : Source). AreRising (source_keys s)) (sym c.in-Mem.is) (keys_in_rise c.in-Mem.list.now (subst CanRead c.in-Mem.is c.requires))

pub returns-in_ok-from_slice-in-Some-clause-rise : goal.returns-in_ok-from_slice-in-Some-clause-rise
returns-in_ok-from_slice-in-Some-clause-rise c = subst (λ (s : Source). AreRising (source_keys s)) (sym c.in-Mem.is) (keys_in_rise c.in-Mem.list.now (subst CanRead c.in-Mem.is c.requires))

pub returns-in-None-clause-rise : goal.returns-in-None-clause-rise
returns-in-None-clause-rise c = subst (λ (s : Source). AreRising (source_keys s)) (sym c.in-Mem.is) (keys_in_rise c.in-Mem.list.now (subst CanRead c.in-Mem.is c.requires))
