use Rattle.std.proofs.Common.{◌≡◌, sym, ap, ◌∙◌, rules, tests}
use Rattle.std.specs.List.{list_any}
use Rattle.std.proofs.lemmas.Iterator.{YieldsList-from_slice}
use Rattle.std.proofs.lemmas.Iterator.Search.{any_from_yields_List}
use Rattle.kt_engine.specs.JobSteps.{names}
use Rattle.kt_engine.proofs.Passes.{none_flush}
use Rattle.kt_engine.proofs.upkeep.shares.Goals as goal

pub returns-in-Compact-default : goal.returns-in-Compact-default
returns-in-Compact-default c =
    let found : c.any.result ≡ list_any (names c.args.held.now) c.as_slice.result.now =
    any_from_yields_List (names c.args.held.now) _ _ c.any.result c.any.ensures.ran (YieldsList-from_slice c.as_slice.result.now cc) (λ x b q k. search (rules, tests)) in
    rw c.in-Compact-default.is-0 (found ∙ ap (list_any (names c.args.held.now)) c.as_slice.ensures)

pub returns-in_default-Flush : goal.returns-in_default-Flush
returns-in_default-Flush c = rw (c.in_default-Flush.is-0, c.in_default-Flush.is-1) (sym (none_flush c.in_default-Flush.field-0-0))
