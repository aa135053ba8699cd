use Rattle.std.proofs.Common.{◌≡◌, sym, ◌∙◌}
use Rattle.std.specs.Option.{option_copied}
use Rattle.kt_reopen.specs.Both.{count_why}
use Rattle.kt_reopen.proofs.Counted.{none_bare}
use Rattle.kt_reopen.proofs.devices.read_devices.Goals as goal

pub returns-in-None-clause-bare : goal.returns-in-None-clause-bare
returns-in-None-clause-bare g c = λ none.
    let copied : option_copied c.as_ref-2.result ≡ c.in-Ok.meta = c.as_ref-2.ensures.value in
    none_bare c.in-Ok.meta c.in-Ok-open_journal.opened.1 ((λ i. count_why (sym copied i) (sym c.len.ensures i)) ∙ sym c.count_why.ensures ∙ c.in-None.is) none
