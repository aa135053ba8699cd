use Rattle.std.proofs.Common.{◌≡◌, take}
use Rattle.std.specs.Option.{option_copied}
use Rattle.kt_history.specs.Views.{key_above}
use Rattle.kt_scan.specs.Live.{all_keys}
use Rattle.kt_scan.proofs.keys.next_key.Given as goal

abbrev pub invariant-loop-at : goal.invariant-loop-at
invariant-loop-at g l = option_copied l.found ≡ key_above (option_copied l.after) (all_keys g.V.View.keys (take l.at l.views))
