use Rattle.std.proofs.Common.{◌≡◌, ◌++◌, length}
use Rattle.std.specs.List.{filter}
use Rattle.std.specs.Option.{option_copied}
use Rattle.kt_history.specs.Views.{is_above}
use Rattle.kt_scan.specs.Encoded.{keys_of}
use Rattle.kt_scan.specs.Live.{all_keys}
use Rattle.kt_scan.proofs.RowLines.{shown_of}
use Rattle.kt_scan.proofs.scanning.run.Given as goal

abbrev pub invariant-loop-key : goal.invariant-loop-key
invariant-loop-key g l = l.rows ++ shown_of g.V.View.row_of l.views l.t (keys_of l.schema) l.scan (filter (is_above (option_copied l.after)) (all_keys g.V.View.keys l.views))
    ≡ shown_of g.V.View.row_of l.views l.t (keys_of l.schema) l.scan (all_keys g.V.View.keys l.views)

abbrev pub decreases-loop-key : goal.decreases-loop-key
decreases-loop-key g l = length (filter (is_above (option_copied l.after)) (all_keys g.V.View.keys l.views))
