use Rattle.std.proofs.Common.{◌≡◌, List, ℕ, ◌∷◌, ◌++◌, Some, None, ◌∙◌, sym, ap, length, arith, refl}
use Rattle.std.specs.List.{filter}
use Rattle.std.specs.Option.{option_copied, option_to_list}
use Rattle.kt_history.specs.Views.{is_above, key_above}
use Rattle.kt_scan.specs.Encoded.{keys_of}
use Rattle.kt_base.specs.declared.cell.Kind.{Kind}
use Rattle.kt_scan.specs.Live.{all_keys, row_in}
use Rattle.kt_scan.specs.Lines.{line_of}
use Rattle.kt_scan.proofs.KeyOrder.{above_none, filter_none, filter_some, all_rise}
use Rattle.kt_scan.proofs.RowLines.{shown_of, shown_then, shown_all}
use Rattle.kt_scan.proofs.scanning.run.Goals as goal

pub loop-key-init : goal.loop-key-init
loop-key-init g c = rw c.new-rows.ensures (ap (shown_of g.V.View.row_of c.args.views.now c.args.t (keys_of c.args.schema.now) c.args.scan.now) (above_none (all_keys g.V.View.keys c.args.views.now)))

pub loop-key-preserved : goal.loop-key-preserved
loop-key-preserved g c =
    let all : List (List ℕ) = all_keys g.V.View.keys c.args.views.now in
    let row = g.V.View.row_of in
    let ids : List (ℕ × Kind) = keys_of c.args.schema.now in
    let found : key_above (option_copied c.loop-key.after) all ≡ Some c.in-Some.key.now = sym c.next_key.ensures ∙ ap option_copied c.in-Some.is in
    let parts : filter (is_above (option_copied c.loop-key.after)) all ≡ c.in-Some.key.now ∷ filter (is_above (Some c.in-Some.key.now)) all = filter_some (option_copied c.loop-key.after) all c.in-Some.key.now (all_rise g.V.View.keys c.args.views.now) found in
    let told : c.push_line.new.rows ≡ c.loop-key.rows ++ option_to_list (line_of ids c.args.scan.now c.in-Some.key.now (row_in row c.args.views.now c.in-Some.key.now c.args.t)) =
    rw (c.of-asked.ensures.schema, c.of-asked.ensures.scan) at c.in_ok-push_line.ensures in
    rw told (shown_then row c.args.views.now c.args.t ids c.args.scan.now c.loop-key.rows (shown_of row c.args.views.now c.args.t ids c.args.scan.now all) (line_of ids c.args.scan.now c.in-Some.key.now (row_in row c.args.views.now c.in-Some.key.now c.args.t)) c.in-Some.key.now
    (filter (is_above (option_copied c.loop-key.after)) all) (filter (is_above (Some c.in-Some.key.now)) all) parts refl c.loop-key.invariant)

pub loop-key-smaller : goal.loop-key-smaller
loop-key-smaller g c =
    let all : List (List ℕ) = all_keys g.V.View.keys c.args.views.now in
    let found : key_above (option_copied c.loop-key.after) all ≡ Some c.in-Some.key.now = sym c.next_key.ensures ∙ ap option_copied c.in-Some.is in
    let parts : filter (is_above (option_copied c.loop-key.after)) all ≡ c.in-Some.key.now ∷ filter (is_above (Some c.in-Some.key.now)) all = filter_some (option_copied c.loop-key.after) all c.in-Some.key.now (all_rise g.V.View.keys c.args.views.now) found in
    omega (arith, ap length parts)

pub returns : goal.returns
returns g c =
    let all : List (List ℕ) = all_keys g.V.View.keys c.args.views.now in
    let ids : List (ℕ × Kind) = keys_of c.args.schema.now in
    let none : key_above (option_copied c.loop-key.after) all ≡ None = sym c.next_key.ensures ∙ ap option_copied c.in_default.is in
    shown_all g.V.View.row_of c.args.views.now c.args.t ids c.args.scan.now c.loop-key.rows (shown_of g.V.View.row_of c.args.views.now c.args.t ids c.args.scan.now all)
    (filter (is_above (option_copied c.loop-key.after)) all) (filter_none (is_above (option_copied c.loop-key.after)) all none) c.loop-key.invariant
