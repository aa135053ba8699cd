use Rattle.std.proofs.Common.{◌≤◌, ◌∙◌, ◌++◌, ◌∷◌, [], ℕ, List, take, length, ap, arith}
use Rattle.std.proofs.lemmas.List.{map-append, take_all}
use Rattle.kt_history.specs.declared.changes.Delta.{Delta}
use Rattle.kt_diskrowset.specs.declared.files.FileHeld.{FileHeld}
use Rattle.kt_diskrowset.specs.Files.{lists_of, as_file, as_files}
use Rattle.kt_deltafile.specs.File.{FileView}
use Rattle.kt_diskrowset.proofs.Copying.{lists_same}
use Rattle.kt_merge.proofs.rewrite.with_file.Goals as goal

pub returns-clause-lists : goal.returns-clause-lists
returns-clause-lists c =
    let all = c.files.all.items in
    let held = c.args.files.now in
    let past : length held ≤ c.files.held-index = (let e = ap length c.as_slice-held-items.ensures in omega (arith, e, c.files-test.false)) in
    let file = c.args.file in
    ap lists_of (c.of.ensures ∙ c.in_ok-push-2.ensures.items)
    ∙ map-append (λ (f : FileHeld). f.deltas.value.list) all (file ∷ [])
    ∙ ap (λ (ls : List (List Delta)). ls ++ file.deltas.value.list ∷ []) (lists_same all (take c.files.held-index held) c.files.invariant ∙ ap lists_of (take_all c.files.held-index held past))

pub returns-clause-files : goal.returns-clause-files
returns-clause-files c =
    let all = c.files.all.items in
    let held = c.args.files.now in
    let past : length held ≤ c.files.held-index = (let e = ap length c.as_slice-held-items.ensures in omega (arith, e, c.files-test.false)) in
    let file = c.args.file in
    ap as_files (c.of.ensures ∙ c.in_ok-push-2.ensures.items) ∙ map-append as_file all (file ∷ [])
    ∙ ap (λ (fs : List (ℕ × ℕ × FileView)). fs ++ as_file file ∷ []) (c.files.invariant ∙ ap as_files (take_all c.files.held-index held past))
