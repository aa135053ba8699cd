use Rattle.std.proofs.Common.{◌∙◌, ◌++◌, ◌∷◌, ◌≤◌, ℕ, List, [], length, get_or, sym, ap, arith}
use Rattle.std.proofs.lemmas.Option.{get_or_from_slice_get}
use Rattle.kt_history.specs.Rows.{Rows}
use Rattle.kt_baseset.specs.Rows.{keys_in}
use Rattle.kt_baseset.specs.Tables.{key_at}
use Rattle.kt_diskrowset.specs.Data.{keys_of}
use Rattle.kt_diskrowset.specs.Page.{told_at, rows_under}
use Rattle.kt_diskrowset.proofs.Pages.{rows_more}
use Rattle.kt_diskrowset.proofs.Plain.{keys_count, key_got}
use Rattle.kt_diskrowset.proofs.Tables.{all_between}
use Rattle.kt_diskrowset.proofs.data.RowSetData.all_rows.Goals as goal

pub get-requires : goal.get-requires
get-requires c =
    let n = ap length c.in_ok-keys.ensures in
    omega (arith, n, keys_count c.args.self.now.base.set.value.rows, c.rows-count.ensures, c.ordinals-test.true)

pub push_whole-requires-clause-named : goal.push_whole-requires-clause-named
push_whole-requires-clause-named c =
    let rows = c.args.self.now.base.set.value.rows in
    let i = c.ordinals.ordinal in
    c.get.ensures ∙ ap (λ (keys : List (List ℕ)). get_or keys i []) c.in_ok-keys.ensures ∙ get_or_from_slice_get (keys_in rows) i (key_at rows i) [] (key_got rows i (omega (arith, c.rows-count.ensures, c.ordinals-test.true)))

pub ordinals-preserved : goal.ordinals-preserved
ordinals-preserved c =
    let d = c.args.self.now in
    let rows = d.base.set.value.rows in
    let n = c.rows-count.ensures in
    let lt = c.ordinals-test.true in
    c.in_ok-push_whole.ensures ∙ ap (λ (rs : Rows). rs ++ rows_under (told_at c.args.t d) (key_at rows c.ordinals.ordinal ∷ [])) c.ordinals.invariant
    ∙ sym (rows_more (told_at c.args.t d) rows 0 c.ordinals.ordinal (omega arith) (omega arith))

pub returns : goal.returns
returns c =
    let d = c.args.self.now in
    let whole : length (keys_of d) ≤ c.ordinals.ordinal = (let n = keys_count d.base.set.value.rows in let m = c.rows-count.ensures in let past = c.ordinals-test.false in omega arith) in
    c.ordinals.invariant ∙ ap (rows_under (told_at c.args.t d)) (all_between (keys_of d) c.ordinals.ordinal whole)
