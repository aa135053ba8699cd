use Rattle.std.proofs.Common.{◌≡◌, ◌++◌, ◌∷◌, [], List, ℕ, sym, ap, ◌∙◌, append_assoc, Ok}
use Rattle.std.proofs.lemmas.List.{map_push}
use Rattle.kt_bytes.specs.Reading.{Fails, many_at}
use Rattle.kt_super.specs.declared.meta.FileRef.{FileRef}
use Rattle.kt_super.specs.Rowsets.{numbers_of, file_at, next_file_at}
use Rattle.kt_super.proofs.Loops.{goes_on, ends, is_done}
use Rattle.kt_super.proofs.rowsets.files_of.Goals as goal

pub returns-in-Err-clause-files : goal.returns-in-Err-clause-files
returns-in-Err-clause-files c =
    let item = next_file_at c.args.next c.args.taken.now in
    let e = c.in-Err.error in
    let read : Fails e (file_at c.args.next c.loop.taken c.loop.rest.now) = c.in-Err.ensures in
    ends item c.args.count c.loop.counter c.loop.files.items c.loop.rest.now (many_at item c.args.count [] c.args.bytes.now) c.loop.invariant.reads e c.loop-test.true (rw c.loop.invariant.taken at read)

pub loop-preserved : goal.loop-preserved
loop-preserved c =
    let f = c.in-Ok.value.0 in
    let item = next_file_at c.args.next c.args.taken.now in
    let read : file_at c.args.next c.loop.taken c.loop.rest.now ≡ Ok (f, c.in-Ok.value.1.now) = c.in-Ok.ensures in
    record {
      reads = rw c.in_ok-push-2.ensures.items
          (goes_on item c.args.count c.loop.counter c.loop.files.items c.loop.rest.now (many_at item c.args.count [] c.args.bytes.now) c.loop.invariant.reads f c.in-Ok.value.1.now c.loop-test.true (rw c.loop.invariant.taken at read));
      taken = rw (c.in_ok-push.ensures, c.in_ok-push-2.ensures.items)
          (ap (λ (l : List ℕ). l ++ f.file ∷ []) c.loop.invariant.taken ∙ append_assoc c.args.taken.now (numbers_of c.loop.files.items) (f.file ∷ [])
          ∙ ap (λ (l : List ℕ). c.args.taken.now ++ l) (sym (map_push (λ (x : FileRef). x.file) c.loop.files.items f)));
    }

pub returns-clause-files : goal.returns-clause-files
returns-clause-files c =
    is_done (next_file_at c.args.next c.args.taken.now) c.args.count c.loop.counter c.loop.files.items c.loop.rest.now (many_at (next_file_at c.args.next c.args.taken.now) c.args.count [] c.args.bytes.now) c.loop.invariant.reads c.loop-test.false
