use Rattle.std.proofs.Common.{◌≡◌, ℕ, List, [], ◌∷◌, ◌++◌, Option, sym, ◌∙◌, ap, subst}
use Rattle.std.specs.Prelude.{◌↔◌, IsSome}
use Rattle.std.specs.List.{Contains}
use Rattle.std.specs.List.Sorted.{IsStrictlySortedBy}
use Rattle.std.specs.Ordering.{nat_cmp}
use Rattle.std.specs.BTreeMap as tree
use Rattle.std.specs.Cmp.{nat_cmp_total}
use Rattle.std.proofs.lemmas.Map.Lookups.{exact_unsigned}
use Rattle.std.proofs.lemmas.Map.Views.{btree_map_contains_key_iff}
use Rattle.kt_disk.specs.Memory.{MemView, stored, as_bytes, mem_seen}
use Rattle.kt_disk.specs.declared.event.Event.{Event}
use Rattle.kt_disk.specs.declared.event.Change.TheVariants as change
use Rattle.kt_disk.proofs.Bytes.{some_bytes}
use Rattle.kt_disk.proofs.OneCall.{looked}
use Rattle.kt_host.proofs.ram.RamDiskDisk.files.Goals as goal

pub returns-clause-files : goal.returns-clause-files
returns-clause-files c told =
    let files = c.self.inside.files in
    let found = c.of.result in
    let all : found ≡ tree.keys files = c.of.ensures ∙ c.in_ok-numbers.ensures.numbers in
    let reads : (n : ℕ) → tree.get nat_cmp files n ≡ stored c.args.self.now n = λ n. c.self.invariant n ∙ ap (λ (v : MemView). stored v n) c.self.view_is in
    record {
      rising = subst (λ (l : List ℕ). IsStrictlySortedBy nat_cmp l) (sym all) c.numbers.ensures.rising;
      each = λ n.
          let has = btree_map_contains_key_iff nat_cmp_total exact_unsigned files n in
          subst (λ (l : List ℕ). Contains l n ↔ IsSome (mem_seen c.args.self.now n)) (sym all)
          (subst (λ (x : Option (List ℕ)). Contains (tree.keys files) n ↔ IsSome (as_bytes x)) (reads n) ((λ there. (some_bytes (tree.get nat_cmp files n)).0 (has.1 there)), (λ some. has.0 ((some_bytes (tree.get nat_cmp files n)).1 some))));
    }

pub returns-in_err-numbers-clause-images : goal.returns-in_err-numbers-clause-images
returns-in_err-numbers-clause-images c told =
    let event : Event = record { file = 0; change = change.Look } in
    looked _ _ 0 (ap (λ (v : MemView). v.start) c.self.view_is) (c.note.ensures ∙ ap (λ (v : MemView). v.calls ++ event ∷ []) c.self.view_is)

pub returns-clause-images : goal.returns-clause-images
returns-clause-images c told =
    let event : Event = record { file = 0; change = change.Look } in
    looked _ _ 0 (ap (λ (v : MemView). v.start) c.self.view_is) (c.note.ensures ∙ ap (λ (v : MemView). v.calls ++ event ∷ []) c.self.view_is)
