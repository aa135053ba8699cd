use Rattle.std.proofs.Common.{Ok, refl, ◌≡◌, ◌+◌, ◌∙◌, ℕ, List, drop, take, length, min, Err, leb, sym, ap, subst}
use Rattle.kt_disk.specs.Disk.{held}
use Rattle.kt_super.specs.Body.{body_at}
use Rattle.kt_super.specs.Slots.{settled}
use Rattle.kt_super.specs.Faults.{IsFaultBehind}
use Rattle.kt_super.proofs.SlotLaws.{read_is, read_told, read_place}
use Rattle.kt_super.proofs.loading.slot_body.Goals as goal

pub returns-clause-place : goal.returns-clause-place
returns-clause-place g c at offset e told is =
    let rest : List ℕ = drop 5 (held (g.D.Disk.seen c.args.disk.now) c.args.slot) in
    let body : List ℕ = c.as_slice.result.now in
    let size : length c.in_ok-body.body.items ≡ c.in_ok-body.body.len = sym (ap (λ (l : List ℕ). length l) c.as_mut_slice.ensures.value) ∙ c.as_mut_slice.ensures.len in
    let least : c.in_ok-body.body.len ≡ min c.args.len c.args.left = c.in_ok-body.ensures.len ∙ c.min.ensures ∙ ap (λ (k : ℕ). min k c.args.left) c.from-len.ensures in
    let body_is = read_is c.args.len c.args.left c.in_ok-body.body.len rest c.read.new.into c.in_ok-body.body.items body c.as_slice.ensures.value
    (c.in-Ok.ensures.read told ∙ ap (λ (l : List ℕ). take (length l) rest) c.as_mut_slice.ensures.value) size least (c.requires.left told) in
    let own : settled (leb c.args.len c.args.left) (5 + c.args.left) (length body) (body_at c.args.slot body) ≡ Err c.in-Err-At.offset = rw (c.in-Err-At.field-0-is, c.from-len.ensures) at c.in-Err-At.ensures.told in
    let same : c.in-Err-At.offset ≡ offset = cc in
    subst (λ (p : ℕ). IsFaultBehind c.args.slot c.args.len rest p) same
    (read_place c.args.slot c.args.len c.args.left rest body c.in-Err-At.offset is c.in-Err-At.ensures.bytes body_is (c.requires.left told) own)

pub returns-in-Ok-body_told-clause-told : goal.returns-in-Ok-body_told-clause-told
returns-in-Ok-body_told-clause-told g c told =
    let rest : List ℕ = drop 5 (held (g.D.Disk.seen c.args.disk.now) c.args.slot) in
    let body : List ℕ = c.as_slice.result.now in
    let size : length c.in_ok-body.body.items ≡ c.in_ok-body.body.len = sym (ap (λ (l : List ℕ). length l) c.as_mut_slice.ensures.value) ∙ c.as_mut_slice.ensures.len in
    let least : c.in_ok-body.body.len ≡ min c.args.len c.args.left = c.in_ok-body.ensures.len ∙ c.min.ensures ∙ ap (λ (k : ℕ). min k c.args.left) c.from-len.ensures in
    let body_is = read_is c.args.len c.args.left c.in_ok-body.body.len rest c.read.new.into c.in_ok-body.body.items body c.as_slice.ensures.value
    (c.in-Ok.ensures.read told ∙ ap (λ (l : List ℕ). take (length l) rest) c.as_mut_slice.ensures.value) size least (c.requires.left told) in
    let own : settled (leb c.args.len c.args.left) (5 + c.args.left) (length body) (body_at c.args.slot body) ≡ Ok c.in-Ok-body_told.found = rw c.from-len.ensures at c.in-Ok-body_told.ensures.told in
    read_told c.args.slot c.args.len c.args.left rest body body_is (c.requires.left told) ∙ own

pub returns-clause-told : goal.returns-clause-told
returns-clause-told g c told =
    let rest : List ℕ = drop 5 (held (g.D.Disk.seen c.args.disk.now) c.args.slot) in
    let body : List ℕ = c.as_slice.result.now in
    let size : length c.in_ok-body.body.items ≡ c.in_ok-body.body.len = sym (ap (λ (l : List ℕ). length l) c.as_mut_slice.ensures.value) ∙ c.as_mut_slice.ensures.len in
    let least : c.in_ok-body.body.len ≡ min c.args.len c.args.left = c.in_ok-body.ensures.len ∙ c.min.ensures ∙ ap (λ (k : ℕ). min k c.args.left) c.from-len.ensures in
    let body_is = read_is c.args.len c.args.left c.in_ok-body.body.len rest c.read.new.into c.in_ok-body.body.items body c.as_slice.ensures.value
    (c.in-Ok.ensures.read told ∙ ap (λ (l : List ℕ). take (length l) rest) c.as_mut_slice.ensures.value) size least (c.requires.left told) in
    let own : settled (leb c.args.len c.args.left) (5 + c.args.left) (length body) (body_at c.args.slot body) ≡ Err c.in-Err-At.offset = rw (c.in-Err-At.field-0-is, c.from-len.ensures) at c.in-Err-At.ensures.told in
    (refl, read_told c.args.slot c.args.len c.args.left rest body body_is (c.requires.left told) ∙ own)
