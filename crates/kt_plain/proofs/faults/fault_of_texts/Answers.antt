use Rattle.std.proofs.Common.{◌≡◌, ◌⊎◌, ◌+◌, ◌*◌, ◌<◌, inl, inr, arith, subst, ℕ, drop, refl}
use Rattle.std.proofs.lemmas.List.{take_rest}
use Rattle.byteorder.specs.Endian.{little_number}
use Rattle.kt_plain.proofs.TextsFault.{HasEnds, fault_no_end, fault_end_falls, fault_no_bytes, fault_more_bytes, spelled_whole, has_more}
use Rattle.kt_plain.proofs.faults.fault_of_texts.Goals as goal
use Rattle.kt_plain.proofs.faults.fault_of_texts.Goals.{then-end-last-via-then-end-last, then-end-last-via-else-end-last+then-end-last-2}

pub loop-i-init : goal.loop-i-init
loop-i-init c = record { few = c.requires; small = omega arith; within = omega arith; room = omega arith; fits = λ i. omega (arith, c.type_inv.bytes i); cut = refl; steps = tt }

pub returns-then-bytes-i : goal.returns-then-bytes-i
returns-then-bytes-i c = fault_no_end c.args.most c.args.n c.loop-i.i c.args.bytes.now c.loop-i.last c.loop-i.invariant c.loop-i-test.true c.if-bytes-i.true

pub returns-then-end-last : goal.returns-then-end-last
returns-then-end-last c =
    let end : c.read_u32-end.result ≡ little_number 4 (drop (4 * c.loop-i.i) c.args.bytes.now) = rw (take_rest c.args.bytes.now (4 * c.loop-i.i)) at c.read_u32-end.ensures in
    let bad : (c.read_u32-end.result < c.loop-i.last) ⊎ (c.loop-i.last + c.args.most < c.read_u32-end.result) = elim c.then-end-last.branch [
      | then-end-last-via-then-end-last w ↦ inl w.if-end-last.true
      | then-end-last-via-else-end-last+then-end-last-2 w ↦ inr (omega (arith, w.if-end-last.false, w.if-end-last-2.true))
    ] in
    fault_end_falls c.args.most c.args.n c.loop-i.i c.args.bytes.now c.loop-i.last c.loop-i.invariant c.loop-i-test.true c.if-bytes-i.false (subst (λ (k : ℕ). (k < c.loop-i.last) ⊎ (c.loop-i.last + c.args.most < k)) end bad)

pub loop-i-preserved : goal.loop-i-preserved
loop-i-preserved c =
    let end : c.read_u32-end.result ≡ little_number 4 (drop (4 * c.loop-i.i) c.args.bytes.now) = rw (take_rest c.args.bytes.now (4 * c.loop-i.i)) at c.read_u32-end.ensures in
    has_more c.args.most c.args.n c.loop-i.i c.args.bytes.now c.loop-i.last c.read_u32-end.result c.loop-i.invariant c.loop-i-test.true c.if-bytes-i.false (omega arith) end c.if-end-last.false (omega arith)

pub returns-then-bytes-whole : goal.returns-then-bytes-whole
returns-then-bytes-whole c =
    let within = c.loop-i.invariant.within in
    let all : c.loop-i.i ≡ c.args.n = omega arith in
    fault_no_bytes c.args.most c.args.n c.args.bytes.now c.loop-i.last (subst (λ (k : ℕ). HasEnds c.args.most c.args.n k c.args.bytes.now c.loop-i.last) all c.loop-i.invariant) c.if-bytes-whole.true

pub returns-then-whole-bytes : goal.returns-then-whole-bytes
returns-then-whole-bytes c =
    let within = c.loop-i.invariant.within in
    let all : c.loop-i.i ≡ c.args.n = omega arith in
    fault_more_bytes c.args.most c.args.n c.args.bytes.now c.loop-i.last (subst (λ (k : ℕ). HasEnds c.args.most c.args.n k c.args.bytes.now c.loop-i.last) all c.loop-i.invariant) c.if-whole-bytes.true

pub returns-else-whole-bytes : goal.returns-else-whole-bytes
returns-else-whole-bytes c =
    let within = c.loop-i.invariant.within in
    let all : c.loop-i.i ≡ c.args.n = omega arith in
    spelled_whole c.args.most c.args.n c.args.bytes.now c.loop-i.last (subst (λ (k : ℕ). HasEnds c.args.most c.args.n k c.args.bytes.now c.loop-i.last) all c.loop-i.invariant) (omega arith)
