-- What one call more makes of a disk in memory.
use Rattle.std.proofs.Common.{◌≡◌, ◌≢◌, ℕ, ◌+◌, ◌<◌, ◌≤◌, Bool, false, cond, eqb, List, [], ◌∷◌, ◌++◌, length, take, reverse, Option, inl, inr, refl, sym, ◌∙◌, ap, subst, arith, length-append}
use Rattle.std.proofs.Math.Path.{fun_ext}
use Rattle.std.proofs.lemmas.Bool.{cases_eq, eq-eqb}
use Rattle.std.proofs.lemmas.Bool.Decides.{nat_tests}
use Rattle.std.proofs.lemmas.List.{take_all, take-append-le, reverse-append}
use Rattle.kt_disk.specs.declared.lists.FileBytes.{FileBytes}
use Rattle.kt_disk.specs.Disk.{Files, On, Same, Turns}
use Rattle.kt_disk.specs.Memory.{MemView, listed, after, Moves, MovesIf, contents, as_bytes, stored, IsImage, mem_seen, mem_now, mem_leaves}
use Rattle.kt_disk.proofs.Bytes.{moves_if_bytes}
use Rattle.kt_disk.specs.declared.event.Event.{Event}
use Rattle.kt_disk.specs.declared.event.Change.TheVariants as change

ne-eqb : (a b : ℕ) → a ≢ b → eqb a b ≡ false
ne-eqb a b apart = grind (arith, nat_tests)

-- one call more on a file
module _ (old new : MemView) (e : Event) (start : new.start ≡ old.start) (calls : new.calls ≡ old.calls ++ e ∷ []) where
  newest : reverse new.calls ≡ e ∷ reverse old.calls
  newest = ap (λ (l : List Event). reverse l) calls ∙ reverse-append old.calls (e ∷ [])

  started_as : (n : ℕ) → listed new.start n ≡ listed old.start n
  started_as n = ap (λ (s : List FileBytes). listed s n) start

  stored_is : (n : ℕ) → stored new n ≡ cond (eqb e.file n) (after e.change (stored old n)) (stored old n)
  stored_is n = ap (λ (s : Option (List ℕ)). contents n s (reverse new.calls)) (started_as n) ∙ ap (λ (l : List Event). contents n (listed old.start n) l) newest

  pub seen_here : mem_seen new e.file ≡ as_bytes (after e.change (stored old e.file))
  seen_here = ap as_bytes (stored_is e.file ∙ ap (λ (b : Bool). cond b (after e.change (stored old e.file)) (stored old e.file)) (eq-eqb e.file e.file refl))

  pub seen_others : (n : ℕ) → n ≢ e.file → mem_seen new n ≡ mem_seen old n
  seen_others n apart = ap as_bytes (stored_is n ∙ ap (λ (b : Bool). cond b (after e.change (stored old n)) (stored old n)) (ne-eqb e.file n (λ same. apart (sym same))))

  later : mem_now old < mem_now new
  later = omega (arith, ap length calls, length-append old.calls (e ∷ []))

  -- past moments
  as_before : (m : ℕ) → m ≤ mem_now old → reverse (take m new.calls) ≡ reverse (take m old.calls)
  as_before m le = ap (λ (l : List Event). reverse (take m l)) calls ∙ ap (λ (l : List Event). reverse l) (take-append-le m old.calls (e ∷ []) le)

  past : (m : ℕ) (c : Files) → m ≤ mem_now old → mem_leaves new m c → mem_leaves old m c
  past m c le left n =
      subst (λ (s : Option (List ℕ)). IsImage n s (reverse (take m old.calls)) (c n)) (started_as n)
      (subst (λ (l : List Event). IsImage n (listed new.start n) l (c n)) (as_before m le) (left n))

  keeps : (m : ℕ) (c : Files) → m ≤ mem_now old → mem_leaves old m c → mem_leaves new m c
  keeps m c le left n =
      subst (λ (s : Option (List ℕ)). IsImage n s (reverse (take m new.calls)) (c n)) (sym (started_as n))
      (subst (λ (l : List Event). IsImage n (listed old.start n) l (c n)) (sym (as_before m le)) (left n))

  -- the new moment
  here : (m : ℕ) (c : Files) → mem_now old < m → m ≤ mem_now new → mem_leaves new m c → (n : ℕ) → IsImage n (listed old.start n) (e ∷ reverse old.calls) (c n)
  here m c gt le left n =
      let all : reverse (take m new.calls) ≡ e ∷ reverse old.calls =
      ap (λ (l : List Event). reverse l) (take_all m new.calls (omega (arith, ap length calls, length-append old.calls (e ∷ [])))) ∙ newest in
      subst (λ (s : Option (List ℕ)). IsImage n s (e ∷ reverse old.calls) (c n)) (started_as n) (subst (λ (l : List Event). IsImage n (listed new.start n) l (c n)) all (left n))

  now_left : (d : Files) → ((n : ℕ) → IsImage n (listed old.start n) (reverse old.calls) (d n)) → mem_leaves old (mem_now old) d
  now_left d left n = subst (λ (l : List Event). IsImage n (listed old.start n) (reverse l) (d n)) (sym (take_all (length old.calls) old.calls (omega arith))) (left n)

  each : (m : ℕ) (c : Files) → mem_now old < m → m ≤ mem_now new → mem_leaves new m c
      → (d : Files) × mem_leaves old (mem_now old) d × On e.file (Moves e.change (mem_seen old e.file)) d c
  each m c gt le left =
      let from = here m c gt le left in
      let d : Files = λ n. as_bytes (from n).1.0 in
      let moves : (n : ℕ) → MovesIf (eqb e.file n) e.change (mem_seen old n) (d n) (c n) = λ n.
      subst (λ (x : Option (List ℕ)). MovesIf (eqb e.file n) e.change (mem_seen old n) (d n) x) (sym (from n).2)
      (moves_if_bytes (eqb e.file n) e.change (stored old n) (from n).1.0 (from n).0 (from n).1.2) in (
        d,
        now_left d (λ n. ((from n).1.0, (from n).1.1, refl)),
        record {
          here = subst (λ (b : Bool). MovesIf b e.change (mem_seen old e.file) (d e.file) (c e.file)) (eq-eqb e.file e.file refl) (moves e.file);
          others = λ n apart. subst (λ (b : Bool). MovesIf b e.change (mem_seen old n) (d n) (c n)) (ne-eqb e.file n (λ same. apart (sym same))) (moves n);
        },
      )

  pub turns : Turns mem_now mem_leaves (On e.file (Moves e.change (mem_seen old e.file))) old new
  turns = record { later = omega (arith, later); past = past; keeps = keeps; each = each }

-- a call that looks at a file changes nothing of what is read
pub look_seen : (old new : MemView) (file : ℕ) → new.start ≡ old.start → new.calls ≡ old.calls ++ (record { file = file; change = change.Look }) ∷ [] → mem_seen new ≡ mem_seen old
look_seen old new file start calls =
    let e : Event = record { file = file; change = change.Look } in
    let each : (n : ℕ) → mem_seen new n ≡ mem_seen old n = λ n. elim (cases_eq n file) [
      | inl is ↦ subst (λ (k : ℕ). mem_seen new k ≡ mem_seen old k) (sym is) (seen_here old new e start calls)
      | inr apart ↦ seen_others old new e start calls n apart
    ] in
    fun_ext each

-- where a call is not noted, nothing turns
pub still : (Moves : Files → Files → Type 0) (old new : MemView) → new.start ≡ old.start → new.calls ≡ old.calls → Turns mem_now mem_leaves Moves old new
still Moves old new start calls =
    let same_now : mem_now new ≡ mem_now old = ap (λ (l : List Event). length l) calls in
    let image : (s : List FileBytes) (l : List Event) (m : ℕ) (c : Files) → Type 0 = λ s l m c. (n : ℕ) → IsImage n (listed s n) (reverse (take m l)) (c n) in
    record {
      later = omega (arith, same_now);
      past = λ m c le left. subst (λ (s : List FileBytes). image s old.calls m c) start (subst (λ (l : List Event). image new.start l m c) calls left);
      keeps = λ m c le left. subst (λ (s : List FileBytes). image s new.calls m c) (sym start) (subst (λ (l : List Event). image old.start l m c) (sym calls) left);
      each = λ m c gt le left. absurd (omega (arith, same_now, gt, le));
    }

-- a call that moves no outcome
pub turns_same : (old new : MemView) (e : Event) → new.start ≡ old.start → new.calls ≡ old.calls ++ e ∷ [] → ((d c : Option (List ℕ)) → Moves e.change (mem_seen old e.file) d c → c ≡ d) → Turns mem_now mem_leaves Same old new
turns_same old new e start calls same =
    let turn = turns old new e start calls in
    record {
      later = turn.later;
      past = turn.past;
      keeps = turn.keeps;
      each = λ m c gt le left.
          let from = turn.each m c gt le left in
          let alike : (n : ℕ) → c n ≡ from.0 n = λ n. elim (cases_eq n e.file) [
            | inl is ↦ subst (λ (k : ℕ). c k ≡ from.0 k) (sym is) (same (from.0 e.file) (c e.file) from.2.here)
            | inr apart ↦ from.2.others n apart
          ] in
          (from.0, from.1, fun_ext alike);
    }

-- it is looked at or synced
pub looked : (old new : MemView) (file : ℕ) → new.start ≡ old.start → new.calls ≡ old.calls ++ (record { file = file; change = change.Look }) ∷ [] → Turns mem_now mem_leaves Same old new
looked old new file start calls = turns_same old new (record { file = file; change = change.Look }) start calls (λ d c moves. moves)

pub synced_turns : (old new : MemView) (file : ℕ) → new.start ≡ old.start → new.calls ≡ old.calls ++ (record { file = file; change = change.Sync }) ∷ [] → Turns mem_now mem_leaves Same old new
synced_turns old new file start calls = turns_same old new (record { file = file; change = change.Sync }) start calls (λ d c moves. moves.0)

-- after a sync a file is as it reads
pub synced : (old new : MemView) (file : ℕ) → new.start ≡ old.start → new.calls ≡ old.calls ++ (record { file = file; change = change.Sync }) ∷ []
    → (c : Files) → mem_leaves new (mem_now new) c → c file ≡ mem_seen new file
synced old new file start calls c left =
    let e : Event = record { file = file; change = change.Sync } in
    let longer : mem_now new ≡ mem_now old + 1 = omega (arith, ap length calls, length-append old.calls (e ∷ [])) in
    let turn = turns old new e start calls in
    let from = turn.each (mem_now new) c (omega (arith, longer)) (omega arith) left in
    from.2.here.1 ∙ sym (seen_here old new e start calls)

-- before the first call a crash leaves what a read gives
pub untouched : (disk : MemView) → disk.calls ≡ [] → (c : Files) → mem_leaves disk (mem_now disk) c → (n : ℕ) → c n ≡ mem_seen disk n
untouched disk none c left n =
    let start = listed disk.start n in
    let P : List Event → Type 0 = λ l. IsImage n start (reverse (take (length l) l)) (c n) → c n ≡ as_bytes (contents n start (reverse l)) in
    subst P (sym none) (λ image. image.2 ∙ ap as_bytes image.1) (left n)
