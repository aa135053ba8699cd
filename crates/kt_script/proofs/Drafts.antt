-- Operations that are added behind others leave the commands of those as they were.
use Rattle.std.proofs.Common.{◌≡◌, ℕ, zero, suc, ◌+◌, ◌-◌, ◌≤◌, List, [], ◌∷◌, ◌++◌, length, take, drop, map, get_or, Result, Ok, Err, refl, sym, ap, ◌∙◌, arith}
use Rattle.std.specs.Prelude.{OnErr}
use Rattle.std.specs.List.{between, All}
use Rattle.std.proofs.lemmas.List.{length-take, map_push, append_assoc, drop_at, take_all, take-append-le}
use Rattle.std.proofs.lemmas.List.Elements.{All-head, All-tail, All-push}
use Rattle.std.proofs.lemmas.Slice.{between_is}
use Rattle.kt_history.specs.declared.command.Command.{Command}
use Rattle.kt_history.specs.declared.command.Command.TheVariants as command
use Rattle.kt_history.specs.declared.operation.RowOp.{RowOp}
use Rattle.kt_script.specs.declared.draft.Entry.{Entry}
use Rattle.kt_script.specs.declared.draft.Entry.TheVariants.{Few, Other}
use Rattle.kt_script.specs.Drafts.{command_in, IsInside}

pub on_err : {A E : Type 0} (r : Result A E) {P : Type 0} → P → OnErr r P
on_err (Ok x) p = tt
on_err (Err e) p = p

take_within : {X : Type 0} (n m : ℕ) (xs : List X) → n ≤ m → take n (take m xs) ≡ take n xs
take_within zero m xs le = refl
take_within (suc n) zero xs le = absurd (omega arith)
take_within (suc n) (suc m) [] le = refl
take_within {X} (suc n) (suc m) (x ∷ xs) le = ap (λ (l : List X). x ∷ l) (take_within n m xs (omega arith))

-- one list begins with another
module _ (old new : List RowOp) (front : take (length old) new ≡ old) where
  pub not_fewer : length old ≤ length new
  not_fewer = omega (arith, ap length front, length-take (length old) new)

  part_stays : (i j : ℕ) → j ≤ length old → between i j new ≡ between i j old
  part_stays i j le = between_is new i j ∙ (ap (drop i) (sym (take_within j (length old) new le) ∙ ap (take j) front) ∙ sym (between_is old i j))

  inside_on : (e : Entry) → IsInside old e → IsInside new e
  inside_on (Few part) h = omega (arith, h, not_fewer)
  inside_on (Other c) h = tt

  command_on : (e : Entry) → IsInside old e → command_in new e ≡ command_in old e
  command_on (Few part) h = ap (λ (ops : List RowOp). command.Write (record { ops = ops })) (part_stays part.first (part.first + part.len) h)
  command_on (Other c) h = refl

  pub all_on : (es : List Entry) → All (IsInside old) es → All (IsInside new) es
  all_on es all = λ k d lt. inside_on (get_or es k d) (all k d lt)

  commands_on : (es : List Entry) → All (IsInside old) es → map (command_in new) es ≡ map (command_in old) es
  commands_on [] all = refl
  commands_on (e ∷ es) all =
      ap (λ (c : Command). c ∷ map (command_in new) es) (command_on e (All-head (IsInside old) e es all))
      ∙ ap (λ (cs : List Command). command_in old e ∷ cs) (commands_on es (All-tail (IsInside old) e es all))

  -- the entries stay
  pub same_view : (es : List Entry) (cs : List Command) → All (IsInside old) es → map (command_in old) es ≡ cs → map (command_in new) es ≡ cs
  same_view es cs all view = commands_on es all ∙ view

  -- an entry more, over the operations with those added
  pub pushed_inside : (es : List Entry) (e : Entry) → All (IsInside old) es → IsInside new e → All (IsInside new) (es ++ e ∷ [])
  pushed_inside es e all here = All-push (IsInside new) es e (all_on es all) here

  pub pushed_view : (es : List Entry) (e : Entry) (c : Command) (cs : List Command) → All (IsInside old) es → map (command_in old) es ≡ cs → command_in new e ≡ c → map (command_in new) (es ++ e ∷ []) ≡ cs ++ c ∷ []
  pushed_view es e c cs all view is =
      map_push (command_in new) es e
      ∙ (ap (λ (l : List Command). l ++ command_in new e ∷ []) (commands_on es all ∙ view)
      ∙ ap (λ (x : Command). cs ++ x ∷ []) is)

-- what was added
pub added_are : (old more : List RowOp) (first len : ℕ) → first ≡ length old → len ≡ length more → between first (first + len) (old ++ more) ≡ more
added_are old more first len at size =
    let n : first + len - first ≡ len = omega arith in
    rw (n, drop_at old more first (sym at)) (take_all len more (omega (arith, size)))

-- the operations before one that is added
pub front_of : (old new : List RowOp) (o : RowOp) → new ≡ old ++ o ∷ [] → take (length old) new ≡ old
front_of old new o is = ap (take (length old)) is ∙ (take-append-le (length old) old (o ∷ []) (omega arith) ∙ take_all (length old) old (omega arith))

-- a write of that one
pub lone_is : (old new : List RowOp) (o : RowOp) (first : ℕ) → first ≡ length old → new ≡ old ++ o ∷ [] → command_in new (Few (record { first = first; len = 1 })) ≡ command.Write (record { ops = o ∷ [] })
lone_is old new o first at is = ap (λ (ops : List RowOp). command.Write (record { ops = ops })) (ap (between first (first + 1)) is ∙ added_are old (o ∷ []) first 1 at refl)

-- the first entry of those left goes over to the commands
pub moved_over : (ops : List RowOp) (done done' all : List Command) (e : Entry) (es es' : List Entry) (c : Command) → es ≡ e ∷ es' → c ≡ command_in ops e → done' ≡ done ++ c ∷ [] → done ++ map (command_in ops) es ≡ all → done' ++ map (command_in ops) es' ≡ all
moved_over ops done done' all e es es' c left is push so =
    ap (λ (l : List Command). l ++ map (command_in ops) es') (push ∙ ap (λ (x : Command). done ++ x ∷ []) is)
    ∙ (append_assoc done (command_in ops e ∷ []) (map (command_in ops) es')
    ∙ (ap (λ (l : List Entry). done ++ map (command_in ops) l) (sym left) ∙ so))
