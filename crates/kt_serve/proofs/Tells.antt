-- The replies of a session, and the lines that tell them.
use Rattle.std.proofs.Common.{◌≡◌, ◌<◌, ℕ, zero, suc, ◌+◌, List, [], ◌∷◌, ◌++◌, Option, Some, None, false, cond, refl, sym, ap, ◌∙◌, subst, length, arith, get_or}
use Rattle.std.specs.Prelude.{◌==◌, slice_get}
use Rattle.std.proofs.lemmas.Bool.Decides.{nat_tests}
use Rattle.kt_history.specs.declared.command.Command.{Command}
use Rattle.kt_history.specs.declared.event.Event.{Event}
use Rattle.kt_history.specs.declared.reply.Reply.{Reply}
use Rattle.kt_history.specs.declared.reply.Reply.TheVariants as reply
use Rattle.kt_history.specs.Machine.{nth, command_of}
use Rattle.kt_histlaws.specs.Histories.{or_else}
use Rattle.kt_seatlock.specs.Trails.{Follows}
use Rattle.kt_engine.specs.Visits.{Root, PartView, session_of}
use Rattle.kt_serve.specs.Sessions.{HasRoot, SameRoot, OnRoot, IsFree, IsCommand, IsQuiet, AnswersOne, AfterCommand, TellsOwn}
use Rattle.kt_serve.proofs.Lines.{follows_quiet}
use Rattle.kt_serve.proofs.Begins.{some_is}

zero_not : (n : ℕ) → (0 == n + 1) ≡ false
zero_not n = grind (arith, nat_tests)

one_down : (k n : ℕ) → (suc k == suc n + 1) ≡ (k == n + 1)
one_down k n = grind (arith, nat_tests)

first_is : (k : ℕ) → (suc (suc k) == 1) ≡ false
first_is k = grind (arith, nat_tests)

get_snoc : {A : Type 0} (xs : List A) (x : A) (k : ℕ) → slice_get (xs ++ x ∷ []) k ≡ or_else (slice_get xs k) (cond (suc k == length xs + 1) (Some x) None)
get_snoc [] x zero = refl
get_snoc [] x (suc k) = sym (ap (λ b. cond b (Some x) None) (first_is k))
get_snoc (y ∷ xs) x zero = refl
get_snoc (y ∷ xs) x (suc k) = get_snoc xs x k ∙ sym (ap (λ b. or_else (slice_get xs k) (cond b (Some x) None)) (one_down (suc k) (length xs)))

-- one reply more
nth_snoc : {A : Type 0} (xs : List A) (x : A) (k : ℕ) → nth (xs ++ x ∷ []) k ≡ or_else (nth xs k) (cond (k == length xs + 1) (Some x) None)
nth_snoc xs x zero = sym (ap (λ b. cond b (Some x) None) (zero_not (length xs)))
nth_snoc xs x (suc k) = get_snoc xs x k

module _ {L D C : Type 0} where
  pub tells_quiet : (root : Root L D C) (s : ℕ) (rs : List Reply) (xs ys : List Event) → TellsOwn root s rs xs → IsQuiet root s xs ys → TellsOwn root s rs ys
  tells_quiet root s rs xs ys f g first found k = g first found k ∙ f first found k

  pub tells_more : (root : Root L D C) (s i : ℕ) (r : Reply) (rs : List Reply) (xs ys : List Event) → i ≡ length rs + 1 → TellsOwn root s rs xs → AnswersOne root s i r xs ys → TellsOwn root s (rs ++ r ∷ []) ys
  tells_more root s i r rs xs ys e f g first found k =
      g first found k ∙ ap (λ o. or_else o (cond (k == i) (Some r) None)) (f first found k) ∙ ap (λ n. or_else (nth rs k) (cond (k == n) (Some r) None)) e ∙ sym (nth_snoc rs r k)

  -- what a pass has seen tells its session what the whole trail does
  pub tells_follow : (root : Root L D C) (s : ℕ) (rs : List Reply) (seen trail : List Event) → Follows session_of s seen trail → TellsOwn root s rs seen → TellsOwn root s rs trail
  tells_follow root s rs seen trail f g = tells_quiet root s rs seen trail g (follows_quiet root s seen trail f)

  -- a reply other than `stopped` is an answer
  pub answered_of : (told told' : Option (PartView L D C)) (xs ys : List Event) (s i : ℕ) (r : Reply) → (r ≡ reply.Stopped → ⊥) → AfterCommand told told' xs ys s i r → IsFree told' (i + 1) × OnRoot told (λ root. AnswersOne root s i r xs ys)
  answered_of told told' xs ys s i reply.Stopped ne h = absurd (ne refl)
  answered_of told told' xs ys s i (reply.At ts outcomes) ne h = h
  answered_of told told' xs ys s i (reply.Rows t rows) ne h = h
  answered_of told told' xs ys s i (reply.Ancient t a) ne h = h
  answered_of told told' xs ys s i (reply.Busy t f) ne h = h
  answered_of told told' xs ys s i (reply.Ahm a) ne h = h
  answered_of told told' xs ys s i reply.Done ne h = h
  answered_of told told' xs ys s i (reply.Large n) ne h = h

  -- the command that a session is at
  pub at_command : (told : Option (PartView L D C)) (s i : ℕ) (commands : List Command) (command : Command) → OnRoot told (λ (root : Root L D C). nth root.work.plan s ≡ Some commands) → nth commands i ≡ Some command → IsCommand told s i command
  at_command told s i commands command plan here root h = ap (λ o. command_of o i) (plan root h) ∙ here

  -- what is told of the root is told later too
  pub on_root : (P : Root L D C → Type 0) (p : PartView L D C) (a b : Option (PartView L D C)) → a ≡ Some p → SameRoot a b → OnRoot a P → OnRoot b P
  on_root P p a b is same h root r =
      let old : HasRoot p.root a = record { part = p; is = is; root_is = refl } in
      let new = same p.root old in
      let both : root ≡ p.root = sym r.root_is ∙ ap (λ (q : PartView L D C). q.root) (some_is r.part new.part (sym r.is ∙ new.is)) ∙ new.root_is in
      subst P (sym both) (h p.root old)

  -- the same with the pass's number
  pub tells_after : (s t : ℕ) (rs : List Reply) (xs : List Event) (p : PartView L D C) (a b : Option (PartView L D C)) → a ≡ Some p → t ≡ s → SameRoot a b → OnRoot a (λ root. TellsOwn root s rs xs) → OnRoot b (λ root. TellsOwn root t rs xs)
  tells_after s t rs xs p a b is e same h = subst (λ k. OnRoot b (λ (root : Root L D C). TellsOwn root k rs xs)) (sym e) (on_root (λ root. TellsOwn root s rs xs) p a b is same h)

  -- and so is what it is to run
  pub plan_after : (s t : ℕ) (commands : List Command) (p : PartView L D C) (a b : Option (PartView L D C)) → a ≡ Some p → t ≡ s → SameRoot a b → OnRoot a (λ (root : Root L D C). nth root.work.plan s ≡ Some commands) → OnRoot b (λ (root : Root L D C). nth root.work.plan t ≡ Some commands)
  plan_after s t commands p a b is e same h = subst (λ k. OnRoot b (λ (root : Root L D C). nth root.work.plan k ≡ Some commands)) (sym e) (on_root (λ (root : Root L D C). nth root.work.plan s ≡ Some commands) p a b is same h)

  pub tells_before : (s t : ℕ) (rs : List Reply) (xs : List Event) (a b : Option (PartView L D C)) → t ≡ s → SameRoot a b → OnRoot b (λ root. TellsOwn root t rs xs) → OnRoot a (λ root. TellsOwn root s rs xs)
  tells_before s t rs xs a b e same h root old = subst (λ k. TellsOwn root k rs xs) e (h root (same root old))

  pub then_tells : (s i : ℕ) (rs : List Reply) (r : Reply) (xs ys : List Event) (a b : Option (PartView L D C)) → (r ≡ reply.Stopped → ⊥) → i ≡ length rs + 1 → OnRoot a (λ (root : Root L D C). TellsOwn root s rs xs) → AfterCommand a b xs ys s i r → OnRoot a (λ root. TellsOwn root s (rs ++ r ∷ []) ys)
  then_tells s i rs r xs ys a b ne e tells after root h = tells_more root s i r rs xs ys e (tells root h) ((answered_of a b xs ys s i r ne after).1 root h)

  pub still_tells : (s : ℕ) (rs : List Reply) (xs ys : List Event) (a : Option (PartView L D C)) → OnRoot a (λ (root : Root L D C). TellsOwn root s rs xs) → OnRoot a (λ root. IsQuiet root s xs ys) → OnRoot a (λ root. TellsOwn root s rs ys)
  still_tells s rs xs ys a tells quiet root h = tells_quiet root s rs xs ys (tells root h) (quiet root h)

pub get_at : {A : Type 0} (xs : List A) (k : ℕ) (x : A) → k < length xs → x ≡ get_or xs k x → slice_get xs k ≡ Some x
get_at [] k x lt e = absurd (omega arith)
get_at (y ∷ xs) zero x lt e = ap Some (sym e)
get_at (y ∷ xs) (suc k) x lt e = get_at xs k x (omega arith) e

pub nth_at : {A : Type 0} (xs : List A) (k : ℕ) (x : A) → k < length xs → x ≡ get_or xs k x → nth xs (k + 1) ≡ Some x
nth_at xs k x lt e = let next : k + 1 ≡ suc k = omega arith in ap (nth xs) next ∙ get_at xs k x lt e

-- what is told of a list is told of what it equals
pub tells_of : {L D C : Type 0} (s : ℕ) (rs new : List Reply) (xs : List Event) (a : Option (PartView L D C)) → new ≡ rs → OnRoot a (λ (root : Root L D C). TellsOwn root s rs xs) → OnRoot a (λ root. TellsOwn root s new xs)
tells_of s rs new xs a e h root old = subst (λ l. TellsOwn root s l xs) (sym e) (h root old)

-- what stands with one reply more
pub pushed_tells : {L D C : Type 0} (s : ℕ) (rs mid new : List Reply) (r : Reply) (ys : List Event) (a : Option (PartView L D C)) → mid ≡ rs → new ≡ mid ++ r ∷ [] → OnRoot a (λ (root : Root L D C). TellsOwn root s (rs ++ r ∷ []) ys) → OnRoot a (λ root. TellsOwn root s new ys)
pushed_tells s rs mid new r ys a e f h root old = subst (λ l. TellsOwn root s l ys) (sym (f ∙ ap (λ l. l ++ r ∷ []) e)) (h root old)

-- no reply has none
pub none_in : {A : Type 0} (k : ℕ) (x : A) → nth {A = A} [] k ≡ Some x → ⊥
none_in zero x e = cc
none_in (suc k) x e = cc
