-- What visits leave of maintenance and of the store, and the rounds of a pass.
use Rattle.std.proofs.Common.{◌≡◌, ◌⊎◌, inl, inr, true, ◌≤◌, ◌<◌, ◌+◌, ◌-◌, ◌^◌, ℕ, zero, suc, List, [], ◌∷◌, length, take, slice_get, Option, Some, None, refl, sym, ap, subst, arith, ◌∙◌}
use Rattle.std.specs.Prelude.{IfOk, OnOk, Result, Ok, Err}
use Rattle.kt_base.specs.declared.chore.Chore.{Chore}
use Rattle.kt_history.specs.declared.command.Command.{Command}
use Rattle.kt_history.specs.declared.command.Command.TheVariants as command
use Rattle.kt_history.specs.declared.event.Event.{Event}
use Rattle.kt_history.specs.declared.reply.Reply.{Reply}
use Rattle.kt_history.specs.declared.reply.Reply.TheVariants as reply
use Rattle.kt_engine.specs.Calls.{HasNoDevice, HasDone}
use Rattle.kt_engine.specs.Engines.{EngineView}
use Rattle.kt_engine.specs.Jobs.{UpkeepView, UpkeepsView, more, upkeep_at}
use Rattle.kt_engine.specs.Visits.{PartView, part_in, lent_of}
use Rattle.kt_serve.specs.Maintained.{StoreRests, HasNoJob, HasRounds, KeepsUpkeep, KeepsRounds, chores_in}
use Rattle.kt_serve.specs.Sessions.{IsFree, HasNoLog, has_stop}
use Rattle.kt_serve.specs.declared.log.Halt.{Halt}
use Rattle.kt_serve.specs.declared.log.Halt.TheVariants as halt
use Rattle.kt_serve.proofs.Begins.{some_is}
use Rattle.kt_serve.proofs.Lists.{length_take}

one_more : (top r n m : ℕ) → m ≡ more top r → n ≤ r → n + 1 ≤ top → n + 1 ≤ m
one_more top r n m is low small = omega arith

none_fewer : (top r n m : ℕ) → m ≡ more top r → n ≤ r → n ≤ top → n ≤ m
none_fewer top r n m is low small = omega arith

module _ {L D C : Type 0} where
  -- a visit that leaves the store and what the engine has of maintenance
  pub upkeep_stays : (told told' : Option (PartView L D C)) (x y : EngineView L D C) (n n' : ℕ) → told ≡ Some (part_in x n) → told' ≡ Some (part_in y n') → n' ≡ n → y.store ≡ x.store → y.upkeep ≡ x.upkeep → KeepsUpkeep told told'
  upkeep_stays told told' x y n n' was is same store upkeep p at =
      let here : part_in x n ≡ p = some_is (part_in x n) p (sym was ∙ at) in (
        part_in y n',
        is,
        ap (λ k. upkeep_at k y.upkeep.passes) same ∙ ap (λ (u : UpkeepsView). upkeep_at n u.passes) upkeep ∙ ap (λ (q : PartView L D C). q.pass.upkeep) here,
        (λ t. lent_of (store t).holder (store t) (same t)) ∙ ap (λ (q : PartView L D C). q.turn) here,
      )

  -- no visit, and two
  pub upkeep_same : (a b : Option (PartView L D C)) → b ≡ a → KeepsUpkeep a b
  upkeep_same a b e p at = (p, e ∙ at, refl, refl)

  pub upkeep_then : (a b c : Option (PartView L D C)) → KeepsUpkeep a b → KeepsUpkeep b c → KeepsUpkeep a c
  upkeep_then a b c f g p at = let q = f p at in let r = g q.0 q.1 in (r.0, r.1, r.2 ∙ q.2, r.3 ∙ q.3)

  -- so the store rests, no job has come and no round is gone
  pub upkeep_rests : (a b : Option (PartView L D C)) → KeepsUpkeep a b → StoreRests a → StoreRests b
  upkeep_rests a b f h = let q = f h.part h.is in record { part = q.0; is = q.1; home = q.3 ∙ h.home }

  pub upkeep_none : (a b : Option (PartView L D C)) → KeepsUpkeep a b → HasNoJob a → HasNoJob b
  upkeep_none a b f h = let q = f h.part h.is in record { part = q.0; is = q.1; none = ap (λ (u : UpkeepView). u.job) q.2 ∙ h.none }

  pub upkeep_has : (a b : Option (PartView L D C)) (n : ℕ) → KeepsUpkeep a b → HasRounds n a → HasRounds n b
  upkeep_has a b n f h = let q = f h.part h.is in record { part = q.0; is = q.1; rounds = subst (λ (u : UpkeepView). n ≤ u.rounds) (sym q.2) h.rounds }

  pub upkeep_rounds : (a b : Option (PartView L D C)) → KeepsUpkeep a b → KeepsRounds a b
  upkeep_rounds a b f n small = upkeep_has a b n f

  pub store_same : (a b : Option (PartView L D C)) → b ≡ a → StoreRests a → StoreRests b
  store_same a b e rests = subst (λ (q : Option (PartView L D C)). StoreRests q) (sym e) rests

  pub none_same : (a b : Option (PartView L D C)) → b ≡ a → HasNoJob a → HasNoJob b
  none_same a b e h = subst (λ (q : Option (PartView L D C)). HasNoJob q) (sym e) h

  -- ---- a chore that is done has begun a round

  pub done_more : (chore : Chore) (a b : Option (PartView L D C)) (n : ℕ) → n + 1 < 2 ^ 64 → HasDone chore a b → HasRounds n a → HasRounds (n + 1) b
  done_more chore a b n small d h =
      let here : h.part ≡ d.was = some_is h.part d.was (sym h.is ∙ d.was_is) in
      let low : n ≤ d.was.pass.upkeep.rounds = subst (λ (p : PartView L D C). n ≤ p.pass.upkeep.rounds) here h.rounds in
      record { part = d.part; is = d.is; rounds = one_more (2 ^ 64 - 1) d.was.pass.upkeep.rounds n d.part.pass.upkeep.rounds d.rounds low (omega arith) }

  pub done_keeps : (chore : Chore) (a b : Option (PartView L D C)) → HasDone chore a b → KeepsRounds a b
  done_keeps chore a b d n small h =
      let here : h.part ≡ d.was = some_is h.part d.was (sym h.is ∙ d.was_is) in
      let low : n ≤ d.was.pass.upkeep.rounds = subst (λ (p : PartView L D C). n ≤ p.pass.upkeep.rounds) here h.rounds in
      record { part = d.part; is = d.is; rounds = none_fewer (2 ^ 64 - 1) d.was.pass.upkeep.rounds n d.part.pass.upkeep.rounds d.rounds low (omega arith) }

  pub rounds_then : (a b c : Option (PartView L D C)) → KeepsRounds a b → KeepsRounds b c → KeepsRounds a c
  rounds_then a b c f g n small h = g n small (f n small h)

  pub rounds_same : (a b : Option (PartView L D C)) → b ≡ a → KeepsRounds a b
  rounds_same a b e = upkeep_rounds a b (upkeep_same a b e)

  pub ok_keeps : {A E : Type 0} (chore : Chore) (a b : Option (PartView L D C)) (r : Result A E) → OnOk r (HasDone chore a b) → OnOk r (KeepsRounds a b)
  ok_keeps chore a b (Ok x) done = done_keeps chore a b done
  ok_keeps chore a b (Err e) done = tt

  pub then_rounds : {A E : Type 0} (a b c : Option (PartView L D C)) (r : Result A E) → KeepsRounds a b → OnOk r (KeepsRounds b c) → OnOk r (KeepsRounds a c)
  then_rounds a b c (Ok x) f g = rounds_then a b c f g
  then_rounds a b c (Err e) f g = tt

  pub each_keeps : {E : Type 0} (a b : Option (PartView L D C)) (r : Result Reply E) → KeepsRounds a b → IfOk r (λ q. (q ≡ reply.Stopped → ⊥) → KeepsRounds a b)
  each_keeps a b (Ok x) f = λ _. f
  each_keeps a b (Err e) f = tt

  pub chore_keeps : {E : Type 0} (chore : Chore) (a b : Option (PartView L D C)) (r : Result Reply E) → IfOk r (λ q. (q ≡ reply.Stopped → ⊥) → HasDone chore a b) → IfOk r (λ q. (q ≡ reply.Stopped → ⊥) → KeepsRounds a b)
  chore_keeps chore a b (Ok x) done = λ ne. done_keeps chore a b (done ne)
  chore_keeps chore a b (Err e) done = tt

  pub rounds_as : (a : Option (PartView L D C)) (n m : ℕ) → n ≡ m → HasRounds n a → HasRounds m a
  rounds_as a n m e h = subst (λ k. HasRounds k a) e h

  -- a command that is answered has begun as many rounds as it asks for
  pub command_rounds : (asked : Command) (a b : Option (PartView L D C)) (n : ℕ) → n + 1 < 2 ^ 64 → KeepsRounds a b → ((chore : Chore) → asked ≡ command.Chore chore → HasDone chore a b) → HasRounds n a → HasRounds (n + chores_in (asked ∷ [])) b
  command_rounds (command.Write w) a b n small keeps done h = rounds_as b n (n + 0) (omega arith) (keeps n (omega arith) h)
  command_rounds (command.Mark t) a b n small keeps done h = rounds_as b n (n + 0) (omega arith) (keeps n (omega arith) h)
  command_rounds (command.Scan scan) a b n small keeps done h = rounds_as b n (n + 0) (omega arith) (keeps n (omega arith) h)
  command_rounds (command.Chore chore) a b n small keeps done h = done_more chore a b n small (done chore refl) h

  -- as a session begins
  pub no_rounds : (told : Option (PartView L D C)) (i : ℕ) (commands : List Command) → IsFree told i → HasRounds (chores_in (take 0 commands)) told
  no_rounds told i [] f = record { part = f.part; is = f.is; rounds = omega arith }
  no_rounds told i (c ∷ commands) f = record { part = f.part; is = f.is; rounds = omega arith }

  -- ---- no job is left, unless the tablet has stopped

  pub none_or_stop : (b : Option (PartView L D C)) (lines : List Event) (h : Option Halt) → ((h ≡ Some halt.Stopped → ⊥) → HasNoJob b) → (h ≡ Some halt.Stopped → has_stop lines ≡ true) → HasNoJob b ⊎ (has_stop lines ≡ true)
  none_or_stop b lines None none stops = inl (none (λ e. cc))
  none_or_stop b lines (Some halt.Memory) none stops = inl (none (λ e. cc))
  none_or_stop b lines (Some halt.Stopped) none stops = inr (stops refl)

  pub left_none : (b c : Option (PartView L D C)) (xs ys : List Event) → KeepsUpkeep b c → (has_stop xs ≡ true → has_stop ys ≡ true) → HasNoJob b ⊎ (has_stop xs ≡ true) → HasNoJob c ⊎ (has_stop ys ≡ true)
  left_none b c xs ys keeps stops (inl none) = inl (upkeep_none b c keeps none)
  left_none b c xs ys keeps stops (inr stop) = inr (stops stop)

  -- a pass with neither device
  pub device_rests : (told : Option (PartView L D C)) → HasNoDevice told → StoreRests told
  device_rests told d = record { part = d.part; is = d.is; home = d.store }

  -- a pass has it no more than the log
  pub no_device : (told : Option (PartView L D C)) (i : ℕ) → StoreRests told → IsFree told i → HasNoDevice told
  no_device told i rests f = record { part = f.part; is = f.is; log = f.home; store = ap (λ (p : PartView L D C). p.turn) (some_is f.part rests.part (sym f.is ∙ rests.is)) ∙ rests.home }

  pub idle_device : (told : Option (PartView L D C)) → StoreRests told → HasNoLog told → HasNoDevice told
  idle_device told rests h = record { part = h.part; is = h.is; log = h.home; store = ap (λ (p : PartView L D C). p.turn) (some_is h.part rests.part (sym h.is ∙ rests.is)) ∙ rests.home }

  -- as a run begins
  pub store_rests : (told : Option (PartView L D C)) (x : EngineView L D C) (n : ℕ) → told ≡ Some (part_in x n) → x.store.holder ≡ None → StoreRests told
  store_rests told x n is home = record { part = part_in x n; is = is; home = ap (λ h. lent_of h x.store n) home }

-- ---- the chores of a session

chores_cons : (asked : Command) (commands : List Command) → chores_in (asked ∷ commands) ≡ chores_in (asked ∷ []) + chores_in commands
chores_cons (command.Write w) commands = omega arith
chores_cons (command.Mark t) commands = omega arith
chores_cons (command.Scan scan) commands = omega arith
chores_cons (command.Chore chore) commands = omega arith

chores_one : (asked : Command) → chores_in (asked ∷ []) ≤ 1
chores_one (command.Write w) = omega arith
chores_one (command.Mark t) = omega arith
chores_one (command.Scan scan) = omega arith
chores_one (command.Chore chore) = omega arith

chores_suc : (commands : List Command) (at : ℕ) (asked : Command) → slice_get commands at ≡ Some asked → chores_in (take (suc at) commands) ≡ chores_in (take at commands) + chores_in (asked ∷ [])
chores_suc [] at asked e = absurd (cc)
chores_suc (c ∷ commands) zero asked e = let same : chores_in (c ∷ []) ≡ chores_in (asked ∷ []) = ap (λ x. chores_in (x ∷ [])) (some_is c asked e) in omega (arith, same)
chores_suc (c ∷ commands) (suc at) asked e =
    let rest = chores_suc commands at asked e in
    let more = chores_cons c (take (suc at) commands) in
    let fewer = chores_cons c (take at commands) in
    omega (arith, rest, more, fewer)

-- the chores of the commands up to the next, and those of all
pub chores_next : (commands : List Command) (at : ℕ) (asked : Command) → slice_get commands at ≡ Some asked → chores_in (take (at + 1) commands) ≡ chores_in (take at commands) + chores_in (asked ∷ [])
chores_next commands at asked e = let next : at + 1 ≡ suc at = omega arith in ap (λ n. chores_in (take n commands)) next ∙ chores_suc commands at asked e

few_in : (commands : List Command) → chores_in commands ≤ length commands
few_in [] = omega arith
few_in (c ∷ commands) = let rest = few_in commands in let one = chores_one c in let all = chores_cons c commands in omega (arith, rest, one, all)

pub few_chores : (commands : List Command) (at : ℕ) → at ≤ length commands → chores_in (take at commands) ≤ at
few_chores commands at within = let few = few_in (take at commands) in let long = length_take at commands within in omega (arith, few, long)
