-- The sessions of a run have ended: what they were told is what is printed of it.
use Rattle.std.proofs.Common.{◌≡◌, ℕ, zero, suc, List, [], ◌∷◌, Option, Some, None, Bool, true, false, refl, sym, ap, ◌∙◌, subst, arith, length, map}
use Rattle.std.specs.Prelude.{slice_get, All}
use Rattle.std.proofs.lemmas.Option.{slice_get_within, get_or_from_slice_get}
use Rattle.std.proofs.lemmas.List.{length-map}
use Rattle.kt_history.specs.declared.command.Command.{Command}
use Rattle.kt_history.specs.declared.reply.Reply.{Reply}
use Rattle.kt_history.specs.History.{Past}
use Rattle.kt_history.specs.Machine.{nth}
use Rattle.kt_engine.specs.Engines.{EngineView, IsFound, core_from}
use Rattle.kt_engine.specs.Visits.{root_of}
use Rattle.kt_serve.specs.declared.log.Halt.TheVariants as halt
use Rattle.kt_serve.specs.declared.session.SessionEnd.{SessionEnd}
use Rattle.kt_serve.specs.Runs.{AllEnded}
use Rattle.kt_serve.specs.Closing.{IsClosed, IsAtStop}
use Rattle.kt_app.specs.Played.{told_in, given, reply_in, IsWhole, HasPlayed}

-- ---- elements by their place

get_map : {A B : Type 0} (f : A → B) (xs : List A) (k : ℕ) (x : A) → slice_get xs k ≡ Some x → slice_get (map f xs) k ≡ Some (f x)
get_map f [] k x h = absurd cc
get_map f (y ∷ xs) zero x h = let is : y ≡ x = cc in ap (λ z. Some (f z)) is
get_map f (y ∷ xs) (suc k) x h = get_map f xs k x h

nth_map : {A B : Type 0} (f : A → B) (xs : List A) (s : ℕ) (x : A) → nth xs s ≡ Some x → nth (map f xs) s ≡ Some (f x)
nth_map f xs zero x h = absurd cc
nth_map f xs (suc k) x h = get_map f xs k x h

none_at : {A B C : Type 0} (f : B → C) (xs : List A) (ys : List B) (k : ℕ) → length ys ≡ length xs → slice_get xs k ≡ None → slice_get (map f ys) k ≡ None
none_at f xs [] k e h = refl
none_at f [] (y ∷ ys) k e h = absurd (omega (arith, e))
none_at f (x ∷ xs) (y ∷ ys) zero e h = absurd cc
none_at f (x ∷ xs) (y ∷ ys) (suc k) e h = none_at f xs ys k (omega (arith, e)) h

nth_none : {A B C : Type 0} (f : B → C) (xs : List A) (ys : List B) (s : ℕ) → length ys ≡ length xs → nth xs s ≡ None → nth (map f ys) s ≡ None
nth_none f xs ys zero e h = refl
nth_none f xs ys (suc k) e h = none_at f xs ys k e h

nth_all : {A : Type 0} (P : A → Type 0) (xs : List A) (s : ℕ) (x : A) → nth xs s ≡ Some x → All P xs → P x
nth_all P xs zero x h all = absurd cc
nth_all P xs (suc k) x h all = subst P (get_or_from_slice_get xs k x x h) (all k x (slice_get_within xs k x h))

none_here : (k : ℕ) → reply_in (Some []) k ≡ None
none_here zero = refl
none_here (suc k) = refl

-- ---- the run

module _ {L D C : Type 0} (came : ℕ → ℕ → Reply → Type 0) (view : EngineView L D C) (plan : List (List Command)) (ends : List SessionEnd) (ended : AllEnded came (root_of view) plan view.tablet.core.trail ends) (whole : All IsWhole ends) where
  abbrev replies : List (List Reply)
  replies = map (λ (e : SessionEnd). e.replies) ends

  told_as : (first : Past) → IsFound view first → (j k : ℕ) (o : Option (List Command)) → nth plan j ≡ o → told_in (core_from view first) view.tablet.core.trail j k ≡ given replies j k
  told_as first content j k (Some commands) is =
      let e = ended.each j commands is in
      e.2.tells (nth_all IsWhole ends j e.0 e.1 whole) first (record { opens = content }) k
      ∙ sym (ap (λ o. reply_in o k) (nth_map (λ (x : SessionEnd). x.replies) ends j e.0 e.1))
  told_as first content j k None is =
      ended.others j is first (record { opens = content }) k
      ∙ none_here k
      ∙ sym (ap (λ o. reply_in o k) (nth_none (λ (x : SessionEnd). x.replies) plan ends j ended.count is))

  -- a session that neither a fault nor want of memory has halted
  not_halted : (end : SessionEnd) → IsWhole end → (end.halt ≡ Some halt.Stopped → ⊥) → end.halt ≡ None
  not_halted end fit goes = elim end.halt as (λ o. end.halt ≡ o → o ≡ None) [
    | None ↦ λ _. refl
    | Some halt.Stopped ↦ λ h. absurd (goes h)
    | Some halt.Memory ↦ λ h. absurd (fit h)
  ] refl

  -- each command was answered, nothing waits for the log, and the superblock is published
  pub played_whole : IsClosed view → ((s : ℕ) (end : SessionEnd) → nth ends s ≡ Some end → end.halt ≡ Some halt.Stopped → ⊥) → HasPlayed view plan false replies
  played_whole closed goes = record {
    ended = closed.done.goes;
    tells = λ first content j k. told_as first content j k (nth plan j) refl;
    count = length-map ends (λ (e : SessionEnd). e.replies) ∙ ended.count;
    last = λ h. absurd cc;
    all = λ going s commands is.
        let e = ended.each (suc s) commands is in
        (e.0.replies, get_map (λ (x : SessionEnd). x.replies) ends s e.0 e.1, e.2.all (not_halted e.0 (nth_all IsWhole ends (suc s) e.0 e.1 whole) (goes (suc s) e.0 e.1)));
    empty = λ going. closed.done.queued;
    published = λ going. (closed.mark, closed.last);
  }

  -- a fault has stopped it
  pub played_halted : IsAtStop view → HasPlayed view plan true replies
  played_halted stop = record {
    ended = stop.stopped;
    tells = λ first content j k. told_as first content j k (nth plan j) refl;
    count = length-map ends (λ (e : SessionEnd). e.replies) ∙ ended.count;
    last = λ h. stop.last;
    all = λ going s commands is. absurd cc;
    empty = λ going. absurd cc;
    published = λ going. absurd cc;
  }

-- what was run of an engine is said of the root that it has kept
pub ended_of : {L D C : Type 0} (came : ℕ → ℕ → Reply → Type 0) (old new : EngineView L D C) (plan : List (List Command)) (ends : List SessionEnd) → root_of new ≡ root_of old
    → AllEnded came (root_of old) plan new.tablet.core.trail ends → AllEnded came (root_of new) plan new.tablet.core.trail ends
ended_of came old new plan ends e = subst (λ root. AllEnded came root plan new.tablet.core.trail ends) (sym e)

-- what was gathered of the ends of all sessions
pub played_as : {L D C : Type 0} (view : EngineView L D C) (plan : List (List Command)) (stopped is : Bool) (replies those : List (List Reply)) → is ≡ stopped → those ≡ replies → HasPlayed view plan stopped replies → HasPlayed view plan is those
played_as view plan stopped is replies those e f h = subst (λ b. HasPlayed view plan b those) (sym e) (subst (HasPlayed view plan stopped) (sym f) h)
