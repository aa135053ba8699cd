-- What lines tell a session, and what is added to them.
use Rattle.std.proofs.Common.{◌≡◌, ◌≢◌, ℕ, List, [], ◌∷◌, ◌++◌, Option, Some, None, true, false, cond, refl, sym, ap, ◌∙◌, ne_eqb, eq-eqb}
use Rattle.std.specs.Prelude.{◌==◌, ◌&&◌}
use Rattle.kt_history.specs.declared.event.Event.{Event}
use Rattle.kt_history.specs.declared.event.Event.TheVariants as event
use Rattle.kt_history.specs.declared.reply.Reply.{Reply}
use Rattle.kt_history.specs.History.{Past}
use Rattle.kt_history.specs.Machine.{Workload, State, after, state_after, start}
use Rattle.kt_history.specs.Replies.{told, answers, reply_of, is_of}
use Rattle.kt_histlaws.specs.Histories.{or_else}
use Rattle.kt_seatlock.specs.Trails.{Each, Follows}
use Rattle.kt_engine.specs.Visits.{Root, session_of}
use Rattle.kt_serve.specs.Sessions.{Found, told_by, IsQuiet, AnswersOne}

-- a line that answers a command has a reply
kept : (work : Workload) (past : Past) (e : Event) (j k : ℕ) (o : Option Reply) → answers j k e ≡ true → reply_of work past e ≡ or_else (reply_of work past e) o
kept work past (event.Begin s i ts m) j k o h = cc
kept work past (event.End s i ts) j k o h = refl
kept work past (event.Look s i t m) j k o h = cc
kept work past (event.Rows s i t) j k o h = refl
kept work past (event.Ancient s i t a) j k o h = refl
kept work past (event.Busy s i t f) j k o h = refl
kept work past (event.Mark s i a) j k o h = refl
kept work past (event.Chore s i) j k o h = refl
kept work past (event.Large s i n) j k o h = refl
kept work past event.Stop j k o h = cc

-- what is told stays told, and more lines may tell what was not
pub told_more : (work : Workload) (st : State) (xs ys : List Event) (j k : ℕ)
    → told work st (xs ++ ys) j k ≡ or_else (told work st xs j k) (told work (state_after work st xs) ys j k)
told_more work st [] ys j k = refl
told_more work st (x ∷ xs) ys j k =
    elim (answers j k x) as (λ b. answers j k x ≡ b → cond b (reply_of work st.past x) (told work (after work st x) (xs ++ ys) j k)
    ≡ or_else (cond b (reply_of work st.past x) (told work (after work st x) xs j k)) (told work (state_after work (after work st x) xs) ys j k)) [
      | true ↦ λ h. kept work st.past x j k _ h
      | false ↦ λ _. told_more work (after work st x) xs ys j k
    ] refl

pub or_none : {A : Type 0} (o : Option A) → or_else o None ≡ o
or_none None = refl
or_none (Some r) = refl

not_of : (s k s' i' : ℕ) → Some s' ≢ Some s → is_of s k s' i' ≡ false
not_of s k s' i' ne = ap (λ b. b && (k == i')) (ne_eqb s s' (λ e. ne (ap Some (sym e))))

-- a line of another session answers nothing of this one
not_mine : (s k : ℕ) (e : Event) → session_of e ≢ Some s → answers s k e ≡ false
not_mine s k (event.Begin s' i ts m) ne = refl
not_mine s k (event.End s' i ts) ne = not_of s k s' i ne
not_mine s k (event.Look s' i t m) ne = refl
not_mine s k (event.Rows s' i t) ne = not_of s k s' i ne
not_mine s k (event.Ancient s' i t a) ne = not_of s k s' i ne
not_mine s k (event.Busy s' i t f) ne = not_of s k s' i ne
not_mine s k (event.Mark s' i a) ne = not_of s k s' i ne
not_mine s k (event.Chore s' i) ne = not_of s k s' i ne
not_mine s k (event.Large s' i n) ne = not_of s k s' i ne
not_mine s k event.Stop ne = refl

-- nor do several
none_mine : (work : Workload) (st : State) (ys : List Event) (s k : ℕ) → Each (λ e. session_of e ≢ Some s) ys → told work st ys s k ≡ None
none_mine work st [] s k h = refl
none_mine work st (y ∷ ys) s k h = ap (λ b. cond b (reply_of work st.past y) (told work (after work st y) ys s k)) (not_mine s k y h.0) ∙ none_mine work (after work st y) ys s k h.1

module _ {L D C : Type 0} (root : Root L D C) where
  -- lines of others are quiet
  pub follows_quiet : (s : ℕ) (seen trail : List Event) → Follows session_of s seen trail → IsQuiet root s seen trail
  follows_quiet s seen trail f first found k =
      let st = start root.work first root.opened in
      ap (λ lines. told_by root first lines s k) f.1
      ∙ told_more root.work (start root.work first root.opened) seen f.0 s k
      ∙ ap (or_else (told_by root first seen s k)) (none_mine root.work (state_after root.work (start root.work first root.opened) seen) f.0 s k f.2)
      ∙ or_none (told_by root first seen s k)

  pub quiet_self : (s : ℕ) (lines more : List Event) → more ≡ lines → IsQuiet root s lines more
  quiet_self s lines more e first found k = ap (λ l. told_by root first l s k) e

  pub quiet_then : (s : ℕ) (a b c : List Event) → IsQuiet root s a b → IsQuiet root s b c → IsQuiet root s a c
  quiet_then s a b c f g first found k = g first found k ∙ f first found k

  -- a line that answers nothing
  pub quiet_line : (s : ℕ) (lines more : List Event) (e : Event) → more ≡ lines ++ e ∷ [] → ((k : ℕ) → answers s k e ≡ false) → IsQuiet root s lines more
  quiet_line s lines more e is quiet first found k =
      ap (λ l. told_by root first l s k) is
      ∙ told_more root.work (start root.work first root.opened) lines (e ∷ []) s k
      ∙ ap (λ b. or_else (told_by root first lines s k) (cond b (reply_of root.work (state_after root.work (start root.work first root.opened) lines).past e) None)) (quiet k)
      ∙ or_none (told_by root first lines s k)

  -- a line that answers one command
  pub answers_line : (s i : ℕ) (r : Reply) (lines more : List Event) (e : Event) → more ≡ lines ++ e ∷ [] → ((k : ℕ) → answers s k e ≡ (k == i))
      → ((first : Past) → Found root first → reply_of root.work (state_after root.work (start root.work first root.opened) lines).past e ≡ Some r) → AnswersOne root s i r lines more
  answers_line s i r lines more e is its replies first found k =
      ap (λ l. told_by root first l s k) is
      ∙ told_more root.work (start root.work first root.opened) lines (e ∷ []) s k
      ∙ (λ t. or_else (told_by root first lines s k) (cond (its k t) (replies first found t) None))

  pub then_answers : (s i : ℕ) (r : Reply) (a b c : List Event) → IsQuiet root s a b → AnswersOne root s i r b c → AnswersOne root s i r a c
  then_answers s i r a b c f g first found k = g first found k ∙ ap (λ o. or_else o (cond (k == i) (Some r) None)) (f first found k)

pub is_mine : (s k i : ℕ) → is_of s k s i ≡ (k == i)
is_mine s k i = ap (λ b. b && (k == i)) (eq-eqb s s refl)
