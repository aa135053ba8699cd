-- What a visit leaves that may apply rows of a write and end it.
use Rattle.std.proofs.Common.{◌≡◌, ◌<◌, ℕ, List, Option, Some, None, refl, sym, ap, ◌∙◌, subst, length, append-nil, []}
use Rattle.kt_history.specs.declared.event.Event.{Event}
use Rattle.kt_history.specs.declared.operation.Write.{Write}
use Rattle.kt_history.specs.declared.reply.Reply.TheVariants as reply
use Rattle.kt_seatlock.specs.Trails.{Follows}
use Rattle.kt_engine.specs.declared.write.WriteDone.{WriteDone}
use Rattle.kt_engine.specs.Engines.{EngineView, TellsStop}
use Rattle.kt_engine.specs.Visits.{PartView, part_in, session_of, IsVisit}
use Rattle.kt_serve.specs.declared.rows.RowTurn.{RowTurn}
use Rattle.kt_serve.specs.declared.rows.RowTurn.TheVariants as row
use Rattle.kt_tablet.specs.Views.{View}
use Rattle.kt_serve.specs.Sessions.{Applies, EndsWith, AppliedBy, AfterApply, AfterCommand, IsFlying, IsStill, IsNext, OwnFlight, HasNoLog, has_stop}
use Rattle.kt_serve.proofs.Begins.{same_root}
use Rattle.kt_serve.proofs.Stops.{stop_seen}
use Rattle.kt_serve.proofs.Stills.{still_tablet, still_after, still_going, still_root, going_after, no_log}
use Rattle.kt_serve.proofs.Commands.{after_going}
use Rattle.kt_serve.proofs.Applies.{went_on, flies_on, flying_as, flying_still, flying_after, own_flight, own_next}
use Rattle.kt_serve.proofs.Ends.{ended_answers, log_stays}

module _ {L D C : Type 0} where
  -- the write ends behind its last rows: what the part tells then stands between
  ends_so : (told told' : Option (PartView L D C)) (seen seen' : List Event) (x mid y : EngineView L D C) (n n' at : ℕ) (w : Write) (done : WriteDone)
      → told ≡ Some (part_in x n) → told' ≡ Some (part_in y n') → n' ≡ n → Follows session_of n seen x.tablet.core.trail → seen' ≡ y.tablet.core.trail
      → Applies x mid n at (length w.ops) → EndsWith mid y n done → HasNoLog told → (i : ℕ) → IsFlying told n i w at → AfterCommand told told' seen seen' n i (reply.At done.ts done.outcomes)
  ends_so told told' seen seen' x mid y n n' at w done was is same follows sees a e home i f =
      let between = Some (part_in mid n) in
      let flying = flies_on told between x mid n n at (length w.ops) w was refl refl a i f in
      after_going n n i (reply.At done.ts done.outcomes) told between told' seen mid.tablet.core.trail seen' refl
      (went_on told between seen mid.tablet.core.trail x mid n n at (length w.ops) was refl refl follows refl a)
      (ended_answers between told' mid.tablet.core.trail seen' mid y n n' n i flying.ts w done.ts done.outcomes refl is same refl ([], sym (append-nil mid.tablet.core.trail), tt) sees flying.aloft
      (log_stays told between x mid n n was refl refl home (ap (λ l. l.holder) a.log) (ap (λ l. l.out) a.log)) flying.command_is e.ended e.told e.holder e.out)

  pub after_apply : (told told' : Option (PartView L D C)) (seen seen' : List Event) (x y : EngineView L D C) (n n' by at count : ℕ) (w : Write) (r : RowTurn)
      → told ≡ Some (part_in x n) → told' ≡ Some (part_in y n') → n' ≡ n → by ≡ n → Follows session_of n seen x.tablet.core.trail → seen' ≡ y.tablet.core.trail
      → TellsStop x.tablet.core → HasNoLog told → IsVisit by x y → count ≡ length w.ops → AppliedBy x y by at count r → AfterApply told told' seen seen' n w at r
  after_apply told told' seen seen' x y n n' by at count w (row.Applied to) was is same me follows sees stops home keeps all applied =
      let a = subst (λ k. Applies x y k at to) me applied.0 in (
        went_on told told' seen seen' x y n n' at to was is same follows sees a,
        λ i f. flies_on told told' x y n n' at to w was is same a i f,
        applied.1,
        subst (λ k. to < k) all applied.2,
      )
  after_apply told told' seen seen' x y n n' by at count w (row.Ended done) was is same me follows sees stops home keeps all (mid, applied, ends) =
      let a = subst (λ k. Applies x mid k at (length w.ops)) me (subst (λ k. Applies x mid by at k) all applied) in
      let e = subst (λ k. EndsWith mid y k done) me ends in
      (same_root told told' x y by n n' was is keeps, λ i f. ends_so told told' seen seen' x mid y n n' at w done was is same follows sees a e home i f)
  after_apply told told' seen seen' x y n n' by at count w row.Early was is same me follows sees stops home keeps all applied = still_tablet told told' seen seen' x y by n n' was is same follows sees keeps (ap (λ v. v.tablet) applied)
  after_apply told told' seen seen' x y n n' by at count w row.Stopped was is same me follows sees stops home keeps all applied =
      (still_tablet told told' seen seen' x y by n n' was is same follows sees keeps (ap (λ v. v.tablet) applied.0), ap has_stop (sees ∙ ap (λ v. v.tablet.core.trail) applied.0) ∙ stop_seen x stops applied.1)

  -- the log is where it was
  pub log_after : (told told' : Option (PartView L D C)) (x y : EngineView L D C) (n n' by at count : ℕ) (r : RowTurn) → told ≡ Some (part_in x n) → told' ≡ Some (part_in y n') → n' ≡ n → HasNoLog told → AppliedBy x y by at count r → HasNoLog told'
  log_after told told' x y n n' by at count (row.Applied to) was is same h a = log_stays told told' x y n n' was is same h (ap (λ l. l.holder) a.0.log) (ap (λ l. l.out) a.0.log)
  log_after told told' x y n n' by at count (row.Ended done) was is same h (mid, a, e) = log_stays told told' x y n n' was is same h (e.holder ∙ ap (λ l. l.holder) a.log) (e.out ∙ ap (λ l. l.out) a.log)
  log_after told told' x y n n' by at count row.Early was is same h a = log_stays told told' x y n n' was is same h (ap (λ v. v.log.holder) a) (ap (λ v. v.log.out) a)
  log_after told told' x y n n' by at count row.Stopped was is same h a = log_stays told told' x y n n' was is same h (ap (λ v. v.log.holder) a.0) (ap (λ v. v.log.out) a.0)

  -- behind visits that left the session where it stood
  pub after_still : (s t : ℕ) (a b c : Option (PartView L D C)) (xs ys zs : List Event) (w : Write) (at : ℕ) (r : RowTurn) → t ≡ s → IsStill s a b xs ys → AfterApply b c ys zs t w at r → AfterApply a c xs zs s w at r
  after_still s t a b c xs ys zs w at (row.Applied to) e f g = (
    going_after s t a b c xs ys zs e (still_going s a b xs ys f) g.0,
    λ i flies. flying_after s t i at to w b c e (g.1 i) (flying_still s i at w a b xs ys f flies),
    g.2,
    g.3,
  )
  after_still s t a b c xs ys zs w at (row.Ended done) e f g = (
    λ root h. g.0 root (still_root root s a b xs ys f h),
    λ i flies. after_going s t i (reply.At done.ts done.outcomes) a b c xs ys zs e (still_going s a b xs ys f) (g.1 i (flying_as s t i at w b e (flying_still s i at w a b xs ys f flies))),
  )
  after_still s t a b c xs ys zs w at row.Early e f g = still_after s t a b c xs ys zs e f g
  after_still s t a b c xs ys zs w at row.Stopped e f g = (still_after s t a b c xs ys zs e f g.0, g.1)

  -- ---- the log comes home, which leaves the tablet, and the write is brought on

  module _ (told : Option (PartView L D C)) (seen : List Event) (x mid : EngineView L D C) (n by : ℕ) (was : told ≡ Some (part_in x n)) (me : by ≡ n)
      (follows : Follows session_of n seen x.tablet.core.trail) (keeps : IsVisit by x mid) (tablet : mid.tablet ≡ x.tablet) where
    abbrev between : Option (PartView L D C)
    between = Some (part_in mid n)

    stays : IsStill n told between seen mid.tablet.core.trail
    stays = still_tablet told between seen mid.tablet.core.trail x mid by n n was refl refl follows refl keeps tablet

    pub home_flies : (i at : ℕ) (w : Write) → IsFlying told n i w at → (ts : ℕ) × OwnFlight mid by i ts w.ops at × IsNext mid by i
    home_flies i at w f =
        let then = flying_still n i at w told between seen mid.tablet.core.trail stays f in (
          then.ts,
          subst (λ k. OwnFlight mid k i then.ts w.ops at) (sym me) (own_flight between mid n i then.ts at w.ops refl then.aloft),
          subst (λ k. IsNext mid k i) (sym me) (own_next between mid n i at w refl then),
        )

    module _ (told' : Option (PartView L D C)) (y : EngineView L D C) (n' at count : ℕ) (r : RowTurn) (is : told' ≡ Some (part_in y n')) (same : n' ≡ n) (home : mid.log.holder ≡ None) (applied : AppliedBy mid y by at count r) where
      free : HasNoLog between
      free = no_log between mid n refl home

      pub home_log : HasNoLog told'
      home_log = log_after between told' mid y n n' by at count r refl is same free applied

      pub home_apply : (seen' : List Event) (w : Write) → seen' ≡ y.tablet.core.trail → TellsStop x.tablet.core → IsVisit by mid y → count ≡ length w.ops → AfterApply told told' seen seen' n w at r
      home_apply seen' w sees stops goes all =
          after_still n n told between told' seen mid.tablet.core.trail seen' w at r refl stays
          (after_apply between told' mid.tablet.core.trail seen' mid y n n' by at count w r refl is same me ([], sym (append-nil mid.tablet.core.trail), tt) sees (subst (λ (t : View C). TellsStop t.core) (sym tablet) stops) free goes all applied)
