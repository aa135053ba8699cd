use Rattle.std.proofs.Common.{◌≡◌, ℕ, List, length, map, sym, ◌∙◌, ap, subst, arith}
use Rattle.std.proofs.lemmas.List.{length-map}
use Rattle.kt_disk.specs.Disk.{Files, held}
use Rattle.kt_records.specs.Spelling.{spelling}
use Rattle.kt_journal.specs.Frames.{frames_in, EndsAt}
use Rattle.kt_journal.proofs.Frames.{count_le}
use Rattle.kt_journal.proofs.Opened.{steady_kept, stands, ends_read, opens, opens_same, opens_shut}
use Rattle.kt_journal.proofs.Openable.{can_open_same}
use Rattle.kt_journal.proofs.opening.open_frames.Goals as goal

pub shut_log-requires-clause-len : goal.shut_log-requires-clause-len
shut_log-requires-clause-len g c told =
    omega (arith, c.len.ensures, c.as_slice.ensures.len, ap length c.as_slice.ensures.value, ap length (c.in_ok-bytes.ensures.bytes told), ap (λ (f : Files). length (held f c.args.file)) (c.log_bytes.ensures.seen told))

pub shut_log-requires-clause-steady : goal.shut_log-requires-clause-steady
shut_log-requires-clause-steady g c told =
    steady_kept g.L.Disk.seen _ _ _ _ _ (c.in_ok-steady.ensures.steady told) (c.log_bytes.ensures.images told) (c.log_bytes.ensures.seen told)

pub shut_log-requires-clause-ends : goal.shut_log-requires-clause-ends
shut_log-requires-clause-ends g c told =
    let same = c.log_bytes.ensures.seen told in
    let bytes : List ℕ = held (g.L.Disk.seen c.log_bytes.new.disk) c.args.file in
    let read : c.as_slice.result.now ≡ bytes = c.as_slice.ensures.value ∙ c.in_ok-bytes.ensures.bytes told ∙ ap (λ (f : Files). held f c.args.file) (sym same) in
    let ends : EndsAt bytes (map spelling c.in_ok-records.records) c.in_ok-records.place = subst (λ (l : List ℕ). EndsAt l (map spelling c.in_ok-records.records) c.in_ok-records.place) read c.in_ok-records.ensures.found in
    let steady = steady_kept g.L.Disk.seen _ _ _ _ _ (c.in_ok-steady.ensures.steady told) (c.log_bytes.ensures.images told) same in
    subst (λ (r : List (List ℕ)). EndsAt bytes r c.in_ok-records.place) (sym (stands g.L.Disk.seen _ _ _ _ _ _ ends steady)) ends

pub returns-clause-below : goal.returns-clause-below
returns-clause-below g c = omega (arith, count_le (map spelling c.in_ok-records.records), length-map c.in_ok-records.records spelling, c.in_ok-records.ensures.found.place_is)

pub returns-clause-reads : goal.returns-clause-reads
returns-clause-reads g c told =
    let read : held (g.L.Disk.seen c.args.disk.now) c.args.file ≡ c.as_slice.result.now = sym (c.as_slice.ensures.value ∙ c.in_ok-bytes.ensures.bytes told ∙ ap (λ (f : Files). held f c.args.file) (c.in_ok-steady.ensures.seen told)) in
    ap frames_in read ∙ ends_read _ _ _ c.in_ok-records.ensures.found

pub returns-clause-settled : goal.returns-clause-settled
returns-clause-settled g c told =
    let same = c.log_bytes.ensures.seen told in
    let bytes : List ℕ = held (g.L.Disk.seen c.log_bytes.new.disk) c.args.file in
    let read : c.as_slice.result.now ≡ bytes = c.as_slice.ensures.value ∙ c.in_ok-bytes.ensures.bytes told ∙ ap (λ (f : Files). held f c.args.file) (sym same) in
    let ends : EndsAt bytes (map spelling c.in_ok-records.records) c.in_ok-records.place = subst (λ (l : List ℕ). EndsAt l (map spelling c.in_ok-records.records) c.in_ok-records.place) read c.in_ok-records.ensures.found in
    let steady = steady_kept g.L.Disk.seen _ _ _ _ _ (c.in_ok-steady.ensures.steady told) (c.log_bytes.ensures.images told) same in
    let kept = c.in_ok-shut_log.ensures.settled told in
    (kept.0, kept.1 ∙ stands g.L.Disk.seen _ _ _ _ _ _ ends steady)

pub returns-in_err-steady-clause-openable : goal.returns-in_err-steady-clause-openable
returns-in_err-steady-clause-openable g c told can = can_open_same g.L.Disk.seen _ _ _ _ _ (c.steady.ensures.images told) can

pub returns-in_err-bytes-clause-openable : goal.returns-in_err-bytes-clause-openable
returns-in_err-bytes-clause-openable g c told can = can_open_same g.L.Disk.seen _ _ _ _ _ (c.log_bytes.ensures.images told) (can_open_same g.L.Disk.seen _ _ _ _ _ (c.steady.ensures.images told) can)

pub returns-in_err-records-clause-openable : goal.returns-in_err-records-clause-openable
returns-in_err-records-clause-openable g c told can = can_open_same g.L.Disk.seen _ _ _ _ _ (c.log_bytes.ensures.images told) (can_open_same g.L.Disk.seen _ _ _ _ _ (c.steady.ensures.images told) can)

pub returns-in_err-shut_log-clause-openable : goal.returns-in_err-shut_log-clause-openable
returns-in_err-shut_log-clause-openable g c told can = c.shut_log.ensures.openable told (can_open_same g.L.Disk.seen _ _ _ _ _ (c.log_bytes.ensures.images told) (can_open_same g.L.Disk.seen _ _ _ _ _ (c.steady.ensures.images told) can))

pub returns-clause-openable : goal.returns-clause-openable
returns-clause-openable g c told can = c.shut_log.ensures.openable told (can_open_same g.L.Disk.seen _ _ _ _ _ (c.log_bytes.ensures.images told) (can_open_same g.L.Disk.seen _ _ _ _ _ (c.steady.ensures.images told) can))

pub returns-in_err-shut_log-clause-any_moment : goal.returns-in_err-shut_log-clause-any_moment
returns-in_err-shut_log-clause-any_moment g c told =
    let first = opens g.L.Disk.seen g.L.Disk.now g.L.Disk.leaves c.args.file c.args.disk.now in
    let second = opens_same g.L.Disk.seen _ _ _ _ _ _ first (c.steady.ensures.images told) in
    let third = opens_same g.L.Disk.seen _ _ _ _ _ _ second (c.log_bytes.ensures.images told) in
    opens_shut g.L.Disk.seen _ _ _ _ _ _ _ third (c.shut_log.ensures.any_moment told) (c.shut_log.ensures.elsewhere told)

pub returns-clause-any_moment : goal.returns-clause-any_moment
returns-clause-any_moment g c told =
    let first = opens g.L.Disk.seen g.L.Disk.now g.L.Disk.leaves c.args.file c.args.disk.now in
    let second = opens_same g.L.Disk.seen _ _ _ _ _ _ first (c.steady.ensures.images told) in
    let third = opens_same g.L.Disk.seen _ _ _ _ _ _ second (c.log_bytes.ensures.images told) in
    opens_shut g.L.Disk.seen _ _ _ _ _ _ _ third (c.shut_log.ensures.any_moment told) (c.shut_log.ensures.elsewhere told)
