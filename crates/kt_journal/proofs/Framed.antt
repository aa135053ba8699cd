-- Records in their order, and their frames.
use Rattle.std.proofs.Common.{◌≡◌, ℕ, ◌^◌, ◌<◌, true, List, [], ◌∷◌, ◌++◌, length, map, refl}
use Rattle.std.specs.List.{All, AllByRecursion}
use Rattle.std.proofs.lemmas.List.Elements.{All-head, All-tail, All-from_recursion}
use Rattle.kt_records.specs.declared.entry.Entry.{Entry}
use Rattle.kt_records.specs.Spelling.{spelling}
use Rattle.kt_journal.specs.Frames.{AllFit}
use Rattle.kt_journal.specs.Order.{follows, IsFramed, InOrder, newest_first}

abbrev IsShort : List ℕ → Type 0
IsShort payload = length payload < 2 ^ 32

each_short : (records : List Entry) → All IsFramed records → AllByRecursion IsShort (map spelling records)
each_short [] framed = tt
each_short (r ∷ records) framed = ((All-head IsFramed r records framed).short, each_short records (All-tail IsFramed r records framed))

pub all_fit : (records : List Entry) → All IsFramed records → AllFit (map spelling records)
all_fit records framed = All-from_recursion IsShort (map spelling records) (each_short records framed)

ordered_short : (before records : List Entry) → InOrder before records → AllByRecursion IsShort (map spelling records)
ordered_short before [] ordered = tt
ordered_short before (r ∷ records) ordered = (ordered.0.short, ordered_short (r ∷ before) records ordered.2)

pub order_fit : (before records : List Entry) → InOrder before records → AllFit (map spelling records)
order_fit before records ordered = All-from_recursion IsShort (map spelling records) (ordered_short before records ordered)

pub order_front : (before records more : List Entry) → InOrder before (records ++ more) → InOrder before records
order_front before [] more ordered = tt
order_front before (r ∷ records) more ordered = (ordered.0, ordered.1, order_front (r ∷ before) records more ordered.2)

pub order_push : (before records : List Entry) (r : Entry) → InOrder before records → IsFramed r → follows (newest_first before records) r ≡ true → InOrder before (records ++ r ∷ [])
order_push before [] r ordered framed may = (framed, may, tt)
order_push before (s ∷ records) r ordered framed may = (ordered.0, ordered.1, order_push (s ∷ before) records r ordered.2 framed may)

pub newest_push : (before records : List Entry) (r : Entry) → newest_first before (records ++ r ∷ []) ≡ r ∷ newest_first before records
newest_push before [] r = refl
newest_push before (s ∷ records) r = newest_push (s ∷ before) records r

pub order_framed : (before records : List Entry) → InOrder before records → All IsFramed records
order_framed before records ordered = All-from_recursion IsFramed records (each before records ordered)
  where
    each : (before records : List Entry) → InOrder before records → AllByRecursion IsFramed records
    each before [] ordered = tt
    each before (r ∷ records) ordered = (ordered.0, each (r ∷ before) records ordered.2)
