-- Where a session stands, as the tablet machine has it.
use Rattle.kt_history.specs.Machine.{Turn}
use Rattle.kt_tablet.specs.declared.turns.Place.{Place}

abbrev pub turn_of : Place → Turn
turn_of p = record { next = p.next; look = p.look }
