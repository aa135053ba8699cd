-- What the texts give back.
use Rattle.std.specs.Prelude.{◌≡◌, ℕ, ◌^◌, ◌<◌, List, [], ◌∷◌, length, map, All}
use Rattle.kt_history.specs.declared.event.Event.{Event}
use Rattle.kt_history.specs.declared.event.Event.TheVariants as event
use Rattle.kt_script.specs.declared.replies.ReplyLine.{ReplyLine}
use Rattle.kt_script.specs.declared.replies.ReplyLine.TheVariants as reply
use Rattle.kt_script.specs.declared.output.LastLine.{LastLine}
use Rattle.kt_script.specs.declared.output.LastLine.TheVariants as last
use Rattle.kt_script.specs.declared.lists.ShownReply.{ShownReply}
use Rattle.kt_script.specs.Texts.{reply_numbers, event_numbers, output_text, seen}

-- a number that the program can hold
abbrev pub Fits64 : ℕ → Type 0
Fits64 n = n < 2 ^ 64

abbrev pub Fits32 : ℕ → Type 0
Fits32 n = n < 2 ^ 32

-- the numbers of 32 bits
abbrev pub short_of_reply : ReplyLine → List ℕ
short_of_reply (reply.Large n) = n ∷ []
short_of_reply _ = []

abbrev pub short_of_event : Event → List ℕ
short_of_event (event.Begin s i ts m) = s ∷ i ∷ []
short_of_event (event.End s i ts) = s ∷ i ∷ []
short_of_event (event.Look s i t m) = s ∷ i ∷ []
short_of_event (event.Rows s i t) = s ∷ i ∷ []
short_of_event (event.Ancient s i t a) = s ∷ i ∷ []
short_of_event (event.Busy s i t f) = s ∷ i ∷ []
short_of_event (event.Mark s i a) = s ∷ i ∷ []
short_of_event (event.Chore s i) = s ∷ i ∷ []
short_of_event (event.Large s i n) = s ∷ i ∷ n ∷ []
short_of_event event.Stop = []

abbrev pub ReplyFits : ShownReply → Type 0
ReplyFits shown = All Fits64 (reply_numbers shown.reply) × All Fits32 (short_of_reply (seen shown))

abbrev pub EventFits : Event → Type 0
EventFits e = All Fits64 (event_numbers e) × All Fits32 (short_of_event e)

abbrev pub LastFits : LastLine → Type 0
LastFits (last.Numbers a c rowsets) = Fits64 a × Fits64 c × Fits64 rowsets
LastFits last.Stopped = Unit {0}

-- an output that the program can hold
pub record OutputFits (sessions : List (List ShownReply)) (events : List Event) (end : LastLine) : Type 0 where
  pub count : Fits64 (length sessions)
  pub replies_fit : All (All ReplyFits) sessions
  pub events_fit : All EventFits events
  pub end_fits : LastFits end

-- outputs of one text have the same replies as far as a text shows them, the same history and the same last line
abbrev pub texts_give_back : Type 0
texts_give_back = (xs ys : List (List ShownReply)) (es fs : List Event) (a b : LastLine) → OutputFits xs es a → OutputFits ys fs b → output_text xs es a ≡ output_text ys fs b
    → (map (map seen) xs ≡ map (map seen) ys) × (es ≡ fs) × (a ≡ b)
