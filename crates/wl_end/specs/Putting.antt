-- What bodies are sealed under, where a frame goes, and what is asked of the peer.
use Rattle.std.specs.Prelude.{ℕ, ◌%◌, Bool, true, false, List, [], Result, Ok, Err}
use Rattle.wl_elem.specs.declared.lane.Lane.{Lane}
use Rattle.wl_elem.specs.declared.lane.EndId.{EndId}
use Rattle.wl_window.specs.Originating.{Sending}
use Rattle.wl_window.specs.declared.refusal.MoveRefusal.{MoveRefusal}
use Rattle.wl_history.specs.declared.ack.Bar.{Bar}
use Rattle.wl_history.specs.declared.hand.Hand.{Hand}
use Rattle.wl_history.specs.declared.hand.Hand.TheVariants as hand
use Rattle.wl_history.specs.declared.opened.Opened.{Opened}
use Rattle.wl_history.specs.declared.start.EndStart.{EndStart}
use Rattle.wl_history.specs.Answers.{airing}
use Rattle.wl_history.specs.Hearing.{sealed_under}
use Rattle.wl_history.specs.Words.{Airing}
use Rattle.wl_end.specs.declared.flight.Flight.{Flight}
use Rattle.wl_end.specs.declared.flight.Under.{Under}

abbrev pub is_booking : Hand → Bool
is_booking hand.Empty = false
is_booking (hand.Reserve lane) = false
is_booking (hand.Booking lane n) = true

-- what bodies of a sender's lane are sealed under, under this key and packet number
abbrev pub under : EndStart → EndId → Lane → ℕ → ℕ → Opened
under start sender lane key pn = sealed_under start sender lane (record { pos = 0; key = key; pn = pn }) []

-- where a frame goes, and what it carries but for the body
abbrev pub flown : Flight → List ℕ → Airing
flown f body = airing f.link f.lane f.numbers f.retry body

-- all that was sealed
abbrev pub four_of : Under → List ℕ → Opened
four_of u body = record { key = u.key; nonce = u.nonce; aad = u.aad; body = body }

-- a request of a lane whose positions were given up so
abbrev pub bar_of : Lane → Result Sending MoveRefusal → Result Bar MoveRefusal
bar_of lane (Ok sending) = Ok (record { lane = lane; start = sending.base % 4096 })
bar_of lane (Err why) = Err why
