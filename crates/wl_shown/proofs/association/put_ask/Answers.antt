use Rattle.std.specs.String.{string_bytes}
use Rattle.wl_shown.proofs.Bodies.{ask_shown, ask_refused}
use Rattle.wl_shown.proofs.association.put_ask.Goals as goal

pub returns-in-Ok-ask_profiles-clause-shown : goal.returns-in-Ok-ask_profiles-clause-shown
returns-in-Ok-ask_profiles-clause-shown c =
    ask_shown c.args.octets.now c.in-Ok.ask c.in-Ok-ask_profiles.asks c.put_read_ask.result (string_bytes c.put_read_ask.new.items) c.in-Ok.ensures.read c.in-Ok-ask_profiles.ensures.read (rw c.as_slice.ensures at c.put_read_ask.ensures.shown)

pub returns-in-Ok-ask_profiles-clause-refused : goal.returns-in-Ok-ask_profiles-clause-refused
returns-in-Ok-ask_profiles-clause-refused c =
    ask_refused c.args.octets.now c.in-Ok.ask c.in-Ok-ask_profiles.asks c.put_read_ask.result c.in-Ok.ensures.read c.in-Ok-ask_profiles.ensures.read c.put_read_ask.ensures.refused
