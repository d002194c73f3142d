-- Each command that is read is one of a scenario.
use Rattle.std.proofs.Common.{◌≡◌, ℕ, Bool, if◌then◌else◌, List, Option, Some, None, bytes_eq, codes, subst}
use Rattle.serde_json.specs.Data.{Data}
use Rattle.wl_elem.specs.declared.lane.EndId.{EndId}
use Rattle.wl_history.specs.declared.command.Command.{Command}
use Rattle.wl_history.specs.declared.command.Command.TheVariants as commands
use Rattle.wl_history.specs.declared.script.Plain.{Plain}
use Rattle.wl_history.specs.declared.script.Plain.TheVariants.{Do, Send}
use Rattle.wl_history.specs.declared.start.LinkStart.{LinkStart}
use Rattle.wl_history.specs.declared.start.Start.{Start}
use Rattle.wl_history.specs.Legal.{IsSealable}
use Rattle.wl_scene.specs.Commands.{alone_at, by_end, queue_of, send_of, reserve_of, put_of, deliver_of, again_of, alter_of, forge_of, inject_of, map_ask_of, bar_out_of, bar_in_of, ack_out_of, ack_in_of, power_of, give_up_of, named, any_named, command_of}
use Rattle.wl_scene.specs.Entries.{entries_at}
use Rattle.wl_scene.specs.Fields.{end_at, tid_at, lane_at, link_in, key_at, pn_at, position_at, sequence_at, body_at, injected_at, nth_at, on_at, machine_at}
use Rattle.wl_scene.specs.Members.{◌>>=◌, text_at}
use Rattle.wl_scene.specs.Sound.{PlainFits}
use Rattle.wl_scene.proofs.Found.{never, either, mapped, followed, next}
use Rattle.wl_scene.proofs.Fields.{HasLinks, body_fits, injected_fits, tid_fits, lane_fits, sequence_fits, pn_fits, link_fits, entries_fit}

-- the command that was found is this one
given : (start : Start) (q p : Plain) → PlainFits start q → Some q ≡ Some p → PlainFits start p
given start q p fits same = let is : q ≡ p = cc in subst (PlainFits start) is fits

-- a row of the table, with its end
row : (start : Start) (b : Bool) (d : Data) (rest : EndId → Option Plain) (p : Plain) → ((end : EndId) → rest end ≡ Some p → PlainFits start p) → (if b then (end_at d >>= rest) else None) ≡ Some p → PlainFits start p
row start b d rest p fits = either b (end_at d >>= rest) None p (PlainFits start p) (next (end_at d) rest p (PlainFits start p) (λ end found. fits end)) (never p (PlainFits start p))

-- a command whose only member is its end
by_end_fits : (start : Start) (make : EndId → Command) (d : Data) (p : Plain) → ((end : EndId) → PlainFits start (Do (make end))) → by_end make d ≡ Some p → PlainFits start p
by_end_fits start make d p fits = mapped (λ (end : EndId). Do (make end)) (alone_at d) p (PlainFits start p) (λ end found is. subst (PlainFits start) is (fits end))

queue_fits : (start : Start) (d : Data) (p : Plain) → queue_of d ≡ Some p → PlainFits start p
queue_fits start d p =
    row start _ d _ p
    (λ end. next (tid_at d) _ p _
    (λ tid tid_is. next (body_at d) _ p _
    (λ body body_is. let fits = body_fits d body body_is in given start (Do (commands.Queue end tid body)) p (tid_fits d tid tid_is, fits.0, fits.1))))

send_fits : (start : Start) (links : List LinkStart) (d : Data) (p : Plain) → HasLinks start links → send_of links d ≡ Some p → PlainFits start p
send_fits start links d p has =
    row start _ d _ p
    (λ end. next (link_in links d) _ p _
    (λ link link_is. next (lane_at d) _ p _
    (λ lane lane_is. given start (Send end link lane) p (lane_fits d lane lane_is, link_fits start links d link end has link_is))))

reserve_fits : (start : Start) (d : Data) (p : Plain) → reserve_of d ≡ Some p → PlainFits start p
reserve_fits start d p = row start _ d _ p (λ end. next (lane_at d) _ p _ (λ lane is. given start (Do (commands.Reserve end lane)) p (lane_fits d lane is)))

put_fits : (start : Start) (links : List LinkStart) (d : Data) (p : Plain) → HasLinks start links → put_of links d ≡ Some p → PlainFits start p
put_fits start links d p has = row start _ d _ p (λ end. next (link_in links d) _ p _ (λ link is. given start (Do (commands.Put end link)) p (link_fits start links d link end has is)))

deliver_fits : (start : Start) (links : List LinkStart) (d : Data) (p : Plain) → HasLinks start links → deliver_of links d ≡ Some p → PlainFits start p
deliver_fits start links d p has =
    row start _ d _ p
    (λ end. next (link_in links d) _ p _
    (λ link link_is. next (nth_at d) _ p _
    (λ nth nth_is. given start (Do (commands.Deliver end link nth)) p (link_fits start links d link end has link_is))))

again_fits : (start : Start) (links : List LinkStart) (d : Data) (p : Plain) → HasLinks start links → again_of links d ≡ Some p → PlainFits start p
again_fits start links d p has =
    row start _ d _ p
    (λ end. next (link_in links d) _ p _
    (λ link link_is. next (lane_at d) _ p _
    (λ lane lane_is. next (position_at (codes "pos") d) _ p _
    (λ pos pos_is. given start (Do (commands.Again end link lane pos)) p (link_fits start links d link end has link_is, lane_fits d lane lane_is)))))

alter_fits : (start : Start) (links : List LinkStart) (d : Data) (p : Plain) → HasLinks start links → alter_of links d ≡ Some p → PlainFits start p
alter_fits start links d p has =
    row start _ d _ p
    (λ end. next (link_in links d) _ p _
    (λ link link_is. next (nth_at d) _ p _
    (λ nth nth_is. next (sequence_at d) _ p _
    (λ number number_is. given start (Do (commands.Alter end link nth number)) p (link_fits start links d link end has link_is, sequence_fits d number number_is)))))

forge_fits : (start : Start) (links : List LinkStart) (d : Data) (p : Plain) → HasLinks start links → forge_of links d ≡ Some p → PlainFits start p
forge_fits start links d p has =
    row start _ d _ p
    (λ end. next (link_in links d) _ p _
    (λ link link_is. next (lane_at d) _ p _
    (λ lane lane_is. next (key_at d) _ p _
    (λ key key_is. next (pn_at d) _ p _
    (λ pn pn_is. next (sequence_at d) _ p _
    (λ number number_is. next (body_at d) _ p _
    (λ body body_is.
    let pns = pn_fits d pn pn_is in
    let sizes = body_fits d body body_is in
    let sealable : IsSealable pn number body = record { some_pn = pns.0; pn_limit = pns.1; number_limit = sequence_fits d number number_is; some_body = sizes.0; body_limit = sizes.1 } in
    given start (Do (commands.Forge end link lane key pn number body)) p (link_fits start links d link end has link_is, lane_fits d lane lane_is, sealable))))))))

inject_fits : (start : Start) (links : List LinkStart) (d : Data) (p : Plain) → HasLinks start links → inject_of links d ≡ Some p → PlainFits start p
inject_fits start links d p has =
    row start _ d _ p
    (λ end. next (link_in links d) _ p _
    (λ link link_is. next (injected_at d) _ p _
    (λ octets octets_are. given start (Do (commands.Inject end link octets)) p (link_fits start links d link end has link_is, injected_fits d octets octets_are))))

map_ask_fits : (start : Start) (d : Data) (p : Plain) → map_ask_of d ≡ Some p → PlainFits start p
map_ask_fits start d p = row start _ d _ p (λ end. next (entries_at d) _ p _ (λ entries is. given start (Do (commands.MapAsk end entries)) p (entries_fit d entries is)))

ack_out_fits : (start : Start) (d : Data) (p : Plain) → ack_out_of d ≡ Some p → PlainFits start p
ack_out_fits start d p = row start _ d _ p (λ end. next (lane_at d) _ p _ (λ lane is. given start (Do (commands.AckOut end lane)) p (lane_fits d lane is)))

ack_in_fits : (start : Start) (d : Data) (p : Plain) → ack_in_of d ≡ Some p → PlainFits start p
ack_in_fits start d p = row start _ d _ p (λ end. next (nth_at d) _ p _ (λ nth is. given start (Do (commands.AckIn end nth)) p tt))

bar_out_fits : (start : Start) (d : Data) (p : Plain) → bar_out_of d ≡ Some p → PlainFits start p
bar_out_fits start d p =
    row start _ d _ p
    (λ end. next (lane_at d) _ p _
    (λ lane is. next (position_at (codes "to") d) _ p _
    (λ to to_is. given start (Do (commands.BarOut end lane to)) p (lane_fits d lane is))))

bar_in_fits : (start : Start) (d : Data) (p : Plain) → bar_in_of d ≡ Some p → PlainFits start p
bar_in_fits start d p = row start _ d _ p (λ end. next (nth_at d) _ p _ (λ nth is. given start (Do (commands.BarIn end nth)) p tt))

power_fits : (start : Start) (links : List LinkStart) (d : Data) (p : Plain) → HasLinks start links → power_of links d ≡ Some p → PlainFits start p
power_fits start links d p has =
    row start _ d _ p
    (λ end. next (link_in links d) _ p _
    (λ link link_is. next (on_at d) _ p _
    (λ on on_is. given start (Do (commands.Power end link on)) p (link_fits start links d link end has link_is))))

give_up_fits : (start : Start) (d : Data) (p : Plain) → give_up_of d ≡ Some p → PlainFits start p
give_up_fits start d p = row start _ d _ p (λ end. next (machine_at d) _ p _ (λ what is. given start (Do (commands.GiveUp end what)) p tt))

-- ---- commands by name

named_fits : (start : Start) (links : List LinkStart) (name : List ℕ) (d : Data) (p : Plain) → HasLinks start links → named links name d ≡ Some p → PlainFits start p
named_fits start links name d p has =
    let P : Type 0 = PlainFits start p in
    either (bytes_eq name (codes "send")) (send_of links d) _ p P (send_fits start links d p has)
    (either (bytes_eq name (codes "reserve")) (reserve_of d) _ p P (reserve_fits start d p)
    (either (bytes_eq name (codes "book")) (by_end commands.Book d) _ p P (by_end_fits start commands.Book d p (λ end. tt))
    (either (bytes_eq name (codes "put")) (put_of links d) _ p P (put_fits start links d p has)
    (either (bytes_eq name (codes "again")) (again_of links d) _ p P (again_fits start links d p has)
    (either (bytes_eq name (codes "deliver")) (deliver_of links d) _ p P (deliver_fits start links d p has)
    (either (bytes_eq name (codes "alter")) (alter_of links d) _ p P (alter_fits start links d p has)
    (either (bytes_eq name (codes "ack_out")) (ack_out_of d) _ p P (ack_out_fits start d p)
    (either (bytes_eq name (codes "ack_in")) (ack_in_of d) _ p P (ack_in_fits start d p)
    (either (bytes_eq name (codes "bar_out")) (bar_out_of d) _ p P (bar_out_fits start d p)
    (either (bytes_eq name (codes "bar_in")) (bar_in_of d) _ p P (bar_in_fits start d p)
    (either (bytes_eq name (codes "install")) (by_end commands.Install d) _ p P (by_end_fits start commands.Install d p (λ end. tt))
    (either (bytes_eq name (codes "turn")) (by_end commands.Turn d) _ p P (by_end_fits start commands.Turn d p (λ end. tt))
    (either (bytes_eq name (codes "power")) (power_of links d) _ p P (power_fits start links d p has)
    (either (bytes_eq name (codes "map_teardown")) (by_end commands.MapTeardown d) _ p P (by_end_fits start commands.MapTeardown d p (λ end. tt))
    (either (bytes_eq name (codes "give_up")) (give_up_of d) None p P (give_up_fits start d p) (never p P))))))))))))))))

pub plain_fits : (start : Start) (links : List LinkStart) (d : Data) (p : Plain) → HasLinks start links → command_of links d ≡ Some p → PlainFits start p
unfolding command_of
plain_fits start links d p has =
    let P : Type 0 = PlainFits start p in
    followed (any_named links d) (text_at (codes "do") d) p P
    (λ name. either (bytes_eq name (codes "queue")) (queue_of d) _ p P (queue_fits start d p)
    (either (bytes_eq name (codes "forge")) (forge_of links d) _ p P (forge_fits start links d p has)
    (either (bytes_eq name (codes "inject")) (inject_of links d) _ p P (inject_fits start links d p has)
    (either (bytes_eq name (codes "map_ask")) (map_ask_of d) (named links name d) p P (map_ask_fits start d p) (named_fits start links name d p has)))))
