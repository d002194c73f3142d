use Rattle.std.proofs.Common.{ℕ, Ok, subst}
use Rattle.std.specs.String.{string_bytes}
use Rattle.wl_assoc.specs.Profiles.{StatesAs}
use Rattle.wl_shown.proofs.Bodies.{reply_shown, reply_refused}
use Rattle.wl_shown.proofs.association.put_reply.Goals as goal

pub returns-in-Ok-links_of-clause-shown : goal.returns-in-Ok-links_of-clause-shown
returns-in-Ok-links_of-clause-shown c =
    let told = subst (λ (on : ℕ). StatesAs c.in-Ok.reply on (Ok c.in-Ok-links_of.states)) c.in-Some.ensures.value c.in-Ok-links_of.ensures.read in
    reply_shown c.args.octets.now c.in-Ok.reply c.in-Ok-links_of.states c.put_read_reply.result (string_bytes c.put_read_reply.new.items) c.in-Ok.ensures.read told (rw c.as_slice.ensures at c.put_read_reply.ensures.shown)

pub returns-in-Ok-links_of-clause-refused : goal.returns-in-Ok-links_of-clause-refused
returns-in-Ok-links_of-clause-refused c =
    let told = subst (λ (on : ℕ). StatesAs c.in-Ok.reply on (Ok c.in-Ok-links_of.states)) c.in-Some.ensures.value c.in-Ok-links_of.ensures.read in
    reply_refused c.args.octets.now c.in-Ok.reply c.in-Ok-links_of.states c.put_read_reply.result c.in-Ok.ensures.read told c.put_read_reply.ensures.refused
