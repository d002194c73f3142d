-- Which links a reply names.
use Rattle.std.proofs.Common.{◌≡◌, ℕ, ◌<◌, true, List, Option, Some, None, refl, ap, ◌∙◌, is_some}
use Rattle.std.specs.Prelude.{option_map}
use Rattle.wl_setup.specs.declared.message.SetupAsk.{SetupAsk}
use Rattle.wl_setup.specs.declared.message.SetupReply.{SetupReply}
use Rattle.wl_setup.specs.Messages.{IsAnswer, asked_status, asked_statuses}
use Rattle.wl_setup.specs.Table.{is_named}
use Rattle.wl_setup.proofs.Tables.{entry_for-each_link}

is_some-option_map : {A B : Type 0} (f : A → B) (o : Option A) → is_some (option_map f o) ≡ is_some o
is_some-option_map f None = refl
is_some-option_map f (Some x) = refl

pub is_named-asked_statuses : (macs : List (Option (List ℕ))) (status : ℕ → ℕ) (link : ℕ) → link < 15 → is_named (asked_statuses macs status) link ≡ is_named macs link
is_named-asked_statuses macs status link low =
    ap (λ (o : Option ℕ). is_some o) (entry_for-each_link (asked_status macs status) link low) ∙ is_some-option_map (λ (mac : List ℕ). status link) _

pub answer_of : (ask : SetupAsk) (statuses : List (Option ℕ)) (status : ℕ → ℕ) → statuses ≡ asked_statuses ask.macs status → IsAnswer ask (record { on = ask.on; status = statuses })
answer_of ask statuses status is = record {
  over = refl;
  named = λ link low. ap (λ (s : List (Option ℕ)). is_named s link) is ∙ is_named-asked_statuses ask.macs status link low;
}

pub carrying_named : (ask : SetupAsk) (reply : SetupReply) → IsAnswer ask reply → ask.on < 15 → is_named ask.macs ask.on ≡ true → is_named reply.status reply.on ≡ true
carrying_named ask reply is low asked = ap (is_named reply.status) is.over ∙ is.named ask.on low ∙ asked
