-- Which links are set up.
use Rattle.std.proofs.Common.{◌≡◌, ℕ, inl, inr, ◌<◌, Bool, true, false, List, Option, Some, None, refl, sym, ap, ◌∙◌, subst, eqb-true, is_some}
use Rattle.std.proofs.lemmas.Bool.{and_from, and_parts, false≢true}
use Rattle.std.specs.Prelude.{◌==◌, ◌&&◌, bytes_eq, option_map, if◌then◌else◌}
use Rattle.std.specs.Bool.{Decides}
use Rattle.std.proofs.lemmas.Bool.Decides.{same_from_decides, eqb_tells}
use Rattle.std.proofs.lemmas.Slice.Eq.{bytes_eq-Decides}
use Rattle.wl_elem.specs.Links.{has_link, IsSubset}
use Rattle.wl_setup.specs.declared.message.Exchange.{Exchange}
use Rattle.wl_setup.specs.declared.message.SetupAsk.{SetupAsk}
use Rattle.wl_setup.specs.declared.message.SetupReply.{SetupReply}
use Rattle.wl_setup.specs.Ap.{ApState, IsGrantable, IsRemembered, IsRepeated, status_on, is_carried, status_given, first_reply, refusal_of, later_reply, ask_answer, is_joining, associated, after_ask}
use Rattle.wl_setup.specs.Messages.{IsAnswer, is_address, address_on, asked_status, is_granted, links_granted, same_ask}
use Rattle.wl_setup.specs.Station.{StationState, IsConfirmed, IsChoice, is_fit, is_choice, ask_for, awaits_over, links_after, after_reply}
use Rattle.wl_setup.specs.Status.{success, unspecified_failure, status_of, status_beside, is_success}
use Rattle.wl_setup.specs.Table.{entry_for, is_named, links_that, all_links}
use Rattle.wl_setup.proofs.Tables.{entry_for-each_link}
use Rattle.wl_setup.proofs.Sets.{has-links_that, all_links-Decides}
use Rattle.wl_setup.proofs.Requests.{same_ask-Decides}
use Rattle.wl_setup.proofs.Replies.{answer_of}

fit : (a b : Bool) → (a ≡ true → b ≡ true) → (if a then b else true) ≡ true
fit true b h = h refl
fit false b h = refl

unfit : (a b : Bool) → (if a then b else true) ≡ true → a ≡ true → b ≡ true
unfit true b h is = h
unfit false b h is = cc

pub subset_fit : (macs : List (Option (List ℕ))) (links known : ℕ) (r : Bool) → known ≡ links_that (is_named macs) → Decides r (IsSubset links known) → r ≡ all_links (is_fit macs links)
subset_fit macs links known r is test =
    let fits = all_links-Decides (is_fit macs links) in
    let has : (link : ℕ) → link < 15 → has_link known link ≡ is_named macs link = λ link low. ap (λ (s : ℕ). has_link s link) is ∙ has-links_that (is_named macs) link low in
    same_from_decides {P = IsSubset links known} r (all_links (is_fit macs links)) test (
      λ h link low asked. has link low ∙ unfit (has_link links link) (is_named macs link) (fits.0 h link low) asked,
      λ subset. fits.1 (λ link low. fit (has_link links link) (is_named macs link) (λ asked. sym (has link low) ∙ subset link low asked)),
    )

kept_named : {A : Type 0} (kept : Bool) (entry : Option A) → (if kept then is_some entry else true) ≡ true → is_some (if kept then entry else None) ≡ kept
kept_named true entry h = h
kept_named false entry h = refl

pub choice_named : (station : StationState) (on links link : ℕ) → is_choice station on links ≡ true → link < 15 → is_named (ask_for station on links).macs link ≡ has_link links link
choice_named station on links link is low =
    let fits = (all_links-Decides (is_fit station.macs links)).0 (and_parts _ _ is).1 in
    ap (λ (o : Option (List ℕ)). is_some o) (entry_for-each_link (address_on station.macs links) link low) ∙ kept_named (has_link links link) (entry_for station.macs link) (fits link low)

-- only a known, accepted and powered link succeeds, and that beside a carrying link that does
succeeding : (carried known accepted lit : Bool) → (status_beside carried (status_of known accepted lit) == success) ≡ true → (known ≡ true) × (accepted ≡ true) × (lit ≡ true)
succeeding carried true true true h = (refl, refl, refl)
succeeding true true true false h = cc
succeeding false true true false h = cc
succeeding true true false lit h = cc
succeeding false true false lit h = cc
succeeding true false accepted lit h = cc
succeeding false false accepted lit h = cc

given_success : (macs : List (Option (List ℕ))) (status : ℕ → ℕ) (link : ℕ) (mac : Option (List ℕ)) → entry_for macs link ≡ mac → is_success (asked_status macs status link) ≡ true → (status link == success) ≡ true
given_success macs status link None is h =
    absurd (false≢true (sym (ap (λ (o : Option (List ℕ)). is_success (option_map (λ (m : List ℕ). status link) o)) is) ∙ h))
given_success macs status link (Some mac) is h =
    sym (ap (λ (o : Option (List ℕ)). is_success (option_map (λ (m : List ℕ). status link) o)) is) ∙ h

same_entry : (a b : Option (List ℕ)) → is_address a b ≡ true → b ≡ a
same_entry None b h = cc
same_entry (Some a) None h = cc
same_entry (Some a) (Some b) h = ap Some (sym ((bytes_eq-Decides a b).0 h))

granted : (ap' : ApState) (ask : SetupAsk) (powered link : ℕ) → link < 15 → has_link (links_granted ask.macs (first_reply ap' ask powered).status) link ≡ true → IsGrantable ap' ask powered link
granted ap' ask powered link low has =
    let status = status_given (is_carried ap' ask powered) ap' ask powered in
    let said = (first_reply ap' ask powered).status in
    let is : (is_named ask.macs link ≡ true) × (is_success (entry_for said link) ≡ true) = and_parts _ _ (sym (has-links_that (is_granted ask.macs said) link low) ∙ has) in
    let entry : is_success (asked_status ask.macs status link) ≡ true = sym (ap is_success (entry_for-each_link (asked_status ask.macs status) link low)) ∙ is.1 in
    let facts = succeeding (is_carried ap' ask powered) (is_address (entry_for ap'.macs link) (entry_for ask.macs link)) (has_link ap'.accept link) (has_link powered link) (given_success ask.macs status link (entry_for ask.macs link) refl entry) in
    record {
      asked = is.0;
      address = same_entry (entry_for ap'.macs link) (entry_for ask.macs link) facts.0;
      accepted = facts.1;
      radio_on = facts.2;
    }

-- what holds of either value holds of the one that is picked
either : {A : Type 0} (P : A → Type 0) (test : Bool) (a b : A) → (test ≡ true → P a) → (test ≡ false → P b) → P (if test then a else b)
either P true a b then_a else_b = then_a refl
either P false a b then_a else_b = else_b refl

pub set_up_by_ask : (ap' : ApState) (ask : SetupAsk) (powered link : ℕ) → link < 15 → has_link ap'.links link ≡ false → has_link (after_ask ap' ask powered).links link ≡ true → IsGrantable ap' ask powered link
set_up_by_ask ap' ask powered link low before =
    either (λ (s : ApState). has_link s.links link ≡ true → IsGrantable ap' ask powered link) (is_joining ap' ask powered) (associated ap' ask (first_reply ap' ask powered)) ap'
    (λ test has. granted ap' ask powered link low has)
    (λ test has. absurd (false≢true (sym before ∙ has)))

success_of : (status : Option ℕ) → is_success status ≡ true → status ≡ Some success
success_of None h = cc
success_of (Some status) h = ap Some (eqb-true status success h)

confirmed : (station : StationState) (reply : SetupReply) (link : ℕ) (awaits : Option SetupAsk) → station.awaits ≡ awaits → link < 15 → has_link station.links link ≡ false → has_link (links_after awaits station.links reply) link ≡ true → IsConfirmed station reply link
confirmed station reply link None is low before has = absurd (false≢true (sym before ∙ has))
confirmed station reply link (Some ask) is low before has =
    either (λ (s : ℕ). has_link s link ≡ true → IsConfirmed station reply link) (is_success (entry_for reply.status reply.on)) (links_granted ask.macs reply.status) station.links
    (λ test has.
    let parts : (is_named ask.macs link ≡ true) × (is_success (entry_for reply.status link) ≡ true) = and_parts _ _ (sym (has-links_that (is_granted ask.macs reply.status) link low) ∙ has) in
    record { ask = ask; awaited = is; asked = parts.0; succeeds = success_of (entry_for reply.status link) parts.1 })
    (λ test has. absurd (false≢true (sym before ∙ has)))
    has

pub set_up_by_reply : (station : StationState) (reply : SetupReply) (link : ℕ) → link < 15 → has_link station.links link ≡ false → has_link (after_reply station reply).links link ≡ true → IsConfirmed station reply link
set_up_by_reply station reply link low before =
    either (λ (s : StationState). has_link s.links link ≡ true → IsConfirmed station reply link) (awaits_over station.awaits reply.on) (record station { links = links_after station.awaits station.links reply; awaits = None }) station
    (λ test. confirmed station reply link station.awaits refl low before)
    (λ test has. absurd (false≢true (sym before ∙ has)))

pub later_answers : (joined : Option Exchange) (ask : SetupAsk) → IsRemembered joined → IsAnswer ask (later_reply joined ask)
later_answers None ask is = answer_of ask (refusal_of ask).status (λ link. unspecified_failure) refl
later_answers (Some joined) ask is =
    either (IsAnswer ask) (same_ask joined.ask ask) joined.reply (refusal_of ask)
    (λ test. subst (λ (a : SetupAsk). IsAnswer a joined.reply) ((same_ask-Decides joined.ask ask).0 test) is)
    (λ test. answer_of ask (refusal_of ask).status (λ link. unspecified_failure) refl)

first_answers : (ap' : ApState) (ask : SetupAsk) (powered : ℕ) → IsAnswer ask (first_reply ap' ask powered)
first_answers ap' ask powered = answer_of ask (first_reply ap' ask powered).status (status_given (is_carried ap' ask powered) ap' ask powered) refl

some_is : {A : Type 0} (a b : A) → Some a ≡ Some b → a ≡ b
some_is a b h = cc

pub reply_answers : (ap' : ApState) (ask : SetupAsk) (reply : SetupReply) (powered : ℕ) → IsRemembered ap'.joined → ask_answer ap' ask powered ≡ Some reply → IsAnswer ask reply
reply_answers ap' ask reply powered is =
    let said = if ap'.links == 0 then first_reply ap' ask powered else later_reply ap'.joined ask in
    let answers : IsAnswer ask said = either (IsAnswer ask) (ap'.links == 0) (first_reply ap' ask powered) (later_reply ap'.joined ask) (λ test. first_answers ap' ask powered) (λ test. later_answers ap'.joined ask is) in
    either (λ (o : Option SetupReply). o ≡ Some reply → IsAnswer ask reply) (bytes_eq ask.mld ap'.mld) (Some said) None
    (λ test h. subst (IsAnswer ask) (some_is said reply h) answers)
    (λ test h. cc)

pub answer_kept : (ap' : ApState) (ask : SetupAsk) (powered : ℕ) → IsRemembered ap'.joined → IsRemembered (after_ask ap' ask powered).joined
answer_kept ap' ask powered is =
    either (λ (s : ApState). IsRemembered s.joined) (is_joining ap' ask powered) (associated ap' ask (first_reply ap' ask powered)) ap'
    (λ test. first_answers ap' ask powered)
    (λ test. is)

pick : {A : Type 0} (test : Bool) (a b : A) → test ≡ true → (if test then a else b) ≡ a
pick true a b is = refl
pick false a b is = cc

skip : {A : Type 0} (test : Bool) (a b : A) → test ≡ false → (if test then a else b) ≡ b
skip true a b is = cc
skip false a b is = refl

middle_false : (a b c : Bool) → b ≡ false → (a && b && c) ≡ false
middle_false true b c is = ap (λ (x : Bool). x && c) is
middle_false false b c is = refl

unlinked : (n : ℕ) → ¬ (n ≡ 0) → (n == 0) ≡ false
unlinked n h = elim (eqb_tells n 0) [ inl same ↦ absurd (h same.1) | inr other ↦ other.0 ]

repeated_in : (ap' : ApState) (ask : SetupAsk) (reply : SetupReply) (powered later : ℕ) → is_joining ap' ask powered ≡ true → ask_answer ap' ask powered ≡ Some reply → ¬ ((associated ap' ask (first_reply ap' ask powered)).links ≡ 0) → IsRepeated (associated ap' ask (first_reply ap' ask powered)) ask reply later
repeated_in ap' ask reply powered later joining answered linked =
    let first = first_reply ap' ask powered in
    let then_ = associated ap' ask first in
    let tests = and_parts (bytes_eq ask.mld ap'.mld && (ap'.links == 0)) (is_carried ap' ask powered) joining in
    let address : (bytes_eq ask.mld ap'.mld ≡ true) × ((ap'.links == 0) ≡ true) = and_parts (bytes_eq ask.mld ap'.mld) (ap'.links == 0) tests.0 in
    let had : (then_.links == 0) ≡ false = unlinked then_.links linked in
    let is_first : first ≡ reply =
    some_is first reply (sym (ap (λ (r : SetupReply). Some r) (pick (ap'.links == 0) first (later_reply ap'.joined ask) address.1)) ∙ sym (pick (bytes_eq ask.mld ap'.mld) (Some (if ap'.links == 0 then first else later_reply ap'.joined ask)) None address.0) ∙ answered) in
    record {
      again =
          pick (bytes_eq ask.mld ap'.mld) (Some (if then_.links == 0 then first_reply then_ ask later else later_reply then_.joined ask)) None address.0
          ∙ ap (λ (r : SetupReply). Some r) (skip (then_.links == 0) (first_reply then_ ask later) (later_reply then_.joined ask) had ∙ pick (same_ask ask ask) first (refusal_of ask) ((same_ask-Decides ask ask).1 refl) ∙ is_first);
      unchanged = skip (is_joining then_ ask later) (associated then_ ask (first_reply then_ ask later)) then_ (middle_false (bytes_eq ask.mld ap'.mld) (then_.links == 0) (is_carried then_ ask later) had);
    }

pub repeated : (ap' : ApState) (ask : SetupAsk) (reply : SetupReply) (powered later : ℕ) → ap'.links ≡ 0 → ask_answer ap' ask powered ≡ Some reply → ¬ ((after_ask ap' ask powered).links ≡ 0) → IsRepeated (after_ask ap' ask powered) ask reply later
repeated ap' ask reply powered later free answered =
    either (λ (s : ApState). ¬ (s.links ≡ 0) → IsRepeated s ask reply later) (is_joining ap' ask powered) (associated ap' ask (first_reply ap' ask powered)) ap'
    (λ test linked. repeated_in ap' ask reply powered later test answered linked)
    (λ test linked. absurd (linked free))

success_given : (macs : List (Option (List ℕ))) (status : ℕ → ℕ) (link : ℕ) (mac : Option (List ℕ)) → entry_for macs link ≡ mac → is_some mac ≡ true → (status link == success) ≡ true → is_success (asked_status macs status link) ≡ true
success_given macs status link None is there h = absurd (false≢true there)
success_given macs status link (Some mac) is there h = ap (λ (o : Option (List ℕ)). is_success (option_map (λ (m : List ℕ). status link) o)) is ∙ h

beside_itself : (carried : Bool) (status : ℕ) → carried ≡ true → (status == success) ≡ true → (status_beside carried status == success) ≡ true
beside_itself true status is h = h
beside_itself false status is h = absurd (false≢true is)

pub carrying_set_up : (ap' : ApState) (ask : SetupAsk) (powered : ℕ) → ask.on < 15 → is_named ask.macs ask.on ≡ true → is_joining ap' ask powered ≡ true → has_link (after_ask ap' ask powered).links ask.on ≡ true
carrying_set_up ap' ask powered low named joining =
    let carried = (and_parts (bytes_eq ask.mld ap'.mld && (ap'.links == 0)) (is_carried ap' ask powered) joining).1 in
    let status = status_given (is_carried ap' ask powered) ap' ask powered in
    let said = (first_reply ap' ask powered).status in
    let succeeds = success_given ask.macs status ask.on (entry_for ask.macs ask.on) refl named (beside_itself (is_carried ap' ask powered) (status_on ap' ask powered ask.on) carried carried) in
    ap (λ (s : ApState). has_link s.links ask.on) (pick (is_joining ap' ask powered) (associated ap' ask (first_reply ap' ask powered)) ap' joining)
    ∙ has-links_that (is_granted ask.macs said) ask.on low
    ∙ and_from (is_named ask.macs ask.on) (is_success (entry_for said ask.on)) named (ap is_success (entry_for-each_link (asked_status ask.macs status) ask.on low) ∙ succeeds)

pub choice_words : (station : StationState) (on links : ℕ) → (is_choice station on links ≡ true → IsChoice station on links) × (IsChoice station on links → is_choice station on links ≡ true)
choice_words station on links =
    let fits = all_links-Decides (is_fit station.macs links) in (
      λ h.
          let parts : (has_link links on ≡ true) × (all_links (is_fit station.macs links) ≡ true) = and_parts (has_link links on) (all_links (is_fit station.macs links)) h in
          record {
            carrying = parts.0;
            known = λ link low asked. unfit (has_link links link) (is_named station.macs link) (fits.0 parts.1 link low) asked;
          },
      λ is. and_from (has_link links on) (all_links (is_fit station.macs links)) is.carrying (fits.1 (λ link low. fit (has_link links link) (is_named station.macs link) (λ asked. is.known link low asked))),
    )
