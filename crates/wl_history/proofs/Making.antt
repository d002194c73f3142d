-- What each call of a machine makes: windows stay, tokens are of one octet, and a message has octets.
use Rattle.std.proofs.Common.{◌≡◌, ℕ, ◌+◌, ◌<◌, Bool, true, false, List, [], ◌∷◌, Option, Some, None, refl, sym, ap, ◌∙◌, arith}
use Rattle.std.specs.Prelude.{◌==◌, if◌then◌else◌, IfSome}
use Rattle.std.proofs.lemmas.Bool.{and_parts}
use Rattle.wl_map.specs.declared.change.MapAsk.{MapAsk}
use Rattle.wl_map.specs.Ends.{is_valid_ask, asking}
use Rattle.wl_message.specs.declared.changes.MapChanges.{MapChanges}
use Rattle.wl_message.specs.declared.changes.MapChanges.TheVariants.{Both, Each}
use Rattle.wl_message.specs.declared.changes.MapEntry.{MapEntry}
use Rattle.wl_message.specs.declared.changes.Ways.TheVariants as ways
use Rattle.wl_message.specs.Message.{changes_of, by_entry, joined, no_changes, down_of, up_of, is_named, IsChange}
use Rattle.wl_history.specs.declared.command.Machine.{Machine}
use Rattle.wl_history.specs.declared.command.Machine.TheVariants as machines
use Rattle.wl_history.specs.declared.outcome.Outcome.{Outcome}
use Rattle.wl_history.specs.declared.outcome.Outcome.TheVariants as outcomes
use Rattle.wl_history.specs.declared.setup.Setup.{Setup}
use Rattle.wl_history.specs.Machines.{Made, IsMade, AreEntries, IsEntry, installed, switched, next_token, map_ask, asked_answer, map_ask_answer, map_asked, map_torn, given}

silent_made : (old new : Setup) → new.window ≡ old.window → new.token < 256 → IsMade old (let made : Made = record { setup = new; message = None } in made)
silent_made old new window token = record { window = window; token = token; good = tt }

pub installed_made : (o : Outcome) (setup : Setup) → setup.token < 256 → IsMade setup (installed o setup)
installed_made (outcomes.Installed key) setup lt = silent_made setup _ refl lt
installed_made other setup lt = silent_made setup setup refl lt

pub switched_made : (link : ℕ) (on : Bool) (setup : Setup) → setup.token < 256 → IsMade setup (switched link on setup)
switched_made link on setup lt = silent_made setup _ refl lt

pub torn_made : (o : Outcome) (setup : Setup) → setup.token < 256 → IsMade setup (map_torn o setup)
torn_made outcomes.Sent setup lt = record { window = refl; token = lt; good = tt }
torn_made other setup lt = silent_made setup setup refl lt

pub given_made : (what : Machine) (o : Outcome) (setup : Setup) → setup.token < 256 → IsMade setup (given what o setup)
given_made machines.Map (outcomes.Given token) setup lt = silent_made setup _ refl lt
given_made machines.Map other setup lt = silent_made setup setup refl lt

-- ---- requests for mappings

token_by : (b : Bool) (token : ℕ) → (token == 255) ≡ b → token < 256 → (if b then 1 else token + 1) < 256
token_by true token is lt = omega arith
token_by false token is lt = omega (arith, lt, not_last token is)
  where
    not_last : (token : ℕ) → (token == 255) ≡ false → ¬ (token ≡ 255)
    not_last token is same = absurd (cc (ap (λ (n : ℕ). n == 255) (sym same) ∙ is))

pub token_next : (token : ℕ) → token < 256 → next_token token < 256
token_next token lt = token_by (token == 255) token refl lt

-- entries of bitmaps ask for bitmaps
record AreGood (changes : MapChanges) : Type 0 where
  pub down : IfSome (down_of changes) IsChange
  pub up : IfSome (up_of changes) IsChange

entry_good : (entry : MapEntry) → IsEntry entry → AreGood (by_entry entry)
entry_good entry good = elim entry.ways as (λ w. AreGood (by_entry (record { ways = w; change = entry.change }))) [
  | ways.Down ↦ record { down = good; up = tt }
  | ways.Up ↦ record { down = tt; up = good }
  | ways.Both ↦ record { down = good; up = good }
]

none_good : AreGood no_changes
none_good = record { down = tt; up = tt }

joined_good : (a b : MapChanges) → AreGood a → AreGood b → AreGood (joined a b)
joined_good (Both change) b p q = none_good
joined_good (Each None None) b p q = none_good
joined_good (Each (Some down) (Some up)) b p q = none_good
joined_good (Each (Some down) None) (Both change) p q = none_good
joined_good (Each (Some down) None) (Each None None) p q = none_good
joined_good (Each (Some down) None) (Each None (Some up)) p q = record { down = p.down; up = q.up }
joined_good (Each (Some down) None) (Each (Some other) up) p q = none_good
joined_good (Each None (Some up)) (Both change) p q = none_good
joined_good (Each None (Some up)) (Each None down) p q = none_good
joined_good (Each None (Some up)) (Each (Some down) None) p q = record { down = q.down; up = p.up }
joined_good (Each None (Some up)) (Each (Some down) (Some other)) p q = none_good

changes_good : (entries : List MapEntry) → AreEntries entries → AreGood (changes_of entries)
changes_good [] good = none_good
changes_good (a ∷ []) good = entry_good a good.0
changes_good (a ∷ b ∷ []) good = joined_good (by_entry a) (by_entry b) (entry_good a good.0) (entry_good b good.1.0)
changes_good (a ∷ b ∷ c ∷ more) good = none_good

-- a request that was made has this token, and is valid
asked_so : (standing : Option MapAsk) (valid : Bool) (ask : MapAsk) (token : ℕ) → outcomes.Asked token ≡ asked_answer (asking standing valid ask) → (token ≡ ask.token) × (valid ≡ true)
asked_so (Some own) valid ask token is = absurd (cc is)
asked_so None true ask token is = (cc is, refl)
asked_so None false ask token is = absurd (cc is)

pub asked_made : (entries : List MapEntry) (o : Outcome) (setup : Setup) → AreEntries entries → o ≡ map_ask_answer entries setup → setup.token < 256 → IsMade setup (map_asked entries o setup)
asked_made entries (outcomes.Asked token) setup good is lt =
    let changes = changes_of entries in
    let ask = map_ask (next_token setup.token) changes in
    let so = asked_so setup.maps.asked (is_valid_ask setup.maps ask) ask token is in
    let short : token < 256 = omega (arith, so.0, token_next setup.token lt) in
    let good = changes_good entries good in
    record { window = refl; token = short; good = (short, record { named = (and_parts (is_named changes) _ so.1).0; down = good.down; up = good.up }) }
asked_made entries other setup good is lt = silent_made setup setup refl lt
