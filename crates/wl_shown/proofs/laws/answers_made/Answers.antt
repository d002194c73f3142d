use Rattle.wl_shown.proofs.Total.{answer_of}
use Rattle.wl_shown.proofs.laws.answers_made.Goals as goal

pub returns : goal.returns
returns c = answer_of (record { lists = c.read_or_refused.ensures; knowns = c.known_read_or_refused.ensures; frames = c.read_or_refused-2.ensures; actions = c.read_or_refused-3.ensures; asks = c.ask_read_or_refused.ensures; replies = c.reply_read_or_refused.ensures; ask_profiles = c.asks_or_refused.ensures; states = λ reply. c.states_or_refused.ensures reply 0 })
