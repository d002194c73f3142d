use Rattle.wl_shown.proofs.Once.{one_answer}
use Rattle.wl_shown.proofs.laws.answers_once.Goals as goal

pub returns : goal.returns
returns c = one_answer (record { lists = c.read_once.ensures; items = c.known_read_once.ensures; frames = c.read_once-2.ensures; actions = c.read_once-3.ensures; asks = c.ask_read_once.ensures; replies = c.reply_read_once.ensures; ask_profiles = c.asks_once.ensures; states = λ reply. c.states_once.ensures reply 0 })
