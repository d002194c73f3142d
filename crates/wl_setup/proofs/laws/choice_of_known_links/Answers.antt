use Rattle.wl_setup.proofs.Grants.{choice_words}
use Rattle.wl_setup.proofs.laws.choice_of_known_links.Goals as goal

pub returns : goal.returns
returns c = choice_words
