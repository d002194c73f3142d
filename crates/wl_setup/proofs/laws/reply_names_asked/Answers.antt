use Rattle.wl_setup.proofs.Grants.{reply_answers, answer_kept}
use Rattle.wl_setup.proofs.laws.reply_names_asked.Goals as goal

pub returns-clause-named : goal.returns-clause-named
returns-clause-named c = reply_answers

pub returns-clause-kept : goal.returns-clause-kept
returns-clause-kept c = answer_kept
