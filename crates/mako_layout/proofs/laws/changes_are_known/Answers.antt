use Rattle.mako_layout.proofs.Actions.{homes_change_in_pauses, free_words_are_the_writers}
use Rattle.mako_layout.proofs.laws.changes_are_known.Goals as goal

pub returns-clause-homes : goal.returns-clause-homes
returns-clause-homes c = homes_change_in_pauses

pub returns-clause-words : goal.returns-clause-words
returns-clause-words c = free_words_are_the_writers
