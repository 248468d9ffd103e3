use Rattle.mako_words.proofs.EntryWords as lemma
use Rattle.mako_words.proofs.laws.entry_words.Goals as goal

pub returns-clause-packing : goal.returns-clause-packing
returns-clause-packing c = lemma.entry_words

pub returns-clause-forms : goal.returns-clause-forms
returns-clause-forms c = lemma.entry_forms
