use Rattle.mako_words.proofs.FlagWords as lemma
use Rattle.mako_words.proofs.laws.flag_words.Goals as goal

pub returns-clause-packing : goal.returns-clause-packing
returns-clause-packing c = lemma.flag_words

pub returns-clause-forms : goal.returns-clause-forms
returns-clause-forms c = lemma.flag_forms
