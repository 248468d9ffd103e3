use Rattle.mako_words.proofs.LiveWords as lemma
use Rattle.mako_words.proofs.laws.live_words.Goals as goal

pub returns-clause-packing : goal.returns-clause-packing
returns-clause-packing c = lemma.live_words

pub returns-clause-forms : goal.returns-clause-forms
returns-clause-forms c = lemma.live_forms
