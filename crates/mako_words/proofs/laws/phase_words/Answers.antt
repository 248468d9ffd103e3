use Rattle.mako_words.proofs.PhaseWords as lemma
use Rattle.mako_words.proofs.laws.phase_words.Goals as goal

pub returns-clause-packing : goal.returns-clause-packing
returns-clause-packing c = lemma.phase_words

pub returns-clause-forms : goal.returns-clause-forms
returns-clause-forms c = lemma.phase_forms
