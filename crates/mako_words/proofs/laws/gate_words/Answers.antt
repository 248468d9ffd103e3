use Rattle.mako_words.proofs.GateWords as lemma
use Rattle.mako_words.proofs.laws.gate_words.Goals as goal

pub returns-clause-packing : goal.returns-clause-packing
returns-clause-packing c = lemma.gate_words

pub returns-clause-forms : goal.returns-clause-forms
returns-clause-forms c = lemma.gate_forms
