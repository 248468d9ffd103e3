use Rattle.mako_words.proofs.ValueWords as lemma
use Rattle.mako_words.proofs.laws.value_words.Goals as goal

pub returns-clause-names : goal.returns-clause-names
returns-clause-names c = lemma.name_words

pub returns-clause-values : goal.returns-clause-values
returns-clause-values c = lemma.value_words

pub returns-clause-name_forms : goal.returns-clause-name_forms
returns-clause-name_forms c = lemma.name_forms

pub returns-clause-value_forms : goal.returns-clause-value_forms
returns-clause-value_forms c = lemma.value_forms
