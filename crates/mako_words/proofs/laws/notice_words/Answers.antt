use Rattle.mako_words.proofs.NoticeWords as lemma
use Rattle.mako_words.proofs.laws.notice_words.Goals as goal

pub returns-clause-packing : goal.returns-clause-packing
returns-clause-packing c = lemma.notice_words

pub returns-clause-forms : goal.returns-clause-forms
returns-clause-forms c = lemma.notice_forms
