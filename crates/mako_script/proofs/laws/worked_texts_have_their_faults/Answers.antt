use Rattle.mako_script.proofs.Worked.{large_number, no_character, no_command, no_end, no_feed, no_mutator}
use Rattle.mako_script.proofs.Worked.{one_name_more, one_section_more, other_key, too_many_entries, too_many_words}
use Rattle.mako_script.proofs.Worked.{undefined_name, zero_before}
use Rattle.mako_script.proofs.laws.worked_texts_have_their_faults.Goals as goal

pub returns-clause-undefined : goal.returns-clause-undefined
returns-clause-undefined c = undefined_name

pub returns-clause-range : goal.returns-clause-range
returns-clause-range c = large_number

pub returns-clause-number : goal.returns-clause-number
returns-clause-number c = zero_before

pub returns-clause-word : goal.returns-clause-word
returns-clause-word c = no_command

pub returns-clause-unended : goal.returns-clause-unended
returns-clause-unended c = no_feed

pub returns-clause-unclosed : goal.returns-clause-unclosed
returns-clause-unclosed c = no_end

pub returns-clause-ascii : goal.returns-clause-ascii
returns-clause-ascii c = no_character

pub returns-clause-mutators : goal.returns-clause-mutators
returns-clause-mutators c = no_mutator

pub returns-clause-many : goal.returns-clause-many
returns-clause-many c = one_section_more

pub returns-clause-header : goal.returns-clause-header
returns-clause-header c = other_key

pub returns-clause-names : goal.returns-clause-names
returns-clause-names c = one_name_more

pub returns-clause-entries : goal.returns-clause-entries
returns-clause-entries c = too_many_entries

pub returns-clause-words : goal.returns-clause-words
returns-clause-words c = too_many_words
