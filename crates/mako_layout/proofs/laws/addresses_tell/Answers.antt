use Rattle.mako_layout.proofs.Conclusions.{used_is_present, read_is_present, found_is_present}
use Rattle.mako_layout.proofs.laws.addresses_tell.Goals as goal

pub returns-clause-used : goal.returns-clause-used
returns-clause-used c = used_is_present

pub returns-clause-read : goal.returns-clause-read
returns-clause-read c = read_is_present

pub returns-clause-found : goal.returns-clause-found
returns-clause-found c = found_is_present
