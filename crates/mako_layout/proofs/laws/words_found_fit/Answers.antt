use Rattle.mako_layout.proofs.Found.{gates_are_found, homes_are_found, tops_are_found, addresses_are_found}
use Rattle.mako_layout.proofs.Found.{records_are_found}
use Rattle.mako_layout.proofs.laws.words_found_fit.Goals as goal

pub returns-clause-gates : goal.returns-clause-gates
returns-clause-gates c = gates_are_found

pub returns-clause-homes : goal.returns-clause-homes
returns-clause-homes c = homes_are_found

pub returns-clause-tops : goal.returns-clause-tops
returns-clause-tops c = tops_are_found

pub returns-clause-addresses : goal.returns-clause-addresses
returns-clause-addresses c = addresses_are_found

pub returns-clause-records : goal.returns-clause-records
returns-clause-records c = records_are_found
