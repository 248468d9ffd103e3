use Rattle.mako_phases.proofs.Choosing.{findings_begin, findings_stay, findings_go_on, findings_chosen_of, chosen_once}
use Rattle.mako_phases.proofs.laws.findings_are_the_words.Goals as goal

pub returns : goal.returns
returns c = record {
  begin = findings_begin;
  stay = findings_stay;
  next = findings_go_on;
  server = findings_chosen_of;
  once = chosen_once;
}
