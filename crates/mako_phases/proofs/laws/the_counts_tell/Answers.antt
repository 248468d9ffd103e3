use Rattle.mako_phases.proofs.LiveLaws.{lives_counted, lives_reached}
use Rattle.mako_phases.proofs.Sizes.{sizes_those}
use Rattle.mako_phases.proofs.Sums.{sums_one}
use Rattle.mako_phases.proofs.laws.the_counts_tell.Goals as goal

pub returns : goal.returns
returns c = record { one = sums_one; sizes = sizes_those; counted = lives_counted; reached = lives_reached }
