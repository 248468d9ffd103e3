use Rattle.mako_collecting.proofs.Findings.{findings_are_kept, lives_stay, snapshots_begin_counts, choosing_ends_counts}
use Rattle.mako_collecting.proofs.laws.findings_keep.Goals as goal

pub returns-clause-found : goal.returns-clause-found
returns-clause-found c = findings_are_kept

pub returns-clause-lives : goal.returns-clause-lives
returns-clause-lives c = lives_stay

pub returns-clause-begin : goal.returns-clause-begin
returns-clause-begin c = snapshots_begin_counts

pub returns-clause-end : goal.returns-clause-end
returns-clause-end c = choosing_ends_counts
