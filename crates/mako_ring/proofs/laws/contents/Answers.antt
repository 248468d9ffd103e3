use Rattle.mako_ring.proofs.Contents.{put_appends, take_removes_the_first}
use Rattle.mako_ring.proofs.Over.{taken_is_a_prefix}
use Rattle.mako_ring.proofs.laws.contents.Goals as goal

pub returns : goal.returns
returns c = record { put = put_appends; take = take_removes_the_first; order = taken_is_a_prefix }
