use Rattle.mako_record.proofs.Targets.{some_words}
use Rattle.mako_record.proofs.region.is_in_region.Goals as goal

pub region-start-requires : goal.region-start-requires
region-start-requires c = (c.requires, some_words c.args.shape.now c.numbers-words.ensures.shape)
