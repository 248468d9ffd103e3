-- An act on the list of words, as what it makes of the words read by place.
use Rattle.mako_shape.specs.Places.{word_at}
use Rattle.mako_shape.proofs.PlaceLaws.{word_same, word_other}
use Rattle.mako_step.specs.Acts.{after_op}
use Rattle.mako_gate.specs.Changes.{ActsMake}

pub acts_make : ActsMake
acts_make n words p op size h = record {
  here = word_same n words p (after_op op (word_at n words p)) size h;
  others = λ q k d. word_other n words p q (after_op op (word_at n words p)) h k d;
}
