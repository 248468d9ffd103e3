-- What each kind of step makes of what a seat knows.
use Rattle.std.specs.Prelude.{ℕ, ◌+◌, ◌==◌, ◌&&◌, Bool, not, [], ◌∷◌, ◌++◌, length, sum, Some, if◌then◌else◌}
use Rattle.mako_count.specs.declared.views.Hand.TheVariants.{Free, Reaching, Holding, Sending}
use Rattle.mako_count.specs.declared.views.WorkerView.{WorkerView}
use Rattle.mako_count.specs.declared.views.Reading.{Reading}
use Rattle.mako_count.specs.declared.views.PollView.{PollView}

abbrev pub raised : WorkerView → WorkerView
raised w = record w { sends = w.sends + 1; hand = Sending }

abbrev pub filling : ℕ → WorkerView → WorkerView
filling word w = record w { filled = word; hand = Holding }

abbrev pub looking : ℕ → WorkerView → WorkerView
looking n w = record w { looked = n; hand = if n == 0 then Free else Reaching }

abbrev pub grasped : WorkerView → WorkerView
grasped w = record w { hand = Holding }

abbrev pub rested : WorkerView → WorkerView
rested w = record w { handled = w.handled + 1; hand = Free }

-- each worker's numbers were read
abbrev pub is_whole : ℕ → Reading → Bool
is_whole n r = (length r.sent == n) && (length r.handled == n)

-- the four sums are equal
abbrev pub agree : Reading → Reading → Bool
agree r s = (sum r.handled == sum r.sent) && ((sum s.sent == sum r.sent) && (sum s.handled == sum r.sent))

-- a poll's two passes are whole, and their sums agree
abbrev pub tells : PollView → Bool
tells p = p.again && ((is_whole p.count p.first && is_whole p.count p.later) && agree p.first p.later)

abbrev pub judged : PollView → PollView
judged p = if tells p then record p { told = Some (sum p.first.sent) } else p

-- a pass begins with the first worker's sent word
abbrev pub begun : ℕ → PollView → PollView
begun n p = record p {
  first = p.later;
  later = record { sent = n ∷ []; handled = [] };
  passes = p.passes + 1;
  again = not p.again;
}

abbrev pub sent_read : ℕ → PollView → PollView
sent_read n p = record p { later = record p.later { sent = p.later.sent ++ n ∷ [] } }

abbrev pub handled_read : ℕ → PollView → PollView
handled_read n p = judged (record p { later = record p.later { handled = p.later.handled ++ n ∷ [] } })
