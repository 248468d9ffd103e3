-- What a server keeps, as far as its machine is made of it.
use Rattle.std.specs.Prelude.{◌<◌}
use Rattle.mako_server.specs.declared.kept.Kept.{Kept}
use Rattle.mako_server.specs.declared.stage.ServerStage.{ServerStage}
use Rattle.mako_server.specs.Serving.{Serving}

-- the server that keeps this, at a stage
abbrev pub serving_in : Kept → ServerStage → Serving
serving_in k stage = record { tracer = k.tracer; notice_at = k.notice_at; ended = k.ended; stage = stage }

-- the slot for the next notice is one of the ring
abbrev pub IsKept : Kept → Type 0
IsKept k = k.notice_at < k.tracer.shape.ring
