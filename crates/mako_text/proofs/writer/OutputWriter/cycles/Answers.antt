use Rattle.std.proofs.Common.{◌+◌, ◌++◌, ◌<◌, length, List, drop, refl, ap, ◌∙◌, arith}
use Rattle.std.specs.List.{flat_map, enumerate_from}
use Rattle.std.proofs.lemmas.Result.{err_from_is_err_and}
use Rattle.mako_words.specs.declared.name.Name.{Name}
use Rattle.mako_text.specs.Outputs.{cycle_text}
use Rattle.mako_text.proofs.Progress.{starts, goes_on, stops, done, cycles_more, cycles_none, freed_at}
use Rattle.mako_text.proofs.writer.OutputWriter.cycles.Goals as goal

pub loop-k-init : goal.loop-k-init
loop-k-init g c = record { progress = starts _ _ _; counted = omega arith; same_sink = refl }

pub returns-in_err-cycle-clause-written : goal.returns-in_err-cycle-clause-written
returns-in_err-cycle-clause-written g c =
    let p = err_from_is_err_and c.from_residual.result c.from_residual.ensures.1 in
    let lists = c.args.cycles.now.lists in
    let names = c.freed.result.now in
    let within : c.loop-k.k < length lists = omega (arith, c.loop-k-test.true, c.len-k-end.ensures) in
    let split = cycles_more lists c.loop-k.k names within
    ∙ ap (λ (x : List Name). cycle_text (c.loop-k.k + 1, x) ++ flat_map cycle_text
    (enumerate_from (c.loop-k.k + 1 + 1) (drop (c.loop-k.k + 1) lists)))
    (freed_at lists c.loop-k.k names c.freed.ensures) in
    rw (p.1, p.2) (stops g.K.Sink.taken _ _ (cycle_text (c.loop-k.k + 1, names)) _ c.args.self.now c.loop-k.self
    c.cycle.new.self c.in_err-cycle.field-0.0 c.loop-k.invariant.progress split c.in_err-cycle.ensures.written)

pub loop-k-preserved : goal.loop-k-preserved
loop-k-preserved g c =
    let lists = c.args.cycles.now.lists in
    let names = c.freed.result.now in
    let within : c.loop-k.k < length lists = omega (arith, c.loop-k-test.true, c.len-k-end.ensures) in
    let split = cycles_more lists c.loop-k.k names within
    ∙ ap (λ (x : List Name). cycle_text (c.loop-k.k + 1, x) ++ flat_map cycle_text
    (enumerate_from (c.loop-k.k + 1 + 1) (drop (c.loop-k.k + 1) lists)))
    (freed_at lists c.loop-k.k names c.freed.ensures) in record {
      progress = goes_on g.K.Sink.taken _ _ (cycle_text (c.loop-k.k + 1, names)) _ c.args.self.now c.loop-k.self
          c.cycle.new.self c.loop-k.invariant.progress split c.in_ok-cycle.ensures.written;
      counted = omega (arith, c.in_ok-cycle.ensures.counted, c.loop-k.invariant.counted);
      same_sink = c.in_ok-cycle.ensures.same_sink ∙ c.loop-k.invariant.same_sink;
    }

pub returns-clause-written : goal.returns-clause-written
returns-clause-written g c =
    done g.K.Sink.taken _ _ c.args.self.now c.loop-k.self
    (cycles_none c.args.cycles.now.lists c.loop-k.k (omega (arith, c.loop-k-test.false, c.len-k-end.ensures)))
    c.loop-k.invariant.progress
