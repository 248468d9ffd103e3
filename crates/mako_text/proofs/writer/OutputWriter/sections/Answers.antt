use Rattle.std.proofs.Common.{◌≡◌, ◌++◌, [], map, get_or, refl, ap, sym, ◌∙◌, arith, Vec, Global}
use Rattle.std.proofs.lemmas.Result.{err_from_is_err_and}
use Rattle.std.proofs.lemmas.List.{get_or-map, length-map}
use Rattle.mako_model.specs.declared.reply.Reply.{Reply}
use Rattle.mako_text.specs.Programs.{ProgramView}
use Rattle.mako_text.specs.Outputs.{mutator_line}
use Rattle.mako_text.specs.Written.{lines_text}
use Rattle.mako_text.proofs.Progress.{starts, goes_on, stops, done, sections_more, sections_none}
use Rattle.mako_text.proofs.writer.OutputWriter.sections.Goals as goal

pub section-requires : goal.section-requires
section-requires g c =
    let programs = c.args.programs.now in
    let lists = c.args.lists.now in
    let calls_at : c.deref.result.now ≡ get_or (map (λ (p : ProgramView). p.calls) programs) c.loop-m.m [] =
    c.deref.ensures.value ∙ ap (λ (p : ProgramView). p.calls) c.program.view_is
    ∙ ap (λ (p : ProgramView). p.calls) c.index-programs-m.is
    ∙ sym (get_or-map (λ (p : ProgramView). p.calls) programs c.loop-m.m c.index-programs-m.result []
    (omega (arith, c.requires.same))) in
    let replies_at : c.deref-in-loop-m.result.now ≡ get_or
    (map (λ (v : Vec Reply Global). v.items) lists) c.loop-m.m [] =
    c.deref-in-loop-m.ensures.value ∙ ap (λ (v : Vec Reply Global). v.items) c.index-lists-m.is
    ∙ sym (get_or-map (λ (v : Vec Reply Global). v.items) lists c.loop-m.m c.index-lists-m.result [] c.loop-m-test.true)
    in
    rw (calls_at, replies_at)
    (c.requires.fit c.loop-m.m (omega (arith, length-map lists (λ (v : Vec Reply Global). v.items))))

pub loop-m-init : goal.loop-m-init
loop-m-init g c = record { progress = starts _ _ _; counted = omega arith; same_sink = refl }

pub returns-in_err-section-clause-written : goal.returns-in_err-section-clause-written
returns-in_err-section-clause-written g c =
    let p = err_from_is_err_and c.from_residual.result c.from_residual.ensures.1 in
    let programs = c.args.programs.now in
    let lists = c.args.lists.now in
    let calls_at : c.deref.result.now ≡ get_or (map (λ (p : ProgramView). p.calls) programs) c.loop-m.m [] =
    c.deref.ensures.value ∙ ap (λ (p : ProgramView). p.calls) c.program.view_is
    ∙ ap (λ (p : ProgramView). p.calls) c.index-programs-m.is
    ∙ sym (get_or-map (λ (p : ProgramView). p.calls) programs c.loop-m.m c.index-programs-m.result []
    (omega (arith, c.requires.same))) in
    let replies_at : c.deref-in-loop-m.result.now ≡ get_or
    (map (λ (v : Vec Reply Global). v.items) lists) c.loop-m.m [] =
    c.deref-in-loop-m.ensures.value ∙ ap (λ (v : Vec Reply Global). v.items) c.index-lists-m.is
    ∙ sym (get_or-map (λ (v : Vec Reply Global). v.items) lists c.loop-m.m c.index-lists-m.result [] c.loop-m-test.true)
    in
    let more = sections_more (map (λ (p : ProgramView). p.calls) programs)
    (map (λ (v : Vec Reply Global). v.items) lists) c.loop-m.m [] []
    (omega (arith, c.requires.same, length-map programs (λ (p : ProgramView). p.calls)))
    (omega (arith, length-map lists (λ (v : Vec Reply Global). v.items))) in
    let split = rw (← calls_at, ← replies_at) at more in
    let piece = mutator_line c.loop-m.m ++ lines_text c.deref.result.now c.deref-in-loop-m.result.now in
    rw (p.1, p.2) (stops g.K.Sink.taken _ _ piece _ c.args.self.now c.loop-m.self c.section.new.self
    c.in_err-section.field-0.0 c.loop-m.invariant.progress split c.in_err-section.ensures.written)

pub loop-m-preserved : goal.loop-m-preserved
loop-m-preserved g c =
    let programs = c.args.programs.now in
    let lists = c.args.lists.now in
    let calls_at : c.deref.result.now ≡ get_or (map (λ (p : ProgramView). p.calls) programs) c.loop-m.m [] =
    c.deref.ensures.value ∙ ap (λ (p : ProgramView). p.calls) c.program.view_is
    ∙ ap (λ (p : ProgramView). p.calls) c.index-programs-m.is
    ∙ sym (get_or-map (λ (p : ProgramView). p.calls) programs c.loop-m.m c.index-programs-m.result []
    (omega (arith, c.requires.same))) in
    let replies_at : c.deref-in-loop-m.result.now ≡ get_or
    (map (λ (v : Vec Reply Global). v.items) lists) c.loop-m.m [] =
    c.deref-in-loop-m.ensures.value ∙ ap (λ (v : Vec Reply Global). v.items) c.index-lists-m.is
    ∙ sym (get_or-map (λ (v : Vec Reply Global). v.items) lists c.loop-m.m c.index-lists-m.result [] c.loop-m-test.true)
    in
    let more = sections_more (map (λ (p : ProgramView). p.calls) programs)
    (map (λ (v : Vec Reply Global). v.items) lists) c.loop-m.m [] []
    (omega (arith, c.requires.same, length-map programs (λ (p : ProgramView). p.calls)))
    (omega (arith, length-map lists (λ (v : Vec Reply Global). v.items))) in
    let split = rw (← calls_at, ← replies_at) at more in
    let piece = mutator_line c.loop-m.m ++ lines_text c.deref.result.now c.deref-in-loop-m.result.now in record {
      progress = goes_on g.K.Sink.taken _ _ piece _ c.args.self.now c.loop-m.self c.section.new.self
          c.loop-m.invariant.progress split c.in_ok-section.ensures.written;
      counted = omega (arith, c.in_ok-section.ensures.counted, c.loop-m.invariant.counted);
      same_sink = c.in_ok-section.ensures.same_sink ∙ c.loop-m.invariant.same_sink;
    }

pub returns-clause-written : goal.returns-clause-written
returns-clause-written g c =
    let lists = c.args.lists.now in
    done g.K.Sink.taken _ _ c.args.self.now c.loop-m.self
    (sections_none (map (λ (p : ProgramView). p.calls) c.args.programs.now)
    (map (λ (v : Vec Reply Global). v.items) lists) c.loop-m.m
    (omega (arith, length-map lists (λ (v : Vec Reply Global). v.items), c.loop-m-test.false)))
    c.loop-m.invariant.progress
