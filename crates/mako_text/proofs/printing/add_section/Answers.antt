use Rattle.std.proofs.Common.{◌++◌, List, ap, ◌∙◌}
use Rattle.std.specs.List.{flat_map}
use Rattle.mako_model.specs.declared.call.Call.{Call}
use Rattle.mako_text.specs.Programs.{ProgramView}
use Rattle.mako_text.specs.Names.{texts}
use Rattle.mako_text.specs.Texts.{line_text, command_words}
use Rattle.mako_text.proofs.PrintedTexts.{section_of_calls}
use Rattle.mako_text.proofs.printing.add_section.Goals as goal

pub returns : goal.returns
returns c =
    let first = c.extend_from_slice.new.self.items in
    section_of_calls c.args.text.now.items first c.add_calls.new.text.items c.extend_from_slice-2.new.self.items
    c.args.program.now
    c.in_ok-extend_from_slice.ensures.items
    (c.in_ok-add_calls.ensures
    ∙ ap (λ (cs : List Call). first ++ flat_map
    (λ x. line_text (command_words (texts c.program.inside.names) x)) cs) c.deref.ensures.value
    ∙ ap (λ (p : ProgramView). first ++ flat_map (λ x. line_text (command_words p.names x)) p.calls) c.program.view_is)
    c.in_ok-extend_from_slice-2.ensures.items
