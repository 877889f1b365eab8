use Rattle.std.proofs.Common.{ap, ◌∙◌}
use Rattle.dap_tree.specs.View.{view}
use Rattle.dap_difference.specs.Lines.{are_sound}
use Rattle.dap_difference.specs.Shown.{shown_differences}
use Rattle.dap_difference.proofs.SoundValues.{differences_sound}
use Rattle.dap_difference.proofs.lines.difference_text.Goals as goal

pub lines_of-requires : goal.lines_of-requires
lines_of-requires c =
    ap (λ xs. are_sound (shown_differences xs)) c.as_slice.ensures.value
    ∙ ap are_sound c.in_ok-found.ensures.reported
    ∙ differences_sound (view c.args.a.now) (view c.args.b.now) c.requires.a c.requires.b
