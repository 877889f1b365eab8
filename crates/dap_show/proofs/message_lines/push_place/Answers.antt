use Rattle.std.proofs.Common.{append_assoc, codes, rules, ◌∙◌}
use Rattle.dap_message.specs.ViewItems.{frame_shown}
use Rattle.dap_show.specs.Showing.{place_words}
use Rattle.dap_show.proofs.AppendedLines.{ended_after, then_after}
use Rattle.dap_show.proofs.message_lines.push_place.Goals as goal

pub returns : goal.returns
returns c =
    let old = c.args.out.now.items in
    let one = c.in_ok-push_number.ensures ∙ append_assoc old (codes "  frame ") _ in
    let two = then_after old _ (codes " ") _ _ _ one c.in_ok-push_number-2.ensures in
    ended_after c.push_number-3.result old _ (codes ":") _ _ c.push_number-3.new.out.items
    (place_words (frame_shown c.args.frame)) two c.push_number-3.ensures (search rules)
