use Rattle.std.proofs.Common.{option_map}
use Rattle.std.proofs.lemmas.Result.{IfOk-weaker}
use Rattle.dap_message.specs.Message.{sent}
use Rattle.dap_diff.proofs.diffing.lines_of.Goals as goal

pub returns : goal.returns
returns c =
    IfOk-weaker c.diff_lines.result _ _ (λ lines is. record {
      of_a = option_map sent c.in_ok-message_a.message_a;
      of_b = option_map sent c.in_ok-message_b.message_b;
      holds_a = c.in_ok-message_a.ensures.holds;
      holds_b = c.in_ok-message_b.ensures.holds;
      lines_are = is;
    }) c.diff_lines.ensures
