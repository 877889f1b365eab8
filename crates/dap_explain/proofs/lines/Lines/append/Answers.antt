use Rattle.std.proofs.Common.{◌∙◌, string_bytes}
use Rattle.dap_explain.proofs.LineTexts.{lines_kept}
use Rattle.dap_explain.proofs.lines.Lines.append.Goals as goal

pub invariant_of-self : goal.invariant_of-self
invariant_of-self c = record {
  are_lines = lines_kept _ _ _ _ c.push_str.ensures.bytes c.args.self.now.are_lines (
    c.args.words.now,
    c.has_no_control.ensures c.if-has_no_control.true,
    c.as_str.ensures.value ∙ c.in_ok-line.ensures.ok,
  );
}
