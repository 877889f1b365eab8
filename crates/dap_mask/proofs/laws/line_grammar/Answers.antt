use Rattle.dap_mask.proofs.Parsed.{parser_finds_line, line_says_one}
use Rattle.dap_mask.proofs.laws.line_grammar.Goals as goal

pub returns : goal.returns
returns c = record { parser = parser_finds_line; one = line_says_one }
