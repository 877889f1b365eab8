use Rattle.std.proofs.Common.{length}
use Rattle.dap_explain.proofs.content_faults.read_tokens.Given as goal

abbrev pub decreases-loop-token : goal.decreases-loop-token
decreases-loop-token l = length l.reader
