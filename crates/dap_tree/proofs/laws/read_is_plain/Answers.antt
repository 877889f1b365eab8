use Rattle.dap_tree.proofs.Outcomes.{read_is_plain}
use Rattle.dap_tree.proofs.MemberOrder.{read_is_ordered}
use Rattle.dap_tree.proofs.Utf8.{read_is_utf8}
use Rattle.dap_tree.proofs.laws.read_is_plain.Goals as goal

pub returns : goal.returns
returns c = record { plain = read_is_plain; ordered = read_is_ordered; utf8 = read_is_utf8 }
