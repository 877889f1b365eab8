use Rattle.std.proofs.Common.{Some}
use Rattle.dap_naming.proofs.Keys.{get_inserted}
use Rattle.dap_naming.proofs.joint.JointNames.add_b.Goals as goal

pub returns-clause-numbers : goal.returns-clause-numbers
returns-clause-numbers c = λ k.
    get_inserted c.args.self.now.b c.insert.new.self c.args.key (Some c.args.number)
    c.in_ok-insert.ensures.updates k
