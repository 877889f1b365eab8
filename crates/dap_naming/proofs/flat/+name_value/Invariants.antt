use Rattle.std.proofs.Common.{◌≡◌, length, ◌*◌, ◌+◌, ◌-◌}
use Rattle.dap_naming.specs.DeclaredRules.{rules_of}
use Rattle.dap_naming.specs.Flat.{ItemsSoFar, MembersSoFar}
use Rattle.dap_naming.specs.Known.{limit_of}
use Rattle.dap_naming.proofs.Choosing.{weight}
use Rattle.dap_naming.proofs.flat.+name_value.Given as goal

abbrev pub decreases-name_value : goal.decreases-name_value
decreases-name_value l = 3 * weight (rules_of l.rules.now) + 2

abbrev pub decreases-name_items : goal.decreases-name_items
decreases-name_items l = 3 * weight (rules_of l.rules.now) + 1

abbrev pub decreases-name_members : goal.decreases-name_members
decreases-name_members l = 3 * weight (rules_of l.rules.now) + 1

abbrev pub decreases-name_member : goal.decreases-name_member
decreases-name_member l = 3 * weight (rules_of l.rules.now)

-- the items so far are named
abbrev pub invariant-name_items-loop-p : goal.invariant-name_items-loop-p
invariant-name_items-loop-p l = record {
  done : ItemsSoFar (rules_of l.rules) l.initial.numbers l.numbers l.initial.nodes l.nodes l.from
      l.p;
  limit : limit_of l.numbers ≡ limit_of l.initial.numbers;
}

abbrev pub decreases-name_items-loop-p : goal.decreases-name_items-loop-p
decreases-name_items-loop-p l = length l.nodes - l.p

-- the members so far are named
abbrev pub invariant-name_members-loop-p : goal.invariant-name_members-loop-p
invariant-name_members-loop-p l = record {
  done : MembersSoFar (rules_of l.rules) l.initial.numbers l.numbers l.initial.nodes l.nodes
      l.from l.p;
  limit : limit_of l.numbers ≡ limit_of l.initial.numbers;
}

abbrev pub decreases-name_members-loop-p : goal.decreases-name_members-loop-p
decreases-name_members-loop-p l = length l.nodes - l.p
