use Rattle.dap_tree.specs.View.{members_view}
use Rattle.std.proofs.Common.{◌≡◌, drop, map}
use Rattle.dap_message.specs.Capabilities.{false_members}
use Rattle.dap_message.proofs.capabilities.set_false.Given as goal

-- the remaining names have the same effect on these members as all names on the initial ones
abbrev pub invariant-loop-name : goal.invariant-loop-name
invariant-loop-name l =
    false_members (map (λ n. n.now) (drop l.name-index l.names)) (members_view l.members.entries)
    ≡ false_members (map (λ n. n.now) l.names) (members_view l.initial.members.entries)
