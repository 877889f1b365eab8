use Rattle.std.proofs.Common.{◌≡◌, take, bit_or, if◌then◌else◌}
use Rattle.std.specs.List.{fold}
use Rattle.dap_tree.specs.Doc.{text}
use Rattle.dap_suggest.specs.Hidden.{all_actions, is_changed}
use Rattle.dap_suggest.proofs.candidates.actions_changing.Given as goal

abbrev pub invariant-loop-action : goal.invariant-loop-action
invariant-loop-action l = l.actions
    ≡ fold (λ set a. if is_changed a.1 (text l.text) then bit_or set a.0 else set) 0
    (take l.action-index all_actions)
