use Rattle.std.proofs.Common.{◌≡◌, take, string_bytes, if◌then◌else◌}
use Rattle.std.specs.List.{fold}
use Rattle.dap_tree.specs.Doc.{text}
use Rattle.dap_mask.specs.Rules.{of_verb}
use Rattle.dap_suggest.specs.Hidden.{all_actions, changes}
use Rattle.dap_suggest.proofs.candidates.text_after.Given as goal

abbrev pub invariant-loop-action : goal.invariant-loop-action
invariant-loop-action l = text (string_bytes l.after)
    ≡ fold (λ e a. if changes a.0 l.actions then of_verb a.1 e else e) (text l.text)
    (take l.action-index all_actions)
