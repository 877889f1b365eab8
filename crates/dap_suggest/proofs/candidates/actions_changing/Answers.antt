use Rattle.std.proofs.Common.{rules, ◌≡◌, length, true, false, eqb}
use Rattle.dap_suggest.proofs.UnchangedTexts.{empty_actions, plain_actions}
use Rattle.dap_suggest.proofs.candidates.actions_changing.Goals as goal

pub returns-then-is_empty : goal.returns-then-is_empty
returns-then-is_empty c =
    let none : eqb (length c.args.text.now) 0 ≡ true = search rules in
    empty_actions c.args.text.now none

pub returns-else-is_empty : goal.returns-else-is_empty
returns-else-is_empty c =
    let some : eqb (length c.args.text.now) 0 ≡ false = search rules in
    plain_actions c.args.text.now (search rules) some
