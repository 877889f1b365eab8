use Rattle.std.proofs.Common.{rules, ◌≡◌, ◌∙◌, length, eqb, not, if◌then◌else◌}
use Rattle.dap_tree.proofs.Views.{view-List, view-Object}
use Rattle.dap_suggest.proofs.UnchangedTexts.{list_actions, object_actions}
use Rattle.dap_suggest.proofs.candidates.changing.Goals as goal

pub returns-in-List : goal.returns-in-List
returns-in-List c =
    let items = c.in-List.items in
    let same : c.blank_if-in-List.result ≡ (if not (eqb (length items.items) 0) then 16 else 0) =
    search rules in
    rw (c.in-List.is, view-List items) (same ∙ list_actions items.items)

pub returns-in-Object : goal.returns-in-Object
returns-in-Object c =
    let entries = c.in-Object.members.entries in
    let same : c.blank_if-in-Object.result ≡ (if not (eqb (length entries) 0) then 16 else 0) =
    search rules in
    rw (c.in-Object.is, view-Object c.in-Object.members) (same ∙ object_actions entries)
