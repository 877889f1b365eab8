use Rattle.dap_tree.specs.Doc.{put}
use Rattle.dap_tree.specs.View.{members_view}
use Rattle.dap_tree.proofs.Views.{members_view-insert_entry}
use Rattle.std.proofs.Common.{◌≡◌, ◌∙◌, ap₂, ap, string_bytes}
use Rattle.dap_mask.proofs.filling.default_member.Goals as goal

pub returns : goal.returns
returns c =
    let named : string_bytes c.in_ok-key.key ≡ c.args.name.now = c.in_ok-key.ensures.ok in
    rw (← c.is_given.ensures, c.if-is_given.false)
    (ap members_view c.in_ok-insert.ensures.entries
    ∙ members_view-insert_entry c.args.members.now.entries c.in_ok-key.key c.in_ok-tree.tree
    ∙ ap₂ (λ k d. put k d (members_view c.args.members.now.entries)) named
    c.in_ok-tree.ensures)
