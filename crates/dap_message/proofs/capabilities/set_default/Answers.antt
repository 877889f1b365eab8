use Rattle.dap_tree.specs.Doc.{put}
use Rattle.dap_tree.specs.View.{view, members_view}
use Rattle.dap_tree.proofs.Views.{members_view-insert_entry}
use Rattle.std.proofs.Common.{◌≡◌, ◌∙◌, ap, string_bytes}
use Rattle.dap_message.proofs.capabilities.set_default.Goals as goal

pub returns : goal.returns
returns c =
    let named : string_bytes c.in_ok-key.key ≡ c.args.name.now = c.in_ok-key.ensures.ok in
    rw (← c.is_given.ensures, c.if-is_given.false)
    (ap members_view c.in_ok-insert.ensures.entries
    ∙ members_view-insert_entry c.args.members.now.entries c.in_ok-key.key c.args.value
    ∙ ap (λ k. put k (view c.args.value) (members_view c.args.members.now.entries)) named)
