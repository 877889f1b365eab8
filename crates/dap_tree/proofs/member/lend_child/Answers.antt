use Rattle.std.proofs.Common.{◌∙◌, refl, sym, ap, option_map}
use Rattle.dap_tree.specs.Doc.{object, get}
use Rattle.dap_tree.specs.View.{view, members_view}
use Rattle.dap_tree.proofs.Views.{object_from, lent_written, view_of_mut, view-lookup}
use Rattle.dap_tree.proofs.member.lend_child.Goals as goal

pub returns-in-Some : goal.returns-in-Some
returns-in-Some g c =
    let d = g.T.HasMembers.document c.args.tree.now in
    let m = c.in-Some.members.now in
    let k = c.args.name.now in
    let is = object_from d (members_view m.entries) c.in-Some.ensures.value in (
      (
        refl,
        λ w. lent_written k d _ m (c.get_mut.follows.lender w) c.get_mut.result w
            c.in-Some.ensures.value c.get_mut.ensures.value (c.get_mut.follows.holds w).0
            (g.met.T.HasMembers.shows (c.get_mut.follows.lender w)),
        g.met.T.HasMembers.shows c.get_mut.follows.lender-at-none
            ∙ ap (λ n. object (members_view n.entries)) c.get_mut.follows.holds-at-none ∙ sym is,
      ),
      view_of_mut c.get_mut.result ∙ ap (option_map view) c.get_mut.ensures.value
          ∙ view-lookup k m.entries ∙ ap (get k) (sym is),
    )
