use Rattle.std.proofs.Common.{◌≡◌, ◌∙◌, false, ap, ap₂, map, sym, subst}
use Rattle.dap_join.specs.Joined.{has_category, insert_group}
use Rattle.dap_join.specs.JoiningSteps.{group_shown, groups_shown}
use Rattle.dap_join.specs.declared.groups.Group.{Group}
use Rattle.dap_join.proofs.GroupMaps.{group_inserted}
use Rattle.dap_join.proofs.groups.insert_group.Goals as goal

pub returns : goal.returns
returns c =
    let gs = groups_shown c.args.groups.now in
    let v : Group = record {
      number = c.args.number;
      seq = c.args.output.seq;
      text = c.in_ok-from_str.field-0;
    } in
    ap (map group_shown) c.in_ok-insert.ensures.entries
    ∙ group_inserted c.in_ok-category.category v c.args.groups.now.entries
    (subst (λ t. has_category t gs ≡ false) (sym c.in_ok-category.ensures.ok) c.requires)
    ∙ ap₂ (λ category s. insert_group (record {
      number = c.args.number;
      seq = c.args.output.seq;
      category = category;
      text = s;
    }) gs) c.in_ok-category.ensures.ok c.in_ok-from_str.ensures.ok
