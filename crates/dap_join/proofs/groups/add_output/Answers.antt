use Rattle.std.proofs.Common.{◌≡◌, ◌∙◌, true, false, sym}
use Rattle.dap_join.specs.Joined.{has_category}
use Rattle.dap_join.specs.JoiningSteps.{groups_shown}
use Rattle.dap_join.proofs.GroupMaps.{category_found}
use Rattle.dap_join.proofs.groups.add_output.Goals as goal

pub insert_group-requires : goal.insert_group-requires
insert_group-requires c =
    sym (category_found c.args.output.category.now c.args.groups.now.entries)
    ∙ sym c.contains_key.ensures ∙ c.if-contains_key.false

pub returns-then-contains_key : goal.returns-then-contains_key
returns-then-contains_key c =
    let has : has_category c.args.output.category.now (groups_shown c.args.groups.now) ≡ true =
    sym (category_found c.args.output.category.now c.args.groups.now.entries)
    ∙ sym c.contains_key.ensures ∙ c.if-contains_key.true in
    rw has c.append_text.ensures

pub returns-else-contains_key : goal.returns-else-contains_key
returns-else-contains_key c =
    let none : has_category c.args.output.category.now (groups_shown c.args.groups.now) ≡ false =
    sym (category_found c.args.output.category.now c.args.groups.now.entries)
    ∙ sym c.contains_key.ensures ∙ c.if-contains_key.false in
    rw none c.insert_group.ensures
