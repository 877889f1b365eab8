use Rattle.std.proofs.Common.{◌∙◌, ap, map, refl, sym}
use Rattle.dap_join.specs.JoiningSteps.{group_shown}
use Rattle.dap_join.specs.declared.groups.Group.{Group}
use Rattle.dap_join.proofs.GroupMaps.{nothing_appended, text_appended}
use Rattle.dap_join.proofs.groups.append_text.Goals as goal

pub returns-in_ok-push_str : goal.returns-in_ok-push_str
returns-in_ok-push_str c =
    let g = c.in-Some.group.now in
    let w : Group = record { number = g.number; seq = g.seq; text = c.push_str.new.self } in
    ap (map group_shown) (c.get_mut.follows.holds w).0
    ∙ text_appended c.args.category.now c.args.text.now w g refl refl
    c.in_ok-push_str.ensures.bytes c.args.groups.now.entries (sym c.in-Some.ensures.value)

pub returns-in_default : goal.returns-in_default
returns-in_default c =
    ap (λ m. map group_shown m.entries) c.get_mut.follows.holds-at-none
    ∙ nothing_appended c.args.category.now c.args.text.now c.args.groups.now.entries
    (sym c.in_default.ensures.value)
