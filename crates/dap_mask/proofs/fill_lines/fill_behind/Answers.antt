use Rattle.std.proofs.Common.{◌≡◌, option_map, option_and_then, string_bytes, IfOk, sym, subst}
use Rattle.dap_mask.specs.Mask.{statement_of}
use Rattle.dap_mask.specs.RuleText.{value_behind}
use Rattle.dap_mask.proofs.Values.{split_popped}
use Rattle.dap_mask.proofs.fill_lines.fill_behind.Goals as goal

pub returns-in-Some : goal.returns-in-Some
returns-in-Some c =
    subst
    (λ p. IfOk c.value_behind.result (λ o. option_map statement_of o
    ≡ option_and_then
    (value_behind c.args.kind (option_map string_bytes c.args.name) c.args.text.now) p))
    (sym (split_popped c.args.place.items c.pop.new.self.items c.in-Some.last
    c.in-Some.ensures.items))
    c.value_behind.ensures
