use Rattle.std.proofs.Common.{◌∙◌, sym, ap, cond, None, option_map, string_bytes}
use Rattle.dap_mask.specs.Mask.{omit}
use Rattle.dap_mask.specs.RuleText.{split_last}
use Rattle.dap_mask.specs.Rules.{place_of}
use Rattle.dap_mask.proofs.Values.{split_popped}
use Rattle.dap_mask.proofs.statement.omission_behind.Goals as goal

pub returns-in-Some : goal.returns-in-Some
returns-in-Some c =
    let rule = option_map (λ r. omit (record {
      kind = c.args.kind;
      name = option_map string_bytes c.args.name;
      parent = r.0;
      last = r.1;
    })) in
    sym (ap (λ b. cond b (rule (split_last (place_of c.args.place.items))) None)
    (sym c.is_end.ensures ∙ c.if-not-is_end.false)
    ∙ ap rule (split_popped c.args.place.items c.pop.new.self.items c.in-Some.last
    c.in-Some.ensures.items))
