use Rattle.std.proofs.Common.{◌∙◌, sym, ap}
use Rattle.dap_profile.specs.ProfileRows.{row_of}
use Rattle.dap_mask.specs.Ids.{takes_id, takes_id_of, takes_profile_id}
use Rattle.dap_mask.specs.Rules.{rule_of}
use Rattle.dap_mask.proofs.Lists.{any_mapped}
use Rattle.dap_mask.proofs.profile_ids.takes_profile_id.Goals as goal

pub returns : goal.returns
unfolding takes_profile_id
returns c =
    let rule = rule_of c.args.rule.now in
    c.takes_id_of.ensures
    ∙ sym (any_mapped (takes_id rule) row_of c.profile_rows.result.now)
    ∙ ap (takes_id_of rule) c.profile_rows.ensures
