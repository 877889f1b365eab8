use Rattle.std.proofs.Common.{◌∙◌, sym, option_map}
use Rattle.dap_profile.proofs.AskedRows.{named-by-first}
use Rattle.dap_profile.proofs.asked_rows.all_if_named.Goals as goal

pub returns-then-has_name : goal.returns-then-has_name
returns-then-has_name c =
    (named-by-first (option_map (λ s. s.now) c.args.name) c.args.rows.now _
    c.in-len1-up.len_at_least c.requires).0 (sym c.has_name.ensures ∙ c.if-has_name.true)

pub returns-else-has_name : goal.returns-else-has_name
returns-else-has_name c =
    (named-by-first (option_map (λ s. s.now) c.args.name) c.args.rows.now _
    c.in-len1-up.len_at_least c.requires).1 (sym c.has_name.ensures ∙ c.if-has_name.false)
