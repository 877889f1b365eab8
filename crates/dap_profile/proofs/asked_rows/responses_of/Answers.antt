use Rattle.std.proofs.Common.{option_map}
use Rattle.dap_profile.proofs.KindRows.{first-responses, initialize-name, threads-name}
use Rattle.dap_profile.proofs.KindRows.{breakpoints-name, last-responses}
use Rattle.dap_profile.proofs.KindRows.{of-responses}
use Rattle.dap_profile.proofs.asked_rows.responses_of.Goals as goal

pub rows_named-requires : goal.rows_named-requires
rows_named-requires c = first-responses _ c.requires

pub all_if_named-requires : goal.all_if_named-requires
all_if_named-requires c = initialize-name _ c.requires

pub all_if_named-requires-2 : goal.all_if_named-requires-2
all_if_named-requires-2 c = threads-name _ c.requires

pub all_if_named-requires-3 : goal.all_if_named-requires-3
all_if_named-requires-3 c = breakpoints-name _ c.requires

pub rows_named-requires-2 : goal.rows_named-requires-2
rows_named-requires-2 c = last-responses _ c.requires

pub returns : goal.returns
returns c =
    of-responses (option_map (λ s. s.now) c.args.name) c.args.rows.now _ _ _ _ _ c.requires
    c.rows_named.ensures c.all_if_named.ensures c.all_if_named-2.ensures c.all_if_named-3.ensures
    c.rows_named-2.ensures
