use Rattle.std.proofs.Common.{option_map}
use Rattle.dap_profile.proofs.KindRows.{first-requests, second-requests, third-requests}
use Rattle.dap_profile.proofs.KindRows.{of-requests}
use Rattle.dap_profile.proofs.asked_rows.requests_of.Goals as goal

pub rows_named-requires : goal.rows_named-requires
rows_named-requires c = first-requests _ c.requires

pub rows_named-requires-2 : goal.rows_named-requires-2
rows_named-requires-2 c = second-requests _ c.requires

pub rows_named-requires-3 : goal.rows_named-requires-3
rows_named-requires-3 c = third-requests _ c.requires

pub returns : goal.returns
returns c =
    of-requests (option_map (λ s. s.now) c.args.name) c.args.rows.now _ _ _ c.requires
    c.rows_named.ensures c.rows_named-2.ensures c.rows_named-3.ensures
