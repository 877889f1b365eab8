use Rattle.std.proofs.Common.{◌≡◌, true, drop, map, option_map}
use Rattle.std.specs.List.{filter}
use Rattle.dap_profile.specs.RowRanges.{are_runs, has_name}
use Rattle.dap_profile.specs.ProfileRows.{row_of}
use Rattle.dap_profile.proofs.asked_rows.rows_named.Given as goal

abbrev pub invariant-loop-count : goal.invariant-loop-count
invariant-loop-count l = record {
  in_runs : are_runs (drop l.count-index l.runs) (map row_of l.rest) ≡ true;
  same : filter (has_name (option_map (λ s. s.now) l.name)) (map row_of l.rows)
      ≡ filter (has_name (option_map (λ s. s.now) l.name)) (map row_of l.rest);
}
