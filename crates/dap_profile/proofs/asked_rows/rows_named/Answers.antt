use Rattle.std.proofs.Common.{◌+◌, ◌∙◌, List, ap, drop, map, option_map, sym}
use Rattle.std.specs.List.{filter}
use Rattle.dap_profile.specs.ProfileRows.{row_of}
use Rattle.dap_profile.specs.RowRanges.{are_runs, has_name, rows_named}
use Rattle.dap_profile.specs.declared.profile.Row.{Row}
use Rattle.dap_profile.proofs.AskedRows.{next-run, next-fits, later-runs}
use Rattle.dap_profile.proofs.asked_rows.rows_named.Goals as goal

pub split_at-requires : goal.split_at-requires
split_at-requires c =
    next-fits c.loop-count.rest.now c.args.runs.now c.loop-count.count-index 0
    c.loop-count-test.true c.loop-count.invariant.in_runs

pub returns-then-has_name : goal.returns-then-has_name
unfolding rows_named
returns-then-has_name c =
    ap (λ (xs : List Row). map row_of xs) c.split_at.ensures.front
    ∙ (next-run (option_map (λ s. s.now) c.args.name) c.loop-count.rest.now _ c.args.runs.now
    c.loop-count.count-index 0 c.loop-count-test.true c.loop-count.invariant.in_runs).found
    (sym c.has_name.ensures ∙ c.if-has_name.true)
    ∙ sym c.loop-count.invariant.same

pub loop-count-preserved : goal.loop-count-preserved
loop-count-preserved c = record {
  in_runs = ap (λ (xs : List Row). are_runs (drop (c.loop-count.count-index + 1) c.args.runs.now)
      (map row_of xs)) c.split_at.ensures.back
      ∙ later-runs c.loop-count.rest.now c.args.runs.now c.loop-count.count-index 0
      c.loop-count-test.true c.loop-count.invariant.in_runs;
  same = c.loop-count.invariant.same
      ∙ (next-run (option_map (λ s. s.now) c.args.name) c.loop-count.rest.now _ c.args.runs.now
      c.loop-count.count-index 0 c.loop-count-test.true c.loop-count.invariant.in_runs).other
      (sym c.has_name.ensures ∙ c.if-has_name.false)
      ∙ ap (λ (xs : List Row). filter (has_name (option_map (λ s. s.now) c.args.name))
      (map row_of xs)) (sym c.split_at.ensures.back);
}
