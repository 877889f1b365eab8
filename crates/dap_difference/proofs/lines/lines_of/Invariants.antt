use Rattle.std.proofs.Common.{◌≡◌, ◌++◌, drop, true}
use Rattle.std.specs.List.{flat_map}
use Rattle.dap_difference.specs.Lines.{are_sound, difference_lines}
use Rattle.dap_difference.specs.Shown.{shown_differences}
use Rattle.dap_difference.proofs.lines.lines_of.Given as goal

abbrev pub invariant-loop-difference : goal.invariant-loop-difference
invariant-loop-difference l = record {
  lines : l.text.items
      ++ flat_map difference_lines (shown_differences (drop l.difference-index l.found))
      ≡ flat_map difference_lines (shown_differences l.found);
  sound : are_sound (shown_differences (drop l.difference-index l.found)) ≡ true;
}
