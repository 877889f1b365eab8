use Rattle.std.proofs.Common.{◌≡◌, ◌++◌, drop}
use Rattle.dap_flat.specs.Marks.{Extends, spliced}
use Rattle.dap_flat.proofs.splicing.copy_spliced.Given as goal

-- what was copied and the remaining text are all of the text
abbrev pub invariant-loop-mark : goal.invariant-loop-mark
invariant-loop-mark l = record {
  all : l.out.items ++ spliced l.at l.left (drop l.mark-index l.marks) l.rest
      ≡ l.initial.out.items ++ spliced 0 l.text l.marks l.numbers;
  more : Extends l.initial.out.items l.out.items;
}
