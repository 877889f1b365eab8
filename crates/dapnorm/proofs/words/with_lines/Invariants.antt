use Rattle.std.specs.Prelude.{◌≡◌, ◌++◌, flat_map, take}
use Rattle.dapnorm.specs.WordOption.{HaveEquals, line_end, value_line}
use Rattle.dapnorm.proofs.words.with_lines.Given as goal

-- the text has the line of each value so far
abbrev pub invariant-loop-name : goal.invariant-loop-name
invariant-loop-name l = record {
  named : HaveEquals l.values l.name-index;
  lines : l.rules.items ≡ (l.fn.text.items ++ line_end l.fn.text.items)
      ++ flat_map value_line (take l.name-index l.values);
}
