use Rattle.std.proofs.Common.{◌≡◌, length, false}
use Rattle.dap_tokens.specs.{Models.labels_of, Tokens.parts_from}
use Rattle.dap_naming.specs.Known.{limit_of}
use Rattle.dap_naming.proofs.Writing.{Reads}
use Rattle.dap_naming.proofs.texts.name_parts.Given as goal

-- some parts are written, and the others are left
abbrev pub invariant-parts : goal.invariant-parts
invariant-parts l = record {
  read : Reads (labels_of l.labels) l.fn.numbers l.numbers
      (parts_from (labels_of l.labels) 0 false l.fn.text) l.after_digit l.rest l.fn.named.items
      l.named.items;
  limit : limit_of l.numbers ≡ limit_of l.fn.numbers;
}

abbrev pub decreases-parts : goal.decreases-parts
decreases-parts l = length l.rest
