use Rattle.std.proofs.Common.{◌≡◌, ◌++◌, false, length, map}
use Rattle.dap_tokens.specs.{Models.{labels_of}, Tokens.{parts_from}}
use Rattle.dap_naming.specs.Joint.{id_of, tokens_in}
use Rattle.dap_naming.proofs.joint.tokens_among.Given as goal

-- the tokens so far, and those of the rest
abbrev pub invariant-parts : goal.invariant-parts
invariant-parts l = map id_of l.tokens.items
    ++ tokens_in (parts_from (labels_of l.labels) 0 l.after_digit l.rest)
    ≡ tokens_in (parts_from (labels_of l.labels) 0 false l.fn.text)

abbrev pub decreases-parts : goal.decreases-parts
decreases-parts l = length l.rest
