use Rattle.std.proofs.Common.{drop}
use Rattle.dap_flat_message.specs.Heads.{text_in}
use Rattle.dap_mask.specs.{FlatMasking.AreChanged, Rules.rules_of}
use Rattle.dap_mask.proofs.flat_masking.change_places.Given as goal

abbrev pub invariant-loop-place : goal.invariant-loop-place
invariant-loop-place l =
    AreChanged (text_in l.category) (rules_of l.rules) (drop l.place-index l.places) l.places
    l.initial.nodes l.nodes
