use Rattle.std.proofs.Math.ListN.{drop_of_length-le}
use Rattle.dap_flat_message.specs.Heads.{text_in}
use Rattle.dap_mask.specs.Rules.{rules_of}
use Rattle.dap_mask.proofs.FlatChanges.{none_changed, one_changed, all_changed}
use Rattle.dap_mask.proofs.flat_masking.change_places.Goals as goal

pub loop-place-init : goal.loop-place-init
loop-place-init c =
    none_changed (text_in c.args.category) (rules_of c.args.rules.now) c.args.places.now
    c.args.nodes.now

pub loop-place-preserved : goal.loop-place-preserved
loop-place-preserved c =
    one_changed (text_in c.args.category) (rules_of c.args.rules.now) c.args.places.now
    c.loop-place.place-index 0
    c.args.nodes.now c.loop-place.nodes c.change_at.new.nodes c.loop-place-test.true
    c.loop-place.invariant c.in_ok-change_at.ensures

pub returns : goal.returns
returns c =
    all_changed (text_in c.args.category) (rules_of c.args.rules.now) _ c.args.places.now
    c.args.nodes.now c.loop-place.nodes
    (drop_of_length-le c.args.places.now c.loop-place-test.false) c.loop-place.invariant
