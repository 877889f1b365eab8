use Rattle.std.proofs.Common.{◌∙◌, sym}
use Rattle.dap_flat.specs.declared.node.Node.TheVariants as node
use Rattle.dap_flat_message.proofs.Named.{kindless, tells_whole}
use Rattle.dap_flat_message.proofs.faults.message_fault.Goals as goal

pub first_broken-requires : goal.first_broken-requires
first_broken-requires c = record {
  named = λ d shows.
      let tells = tells_whole c.args.nodes.now c.args.found.now c.requires d shows in (
        sym (c.in_ok-kind.ensures d tells) ∙ c.in-Some.is,
        sym (c.in_ok-name_of_tree-in-Some.ensures d tells),
      );
  places = c.requires;
}

pub returns-in-None : goal.returns-in-None
returns-in-None c =
    let ns = c.args.nodes.now in
    kindless ns node.Null (sym c.if-not-is_object.ensures)
    (λ d shows.
    sym (c.in_ok-kind.ensures d (tells_whole ns c.args.found.now c.requires d shows))
    ∙ c.in-None.is)
