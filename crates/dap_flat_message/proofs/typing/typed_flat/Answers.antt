use Rattle.std.proofs.Common.{◌∙◌, sym}
use Rattle.dap_flat_message.proofs.Named.{tells_whole}
use Rattle.dap_flat_message.proofs.typing.typed_flat.Goals as goal

pub typed_as-requires : goal.typed_as-requires
typed_as-requires c = record {
  named = λ d shows.
      let tells = tells_whole c.args.nodes.now c.args.found.now c.requires d shows in (
        sym (c.in_ok-kind.ensures d tells) ∙ c.in-Some.is,
        sym (c.in_ok-name-in-Some.ensures d tells),
      );
  places = c.requires;
}
