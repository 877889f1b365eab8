use Rattle.dap_profile.specs.RowRanges.{rows_in}
use Rattle.dap_flat_message.specs.Heads.{text_in}
use Rattle.dap_flat_message.proofs.Named.{named_asked}
use Rattle.dap_flat_message.proofs.faults.first_broken.Goals as goal

pub first_asked-requires : goal.first_asked-requires
first_asked-requires c = record {
  asked = named_asked c.args.nodes.now c.args.kind (text_in c.args.name) (rows_in c.rows_of.result)
      c.rows_of.ensures c.requires.named;
  places = c.requires.places;
}
