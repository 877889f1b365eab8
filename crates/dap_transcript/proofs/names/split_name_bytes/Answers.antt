use Rattle.std.proofs.Common.{◌∙◌, ap}
use Rattle.std.specs.List.{list_all}
use Rattle.dap_transcript.specs.Names.{is_name_byte}
use Rattle.dap_transcript.proofs.names.split_name_bytes.Goals as goal

pub returns : goal.returns
returns c = (
  c.split_at.ensures.by_index.0,
  ap (list_all is_name_byte) c.split_at.ensures.front ∙ c.in_ok-end.ensures.1,
)
