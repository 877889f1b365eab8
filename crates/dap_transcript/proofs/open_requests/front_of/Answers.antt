use Rattle.std.proofs.Common.{◌∙◌}
use Rattle.dap_transcript.proofs.Places.{head_there}
use Rattle.dap_transcript.proofs.open_requests.front_of.Goals as goal

pub returns : goal.returns
returns c =
    c.copied.ensures ∙ head_there c.args.queue.now.items c.front.result c.front.ensures.item
