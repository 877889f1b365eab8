use Rattle.std.proofs.Common.{◌∙◌, subst, sym}
use Rattle.dap_mask.specs.KeptRules.{mask_of}
use Rattle.dapnorm.specs.Streams.{HasJoined, HasMasked}
use Rattle.dapnorm.proofs.stream.masked.Goals as goal

pub returns-in-Some-clause-masked : goal.returns-in-Some-clause-masked
returns-in-Some-clause-masked g c =
    let joined : HasJoined g.R.Source g.W.Sink (mask_of c.args.rules.now) c.args.reader.now
    c.join_and_mask.new.reader c.args.writer.now c.join_and_mask.new.writer c.join_and_mask.result =
    record { answers = c.join_and_mask.ensures.outcome; memory = c.join_and_mask.ensures.memory } in
    subst (λ joining. HasMasked g.R.Source g.W.Sink (mask_of c.args.rules.now) joining
    c.args.reader.now c.join_and_mask.new.reader c.args.writer.now c.join_and_mask.new.writer
    c.join_and_mask.result) (sym c.in-Some.is ∙ c.joining.ensures) joined
