use Rattle.std.proofs.Common.{◌∙◌, ap, sym}
use Rattle.std.proofs.lemmas.Result.{IfOk-weaker}
use Rattle.dap_flat.specs.Finding.{FindsChild}
use Rattle.dap_flat_message.specs.Places.{FindsTop, place_of}
use Rattle.dap_flat_message.proofs.Heads.{holds_whole}
use Rattle.dap_flat_message.proofs.Located.{finds_top}
use Rattle.dap_flat_message.proofs.members.top_child.Goals as goal

pub returns-in-Some : goal.returns-in-Some
returns-in-Some c =
    finds_top c.args.nodes.now c.args.found.now c.args.name.now c.place.result
    (λ d places. c.place.ensures ∙ places c.in-Some.key
    ∙ ap (λ k. place_of k d) (sym c.in-Some.ensures))

pub returns-in-None : goal.returns-in-None
returns-in-None c =
    let ns = c.args.nodes.now in
    let k = c.args.name.now in
    IfOk-weaker c.child.result (FindsChild ns 0 k) (FindsTop ns c.args.found.now k)
    (λ found finds d l. finds d (holds_whole ns d l.shows)) c.child.ensures
