use Rattle.std.proofs.Common.{◌≡◌, ◌++◌, ◌∙◌, ap, ap₂, arith, of_z, sym, to_z, w64}
use Rattle.std.proofs.lemmas.{Int.to_z-of_z, Result.on_ok_weaker}
use Rattle.dap_profile.specs.declared.profile.Kind.TheVariants.{Response}
use Rattle.dap_session.specs.Messages.{other, same_kind}
use Rattle.dap_transcript.specs.Expected.{expected_seq, oldest_open}
use Rattle.dap_transcript.specs.Transcript.{record_text}
use Rattle.dap_transcript.proofs.Oldest.{one_more_record}
use Rattle.dap_transcript.proofs.transcript.Writer.push.Goals as goal

pub returns : goal.returns
returns c =
    let seq = c.expect-expected.result.seq in
    let n : to_z w64 (of_z w64 seq) ≡ seq = grind (arith, to_z-of_z) in
    on_ok_weaker c.add.result
    (λ known ms m written head ordered.
    let own = head.numbered in
    let found = c.expect-expected.ensures ms written.known in
    let pushed = c.in_ok-push_record.ensures m head ordered ms
    (n ∙ found.1.seq ∙ ap (expected_seq ms) own.side)
    (λ responds. found.1.request (ap (same_kind Response) own.kind ∙ responds)
    ∙ ap₂ (λ s k. oldest_open (other s) k ms) own.side own.name) in
    record {
      known = known ms m found.0 own;
      text = pushed ∙ ap (λ t. t ++ record_text ms m) written.text ∙ sym (one_more_record ms m);
    })
    c.add.ensures
