use Rattle.std.proofs.Common.{◌≡◌, ◌<◌, ◌++◌, ◌∷◌, [], ◌∙◌, ap, append-nil, append_assoc, arith}
use Rattle.std.proofs.Common.{length, subst, sym}
use Rattle.std.proofs.lemmas.List.Elements.{All-head, All-tail}
use Rattle.std.specs.List.{All}
use Rattle.dap_stored.specs.Contents.{IsOfContent}
use Rattle.dap_transcript.specs.{Recordings.frames, Transcript.transcript}
use Rattle.dap_transcript.proofs.MessageHeads.{has_content}
use Rattle.dap_transcript.proofs.RecordLists.{frames_next, no_frames}
use Rattle.dap_transcript.proofs.transcript.transcript_of_frames.Goals as goal

pub loop-left-preserved : goal.loop-left-preserved
loop-left-preserved c messages is of =
    let own = c.loop-left.invariant messages is of in
    let text = c.loop-left.left.now in
    let some : 0 < length text = grind arith in
    let next = frames_next own.left text own.text_is some in
    let m = next.0 in
    let rest = next.1 in
    let each = subst (All IsOfContent) next.2 own.of_content in
    let content = All-head IsOfContent m rest each in
    let head = c.in-Some.ensures.head m (frames rest) content (own.text_is ∙ ap frames next.2) in
    record {
      before = own.before ++ m ∷ [];
      left = rest;
      written = c.in_ok-push.ensures own.before m own.written head.0
          (has_content m content).ordered;
      all = own.all ∙ ap (λ l. own.before ++ l) next.2
          ∙ sym (append_assoc own.before (m ∷ []) rest);
      text_is = head.1;
      of_content = All-tail IsOfContent m rest each;
    }

pub returns : goal.returns
returns c messages is of =
    let own = c.loop-left.invariant messages is of in
    let text = c.loop-left.left.now in
    let empty : length text ≡ 0 = grind arith in
    let none = no_frames own.left text own.text_is empty in
    own.written.text
    ∙ ap transcript
    (sym (own.all ∙ ap (λ l. own.before ++ l) none ∙ append-nil own.before))
