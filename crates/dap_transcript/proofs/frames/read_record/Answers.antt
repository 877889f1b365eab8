use Rattle.std.proofs.Common.{◌∷◌, ◌++◌, ◌-◌, ◌∙◌, ap, arith, codes, false, length, sym}
use Rattle.dap_tree.specs.{Doc.whole}
use Rattle.dap_session.specs.Messages.{seq_of}
use Rattle.dap_recording.specs.Recording.{record_text}
use Rattle.dap_transcript.specs.{Heads.later_text, Transcript.members_in}
use Rattle.dap_transcript.proofs.HeadMembers.{after_first, after_shorter}
use Rattle.dap_transcript.proofs.HeadValues.{text_of_members}
use Rattle.dap_transcript.proofs.MessageHeads.{has_content, has_head}
use Rattle.dap_transcript.proofs.frames.read_record.Goals as goal

pub returns-in-10-clause-head : goal.returns-in-10-clause-head
returns-in-10-clause-head c m more of is =
    let has = has_head m (has_content m of).enveloped in
    let object = text_of_members m (codes "seq") (whole (seq_of m)) has.seq_is in
    let split = c.in_ok-side.ensures.record m.side (later_text false (members_in m)) more
    (is ∙ ap (λ t. record_text m.side t ++ more) object) in
    let read = c.in_ok-head.ensures.head m (10 ∷ more) of split.0
    (split.1 ∙ ap (λ t. t ++ 10 ∷ more) (sym object)) in
    (read.0, after_first c.in_ok-head.rest.now more 10 read.1)

pub returns-in-10-clause-shorter : goal.returns-in-10-clause-shorter
returns-in-10-clause-shorter c =
    omega (
      arith,
      after_shorter (length c.in_ok-head.rest.now - 1) c.in_ok-head.rest.now
          c.in-10.len_at_least,
      c.in_ok-head.ensures.within,
      c.in_ok-side.ensures.within,
    )
