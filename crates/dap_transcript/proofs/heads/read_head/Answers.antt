use Rattle.std.proofs.Common.{◌++◌, ◌∙◌, ap, codes, false, sym}
use Rattle.dap_tree.specs.{Doc.whole, Json.text_of}
use Rattle.dap_session.specs.Messages.{seq_of}
use Rattle.dap_transcript.specs.{Heads.later_text, Transcript.members_in}
use Rattle.dap_transcript.proofs.HeadMembers.{after_first}
use Rattle.dap_transcript.proofs.HeadValues.{text_of_members}
use Rattle.dap_transcript.proofs.MessageHeads.{has_content, has_head}
use Rattle.dap_transcript.proofs.heads.read_head.Goals as goal

pub returns-clause-head : goal.returns-clause-head
returns-clause-head c m more of side is =
    let ms = members_in m in
    let has = has_head m (has_content m of).enveloped in
    let own = is
    ∙ ap (λ t. t ++ more) (text_of_members m (codes "seq") (whole (seq_of m)) has.seq_is) in
    let inside = later_text false ms ++ more in
    let read = c.in_ok-rest.ensures ms more (after_first c.args.text.now inside 123 own)
    (c.new-values.ensures ms) in
    let content = c.in_ok-content.ensures.front (text_of m.doc)
    (is ∙ ap (λ t. text_of m.doc ++ t) (sym read.1)) in
    (c.in_ok-head.ensures m (of, read.0) side content, read.1)
