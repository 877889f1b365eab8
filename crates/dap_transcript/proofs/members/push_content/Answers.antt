use Rattle.std.proofs.Common.{◌∙◌, sym}
use Rattle.std.proofs.lemmas.Result.{on_ok_weaker}
use Rattle.dap_transcript.specs.Members.{omits}
use Rattle.dap_transcript.proofs.TextLines.{found_byte, other_byte}
use Rattle.dap_transcript.proofs.WrittenMembers.{content_written, empty_content}
use Rattle.dap_transcript.proofs.members.push_content.Goals as goal

pub returns-then-is_some : goal.returns-then-is_some
returns-then-is_some c =
    let inside = c.in-Some.inside.now in
    let found = found_byte c.after_byte-2.result inside 125 c.after_byte-2.ensures
    (sym c.is_some.ensures ∙ c.if-is_some.true) in
    empty_content (omits c.args.omitted) c.args.content.now inside c.args.out.now.items
    c.in-Some.ensures found.0 found.1

pub returns : goal.returns
returns c =
    let inside = c.in-Some.inside.now in
    let some = other_byte c.after_byte-2.result inside 125 c.after_byte-2.ensures
    (sym c.is_some.ensures ∙ c.if-is_some.false) in
    on_ok_weaker c.push_written.result
    (λ pushed. content_written (omits c.args.omitted) c.args.content.now inside
    c.args.out.now.items c.in-Some.ensures c.push_written.new.out.items some pushed)
    c.push_written.ensures
