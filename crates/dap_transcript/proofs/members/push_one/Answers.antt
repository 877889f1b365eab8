use Rattle.std.proofs.Common.{◌∙◌, sym}
use Rattle.dap_transcript.proofs.WrittenMembers.{head_waits, nothing_left, one_written}
use Rattle.dap_transcript.proofs.members.push_one.Goals as goal

pub returns-then-not-names_head-clause-passes : goal.returns-then-not-names_head-clause-passes
returns-then-not-names_head-clause-passes c k e more before own starts waits =
    let inside = c.without_quotes-inside.ensures k own in
    let part = c.in_ok-rest.ensures.lines k e more own starts in (
      one_written k c.without_quotes-inside.result.now c.args.out.now.items
          c.settle.new.out.items c.push_named.new.out.items before e c.in_ok-still.still
          (c.in_ok-still.ensures k before inside waits) inside
          (sym c.names_head.ensures ∙ c.if-not-names_head.true) part.0,
      part.1,
    )

pub returns-clause-passes : goal.returns-clause-passes
returns-clause-passes c k e more before own starts waits =
    let inside = c.without_quotes-inside.ensures k own in
    let parts = c.in-Some.ensures.value e more starts.0 starts.1 in (
      head_waits
          (record { name = c.without_quotes-inside.result; value = c.args.value })
          k c.args.out.now.items c.settle.new.out.items before e c.in_ok-still.still
          (nothing_left c.in_ok-still.still c.is_some.result c.is_some.ensures c.if-is_some.false)
          (c.in_ok-still.ensures k before inside waits) inside
          (sym c.names_head.ensures ∙ c.if-not-names_head.false) (more, starts),
      parts.1,
    )
