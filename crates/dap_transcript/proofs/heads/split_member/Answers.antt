use Rattle.std.proofs.Common.{◌∷◌, ◌++◌, ◌∙◌, ◌-◌, [], arith, length, true}
use Rattle.json.specs.Print.{escape}
use Rattle.dap_tree.specs.Json.{text_of}
use Rattle.dap_transcript.specs.Heads.{later_text}
use Rattle.dap_transcript.proofs.HeadMembers.{after_first, after_within, later_ends, member_starts}
use Rattle.dap_transcript.proofs.heads.split_member.Goals as goal

pub returns-clause-member : goal.returns-clause-member
returns-clause-member c later k d ms more is =
    let rest = later_text true ms ++ more in
    let value = text_of d ++ rest in
    let start = c.without_comma.ensures.string later ((escape k ++ 34 ∷ []) ++ 58 ∷ value)
    (is ∙ member_starts later k d ms more) in
    let first = c.in_ok-name.ensures.string k (58 ∷ value) start in
    let second = c.in_ok-value.ensures.value d rest
    (after_first c.in_ok-name.rest.now value 58 first.1) (later_ends ms more) in
    (c.without_quotes-name.ensures k first.0, second.0, second.1)

pub returns-clause-shorter : goal.returns-clause-shorter
returns-clause-shorter c =
    omega (
      arith,
      after_within (length c.in_ok-name.rest.now - 1) c.in_ok-name.rest.now,
      c.in_ok-value.ensures.shorter,
      c.in_ok-name.ensures.shorter,
      c.without_comma.ensures.within,
    )
