use Rattle.std.proofs.Common.{ℕ, List, ◌++◌, ◌∙◌, ap, sym, arith, length}
use Rattle.std.proofs.lemmas.Result.{IfOk-weaker}
use Rattle.dap_transcript.proofs.TextLines.{found_byte, item_last, item_then, items_pushed}
use Rattle.dap_transcript.proofs.TextLines.{list_pushed}
use Rattle.dap_transcript.proofs.TextLines.{member_last, member_pushed, member_then}
use Rattle.dap_transcript.proofs.TextLines.{members_pushed, no_items_pushed, no_members_pushed}
use Rattle.dap_transcript.proofs.TextLines.{object_pushed, plain_member_pushed, string_pushed}
use Rattle.dap_transcript.proofs.lines.+push_part.Goals as goal

pub push_part-returns-in-Some-clause-lines : goal.push_part-returns-in-Some-clause-lines
push_part-returns-in-Some-clause-lines t c =
    let old = c.args.out.now.items in
    let new = c.push_object.new.out.items in
    IfOk-weaker c.push_object.result _ _
    (λ rest pushed. object_pushed c.args.named c.args.margin c.args.text.now c.in-Some.inside.now
    rest.now old new c.in-Some.ensures pushed)
    c.push_object.ensures.lines

pub push_part-returns-in-Some-after_byte-clause-lines :
    goal.push_part-returns-in-Some-after_byte-clause-lines
push_part-returns-in-Some-after_byte-clause-lines t c =
    let old = c.args.out.now.items in
    let new = c.push_list.new.out.items in
    IfOk-weaker c.push_list.result _ _
    (λ rest pushed. list_pushed c.args.named c.args.margin c.args.text.now
    c.in-Some-after_byte.inside.now rest.now old new c.in-Some-after_byte.ensures pushed)
    c.push_list.ensures.lines

pub push_part-returns-then-is_some-clause-lines : goal.push_part-returns-then-is_some-clause-lines
push_part-returns-then-is_some-clause-lines t c =
    let found = found_byte c.after_byte-3.result c.args.text.now 34 c.after_byte-3.ensures
    (sym c.is_some.ensures ∙ c.if-is_some.true) in
    IfOk-weaker c.push_string_line.result _ _
    (λ rest pushed. string_pushed c.args.named c.args.margin c.args.text.now found.0 rest.now
    c.args.out.now.items c.push_string_line.new.out.items found.1 pushed)
    c.push_string_line.ensures.lines

pub push_list-returns-in-Some-clause-lines : goal.push_list-returns-in-Some-clause-lines
push_list-returns-in-Some-clause-lines t c =
    no_items_pushed c.args.named c.args.margin c.args.text.now c.in-Some.rest.now
    c.args.out.now.items c.extend_from_slice.new.self.items c.in-Some.ensures
    c.in_ok-extend_from_slice.ensures.items

pub push_list-returns-clause-lines : goal.push_list-returns-clause-lines
push_list-returns-clause-lines t c =
    let old = c.args.out.now.items in
    let mid = c.push.new.self.items in
    let new = c.push_items.new.out.items in
    IfOk-weaker c.push_items.result _ _
    (λ rest pushed. items_pushed c.args.named c.args.margin c.args.text.now rest.now old mid new
    c.in_ok-len.len c.in_default.ensures c.in_ok-push.ensures.items c.in_ok-len.ensures pushed)
    c.push_items.ensures.lines

pub push_object-returns-in-Some-clause-lines : goal.push_object-returns-in-Some-clause-lines
push_object-returns-in-Some-clause-lines t c =
    no_members_pushed c.args.named c.args.margin c.args.text.now c.in-Some.rest.now
    c.args.out.now.items c.extend_from_slice.new.self.items c.in-Some.ensures
    c.in_ok-extend_from_slice.ensures.items

pub push_object-returns-clause-lines : goal.push_object-returns-clause-lines
push_object-returns-clause-lines t c =
    let old = c.args.out.now.items in
    let mid = c.extend_from_slice-2.new.self.items in
    let new = c.push_members.new.out.items in
    IfOk-weaker c.push_members.result _ _
    (λ rest pushed. members_pushed c.args.named c.args.margin c.args.text.now rest.now old mid new
    c.first_margin.result c.in_ok-len.len c.in_default.ensures
    (c.in_ok-extend_from_slice-2.ensures.items
    ∙ ap (λ (s : List ℕ). old ++ s) c.separator.ensures) c.in_ok-len.ensures c.first_margin.ensures
    pushed)
    c.push_members.ensures.lines

pub push_items-returns-in-Some-clause-lines : goal.push_items-returns-in-Some-clause-lines
push_items-returns-in-Some-clause-lines t c =
    let l = c.loop-after in
    l.invariant.lines c.in-Some.rest.now c.push_item.new.out.items
    (item_last c.args.margin l.left.now c.in_ok-after.after.now c.in-Some.rest.now l.out.items
    c.push_item.new.out.items c.in_ok-after.ensures.lines c.in-Some.ensures)

pub push_items-loop-after-preserved : goal.push_items-loop-after-preserved
push_items-loop-after-preserved t c =
    let l = c.loop-after in
    let next = c.in-Some-after_byte.next.now in
    let mid = c.push_item.new.out.items in
    record {
      lines = λ rest new later. l.invariant.lines rest new
          (item_then c.args.margin l.left.now c.in_ok-after.after.now rest l.out.items mid next new
          c.in_ok-after.ensures.lines c.in-Some-after_byte.ensures later);
      shorter = omega (
        arith,
        l.invariant.shorter,
        c.in_ok-after.ensures.shorter,
        ap length c.in-Some-after_byte.ensures,
      );
    }

pub push_members-returns-in-Some-clause-lines : goal.push_members-returns-in-Some-clause-lines
push_members-returns-in-Some-clause-lines t c =
    let l = c.loop-after in
    l.invariant.lines c.in-Some.rest.now c.push_member.new.out.items
    (member_last l.next c.args.margin l.left.now c.in_ok-after.after.now c.in-Some.rest.now
    l.out.items c.push_member.new.out.items c.in_ok-after.ensures.lines c.in-Some.ensures)

pub push_members-loop-after-preserved : goal.push_members-loop-after-preserved
push_members-loop-after-preserved t c =
    let l = c.loop-after in
    let next = c.in-Some-after_byte.more.now in
    let mid = c.push_member.new.out.items in
    record {
      lines = λ rest new later. l.invariant.lines rest new
          (member_then l.next c.args.margin l.left.now c.in_ok-after.after.now rest l.out.items mid
          next new c.in_ok-after.ensures.lines c.in-Some-after_byte.ensures later);
      shorter = omega (
        arith,
        l.invariant.shorter,
        c.in_ok-after.ensures.shorter,
        ap length c.in-Some-after_byte.ensures,
      );
    }

pub push_member-returns-in-Some-clause-lines : goal.push_member-returns-in-Some-clause-lines
push_member-returns-in-Some-clause-lines t c =
    let old = c.args.out.now.items in
    let one = c.push_margin.new.out.items in
    let two = c.extend_from_slice.new.self.items in
    let three = c.push.new.self.items in
    let new = c.push_part.new.out.items in
    IfOk-weaker c.push_part.result _ _
    (λ rest pushed. plain_member_pushed c.args.first c.args.margin c.args.text.now
    c.in-Some.name.now c.in-Some.value.now rest.now old one two three new c.in-Some.ensures.plain
    c.in_ok-push_margin.ensures c.in_ok-extend_from_slice.ensures.items c.in_ok-push.ensures.items
    pushed)
    c.push_part.ensures.lines

pub push_member-returns-clause-lines : goal.push_member-returns-clause-lines
push_member-returns-clause-lines t c =
    IfOk-weaker c.push_named.result _ _
    (λ rest pushed. member_pushed c.args.first c.args.margin c.args.text.now
    c.in-Some-split_name.name.now c.in-Some-split_name.value.now rest.now c.args.out.now.items
    c.push_named.new.out.items c.in-Some-split_name.ensures.name pushed)
    c.push_named.ensures.lines
