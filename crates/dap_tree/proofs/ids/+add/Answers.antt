use Rattle.std.proofs.Common.{◌≡◌, [], ◌∷◌, ◌++◌, List, ℤ, string_cmp, sym, ap, ◌∙◌, subst}
use Rattle.std.proofs.Common.{append_assoc, arith, length, rules, true≢false, ◌<◌}
use Rattle.std.specs.List.Sorted.{IsStrictlySortedBy}
use Rattle.std.specs.Map.{keys_of}
use Rattle.dap_tree.specs.declared.sort.Sort.{Sort}
use Rattle.dap_tree.specs.Doc.{members_ordered}
use Rattle.dap_tree.specs.Ids.{ids, items_ids, members_ids, Extends}
use Rattle.dap_tree.specs.View.{view, items_view, members_view}
use Rattle.dap_tree.proofs.NoIds.{item_without, member_without}
use Rattle.dap_tree.proofs.Views.{Entry, members_ordered-sorted, sorted_rest}
use Rattle.dap_tree.proofs.ids.+add.Goals as goal

extends_more : (xs ys zs : List (Sort × ℤ)) → Extends xs ys → Extends ys zs → Extends xs zs
extends_more xs ys zs first more =
    (first.0 ++ more.0, more.1 ∙ ap (λ is. is ++ more.0) first.1 ∙ append_assoc xs first.0 more.0)

pub add_items-returns-in_err-add-clause-err : goal.add_items-returns-in_err-add-clause-err
add_items-returns-in_err-add-clause-err t c =
    let more = extends_more c.args.found.now.items c.loop-item.found.items c.add.new.found.items
    c.loop-item.invariant.more c.in_err-add.ensures.err in
    search (rules, more)

pub add_items-returns-in_err-add-clause-none : goal.add_items-returns-in_err-add-clause-none
add_items-returns-in_err-add-clause-none t c none =
    let ts = c.deref-item-items.result.now in
    let within : c.loop-item.item-index < length ts = omega arith in
    let empty : items_ids (items_view ts) ≡ [] =
    ap (λ us. items_ids (items_view us)) c.deref-item-items.ensures.value ∙ none in
    absurd (true≢false (sym (c.in_err-add.ensures.none (item_without c.args.found.now.items
    c.loop-item.found.items ts c.loop-item.item-index c.item-item.result within c.item-item.is
    c.loop-item.invariant.more c.loop-item.invariant.all empty))))

pub add_members-returns-in_err-add-clause-none : goal.add_members-returns-in_err-add-clause-none
add_members-returns-in_err-add-clause-none t c none =
    let e : Entry = (c.in-Some.field-0-0.now, c.in-Some.member.now) in
    absurd (true≢false (sym (c.in_err-add.ensures.none (member_without c.args.found.now.items
    c.loop-member.found.items c.args.members.now.entries c.loop-member.member-iterator
    c.next.new.self e c.in-Some.ensures.steps c.loop-member.invariant.more
    c.loop-member.invariant.all none))))

pub add_members-loop-member-preserved : goal.add_members-loop-member-preserved
add_members-loop-member-preserved t c =
    let l = c.loop-member in
    let e : Entry = (c.in-Some.field-0-0.now, c.in-Some.member.now) in
    let left = c.next.new.self in
    let step : l.member-iterator ≡ e ∷ left = c.in-Some.ensures.steps in
    let sorted = subst (λ es. IsStrictlySortedBy string_cmp (keys_of es)) step l.invariant.sorted in
    let added = c.in_ok-add.ensures.ok in
    record {
      all = ap (λ is. is ++ members_ids (members_view left)) added
          ∙ append_assoc l.found.items (ids (view e.1)) _
          ∙ ap (λ es. l.found.items ++ members_ids (members_view es)) (sym step) ∙ l.invariant.all;
      more = extends_more c.args.found.now.items l.found.items c.add.new.found.items
          l.invariant.more (ids (view e.1), added);
      sorted = sorted_rest e left sorted;
      ordered = sym (members_ordered-sorted e left sorted c.in_ok-add.ensures.ordered)
          ∙ ap (λ es. members_ordered (members_view es)) (sym step) ∙ l.invariant.ordered;
    }
