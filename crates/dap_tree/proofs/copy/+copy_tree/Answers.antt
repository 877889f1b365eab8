use Rattle.std.proofs.Common.{◌≡◌, [], ◌∷◌, ◌++◌, string_bytes, string_cmp, sym, ap, ◌∙◌, subst}
use Rattle.std.proofs.Common.{append_assoc, true≢false}
use Rattle.dap_tree.specs.Doc.{is_empty}
use Rattle.std.specs.List.Sorted.{IsStrictlySortedBy}
use Rattle.std.specs.Map.{keys_of}
use Rattle.dap_tree.specs.View.{view, members_view}
use Rattle.dap_tree.proofs.Views.{Entry, members_view-insert_entry, put_last, no_item, no_entry}
use Rattle.dap_tree.proofs.Views.{view-List, view-Object}
use Rattle.dap_tree.proofs.copy.+copy_tree.Goals as goal

pub copy_members-loop-name-preserved : goal.copy_members-loop-name-preserved
copy_members-loop-name-preserved t c =
    let done = c.loop-name.invariant.0 in
    let e : Entry = (c.in-Some.name.now, c.in-Some.member.now) in
    let left = c.next.new.self in
    let all : c.args.members.now.entries ≡ done ++ e ∷ left =
    c.loop-name.invariant.1 ∙ ap (λ es. done ++ es) c.in-Some.ensures.steps in
    let last = put_last done e left
    (subst (λ es. IsStrictlySortedBy string_cmp (keys_of es)) all
    c.iter-name-items.ensures.ordered) in
    let named : string_bytes c.in_ok-name.name ≡ string_bytes e.0 = c.in_ok-name.ensures.cases in (
      done ++ e ∷ [],
      all ∙ sym (append_assoc done (e ∷ []) left),
      ap members_view c.in_ok-insert.ensures.entries
          ∙ members_view-insert_entry c.loop-name.copies.entries c.in_ok-name.name
          c.in_ok-copy_tree.field-0
          ∙ rw (named, c.in_ok-copy_tree.ensures.equal, c.loop-name.invariant.2) last,
    )

pub copy_tree-returns-in_err-copy_items-in-List-clause-empty :
    goal.copy_tree-returns-in_err-copy_items-in-List-clause-empty
copy_tree-returns-in_err-copy_items-in-List-clause-empty t c = λ empty.
    let items = c.in-List.items in
    let none = no_item items.items
    (sym (ap is_empty (ap view c.in-List.is ∙ view-List items)) ∙ empty) in
    absurd (true≢false (sym (c.in_err-copy_items-in-List.ensures.empty none)))

pub copy_tree-returns-in_err-copy_members-in-Object-clause-empty :
    goal.copy_tree-returns-in_err-copy_members-in-Object-clause-empty
copy_tree-returns-in_err-copy_members-in-Object-clause-empty t c = λ empty.
    let members = c.in-Object.members in
    let none = no_entry members.entries
    (sym (ap is_empty (ap view c.in-Object.is ∙ view-Object members)) ∙ empty) in
    absurd (true≢false (sym (c.in_err-copy_members-in-Object.ensures.empty none)))
