use mir.Val.{SFits, to_z, of_z}
use Rattle.std.proofs.Common.{◌≡◌, ◌+◌, ◌*◌, ◌<◌, true, [], ◌∷◌, ◌++◌, ◌∙◌, sym, ap, subst, arith}
use Rattle.std.proofs.Common.{append_assoc, rules, string_bytes, string_cmp}
use Rattle.std.proofs.lemmas.Int.{to_z-of_z}
use Rattle.std.specs.Int.{w128}
use Rattle.std.specs.Map.{keys_of}
use Rattle.std.specs.List.Sorted.{IsStrictlySortedBy}
use Rattle.dap_tree.specs.Doc.{whole}
use Rattle.dap_tree.specs.View.{view, items_view, members_view}
use Rattle.dap_tokens.specs.{Laws.AreLabels, Models.labels_of}
use Rattle.dap_tokens.specs.declared.form.Form.TheVariants.{Whole}
use Rattle.dap_naming.specs.Documents.{inside, below, named_items, named_members}
use Rattle.dap_naming.specs.DeclaredRules.{rules_of, have_labels}
use Rattle.dap_naming.specs.Known.{ExceedsLimit, FitsLimit}
use Rattle.dap_naming.proofs.Choosing.{weight, falls_inside, falls_below, labels-inside}
use Rattle.dap_naming.proofs.Choosing.{labels-below, no_rules}
use Rattle.dap_naming.proofs.Heres.{label_of_form, labels_here}
use Rattle.dap_naming.proofs.Limits.{same_fault}
use Rattle.dap_naming.proofs.LimitsInTrees.{few_unruled, items_few, items_full, members_few}
use Rattle.dap_naming.proofs.LimitsInTrees.{members_full}
use Rattle.dap_naming.proofs.MoreParts.{Entry}
use Rattle.dap_naming.proofs.TreeNames.{doc_unruled, ids_of_integer, ids_of_string}
use Rattle.dap_naming.proofs.TreeNames.{integer_by_table, integer_names, items_more, members_more}
use Rattle.dap_naming.proofs.TreeNames.{string_by_table, string_names, view_integer, view_string}
use Rattle.dap_naming.proofs.TableNames.{table_unruled, items_by_table, members_by_table}
use Rattle.dap_naming.proofs.trees.+named.Goals as goal

pub named-returns-then-is_empty-clause-names : goal.named-returns-then-is_empty-clause-names
named-returns-then-is_empty-clause-names t c =
    doc_unruled c.args.numbers.now (rules_of c.args.rules.now) (view c.args.tree)
    (no_rules c.args.rules.now (sym c.is_empty.ensures ∙ c.if-is_empty.true))

pub named-returns-then-is_empty-clause-table : goal.named-returns-then-is_empty-clause-table
named-returns-then-is_empty-clause-table t c =
    table_unruled c.args.numbers.now (rules_of c.args.rules.now) (view c.args.tree)
    (no_rules c.args.rules.now (sym c.is_empty.ensures ∙ c.if-is_empty.true))

pub named-returns-then-is_empty-clause-few : goal.named-returns-then-is_empty-clause-few
named-returns-then-is_empty-clause-few t c =
    few_unruled c.args.numbers.now (rules_of c.args.rules.now) (view c.args.tree)
    (no_rules c.args.rules.now (sym c.is_empty.ensures ∙ c.if-is_empty.true))

pub named-named_whole-requires : goal.named-named_whole-requires
named-named_whole-requires t c =
    label_of_form (labels_of c.here.result) Whole
    (subst AreLabels (sym c.here.ensures) (labels_here (rules_of c.args.rules.now) c.requires))

pub named-named_text-requires : goal.named-named_text-requires
named-named_text-requires t c =
    subst AreLabels (sym c.here-in-Text.ensures)
    (labels_here (rules_of c.args.rules.now) c.requires)

-- ---- integers

pub named-returns-in_err-named_whole-in-Whole-clause-full :
    goal.named-returns-in_err-named_whole-in-Whole-clause-full
named-returns-in_err-named_whole-in-Whole-clause-full t c =
    let failed = c.in_err-named_whole-in-Whole in
    let wide : SFits w128 c.in-Whole.value = search rules in
    λ e. subst (ExceedsLimit c.args.numbers.now)
    (sym (ids_of_integer (rules_of c.args.rules.now) (labels_of c.here.result) c.here.ensures
    (view c.args.tree) (to_z w128 (of_z w128 c.in-Whole.value)) (ap view c.in-Whole.is
    ∙ view_integer c.in-Whole.value ∙ ap whole (sym (to_z-of_z w128 c.in-Whole.value wide)))))
    (c.named_whole.ensures.full (same_fault c.named_whole.result c.from_residual.result
    failed.field-0.0 failed.was c.from_residual.ensures.1 e))

pub named-returns-in_ok-named_whole-in-Whole-clause-names :
    goal.named-returns-in_ok-named_whole-in-Whole-clause-names
named-returns-in_ok-named_whole-in-Whole-clause-names t c =
    let y = c.in_ok-named_whole-in-Whole.field-0 in
    let fits : SFits w128 y = search rules in
    let wide : SFits w128 c.in-Whole.value = search rules in
    integer_names (rules_of c.args.rules.now) (labels_of c.here.result) c.here.ensures
    (view c.args.tree) c.args.numbers.now c.named_whole.new.numbers _
    (to_z w128 (of_z w128 c.in-Whole.value)) y (ap view c.in-Whole.is
    ∙ view_integer c.in-Whole.value ∙ ap whole (sym (to_z-of_z w128 c.in-Whole.value wide)))
    (view_integer _ ∙ ap whole (to_z-of_z w128 y fits))
    c.in_ok-named_whole-in-Whole.ensures.names

pub named-returns-in_ok-named_whole-in-Whole-clause-table :
    goal.named-returns-in_ok-named_whole-in-Whole-clause-table
named-returns-in_ok-named_whole-in-Whole-clause-table t c =
    let y = c.in_ok-named_whole-in-Whole.field-0 in
    let fits : SFits w128 y = search rules in
    let wide : SFits w128 c.in-Whole.value = search rules in
    integer_by_table (rules_of c.args.rules.now) (labels_of c.here.result) c.here.ensures
    (view c.args.tree) c.args.numbers.now c.named_whole.new.numbers _
    (to_z w128 (of_z w128 c.in-Whole.value)) y (ap view c.in-Whole.is
    ∙ view_integer c.in-Whole.value ∙ ap whole (sym (to_z-of_z w128 c.in-Whole.value wide)))
    (view_integer _ ∙ ap whole (to_z-of_z w128 y fits))
    c.in_ok-named_whole-in-Whole.ensures.table

pub named-returns-in_ok-named_whole-in-Whole-clause-few :
    goal.named-returns-in_ok-named_whole-in-Whole-clause-few
named-returns-in_ok-named_whole-in-Whole-clause-few t c =
    let wide : SFits w128 c.in-Whole.value = search rules in
    subst (FitsLimit c.args.numbers.now)
    (sym (ids_of_integer (rules_of c.args.rules.now) (labels_of c.here.result) c.here.ensures
    (view c.args.tree) (to_z w128 (of_z w128 c.in-Whole.value)) (ap view c.in-Whole.is
    ∙ view_integer c.in-Whole.value ∙ ap whole (sym (to_z-of_z w128 c.in-Whole.value wide)))))
    c.in_ok-named_whole-in-Whole.ensures.few

-- ---- strings

pub named-returns-in_err-named_text-in-Text-clause-full :
    goal.named-returns-in_err-named_text-in-Text-clause-full
named-returns-in_err-named_text-in-Text-clause-full t c =
    let failed = c.in_err-named_text-in-Text in
    let passed = c.from_residual-in_err-named_text-in-Text in
    λ e. subst (ExceedsLimit c.args.numbers.now)
    (sym (ids_of_string (rules_of c.args.rules.now) (labels_of c.here-in-Text.result)
    c.here-in-Text.ensures (view c.args.tree) (string_bytes c.in-Text.text)
    (ap view c.in-Text.is ∙ view_string c.in-Text.text)))
    (c.named_text.ensures.full (same_fault c.named_text.result passed.result failed.field-0.0
    failed.was passed.ensures.1 e))

pub named-returns-in_ok-named_text-in-Text-clause-names :
    goal.named-returns-in_ok-named_text-in-Text-clause-names
named-returns-in_ok-named_text-in-Text-clause-names t c =
    string_names (rules_of c.args.rules.now) (labels_of c.here-in-Text.result)
    c.here-in-Text.ensures (view c.args.tree) c.args.numbers.now c.named_text.new.numbers _
    (string_bytes c.in-Text.text) (string_bytes c.in_ok-named_text-in-Text.field-0)
    (ap view c.in-Text.is ∙ view_string c.in-Text.text) (view_string _)
    c.in_ok-named_text-in-Text.ensures.names

pub named-returns-in_ok-named_text-in-Text-clause-table :
    goal.named-returns-in_ok-named_text-in-Text-clause-table
named-returns-in_ok-named_text-in-Text-clause-table t c =
    string_by_table (rules_of c.args.rules.now) (labels_of c.here-in-Text.result)
    c.here-in-Text.ensures (view c.args.tree) c.args.numbers.now c.named_text.new.numbers _
    (string_bytes c.in-Text.text) (string_bytes c.in_ok-named_text-in-Text.field-0)
    (ap view c.in-Text.is ∙ view_string c.in-Text.text) (view_string _)
    c.in_ok-named_text-in-Text.ensures.table

pub named-returns-in_ok-named_text-in-Text-clause-few :
    goal.named-returns-in_ok-named_text-in-Text-clause-few
named-returns-in_ok-named_text-in-Text-clause-few t c =
    subst (FitsLimit c.args.numbers.now)
    (sym (ids_of_string (rules_of c.args.rules.now) (labels_of c.here-in-Text.result)
    c.here-in-Text.ensures (view c.args.tree) (string_bytes c.in-Text.text)
    (ap view c.in-Text.is ∙ view_string c.in-Text.text)))
    c.in_ok-named_text-in-Text.ensures.few

-- ---- items

pub named_items-named-requires : goal.named_items-named-requires
named_items-named-requires t c =
    let rs = c.args.rules.now in
    let left = c.deref.result.now in
    let d = view c.in-Some.item in
    let same : rules_of left ≡ inside d (rules_of rs) = ap rules_of c.deref.ensures.value
    ∙ c.in_ok-left.ensures in
    let less : 2 * weight (rules_of left) + 1 < 2 * weight (rules_of rs) =
    falls_inside rs left d same c.requires.some in
    let labels : have_labels (rules_of left) ≡ true = ap have_labels same
    ∙ labels-inside d (rules_of rs) c.requires.labels in
    (omega arith, labels)

pub named_items-loop-item-preserved : goal.named_items-loop-item-preserved
named_items-loop-item-preserved t c =
    let l = c.loop-item in
    record {
      all = l.invariant.all ∙ ap (λ vs. l.yielded ++ vs) c.in-Some.ensures.steps.0
          ∙ sym (append_assoc l.yielded (c.in-Some.item ∷ []) _);
      done = items_more c.args.numbers.now l.numbers c.named.new.numbers (rules_of c.args.rules.now)
          (rules_of c.deref.result.now) l.yielded l.list.items c.push.new.list.items
          c.in-Some.item c.in_ok-named.field-0 l.invariant.done
          (ap rules_of c.deref.ensures.value ∙ c.in_ok-left.ensures) c.in_ok-named.ensures.names
          c.in_ok-push.ensures;
      table = items_by_table c.args.numbers.now l.numbers c.named.new.numbers
          (rules_of c.args.rules.now) (rules_of c.deref.result.now) l.yielded l.list.items
          c.push.new.list.items c.in-Some.item c.in_ok-named.field-0 l.invariant.table
          (ap rules_of c.deref.ensures.value ∙ c.in_ok-left.ensures) c.in_ok-named.ensures.table
          c.in_ok-push.ensures;
      few = items_few c.args.numbers.now l.numbers (rules_of c.args.rules.now)
          (rules_of c.deref.result.now) l.yielded c.in-Some.item
          (λ n. items_view l.list.items
          ≡ named_items (rules_of c.args.rules.now) n (items_view l.yielded)) l.invariant.done
          l.invariant.limit (ap rules_of c.deref.ensures.value ∙ c.in_ok-left.ensures)
          l.invariant.few c.in_ok-named.ensures.few;
      limit = c.in_ok-named.ensures.limit ∙ l.invariant.limit;
    }

pub named_items-returns-in_err-named-clause-full : goal.named_items-returns-in_err-named-clause-full
named_items-returns-in_err-named-clause-full t c =
    let l = c.loop-item in
    λ e. items_full c.args.numbers.now l.numbers (rules_of c.args.rules.now)
    (rules_of c.deref.result.now) l.yielded c.in-Some.item
    (λ n. items_view l.list.items
    ≡ named_items (rules_of c.args.rules.now) n (items_view l.yielded)) l.invariant.done
    l.invariant.limit (ap rules_of c.deref.ensures.value ∙ c.in_ok-left.ensures)
    c.args.items.items _ (l.invariant.all ∙ ap (λ vs. l.yielded ++ vs) c.in-Some.ensures.steps.0)
    (c.named.ensures.full (same_fault c.named.result c.from_residual-in_err-named.result
    c.in_err-named.field-0.0 c.in_err-named.was c.from_residual-in_err-named.ensures.1 e))

-- ---- members

pub named_members-named-requires : goal.named_members-named-requires
named_members-named-requires t c =
    let rs = c.args.rules.now in
    let left = c.deref-in-loop-name.result.now in
    let k = string_bytes c.in-Some.name in
    let same : rules_of left ≡ below k (rules_of rs) =
    ap rules_of c.deref-in-loop-name.ensures.value ∙ c.in_ok-left.ensures
    ∙ ap (λ n. below n (rules_of rs)) c.deref.ensures in
    let less : 2 * weight (rules_of left) + 1 < 2 * weight (rules_of rs) =
    falls_below rs left k same c.requires.some in
    let labels : have_labels (rules_of left) ≡ true = ap have_labels same
    ∙ labels-below k (rules_of rs) c.requires.labels in
    (omega arith, labels)

pub named_members-loop-name-preserved : goal.named_members-loop-name-preserved
named_members-loop-name-preserved t c =
    let l = c.loop-name in
    let e : Entry = (c.in-Some.name, c.in-Some.member) in
    let all : c.args.members.entries ≡ l.yielded ++ e ∷ c.next.new.self =
    l.invariant.all ∙ ap (λ vs. l.yielded ++ vs) c.in-Some.ensures.steps in
    record {
      all = all ∙ sym (append_assoc l.yielded (e ∷ []) _);
      ordered = l.invariant.ordered;
      done = members_more c.args.numbers.now l.numbers c.named.new.numbers
          (rules_of c.args.rules.now) (rules_of c.deref-in-loop-name.result.now) l.yielded
          c.next.new.self l.object.entries c.put.new.object.entries e c.in_ok-member.member
          (subst (λ es. IsStrictlySortedBy string_cmp (keys_of es)) all l.invariant.ordered)
          l.invariant.done
          (ap rules_of c.deref-in-loop-name.ensures.value ∙ c.in_ok-left.ensures
          ∙ ap (λ n. below n (rules_of c.args.rules.now)) c.deref.ensures)
          c.in_ok-member.ensures.names c.in_ok-put.ensures;
      table = members_by_table c.args.numbers.now l.numbers c.named.new.numbers
          (rules_of c.args.rules.now) (rules_of c.deref-in-loop-name.result.now) l.yielded
          c.next.new.self l.object.entries c.put.new.object.entries e c.in_ok-member.member
          (subst (λ es. IsStrictlySortedBy string_cmp (keys_of es)) all l.invariant.ordered)
          l.invariant.table
          (ap rules_of c.deref-in-loop-name.ensures.value ∙ c.in_ok-left.ensures
          ∙ ap (λ n. below n (rules_of c.args.rules.now)) c.deref.ensures)
          c.in_ok-member.ensures.table c.in_ok-put.ensures;
      few = members_few c.args.numbers.now l.numbers (rules_of c.args.rules.now)
          (rules_of c.deref-in-loop-name.result.now) l.yielded e
          (λ n. members_view l.object.entries
          ≡ named_members (rules_of c.args.rules.now) n (members_view l.yielded)) l.invariant.done
          l.invariant.limit
          (ap rules_of c.deref-in-loop-name.ensures.value ∙ c.in_ok-left.ensures
          ∙ ap (λ n. below n (rules_of c.args.rules.now)) c.deref.ensures)
          l.invariant.few c.in_ok-member.ensures.few;
      limit = c.in_ok-member.ensures.limit ∙ l.invariant.limit;
    }

pub named_members-returns-in_err-member-clause-full
    : goal.named_members-returns-in_err-member-clause-full
named_members-returns-in_err-member-clause-full t c =
    let l = c.loop-name in
    let e : Entry = (c.in-Some.name, c.in-Some.member) in
    λ failed. members_full c.args.numbers.now l.numbers (rules_of c.args.rules.now)
    (rules_of c.deref-in-loop-name.result.now) l.yielded e
    (λ n. members_view l.object.entries
    ≡ named_members (rules_of c.args.rules.now) n (members_view l.yielded)) l.invariant.done
    l.invariant.limit
    (ap rules_of c.deref-in-loop-name.ensures.value ∙ c.in_ok-left.ensures
    ∙ ap (λ n. below n (rules_of c.args.rules.now)) c.deref.ensures)
    c.args.members.entries _ (l.invariant.all ∙ ap (λ vs. l.yielded ++ vs) c.in-Some.ensures.steps)
    (c.named.ensures.full (same_fault c.named.result c.from_residual-in_err-member.result
    c.in_err-member.field-0.0 c.in_err-member.was c.from_residual-in_err-member.ensures.1 failed))
