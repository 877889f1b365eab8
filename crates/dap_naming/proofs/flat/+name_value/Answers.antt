use Rattle.std.proofs.Common.{◌≡◌, ◌∙◌, ◌+◌, ◌*◌, ◌<◌, ◌≤◌, true, IfSome, OnOk, length, get_or, ap}
use Rattle.std.proofs.Common.{arith, None, refl, sym, subst}
use Rattle.std.proofs.lemmas.Result.{on_ok_weaker}
use Rattle.dap_flat.specs.{Finding.Holds, Pieces.piece_of, Placing.size}
use Rattle.dap_flat.specs.declared.node.Node.{Node}
use Rattle.dap_flat.specs.declared.node.Node.TheVariants as node
use Rattle.dap_flat.proofs.Found.{object_inside}
use Rattle.dap_flat_message.specs.{Heads.text_in}
use Rattle.dap_flat_message.proofs.Replacing.{list_inside}
use Rattle.dap_tokens.specs.Laws.{AreLabels}
use Rattle.dap_naming.specs.DeclaredRules.{have_labels, rules_of}
use Rattle.dap_naming.specs.Documents.{below}
use Rattle.dap_naming.specs.Flat.{inside_named, NamesStretch, NamesValue, of_doc, of_items}
use Rattle.dap_naming.specs.Flat.{of_members}
use Rattle.dap_naming.proofs.Choosing.{weight, falls_below, labels-below, no_rules}
use Rattle.dap_naming.proofs.FlatNames.{none_so_far, one_item, one_member, items_done}
use Rattle.dap_naming.proofs.FlatNames.{members_done, list_named, object_named, value_unruled}
use Rattle.dap_naming.proofs.Heres.{labels_here}
use Rattle.dap_naming.proofs.FlatRules.{falls_named, inside_each, inside_told, labels-named}
use Rattle.dap_naming.proofs.flat.+name_value.Goals as goal

pub name_value-returns-then-is_empty-clause-names
    : goal.name_value-returns-then-is_empty-clause-names
name_value-returns-then-is_empty-clause-names t c =
    let rs = c.args.rules.now in
    value_unruled c.args.numbers.now c.args.numbers.now c.args.nodes.now c.args.nodes.now
    c.args.at (rules_of rs) (no_rules rs (sym c.is_empty.ensures ∙ c.if-is_empty.true)) refl refl

pub name_value-name_leaf-requires : goal.name_value-name_leaf-requires
name_value-name_leaf-requires t c = record {
  labels = subst AreLabels (sym c.here.ensures)
      (labels_here (rules_of c.args.rules.now) c.requires);
  within = c.if-at-nodes.false;
}

pub name_value-returns-in_default-clause-names : goal.name_value-returns-in_default-clause-names
name_value-returns-in_default-clause-names t c =
    let rs = rules_of c.args.rules.now in
    on_ok_weaker {Q = NamesValue rs c.args.numbers.now c.name_leaf.new.numbers c.args.nodes.now
    c.name_leaf.new.nodes c.args.at} c.name_leaf.result (λ ok. ok rs c.here.ensures)
    c.name_leaf.ensures.names

pub name_value-returns-in-List-clause-names : goal.name_value-returns-in-List-clause-names
name_value-returns-in-List-clause-names t c =
    let a = c.args.numbers.now in
    let b = c.name_items.new.numbers in
    let ns = c.args.nodes.now in
    let new = c.name_items.new.nodes in
    let at = c.args.at in
    let rs = rules_of c.args.rules.now in
    on_ok_weaker c.name_items.result
    (λ ok d holds.
    let inside = list_inside ns at d (node.List c.in-List.field-0) node.Null c.in-List.field-0 holds
    c.in-List.is refl in
    subst (λ e. NamesStretch a b ns new at (of_doc rs e)) (sym inside.1)
    (list_named a b ns new at rs inside.0 (subst (Holds ns at) inside.1 holds)
    (ok inside.0 inside.2)))
    c.name_items.ensures.names

pub name_value-returns-in-Object-clause-names : goal.name_value-returns-in-Object-clause-names
name_value-returns-in-Object-clause-names t c =
    let a = c.args.numbers.now in
    let b = c.name_members.new.numbers in
    let ns = c.args.nodes.now in
    let new = c.name_members.new.nodes in
    let at = c.args.at in
    let rs = rules_of c.args.rules.now in
    on_ok_weaker c.name_members.result
    (λ ok d holds.
    let inside = object_inside ns at d (node.Object c.in-Object.field-0) node.Null
    c.in-Object.field-0 holds c.in-Object.is refl in
    subst (λ e. NamesStretch a b ns new at (of_doc rs e)) (sym inside.1)
    (object_named a b ns new at rs inside.0 (subst (Holds ns at) inside.1 holds)
    (ok inside.0 inside.2)))
    c.name_members.ensures.names

-- ---- items

pub name_items-name_value-requires : goal.name_items-name_value-requires
name_items-name_value-requires t c =
    let rs = c.args.rules.now in
    let left = c.deref.result.now in
    let name = text_in c.in_ok-element_name.field-0 in
    let same : rules_of left ≡ inside_named name (rules_of rs) = ap rules_of c.deref.ensures.value
    ∙ c.in_ok-left.ensures in
    let less : 2 * weight (rules_of left) + 1 < 2 * weight (rules_of rs) =
    falls_named rs left name same c.requires.some in
    let labels : have_labels (rules_of left) ≡ true = ap have_labels same
    ∙ labels-named name (rules_of rs) c.requires.labels in
    (omega arith, labels)

pub name_items-name_value-requires-else-named : goal.name_items-name_value-requires-else-named
name_items-name_value-requires-else-named t c =
    let rs = c.args.rules.now in
    let left = c.deref-else-named.result.now in
    let same : rules_of left ≡ inside_named None (rules_of rs) =
    ap rules_of c.deref-else-named.ensures.value ∙ c.in_ok-each.ensures in
    let less : 2 * weight (rules_of left) + 1 < 2 * weight (rules_of rs) =
    falls_named rs left None same c.requires.some in
    let labels : have_labels (rules_of left) ≡ true = ap have_labels same
    ∙ labels-named None (rules_of rs) c.requires.labels in
    (omega arith, labels)

pub name_items-loop-p-init : goal.name_items-loop-p-init
name_items-loop-p-init t c = record {
  done = λ ds s. (
    ds,
    none_so_far c.args.numbers.now c.args.numbers.now c.args.nodes.now c.args.nodes.now c.args.from
        c.args.from (of_items (rules_of c.args.rules.now) ds) refl refl refl s,
  );
  limit = refl;
}

pub name_items-loop-p-preserved : goal.name_items-loop-p-preserved
name_items-loop-p-preserved t c =
    let l = c.loop-p in
    let rs = rules_of c.args.rules.now in
    let left = rules_of c.deref-else-named.result.now in
    let found = c.in_ok-end.ensures.ok_part in
    let width : c.in_ok-end.end ≡ l.p + size (piece_of (get_or l.nodes l.p node.Null)) =
    subst (λ r. IfSome r (λ end. (x : Node) → end ≡ l.p + size (piece_of (get_or l.nodes l.p x))))
    found c.value_end.ensures.size node.Null in
    let within : l.p < length l.nodes = omega arith in
    let same = ap rules_of c.deref-else-named.ensures.value ∙ c.in_ok-each.ensures in
    record {
      done = λ ds s. let so = l.invariant.done ds s in
          one_item c.args.numbers.now l.numbers c.args.nodes.now l.nodes c.args.from l.p
          c.name_value-else-named.new.numbers c.name_value-else-named.new.nodes l.p c.in_ok-end.end
          l.invariant.limit rs left ds so.0 node.Null so.1 c.if-is_end.ensures within width refl
          (λ d h. same ∙ inside_each None d c.args.rules.now
          (sym c.name_elements-named.ensures ∙ c.if-named.false))
          c.in_ok-name_value-2.ensures.names;
      limit = c.in_ok-name_value-2.ensures.limit ∙ l.invariant.limit;
    }

pub name_items-loop-p-preserved-in_ok-name_value : goal.name_items-loop-p-preserved-in_ok-name_value
name_items-loop-p-preserved-in_ok-name_value t c =
    let l = c.loop-p in
    let rs = rules_of c.args.rules.now in
    let left = rules_of c.deref.result.now in
    let found = c.in_ok-end.ensures.ok_part in
    let width : c.in_ok-end.end ≡ l.p + size (piece_of (get_or l.nodes l.p node.Null)) =
    subst (λ r. IfSome r (λ end. (x : Node) → end ≡ l.p + size (piece_of (get_or l.nodes l.p x))))
    found c.value_end.ensures.size node.Null in
    let within : l.p < length l.nodes = omega arith in
    let same = ap rules_of c.deref.ensures.value ∙ c.in_ok-left.ensures in
    record {
      done = λ ds s. let so = l.invariant.done ds s in
          one_item c.args.numbers.now l.numbers c.args.nodes.now l.nodes c.args.from l.p
          c.name_value.new.numbers c.name_value.new.nodes l.p c.in_ok-end.end l.invariant.limit rs
          left ds so.0 node.Null so.1 c.if-is_end.ensures within width refl
          (λ d h. same ∙ inside_told _ d (c.in_ok-element_name.ensures d h) rs)
          c.in_ok-name_value.ensures.names;
      limit = c.in_ok-name_value.ensures.limit ∙ l.invariant.limit;
    }

pub name_items-returns-then-is_end-clause-names : goal.name_items-returns-then-is_end-clause-names
name_items-returns-then-is_end-clause-names t c =
    let l = c.loop-p in
    (λ ds s. let so = l.invariant.done ds s in
    items_done c.args.numbers.now l.numbers c.args.nodes.now l.nodes c.args.from l.p
    (rules_of c.args.rules.now) ds so.0 node.Null so.1 c.if-is_end.ensures)

-- ---- members

pub name_members-loop-p-init : goal.name_members-loop-p-init
name_members-loop-p-init t c = record {
  done = λ ms s. (
    ms,
    none_so_far c.args.numbers.now c.args.numbers.now c.args.nodes.now c.args.nodes.now c.args.from
        c.args.from (of_members (rules_of c.args.rules.now) ms) refl refl refl s,
  );
  limit = refl;
}

pub name_members-loop-p-preserved : goal.name_members-loop-p-preserved
name_members-loop-p-preserved t c =
    let l = c.loop-p in
    let rs = rules_of c.args.rules.now in
    let k = c.in-Name.name.now in
    let i = l.p + 1 in
    let end = c.in_ok-end-in-Name.end in
    let there : get_or l.nodes l.p node.Null ≡ node.Name c.in-Name.name = c.in-Name.is in
    let found = c.in_ok-end-in-Name.ensures.ok_part in
    let bound : (i < end) × (end ≤ length l.nodes) =
    subst (λ r. IfSome r (λ end. (i < end) × (end ≤ length l.nodes))) found
    c.value_end.ensures.within in
    let width : end ≡ i + size (piece_of (get_or l.nodes i node.Null)) =
    subst (λ r. IfSome r (λ end. (x : Node) → end ≡ i + size (piece_of (get_or l.nodes i x))))
    found c.value_end.ensures.size node.Null in
    let within : i < length l.nodes = omega (arith, bound) in
    record {
      done = λ ms s. let so = l.invariant.done ms s in
          one_member c.args.numbers.now l.numbers c.args.nodes.now l.nodes c.args.from l.p
          c.name_member.new.numbers c.name_member.new.nodes i end l.invariant.limit rs (below k rs)
          ms so.0 (node.Name c.in-Name.name) node.Null k so.1 there refl refl within width refl
          c.in_ok-name_member-in-Name.ensures.names;
      limit = c.in_ok-name_member-in-Name.ensures.limit ∙ l.invariant.limit;
    }

pub name_members-returns-in-EndObject-clause-names
    : goal.name_members-returns-in-EndObject-clause-names
name_members-returns-in-EndObject-clause-names t c =
    let l = c.loop-p in
    (λ ms s. let so = l.invariant.done ms s in
    members_done c.args.numbers.now l.numbers c.args.nodes.now l.nodes c.args.from l.p
    (rules_of c.args.rules.now) ms so.0 node.EndObject node.Null so.1 c.in-EndObject.is refl)

-- ---- the value of a member

pub name_member-name_value-requires : goal.name_member-name_value-requires
name_member-name_value-requires t c =
    let rs = c.args.rules.now in
    let left = c.deref.result.now in
    let k = c.args.name.now in
    let same : rules_of left ≡ below k (rules_of rs) = ap rules_of c.deref.ensures.value
    ∙ c.in_ok-left-in-List.ensures in
    let less : 2 * weight (rules_of left) + 1 < 2 * weight (rules_of rs) =
    falls_below rs left k same c.requires.1.1.1.0 in
    let labels : have_labels (rules_of left) ≡ true = ap have_labels same
    ∙ labels-below k (rules_of rs) c.requires.1.1.0 in
    (omega arith, labels)

pub name_member-returns-in_ok-left-in-List-clause-names
    : goal.name_member-returns-in_ok-left-in-List-clause-names
name_member-returns-in_ok-left-in-List-clause-names t c =
    subst (λ ts. OnOk c.name_value.result (NamesValue ts c.args.numbers.now
    c.name_value.new.numbers c.args.nodes.now c.name_value.new.nodes c.args.at))
    (ap rules_of c.deref.ensures.value ∙ c.in_ok-left-in-List.ensures) c.name_value.ensures.names

pub name_member-name_leaf-requires : goal.name_member-name_leaf-requires
name_member-name_leaf-requires t c =
    let k = c.args.name.now in
    let rs = rules_of c.args.rules.now in
    record {
      labels = subst AreLabels (sym c.here_below.ensures)
          (labels_here (below k rs) (labels-below k rs c.requires.1.1.0));
      within = c.requires.1.1.1.1;
    }

pub name_member-returns-in_default-clause-names : goal.name_member-returns-in_default-clause-names
name_member-returns-in_default-clause-names t c =
    let rs = below c.args.name.now (rules_of c.args.rules.now) in
    on_ok_weaker {Q = NamesValue rs c.args.numbers.now c.name_leaf.new.numbers c.args.nodes.now
    c.name_leaf.new.nodes c.args.at} c.name_leaf.result (λ ok. ok rs c.here_below.ensures)
    c.name_leaf.ensures.names
