use mir.Val.{SFits}
use Rattle.std.specs.Int.{w128}
use Rattle.std.proofs.Common.{◌∙◌, ap, sym, string_bytes, to_z, of_z, rules}
use Rattle.std.proofs.lemmas.Int.{to_z-of_z}
use Rattle.std.proofs.lemmas.Result.{on_ok_weaker}
use Rattle.std.proofs.lemmas.Slice.Zip.{Zip-more}
use Rattle.std.specs.Iterator.Adapters.{zip_first, zip_second}
use Rattle.std.specs.Slice.Iter.{iter_rest}
use Rattle.std.specs.Option.{option_map}
use Rattle.dap_tokens.specs.Models.{labels_of}
use Rattle.dap_tree.specs.{Doc.{text, whole}, View.{view, members_view}}
use Rattle.dap_naming.specs.Documents.{below}
use Rattle.dap_naming.specs.DeclaredRules.{rules_of}
use Rattle.dap_naming.specs.Joint.{table_of, doc_pairs}
use Rattle.dap_naming.proofs.Choosing.{no_rules}
use Rattle.dap_naming.proofs.Joining.{items_more, members_more, members_other, member_found}
use Rattle.dap_naming.proofs.Joining.{none_joined, no_rules_a, no_rules_b, doc_texts, doc_wholes}
use Rattle.dap_naming.proofs.Joining.{view-Text, view-Whole}
use Rattle.dap_naming.proofs.JointNaming.{kept_then}
use Rattle.dap_naming.proofs.joint.+join.Goals as goal

pub join_items-loop-item-preserved : goal.join_items-loop-item-preserved
join_items-loop-item-preserved t c =
    let l = c.loop-item in
    let more = Zip-more l.item-iterator c.next.new.self c.next.result
    (c.in-Some.item, c.in-Some.other) c.in-Some.is c.next.ensures.steps in
    record {
      joined = items_more (table_of l.names) (table_of c.join_trees.new.names) _
          (rules_of c.args.rules_a.now) (rules_of c.args.rules_b.now)
          (rules_of c.deref-in-loop-item.result.now) (rules_of c.deref-in-loop-item-2.result.now)
          (iter_rest (zip_first l.item-iterator)) (iter_rest (zip_second l.item-iterator))
          (iter_rest (zip_first c.next.new.self)) (iter_rest (zip_second c.next.new.self))
          c.in-Some.item.now c.in-Some.other.now l.invariant.joined more.0 more.1
          (ap rules_of c.deref-in-loop-item.ensures.value ∙ c.in_ok-left_a.ensures)
          (ap rules_of c.deref-in-loop-item-2.ensures.value ∙ c.in_ok-left_b.ensures)
          c.in_ok-join_trees.ensures.joined;
      kept = kept_then c.args.names.now l.names c.join_trees.new.names l.invariant.kept
          c.in_ok-join_trees.ensures.kept;
      limit = c.in_ok-join_trees.ensures.limit ∙ l.invariant.limit;
    }

pub join_members-loop-name-preserved-in-Some-get :
    goal.join_members-loop-name-preserved-in-Some-get
join_members-loop-name-preserved-in-Some-get t c =
    let l = c.loop-name in
    let ms = c.args.others.now.entries in
    let k = string_bytes c.in-Some.name.now in
    record {
      joined = members_more (table_of l.names) (table_of c.join_trees.new.names) _
          (rules_of c.args.rules_a.now) (rules_of c.args.rules_b.now)
          (rules_of c.deref-in-Some-get-2.result.now) (rules_of c.deref-in-Some-get-3.result.now)
          l.name-iterator c.next.new.self (c.in-Some.name.now, c.in-Some.member.now)
          (members_view ms) c.in-Some-get.other.now l.invariant.joined c.in-Some.ensures.steps
          (member_found k c.as_str.result.now ms c.get.result c.as_str.ensures.value
          c.get.ensures.value ∙ ap (option_map (λ x. view x.now)) c.in-Some-get.is)
          (ap rules_of c.deref-in-Some-get-2.ensures.value ∙ c.in_ok-left_a.ensures
          ∙ ap (λ n. below n (rules_of c.args.rules_a.now)) c.deref.ensures)
          (ap rules_of c.deref-in-Some-get-3.ensures.value ∙ c.in_ok-left_b.ensures
          ∙ ap (λ n. below n (rules_of c.args.rules_b.now)) c.deref-in-Some-get.ensures)
          c.in_ok-join_trees.ensures.joined;
      kept = kept_then c.args.names.now l.names c.join_trees.new.names l.invariant.kept
          c.in_ok-join_trees.ensures.kept;
      limit = c.in_ok-join_trees.ensures.limit ∙ l.invariant.limit;
    }

pub join_members-loop-name-preserved : goal.join_members-loop-name-preserved
join_members-loop-name-preserved t c =
    let l = c.loop-name in
    let ms = c.args.others.now.entries in
    record {
      joined = members_other (table_of l.names) _ (rules_of c.args.rules_a.now)
          (rules_of c.args.rules_b.now) l.name-iterator c.next.new.self
          (c.in-Some.name.now, c.in-Some.member.now) (members_view ms) l.invariant.joined
          c.in-Some.ensures.steps
          (member_found (string_bytes c.in-Some.name.now) c.as_str.result.now ms c.get.result
          c.as_str.ensures.value c.get.ensures.value
          ∙ ap (option_map (λ x. view x.now)) c.in_default.is);
      kept = l.invariant.kept;
      limit = l.invariant.limit;
    }

pub join_trees-returns-then-is_empty-clause-joined :
    goal.join_trees-returns-then-is_empty-clause-joined
join_trees-returns-then-is_empty-clause-joined t c =
    let rs = rules_of c.args.rules_a.now in
    let qs = rules_of c.args.rules_b.now in
    let d = view c.args.a.now in
    let e = view c.args.b.now in
    elim c.then-is_empty.branch [
      | goal.join_trees-then-is_empty-via-then-is_empty w ↦
          none_joined c.args.names.now (doc_pairs rs d qs e) (no_rules_a rs qs d e
          (no_rules c.args.rules_a.now (sym c.is_empty.ensures ∙ w.if-is_empty.true)))
      | goal.join_trees-then-is_empty-via-else-is_empty+then-is_empty-2 w ↦
          none_joined c.args.names.now (doc_pairs rs d qs e) (no_rules_b rs qs d e
          (no_rules c.args.rules_b.now
          (sym w.is_empty-else-is_empty.ensures ∙ w.if-is_empty-2.true)))
    ]

pub join_trees-returns-in-Text-Text-clause-joined :
    goal.join_trees-returns-in-Text-Text-clause-joined
join_trees-returns-in-Text-Text-clause-joined t c =
    on_ok_weaker c.join_texts.result
    (doc_texts c.args.names.now c.join_texts.new.names (rules_of c.args.rules_a.now)
    (rules_of c.args.rules_b.now) (labels_of c.here-in-Text-Text.result)
    (labels_of c.here-in-Text-Text-2.result) c.deref.result.now c.deref-in-Text-Text.result.now
    (view c.args.a.now) (view c.args.b.now) c.here-in-Text-Text.ensures
    c.here-in-Text-Text-2.ensures
    (ap view c.in-Text-Text.is-0 ∙ view-Text c.in-Text-Text.text ∙ ap text (sym c.deref.ensures))
    (ap view c.in-Text-Text.is-1 ∙ view-Text c.in-Text-Text.other
    ∙ ap text (sym c.deref-in-Text-Text.ensures)))
    c.join_texts.ensures.joined

pub join_trees-returns-in-Whole-Whole-clause-joined :
    goal.join_trees-returns-in-Whole-Whole-clause-joined
join_trees-returns-in-Whole-Whole-clause-joined t c =
    let x = c.in-Whole-Whole.x in
    let y = c.in-Whole-Whole.y in
    let fits_x : SFits w128 x = search rules in
    let fits_y : SFits w128 y = search rules in
    on_ok_weaker c.join_wholes.result
    (doc_wholes c.args.names.now c.join_wholes.new.names (rules_of c.args.rules_a.now)
    (rules_of c.args.rules_b.now) (labels_of c.here.result)
    (labels_of c.here-in-Whole-Whole.result) (to_z w128 (of_z w128 x)) (to_z w128 (of_z w128 y))
    (view c.args.a.now) (view c.args.b.now) c.here.ensures c.here-in-Whole-Whole.ensures
    (ap view c.in-Whole-Whole.is-0 ∙ view-Whole x ∙ ap whole (sym (to_z-of_z w128 x fits_x)))
    (ap view c.in-Whole-Whole.is-1 ∙ view-Whole y ∙ ap whole (sym (to_z-of_z w128 y fits_y))))
    c.join_wholes.ensures.joined
