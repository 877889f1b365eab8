use Rattle.std.proofs.Common.{◌≡◌, [], ◌∷◌, ◌++◌, true, string_cmp, sym, ap, ◌∙◌, subst}
use Rattle.std.proofs.Common.{append_assoc, rules}
use Rattle.std.specs.List.Sorted.{IsStrictlySortedBy}
use Rattle.std.specs.Map.{keys_of}
use Rattle.json.specs.Token.{key}
use Rattle.json.specs.Tree.{members_tokens}
use Rattle.dap_tree.specs.Doc.{all_in_range, members_in_range}
use Rattle.dap_tree.specs.Json.{members_data}
use Rattle.dap_tree.specs.View.{view, members_view}
use Rattle.dap_tree.specs.WrittenTokens.{members_json}
use Rattle.serde_json.specs.Read.{of_members}
use Rattle.dap_tree.proofs.Booleans.{and_right}
use Rattle.dap_tree.proofs.Views.{Entry}
use Rattle.dap_tree.proofs.Writing.{member_tokens, member_reads}
use Rattle.dap_tree.proofs.write.+write.Goals as goal

pub write_members-loop-name-preserved : goal.write_members-loop-name-preserved
write_members-loop-name-preserved t c =
    let l = c.loop-name in
    let done = l.invariant.done.0 in
    let e : Entry = (c.in-Some.name.now, c.in-Some.member.now) in
    let left = c.next.new.self in
    let step : l.name-iterator ≡ e ∷ left = c.in-Some.ensures.steps in
    let all : c.args.members.now.entries ≡ done ++ e ∷ left =
    l.invariant.done.1 ∙ ap (λ es. done ++ es) step in
    let ordered =
    subst (λ es. IsStrictlySortedBy string_cmp (keys_of es)) all
    c.iter-name-items.ensures.ordered in
    let named =
    c.in_ok-key.ensures.ok ∙ ap (λ k. l.out.tokens ++ key k ∷ []) c.as_str.ensures.value in
    let written = c.in_ok-write.ensures.ok in
    record {
      before = search rules;
      in_range = and_right (all_in_range (view e.1)) _
          (subst (λ es. members_in_range (members_view es) ≡ true) step l.invariant.in_range);
      tokens = member_tokens _ _ _ l.out.tokens c.key.new.self.tokens c.write.new.out.tokens named
          written.0 ∙ ap (λ es. l.out.tokens ++ members_tokens (members_json (members_view es)))
          (sym step) ∙ l.invariant.tokens;
      done = (
        done ++ e ∷ [],
        all ∙ sym (append_assoc done (e ∷ []) left),
        l.invariant.done.2
            ∙ ap (λ es. of_members (members_json (members_view es))
            (members_data (members_view done))) step ∙ member_reads done e left ordered written.1,
      );
    }
