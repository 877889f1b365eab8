use Rattle.std.proofs.Common.{◌≡◌, ◌++◌, List, drop, true, Some}
use Rattle.json.specs.Tree.{items_tokens, members_tokens}
use Rattle.serde_json.specs.Data.{no_members}
use Rattle.serde_json.specs.Read.{of_items, of_members}
use Rattle.dap_tree.specs.Doc.{items_in_range, members_in_range}
use Rattle.dap_tree.specs.Json.{items_data, members_data}
use Rattle.dap_tree.specs.View.{items_view, members_view}
use Rattle.dap_tree.specs.WrittenTokens.{items_json, members_json}
use Rattle.dap_tree.proofs.Views.{Entry}
use Rattle.dap_tree.proofs.write.+write.Given as goal

-- the tokens so far and those of the remaining items are all tokens, and all tokens read back if
-- those of the remaining items do
abbrev pub invariant-write_items-loop-item : goal.invariant-write_items-loop-item
invariant-write_items-loop-item l =
    let left = items_view (drop l.item-index l.item-items) in
    let all = items_view l.item-items in record {
      before : l.out.before ≡ l.initial.out.before;
      in_range : items_in_range left ≡ true;
      tokens : l.out.tokens ++ items_tokens (items_json left)
          ≡ l.initial.out.tokens ++ items_tokens (items_json all);
      reads : of_items (items_json left) ≡ Some (items_data left)
          → of_items (items_json all) ≡ Some (items_data all);
    }

-- the tokens so far and those of the remaining members are all tokens, and the members so far have
-- been read
abbrev pub invariant-write_members-loop-name : goal.invariant-write_members-loop-name
invariant-write_members-loop-name l =
    let left = members_view l.name-iterator in
    let all = members_view l.members.entries in record {
      before : l.out.before ≡ l.initial.out.before;
      in_range : members_in_range left ≡ true;
      tokens : l.out.tokens ++ members_tokens (members_json left)
          ≡ l.initial.out.tokens ++ members_tokens (members_json all);
      done : (done : List Entry) × (l.members.entries ≡ done ++ l.name-iterator)
          × (of_members (members_json all) no_members
          ≡ of_members (members_json left) (members_data (members_view done)));
    }
