use Rattle.std.proofs.Common.{◌≡◌, ◌-◌, ◌<◌, [], ◌∷◌, ◌++◌, length, Some, None, option_map}
use Rattle.std.proofs.Common.{refl, sym, ap, ◌∙◌, arith, rules, ◌+◌, length-append, append_assoc}
use Rattle.json.specs.Token.{Token}
use Rattle.json.specs.Json.{parse_map, after_end_array, read_key, items, members, value}
use Rattle.json.specs.Reads.{token_of}
use Rattle.json.proofs.Grammar.{value_is, value-begin_array, value-begin_object, read_key-shorter}
use Rattle.serde_json.specs.Data as json
use Rattle.serde_json.specs.Read.{of_json, of_members, converted, number_of}
use Rattle.dap_tree.specs.Doc.{null, boolean, text, whole, list, object}
use Rattle.dap_tree.specs.Doc.{no_items, no_members, put}
use Rattle.dap_tree.specs.Json.{data_of, members_data}
use Rattle.dap_tree.proofs.ReadTrees.{members_data-put, no_id_put}
use Rattle.dap_tree.proofs.Turns.{converted-array, converted-object, item_read, items_over}
use Rattle.dap_tree.proofs.Turns.{member_read, members_over}
use Rattle.dap_flat.specs.Order.{more_items}
use Rattle.dap_flat.specs.Pieces.{items_pieces, members_pieces}
use Rattle.dap_flat.specs.declared.node.Node.TheVariants as node
use Rattle.dap_flat.specs.Pieces.{begin_list, end_list, begin_object, end_object}
use Rattle.dap_flat.proofs.Adding.{adds_none, adds_one, adds_then, adds_same, more_items-pieces}
use Rattle.dap_flat.proofs.Adding.{adds_whole, inside_is}
use Rattle.dap_flat.proofs.Placing.{items_before, items_before-none, one_more_item, nothing_before}
use Rattle.dap_flat.proofs.Placing.{more_items-no_id}
use Rattle.dap_flat.proofs.parse.+parse.Goals as goal

pub parse_value-returns-in_ok-push-in-String-clause-ok
    : goal.parse_value-returns-in_ok-push-in-String-clause-ok
parse_value-returns-in_ok-push-in-String-clause-ok t c =
    let left = c.next.new.self in
    let first : c.args.reader.now ≡ token_of c.in-Some.token ∷ left = grind arith in
    let is : c.args.reader.now ≡ Token.string c.in-String.text.now ∷ left =
    grind (arith, first) in (
      text c.in-String.text.now,
      (
        ap (converted of_json) (ap (value c.args.depth) is ∙ value_is c.args.depth _),
        refl,
      ),
      adds_one _ _ _ c.in_ok-push-in-String.ensures.items,
    )

pub parse_value-returns-in_ok-push-in-Bool-clause-ok
    : goal.parse_value-returns-in_ok-push-in-Bool-clause-ok
parse_value-returns-in_ok-push-in-Bool-clause-ok t c =
    let left = c.next.new.self in
    let first : c.args.reader.now ≡ token_of c.in-Some.token ∷ left = grind arith in
    let is : c.args.reader.now ≡ Token.boolean c.in-Bool.b ∷ left = grind (arith, first) in (
      boolean c.in-Bool.b,
      (
        ap (converted of_json) (ap (value c.args.depth) is ∙ value_is c.args.depth _),
        refl,
      ),
      adds_one _ _ _ c.in_ok-push-in-Bool.ensures.items,
    )

pub parse_value-returns-in_ok-push-in-Null-clause-ok
    : goal.parse_value-returns-in_ok-push-in-Null-clause-ok
parse_value-returns-in_ok-push-in-Null-clause-ok t c =
    let left = c.next.new.self in
    let first : c.args.reader.now ≡ token_of c.in-Some.token ∷ left = grind arith in
    let is : c.args.reader.now ≡ Token.null ∷ left = grind (arith, first) in (
      null,
      (
        ap (converted of_json) (ap (value c.args.depth) is ∙ value_is c.args.depth _),
        refl,
      ),
      adds_one _ _ _ c.in_ok-push-in-Null.ensures.items,
    )

pub parse_value-returns-in_ok-push-in-Number-clause-ok
    : goal.parse_value-returns-in_ok-push-in-Number-clause-ok
parse_value-returns-in_ok-push-in-Number-clause-ok t c =
    let left = c.next.new.self in
    let first : c.args.reader.now ≡ token_of c.in-Some.token ∷ left = grind arith in
    let is : c.args.reader.now ≡ Token.number c.in-Number.text.now ∷ left =
    grind (arith, first) in
    let n = number_of c.in-Number.text.now in
    let found = converted of_json (value c.args.depth c.args.reader.now) in
    let read : found ≡ option_map (λ d. (d, left)) (option_map json.number n) =
    ap (converted of_json) (ap (value c.args.depth) is ∙ value_is c.args.depth _) in
    let w = c.in_ok-whole-in-Number.ensures in (
      whole w.0,
      (read ∙ ap (option_map (λ d. (d, left))) w.1.0, w.1.1),
      adds_same _ _ _ _ (ap (λ p. p ∷ []) w.2)
          (adds_one _ _ _ c.in_ok-push-in-Number.ensures.items),
    )

pub parse_value-returns-in_ok-push-in-BeginArray-2-clause-ok
    : goal.parse_value-returns-in_ok-push-in-BeginArray-2-clause-ok
parse_value-returns-in_ok-push-in-BeginArray-2-clause-ok t c =
    let left = c.next.new.self in
    let first : c.args.reader.now ≡ token_of c.in-Some.token ∷ left = grind arith in
    let opened =
    ap (converted of_json) (ap (value c.args.depth)
    (first ∙ ap (λ k. token_of k ∷ left) c.in-BeginArray.is)
    ∙ value-begin_array c.args.depth left (omega arith))
    ∙ converted-array (items (value (c.args.depth - 1)) (length left) left) in
    let here : c.len-at.result ≡ length c.args.nodes.now.items = search rules in
    let there : c.len.result ≡ length c.parse_items.new.nodes.items = search rules in
    let found = c.in_ok-parse_items-in-BeginArray.ensures.ok in (
      list found.0,
      (opened ∙ ap (parse_map json.array) found.1.0, found.1.1),
      adds_same _ _ _ _
          (ap (λ n. begin_list n ∷ (items_pieces found.0 ++ end_list ∷ []))
          (inside_is _ _ _ _ _ _ _ c.in_ok-push-in-BeginArray.ensures.items found.2 here there))
          (adds_whole _ _ _ _ _ (node.List 0) (node.List (c.len.result - c.len-at.result - 1))
          node.EndList _ _ c.in_ok-push-in-BeginArray.ensures.items found.2 here
          c.set_node.ensures c.in_ok-push-in-BeginArray-2.ensures.items),
    )

pub parse_value-returns-in_ok-push-in-BeginObject-2-clause-ok
    : goal.parse_value-returns-in_ok-push-in-BeginObject-2-clause-ok
parse_value-returns-in_ok-push-in-BeginObject-2-clause-ok t c =
    let left = c.next.new.self in
    let first : c.args.reader.now ≡ token_of c.in-Some.token ∷ left = grind arith in
    let opened =
    ap (converted of_json) (ap (value c.args.depth)
    (first ∙ ap (λ k. token_of k ∷ left) c.in-BeginObject.is)
    ∙ value-begin_object c.args.depth left (omega arith))
    ∙ converted-object (members (value (c.args.depth - 1)) (length left) left) in
    let here : c.len-at-in-BeginObject.result ≡ length c.args.nodes.now.items = search rules in
    let there : c.len-in-BeginObject.result ≡ length c.parse_members.new.nodes.items =
    search rules in
    let found = c.in_ok-parse_members-in-BeginObject.ensures.ok in (
      object found.0,
      (opened ∙ ap (parse_map json.object) found.1.0, found.1.1),
      adds_same _ _ _ _
          (ap (λ n. begin_object n ∷ (members_pieces found.0 ++ end_object ∷ []))
          (inside_is _ _ _ _ _ _ _ c.in_ok-push-in-BeginObject.ensures.items found.2 here there))
          (adds_whole _ _ _ _ _ (node.Object 0)
          (node.Object (c.len-in-BeginObject.result - c.len-at-in-BeginObject.result - 1))
          node.EndObject _ _ c.in_ok-push-in-BeginObject.ensures.items found.2 here
          c.set_node-in-BeginObject.ensures c.in_ok-push-in-BeginObject-2.ensures.items),
    )

pub parse_items-items-init : goal.parse_items-items-init
parse_items-items-init t c = (
  no_items,
  length c.args.reader.now,
  omega arith,
  nothing_before _,
  omega arith,
  refl,
  adds_none _,
)

pub parse_items-items-preserved : goal.parse_items-items-preserved
parse_items-items-preserved t c =
    let p = value c.args.depth in
    let l = c.items in
    let ds = l.invariant.0 in
    let n = l.invariant.1 in
    let going : (after_end_array l.reader ≡ None) × (c.take_end_array.new.self ≡ l.reader) =
    grind arith in
    let done = c.in_ok-parse_value.ensures in
    let d = done.ok.0 in
    let r = c.parse_value.new.reader in
    let less : length r < length l.reader = rw (← going.1) done.shorter in
    let rotate =
    item_read p n l.reader r (data_of d) (omega (arith, l.invariant.2)) going.0
    (rw (← going.1) done.ok.1.0) in (
      more_items ds d,
      n - 1,
      omega (arith, l.invariant.2),
      l.invariant.3 ∙ ap (parse_map (items_before ds)) rotate ∙ one_more_item ds d _,
      omega (arith, l.invariant.4),
      more_items-no_id ds d l.invariant.5 done.ok.1.1,
      adds_same _ _ _ _ (sym (more_items-pieces ds d))
          (adds_then _ _ _ _ _ l.invariant.6 done.ok.2),
    )

pub parse_items-returns-clause-ok : goal.parse_items-returns-clause-ok
parse_items-returns-clause-ok t c =
    let p = value c.args.depth in
    let l = c.items in
    let ds = l.invariant.0 in
    let n = l.invariant.1 in
    let r = c.take_end_array.new.self in (
      ds,
      (
        l.invariant.3
            ∙ ap (parse_map (items_before ds))
            (items_over p n l.reader r l.invariant.2 (grind arith))
            ∙ ap (λ vs. Some (vs, r)) (items_before-none ds),
        l.invariant.5,
      ),
      l.invariant.6,
    )

pub parse_members-members-init : goal.parse_members-members-init
parse_members-members-init t c = (
  no_members,
  length c.args.reader.now,
  omega arith,
  refl,
  omega arith,
  refl,
  adds_none _,
  (λ k h. tt),
)

pub parse_members-members-preserved : goal.parse_members-members-preserved
parse_members-members-preserved t c =
    let p = value c.args.depth in
    let l = c.members in
    let ms = l.invariant.0 in
    let n = l.invariant.1 in
    let old = members_data ms in
    let k = c.in-Some.name.now in
    let s = c.next_key.new.self in
    let named : read_key l.reader ≡ Some (Some k, s) = grind arith in
    let done = c.in_ok-parse_value.ensures in
    let d = done.ok.0 in
    let r = c.parse_value.new.reader in
    let less = read_key-shorter l.reader (Some k) s named in
    let lesser = done.shorter in
    let value =
    adds_then _ _ _ _ _ (adds_one _ _ _ c.in_ok-push.ensures.items) done.ok.2 in
    let inv = l.invariant.6 in
    let at_is : c.len-at.result ≡ length l.nodes.items = search rules in
    let start_is : c.len-start.result ≡ length c.args.nodes.now.items = search rules in
    let there : length c.args.nodes.now.items + length inv.more ≡ c.len-at.result =
    sym (at_is ∙ ap length inv.added ∙ length-append c.args.nodes.now.items inv.more) in
    let is : c.parse_value.new.nodes.items ≡ c.args.nodes.now.items ++ (inv.more ++ value.more) =
    value.added ∙ ap (λ ns. ns ++ value.more) inv.added
    ∙ append_assoc c.args.nodes.now.items inv.more value.more in
    let settled =
    c.in_ok-last.ensures c.args.nodes.now.items inv.more value.more ms d is
    (sym start_is) there inv.shows value.shows l.invariant.7 in (
      put k d ms,
      n - 1,
      omega (arith, l.invariant.2),
      l.invariant.3
          ∙ member_read p old n k l.reader s r (data_of d) (omega (arith, l.invariant.2))
          named done.ok.1.0
          ∙ ap (λ found. converted (λ ns. of_members ns found) (members p (n - 1) r))
          (sym (members_data-put k d ms)),
      omega (arith, l.invariant.4),
      no_id_put k d ms done.ok.1.1 l.invariant.5,
      settled.0,
      settled.1,
    )

pub parse_members-returns-clause-ok : goal.parse_members-returns-clause-ok
parse_members-returns-clause-ok t c =
    let p = value c.args.depth in
    let l = c.members in
    let ms = l.invariant.0 in
    let n = l.invariant.1 in
    let old = members_data ms in (
      ms,
      (
        l.invariant.3
            ∙ members_over p old n l.reader c.next_key.new.self l.invariant.2 (grind arith),
        l.invariant.5,
      ),
      l.invariant.6,
    )
