use Rattle.std.proofs.Common.{◌≡◌, ◌-◌, ◌<◌, ◌∷◌, length, Some, None, option_map, string_bytes}
use Rattle.std.proofs.Common.{refl, sym, ap, ◌∙◌, arith, rules}
use Rattle.std.proofs.lemmas.Result.{IfOk-weaker}
use Rattle.json.specs.Token.{Token}
use Rattle.json.specs.Json.{parse_map, after_end_array, read_key, items, members, value}
use Rattle.json.specs.Reads.{token_of}
use Rattle.json.proofs.Grammar.{value_is, value-begin_array, value-begin_object, read_key-shorter}
use Rattle.serde_json.specs.Data as json
use Rattle.serde_json.specs.Read.{of_json, of_items, of_members, converted, number_of}
use Rattle.dap_tree.specs.Doc.{null, boolean, text, items_have_id, members_have_id}
use Rattle.dap_tree.specs.Json.{data_of, members_data}
use Rattle.dap_tree.specs.ReadTokens.{IsNumberOf, IsParsed}
use Rattle.dap_tree.specs.View.{view, items_view, members_view}
use Rattle.dap_tree.specs.declared.tree.Tree.{Text, Bool, Null, the_lemmas}
use Rattle.dap_tree.proofs.Parsing.{items_before, items_before-no_items, one_more_item}
use Rattle.dap_tree.proofs.Parsing.{members_data-insert_entry, no_id-insert_entry}
use Rattle.dap_tree.proofs.ReadTrees.{no_id_pushed}
use Rattle.dap_tree.proofs.Turns.{converted-array, converted-object, item_read, items_over}
use Rattle.dap_tree.proofs.Turns.{member_read, members_over}
use Rattle.dap_tree.proofs.Views.{view-List, view-Object}
use Rattle.dap_tree.proofs.parse.+parse.Goals as goal

pub parse_value-returns-in_ok-from_str-in-String-clause-ok
    : goal.parse_value-returns-in_ok-from_str-in-String-clause-ok
parse_value-returns-in_ok-from_str-in-String-clause-ok t c =
    let left = c.next.new.self in
    let first : c.args.reader.now ≡ token_of c.in_ok-token.token ∷ left = grind arith in
    let is : c.args.reader.now ≡ Token.string c.in-String.text.now ∷ left =
    grind (arith, first) in
    let seen : view (Text c.in_ok-from_str-in-String.field-0) ≡ text c.in-String.text.now =
    search (rules, the_lemmas) in
    rw seen (
      ap (converted of_json) (ap (value c.args.depth) is ∙ value_is c.args.depth _),
      refl,
    )

pub parse_value-returns-in-Number-clause-ok : goal.parse_value-returns-in-Number-clause-ok
parse_value-returns-in-Number-clause-ok t c =
    let left = c.next.new.self in
    let first : c.args.reader.now ≡ token_of c.in_ok-token.token ∷ left = grind arith in
    let is : c.args.reader.now ≡ Token.number c.in-Number.text.now ∷ left =
    grind (arith, first) in
    let n = number_of c.in-Number.text.now in
    let found = converted of_json (value c.args.depth c.args.reader.now) in
    let read : found ≡ option_map (λ d. (d, left)) (option_map json.number n) =
    ap (converted of_json) (ap (value c.args.depth) is ∙ value_is c.args.depth _) in
    IfOk-weaker c.whole.result (λ u. IsNumberOf n (view u)) (λ u. IsParsed found (view u) left)
    (λ u h. (read ∙ ap (option_map (λ d. (d, left))) h.0, h.1)) c.whole.ensures

pub parse_value-returns-in-Bool-clause-ok : goal.parse_value-returns-in-Bool-clause-ok
parse_value-returns-in-Bool-clause-ok t c =
    let left = c.next.new.self in
    let first : c.args.reader.now ≡ token_of c.in_ok-token.token ∷ left = grind arith in
    let is : c.args.reader.now ≡ Token.boolean c.in-Bool.b ∷ left = grind (arith, first) in
    let seen : view (Bool c.in-Bool.b) ≡ boolean c.in-Bool.b = search (rules, the_lemmas) in
    rw seen (
      ap (converted of_json) (ap (value c.args.depth) is ∙ value_is c.args.depth _),
      refl,
    )

pub parse_value-returns-in-Null-clause-ok : goal.parse_value-returns-in-Null-clause-ok
parse_value-returns-in-Null-clause-ok t c =
    let left = c.next.new.self in
    let first : c.args.reader.now ≡ token_of c.in_ok-token.token ∷ left = grind arith in
    let is : c.args.reader.now ≡ Token.null ∷ left = grind (arith, first) in
    let seen : view Null ≡ null = search (rules, the_lemmas) in
    rw seen (
      ap (converted of_json) (ap (value c.args.depth) is ∙ value_is c.args.depth _),
      refl,
    )

pub parse_value-returns-in_ok-parse_items-in-BeginArray-clause-ok
    : goal.parse_value-returns-in_ok-parse_items-in-BeginArray-clause-ok
parse_value-returns-in_ok-parse_items-in-BeginArray-clause-ok t c =
    let left = c.next.new.self in
    let first : c.args.reader.now ≡ token_of c.in_ok-token.token ∷ left = grind arith in
    let opened =
    ap (converted of_json) (ap (value c.args.depth)
    (first ∙ ap (λ k. token_of k ∷ left) c.in-BeginArray.is)
    ∙ value-begin_array c.args.depth left (omega arith))
    ∙ converted-array (items (value (c.args.depth - 1)) (length left) left) in
    let found = c.in_ok-parse_items-in-BeginArray in
    rw (view-List found.field-0)
    (opened ∙ ap (parse_map json.array) found.ensures.ok.0, found.ensures.ok.1)

pub parse_value-returns-in_ok-parse_members-in-BeginObject-clause-ok
    : goal.parse_value-returns-in_ok-parse_members-in-BeginObject-clause-ok
parse_value-returns-in_ok-parse_members-in-BeginObject-clause-ok t c =
    let left = c.next.new.self in
    let first : c.args.reader.now ≡ token_of c.in_ok-token.token ∷ left = grind arith in
    let opened =
    ap (converted of_json) (ap (value c.args.depth)
    (first ∙ ap (λ k. token_of k ∷ left) c.in-BeginObject.is)
    ∙ value-begin_object c.args.depth left (omega arith))
    ∙ converted-object (members (value (c.args.depth - 1)) (length left) left) in
    let found = c.in_ok-parse_members-in-BeginObject in
    rw (view-Object found.field-0)
    (opened ∙ ap (parse_map json.object) found.ensures.ok.0, found.ensures.ok.1)

pub parse_items-items-preserved : goal.parse_items-items-preserved
parse_items-items-preserved t c =
    let p = value c.args.depth in
    let l = c.items in
    let n = l.invariant.0 in
    let going : (after_end_array l.reader ≡ None) × (c.take_end_array.new.self ≡ l.reader) =
    grind arith in
    let done = c.in_ok-item.ensures in
    let v = c.in_ok-item.item in
    let r = c.parse_value.new.reader in
    let less : length r < length l.reader = rw (← going.1) done.shorter in
    let turn =
    item_read p n l.reader r (data_of (view v)) (omega (arith, l.invariant.1)) going.0
    (rw (← going.1) done.ok.0) in (
      n - 1,
      omega (arith, l.invariant.1),
      l.invariant.2 ∙ ap (parse_map (items_before l.found.items)) turn
          ∙ one_more_item l.found.items v _
          ∙ ap (λ vs. parse_map (items_before vs) (converted of_items (items p (n - 1) r)))
          (sym c.in_ok-push.ensures.items),
      omega (arith, l.invariant.3),
      ap (λ ts. items_have_id (items_view ts)) c.in_ok-push.ensures.items
          ∙ no_id_pushed l.found.items v l.invariant.4 done.ok.1,
    )

pub parse_items-returns-clause-ok : goal.parse_items-returns-clause-ok
parse_items-returns-clause-ok t c =
    let p = value c.args.depth in
    let l = c.items in
    let n = l.invariant.0 in
    let r = c.take_end_array.new.self in (
      l.invariant.2
          ∙ ap (parse_map (items_before l.found.items))
          (items_over p n l.reader r l.invariant.1 (grind arith))
          ∙ ap (λ ds. Some (ds, r)) (items_before-no_items l.found.items),
      l.invariant.4,
    )

pub parse_members-members-preserved : goal.parse_members-members-preserved
parse_members-members-preserved t c =
    let p = value c.args.depth in
    let l = c.members in
    let n = l.invariant.0 in
    let old = members_data (members_view l.found.entries) in
    let k = c.in-Some.name.now in
    let s = c.next_key.new.self in
    let named : read_key l.reader ≡ Some (Some k, s) = grind arith in
    let done = c.in_ok-member.ensures in
    let v = c.in_ok-member.member in
    let r = c.parse_value.new.reader in
    let less = read_key-shorter l.reader (Some k) s named in
    let lesser = done.shorter in
    let copied : string_bytes c.in_ok-key.key ≡ k = search rules in
    let inserted : members_data (members_view c.insert.new.self.entries)
    ≡ json.put k (data_of (view v)) old =
    ap (λ es. members_data (members_view es)) c.in_ok-insert.ensures.entries
    ∙ members_data-insert_entry l.found.entries c.in_ok-key.key v
    ∙ ap (λ name. json.put name (data_of (view v)) old) copied in (
      n - 1,
      omega (arith, l.invariant.1),
      l.invariant.2
          ∙ member_read p old n k l.reader s r (data_of (view v)) (omega (arith, l.invariant.1))
          named done.ok.0
          ∙ ap (λ found. converted (λ ms. of_members ms found) (members p (n - 1) r))
          (sym inserted),
      omega (arith, l.invariant.3),
      ap (λ es. members_have_id (members_view es)) c.in_ok-insert.ensures.entries
          ∙ no_id-insert_entry l.found.entries c.in_ok-key.key v done.ok.1 l.invariant.4,
    )

pub parse_members-returns-clause-ok : goal.parse_members-returns-clause-ok
parse_members-returns-clause-ok t c =
    let p = value c.args.depth in
    let l = c.members in
    let n = l.invariant.0 in
    let old = members_data (members_view l.found.entries) in (
      l.invariant.2
          ∙ members_over p old n l.reader c.next_key.new.self l.invariant.1 (grind arith),
      l.invariant.4,
    )
