-- Reading a tree in one pass over the tokens: one iteration of the loops at a time.
use Rattle.std.proofs.Common.{◌≡◌, List, [], ◌∷◌, ◌++◌, Option, Some, None, false, String, Global}
use Rattle.std.proofs.Common.{string_cmp, string_bytes, refl, ap, ◌∙◌}
use Rattle.std.specs.BTreeMap.{insert_entry}
use Rattle.json.specs.Token.{Token}
use Rattle.json.specs.Json.{parse_map}
use Rattle.serde_json.specs.Data as json
use Rattle.dap_tree.specs.Doc.{has_id, members_have_id}
use Rattle.dap_tree.specs.Json.{data_of, items_data, members_data}
use Rattle.dap_tree.specs.View.{view, items_view, members_view}
use Rattle.dap_tree.specs.declared.tree.Tree.{Tree}
use Rattle.dap_tree.proofs.ReadTrees.{members_data-put, no_id_put}
use Rattle.dap_tree.proofs.Views.{Entry, members_view-insert_entry}

-- ---- appending to a list

abbrev pub items_before : List Tree → json.Items → json.Items
items_before [] rest = rest
items_before (t ∷ ts) rest = json.item (data_of (view t)) (items_before ts rest)

pub items_before-no_items : (ts : List Tree)
    → items_before ts json.no_items ≡ items_data (items_view ts)
items_before-no_items [] = refl
items_before-no_items (t ∷ ts) = ap (json.item (data_of (view t))) (items_before-no_items ts)

items_push : (ts : List Tree) (t : Tree) (rest : json.Items)
    → items_before ts (json.item (data_of (view t)) rest) ≡ items_before (ts ++ t ∷ []) rest
items_push [] t rest = refl
items_push (u ∷ ts) t rest = ap (json.item (data_of (view u))) (items_push ts t rest)

pub one_more_item : (ts : List Tree) (t : Tree) (r : Option (json.Items × List Token))
    → parse_map (items_before ts) (parse_map (json.item (data_of (view t))) r)
    ≡ parse_map (items_before (ts ++ t ∷ [])) r
one_more_item ts t None = refl
one_more_item ts t (Some p) = ap (λ ds. Some (ds, p.1)) (items_push ts t p.0)

-- ---- one more member

pub members_data-insert_entry : (es : List Entry) (k : String Global) (t : Tree)
    → members_data (members_view (insert_entry string_cmp es k t))
    ≡ json.put (string_bytes k) (data_of (view t)) (members_data (members_view es))
members_data-insert_entry es k t =
    ap members_data (members_view-insert_entry es k t)
    ∙ members_data-put (string_bytes k) (view t) (members_view es)

pub no_id-insert_entry : (es : List Entry) (k : String Global) (t : Tree)
    → has_id (view t) ≡ false → members_have_id (members_view es) ≡ false
    → members_have_id (members_view (insert_entry string_cmp es k t)) ≡ false
no_id-insert_entry es k t h g =
    ap members_have_id (members_view-insert_entry es k t)
    ∙ no_id_put (string_bytes k) (view t) (members_view es) h g
