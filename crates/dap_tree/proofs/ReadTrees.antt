-- A tree and the value that it was read from.
use Rattle.std.proofs.Common.{◌≡◌, ℕ, List, [], ◌∷◌, ◌++◌, Ordering, Less, Equal, Greater}
use Rattle.std.proofs.Common.{string_bytes, string_cmp, nat_cmp, Bool, true, false, ◌||◌, refl, sym}
use Rattle.std.proofs.Common.{ap, ap₂, ◌∙◌, length, arith}
use Rattle.std.specs.Cmp.Lexicographic.{slice_cmp}
use Rattle.std.specs.List.Sorted.{IsStrictlySortedBy}
use Rattle.std.specs.Map.{keys_of}
use Rattle.std.specs.Ordering.{match_ordering}
use Rattle.std.specs.BTreeMap.{insert_entry}
use Rattle.serde_json.specs.Data as json
use Rattle.serde_json.specs.View.{view as value_view, items_view as values_view}
use Rattle.serde_json.specs.View.{members_view as pairs_view}
use Rattle.serde_json.specs.Written.{has_float, items_have_float, members_have_float}
use Rattle.serde_json.specs.declared.value.Value.{Value}
use Rattle.serde_json.proofs.Views.{Entry as Pair, put_last as pair_last}
use Rattle.dap_tree.specs.Doc.{Doc, Members, no_members, member, put, has_id, items_have_id}
use Rattle.dap_tree.specs.Doc.{members_have_id}
use Rattle.dap_tree.specs.Json.{data_of, items_data, members_data, Explains, ValueMatches}
use Rattle.dap_tree.specs.Json.{ItemsMatch}
use Rattle.dap_tree.specs.Json.{MembersMatch}
use Rattle.dap_tree.specs.View.{view, items_view, members_view}
use Rattle.dap_tree.specs.declared.tree.Tree.{Tree}
use Rattle.dap_tree.specs.declared.fault.TreeFault.{TreeFault}
use Rattle.dap_tree.specs.declared.fault.TreeFault.TheVariants.{Json, Fraction, Memory}
use Rattle.dap_tree.proofs.Booleans.{or_left, or_right, or_both}
use Rattle.dap_tree.proofs.Views.{Entry, members_view-insert_entry}

-- ---- errors

-- an error in a part is an error in the complete value
pub explains_more : (a b : Bool) (e : TreeFault) → (a ≡ true → b ≡ true) → Explains a e
    → Explains b e
explains_more a b Json f h = h
explains_more a b Fraction f h = f h
explains_more a b Memory f h = tt

or_true : (b : Bool) → (b || true) ≡ true
or_true true = refl
or_true false = refl

pub float_among_items : (xs : List Value) (v : Value) (ys : List Value)
    → has_float (value_view v) ≡ true → items_have_float (values_view (xs ++ v ∷ ys)) ≡ true
float_among_items [] v ys h = rw h refl
float_among_items (x ∷ xs) v ys h = rw (float_among_items xs v ys h) (or_true _)

pub float_among_members : (xs : List Pair) (p : Pair) (ys : List Pair)
    → has_float (value_view p.1) ≡ true → members_have_float (pairs_view (xs ++ p ∷ ys)) ≡ true
float_among_members [] p ys h = rw h refl
float_among_members (x ∷ xs) p ys h = rw (float_among_members xs p ys h) (or_true _)

-- ---- one more item

abbrev pub snoc : json.Items → json.Data → json.Items
snoc json.no_items d = json.item d json.no_items
snoc (json.item e ds) d = json.item e (snoc ds d)

pub values_snoc : (vs : List Value) (v : Value)
    → values_view (vs ++ v ∷ []) ≡ snoc (values_view vs) (value_view v)
values_snoc [] v = refl
values_snoc (x ∷ vs) v = ap (json.item (value_view x)) (values_snoc vs v)

pub items_snoc : (ts : List Tree) (t : Tree)
    → items_data (items_view (ts ++ t ∷ [])) ≡ snoc (items_data (items_view ts)) (data_of (view t))
items_snoc [] t = refl
items_snoc (x ∷ ts) t = ap (json.item (data_of (view x))) (items_snoc ts t)

pub no_id_pushed : (ts : List Tree) (t : Tree) → items_have_id (items_view ts) ≡ false
    → has_id (view t) ≡ false → items_have_id (items_view (ts ++ t ∷ [])) ≡ false
no_id_pushed [] t h k = or_both _ false k refl
no_id_pushed (x ∷ ts) t h k =
    or_both (has_id (view x)) _ (or_left _ _ h)
    (no_id_pushed ts t (or_right (has_id (view x)) _ h) k)

pub stand_push : (vs : List Value) (ts : List Tree) (v : Value) (t : Tree)
    → ItemsMatch (values_view vs) (items_view ts) → ValueMatches (value_view v) (view t)
    → ItemsMatch (values_view (vs ++ v ∷ [])) (items_view (ts ++ t ∷ []))
stand_push vs ts v t done one = (
  values_snoc vs v ∙ ap₂ snoc done.0 one.0
      ∙ sym (items_snoc ts t),
  no_id_pushed ts t done.1 one.1,
)

-- ---- one more member

put_data_at : (o : Ordering) (a b c : Members)
    → members_data (match_ordering o a b c)
    ≡ match_ordering o (members_data a) (members_data b) (members_data c)
put_data_at Less a b c = refl
put_data_at Equal a b c = refl
put_data_at Greater a b c = refl

pub members_data-put : (k : List ℕ) (d : Doc) (ms : Members)
    → members_data (put k d ms) ≡ json.put k (data_of d) (members_data ms)
members_data-put k d no_members = refl
members_data-put k d (member l e ms) =
    put_data_at (slice_cmp nat_cmp k l) _ _ _ ∙ rw (members_data-put k d ms)

no_id_at : (o : Ordering) (a b c : Members) → members_have_id a ≡ false → members_have_id b ≡ false
    → members_have_id c ≡ false → members_have_id (match_ordering o a b c) ≡ false
no_id_at Less a b c p q r = p
no_id_at Equal a b c p q r = q
no_id_at Greater a b c p q r = r

pub no_id_put : (k : List ℕ) (d : Doc) (ms : Members) → has_id d ≡ false
    → members_have_id ms ≡ false → members_have_id (put k d ms) ≡ false
no_id_put k d no_members h g = or_both _ false h refl
no_id_put k d (member l e ms) h g =
    let first = or_left (has_id e) (members_have_id ms) g in
    let rest = or_right (has_id e) (members_have_id ms) g in
    no_id_at (slice_cmp nat_cmp k l) _ _ _ (or_both _ _ h g) (or_both _ _ h rest)
    (or_both _ _ first (no_id_put k d ms h rest))

pub stand_insert : (done : List Pair) (p : Pair) (left : List Pair) (es : List Entry) (t : Tree)
    → IsStrictlySortedBy string_cmp (keys_of (done ++ p ∷ left))
    → MembersMatch (pairs_view done) (members_view es) → ValueMatches (value_view p.1) (view t)
    → MembersMatch (pairs_view (done ++ p ∷ []))
    (members_view (insert_entry string_cmp es p.0 t))
stand_insert done p left es t ordered before one =
    let name = string_bytes p.0 in
    let written = members_view-insert_entry es p.0 t in (
      sym (pair_last done p left ordered) ∙ ap₂ (json.put name) one.0 before.0
          ∙ sym (ap members_data written ∙ members_data-put name (view t) (members_view es)),
      ap members_have_id written ∙ no_id_put name (view t) (members_view es) one.1 before.1,
    )

-- ---- lists

pub nil_from : {A : Type 0} (xs : List A) → length xs ≡ 0 → xs ≡ []
nil_from [] h = refl
nil_from (x ∷ xs) h = absurd (omega arith)
