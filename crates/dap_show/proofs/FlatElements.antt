-- The elements that a message lists, found among its nodes.
use Rattle.std.proofs.Common.{◌≡◌, ℕ, ◌+◌, ◌<◌, List, [], ◌∷◌, ◌++◌, length, get_or, Bool, true}
use Rattle.std.proofs.Common.{false, cond, ◌&&◌, Option, Some, None, refl, sym, ap, ◌∙◌, subst}
use Rattle.std.proofs.Common.{append_assoc, append-nil, arith, bytes_eq, codes}
use Rattle.std.specs.Borrow.{Bor}
use Rattle.std.specs.Prelude.{ℤ, IfSome, option_and_then, option_map, unwrap_or}
use Rattle.std.proofs.lemmas.List.Concat.{flat_map-append}
use Rattle.std.proofs.lemmas.List.Elements.{filter_map-append}
use Rattle.std.proofs.lemmas.Slice.Eq.{bytes_eq-Decides}
use Rattle.std.specs.List.{filter_map, flat_map}
use Rattle.dap_tree.specs.Doc.{Doc, null, boolean, whole, text, list, object, id, Items, no_items}
use Rattle.dap_tree.specs.Doc.{no_members, item, get}
use Rattle.dap_profile.specs.declared.profile.Kind.TheVariants.{Request, Response, Event}
use Rattle.dap_message.specs.Envelope.{boolean_value, name_of, success_of, text_value}
use Rattle.dap_message.specs.Places.{elements, list_of}
use Rattle.dap_message.specs.Rows.{is_of_kind, is_text, is_true, name_key, row_applies}
use Rattle.dap_message.specs.Views.{frame_of, scope_of, variable_of}
use Rattle.dap_flat.specs.Finding.{FindsChild, Holds}
use Rattle.dap_flat.specs.Pieces.{begin_list, begin_object, end_list, end_object, items_pieces}
use Rattle.dap_flat.specs.Pieces.{Piece, leaf, members_pieces, name, piece_of, pieces}
use Rattle.dap_flat.specs.Placing.{size}
use Rattle.dap_flat.specs.declared.node.Node.{Node}
use Rattle.dap_flat.specs.declared.node.Node.TheVariants as node
use Rattle.dap_flat.proofs.Found.{first_part, second_part, size_there, stands_first}
use Rattle.dap_flat_message.proofs.Judged.{found_there, list_inside, no_value_ends, value_then}
use Rattle.dap_show.specs.FlatElements.{AreElements, ElementsLeft, IsMemberValue, StartsElements}
use Rattle.dap_show.specs.FlatElements.{array_in, array_name, command_name, element_lines}
use Rattle.dap_show.specs.FlatElements.{lines_of_kind}
use Rattle.dap_show.specs.Showing.{frame_line, scope_line, variable_line}
use Rattle.dap_show.specs.declared.flat_lines.Element.{Element}
use Rattle.dap_show.specs.declared.flat_lines.Element.TheVariants.{Frame, Scope, Variable}

-- ---- which elements a message lists

succeeded : (b : Bool) (s : Option Doc)
    → unwrap_or (cond b (boolean_value s) None) false ≡ (b && is_true s)
succeeded false s = refl
succeeded true None = refl
succeeded true (Some null) = refl
succeeded true (Some (boolean b)) = refl
succeeded true (Some (whole z)) = refl
succeeded true (Some (text s)) = refl
succeeded true (Some (list ds)) = refl
succeeded true (Some (object ms)) = refl
succeeded true (Some (id s z)) = refl

first_of : (a b : Bool) → (a && b) ≡ true → a ≡ true
first_of true b is = refl
first_of false b is = absurd (cc)

second_of : (a b : Bool) → (a && b) ≡ true → b ≡ true
second_of true b is = is
second_of false b is = absurd (cc)

between : (a b c : Bool) → a ≡ true → c ≡ true → (a && b && c) ≡ b
between true true true one two = refl
between true false true one two = refl
between a b false one two = absurd (cc)
between false b c one two = absurd (cc)

outside : (a b c : Bool) → (a && c) ≡ false → (a && b && c) ≡ false
outside false b c is = refl
outside true true false is = refl
outside true false false is = refl
outside true b true is = absurd (cc)

text_is : (k n : List ℕ) (d : Option Doc) → text_value d ≡ Some n → is_text k d ≡ bytes_eq k n
text_is k n None is = absurd (cc)
text_is k n (Some null) is = absurd (cc)
text_is k n (Some (boolean b)) is = absurd (cc)
text_is k n (Some (whole z)) is = absurd (cc)
text_is k n (Some (text s)) is = let same : s ≡ n = cc in ap (bytes_eq k) same
text_is k n (Some (list ds)) is = absurd (cc)
text_is k n (Some (object ms)) is = absurd (cc)
text_is k n (Some (id s z)) is = absurd (cc)

response_key : (a b : Bool) → b ≡ true
    → name_key (cond a Request (cond b Response Event)) ≡ codes "command"
response_key true b is = refl
response_key false true is = refl
response_key false false is = absurd (cc)

pub applies : (command n : List ℕ) (d : Doc) → unwrap_or (success_of d) false ≡ true
    → name_of d ≡ Some n → row_applies (Some Response) (Some command) d ≡ bytes_eq command n
applies command n d success named =
    let both = sym (succeeded (is_of_kind Response d) (get (codes "success") d)) ∙ success in
    let kind = first_of (is_of_kind Response d) (is_true (get (codes "success") d)) both in
    let key = response_key (is_of_kind Request d) (is_of_kind Response d) kind in
    between (is_of_kind Response d) (is_text command (get (codes "command") d))
    (is_true (get (codes "success") d)) kind
    (second_of (is_of_kind Response d) (is_true (get (codes "success") d)) both)
    ∙ text_is command n (get (codes "command") d) (ap (λ k. text_value (get k d)) (sym key) ∙ named)

pub applies_not : (command : List ℕ) (d : Doc) → unwrap_or (success_of d) false ≡ false
    → row_applies (Some Response) (Some command) d ≡ false
applies_not command d success =
    outside (is_of_kind Response d) (is_text command (get (codes "command") d))
    (is_true (get (codes "success") d))
    (sym (succeeded (is_of_kind Response d) (get (codes "success") d)) ∙ success)

-- ---- a member of an element

-- If a leaf is at the place, it is the document that starts there.
leaf_there : (ns : List Node) (at : ℕ) (e d : Doc) (n x : Node) → Holds ns at e
    → get_or ns at x ≡ n → piece_of n ≡ leaf d → e ≡ d
leaf_there ns at null d n x h there is = let first = stands_first ns at n x _ _ h there in cc
leaf_there ns at (boolean b) d n x h there is = let first = stands_first ns at n x _ _ h there in cc
leaf_there ns at (whole z) d n x h there is = let first = stands_first ns at n x _ _ h there in cc
leaf_there ns at (text s) d n x h there is = let first = stands_first ns at n x _ _ h there in cc
leaf_there ns at (list ds) d n x h there is =
    let first = stands_first ns at n x (begin_list (length (items_pieces ds)))
    (items_pieces ds ++ end_list ∷ []) h there in absurd (cc)
leaf_there ns at (object ms) d n x h there is =
    let first = stands_first ns at n x (begin_object (length (members_pieces ms)))
    (members_pieces ms ++ end_object ∷ []) h there in absurd (cc)
leaf_there ns at (id s z) d n x h there is = let first = stands_first ns at n x _ _ h there in cc

pub leaf_member : (ns : List Node) (at i : ℕ) (k : List ℕ) (n x : Node) (e : Doc)
    → FindsChild ns at k (Some i) → get_or ns i x ≡ n → piece_of n ≡ leaf e
    → (d : Doc) → Holds ns at d → get k d ≡ Some e
leaf_member ns at i k n x e finds there is d h =
    let f = found_there ns at i k (Some i) d finds refl h in
    f.is ∙ ap Some (leaf_there ns i f.part e n x f.holds there is)

-- The value of a member that is a leaf, if the leaf has one.
pub if_member : {X : Type 0} (value : Option Doc → Option X) (ns : List Node) (at : ℕ) (k : List ℕ)
    (e : Doc) (r : Option X) → r ≡ value (Some e)
    → ((d : Doc) → Holds ns at d → get k d ≡ Some e) → IfSome r (IsMemberValue value ns at k)
if_member value ns at k e None is there = tt
if_member value ns at k e (Some x) is there = λ d h. ap value (there d h) ∙ sym is

-- ---- an array

array_there : (ns : List Node) (at : ℕ) (d : Doc) (n x : Node) (i : ℕ) → Holds ns at d
    → get_or ns at x ≡ n → piece_of n ≡ begin_list i
    → (ds : Items) × (d ≡ list ds) × AreElements ns (at + 1) ds
array_there ns at null n x i h there begun =
    let first = stands_first ns at n x _ _ h there in absurd (cc)
array_there ns at (boolean b) n x i h there begun =
    let first = stands_first ns at n x _ _ h there in absurd (cc)
array_there ns at (whole z) n x i h there begun =
    let first = stands_first ns at n x _ _ h there in absurd (cc)
array_there ns at (text s) n x i h there begun =
    let first = stands_first ns at n x _ _ h there in absurd (cc)
array_there ns at (list ds) n x i h there begun = list_inside ns at (list ds) h refl
array_there ns at (object ms) n x i h there begun =
    let first = stands_first ns at n x (begin_object (length (members_pieces ms)))
    (members_pieces ms ++ end_object ∷ []) h there in absurd (cc)
array_there ns at (id s z) n x i h there begun =
    let first = stands_first ns at n x _ _ h there in absurd (cc)

pub starts_elements : (ns : List Node) (i j m : ℕ) (k : List ℕ) (n x : Node)
    → FindsChild ns 0 (codes "body") (Some i) → FindsChild ns i k (Some j)
    → get_or ns j x ≡ n → piece_of n ≡ begin_list m → StartsElements ns k (j + 1)
starts_elements ns i j m k n x body array there begun d h =
    let b = found_there ns 0 i (codes "body") (Some i) d body refl h in
    let a = found_there ns i j k (Some j) b.part array refl b.holds in
    let inside = array_there ns j a.part n x m a.holds there begun in (
      inside.0,
      ap (λ o. option_and_then list_of (option_and_then (get k) o)) b.is
          ∙ ap (option_and_then list_of) a.is ∙ ap list_of inside.1,
      inside.2,
    )

-- ---- the lines of elements

then_lines : {X : Type 0} (view_of : Doc → Option X) (line : X → List ℕ) (d : Doc) (ds : List Doc)
    → flat_map line (filter_map view_of (d ∷ ds))
    ≡ flat_map line (filter_map view_of (d ∷ [])) ++ flat_map line (filter_map view_of ds)
then_lines view_of line d ds =
    ap (flat_map line) (filter_map-append view_of (d ∷ []) ds)
    ∙ flat_map-append line (filter_map view_of (d ∷ [])) (filter_map view_of ds)

lines_then : (kind : Element) (d : Doc) (ds : List Doc)
    → element_lines kind (d ∷ ds) ≡ element_lines kind (d ∷ []) ++ element_lines kind ds
lines_then Frame d ds = then_lines frame_of frame_line d ds
lines_then Scope d ds = then_lines scope_of scope_line d ds
lines_then Variable d ds = then_lines variable_of variable_line d ds

no_lines : (kind : Element) → element_lines kind [] ≡ []
no_lines Frame = refl
no_lines Scope = refl
no_lines Variable = refl

-- The message does not list elements of this kind.
pub not_listed : (kind : Element) (d : Doc) (command : List ℕ) (b : Bool) (old : List ℕ)
    → command ≡ command_name kind → b ≡ row_applies (Some Response) (Some command) d → b ≡ false
    → old ≡ old ++ lines_of_kind kind d
not_listed kind d command b old is tells off =
    let row = ap (λ k. row_applies (Some Response) (Some k) d) (sym is) ∙ sym tells ∙ off in
    sym (append-nil old)
    ∙ ap (λ t. old ++ t)
    (sym (ap (λ c. element_lines kind (cond c (unwrap_or (array_in (array_name kind) d) []) [])) row
    ∙ no_lines kind))

-- The message lists these elements.
pub all_listed : (kind : Element) (d : Doc) (command array : List ℕ) (b : Bool) (ds : List Doc)
    → command ≡ command_name kind → array ≡ array_name kind
    → b ≡ row_applies (Some Response) (Some command) d → b ≡ true → array_in array d ≡ Some ds
    → element_lines kind ds ≡ lines_of_kind kind d
all_listed kind d command array b ds is named tells on found =
    let row = ap (λ k. row_applies (Some Response) (Some k) d) (sym is) ∙ sym tells ∙ on in
    let there = ap (λ k. array_in k d) (sym named) ∙ found in
    sym (ap (λ c. element_lines kind (cond c (unwrap_or (array_in (array_name kind) d) []) [])) row
    ∙ ap (λ o. element_lines kind (unwrap_or o [])) there)

-- ---- the loop

pub end_node : (n : Node) → piece_of n ≡ end_list → n ≡ node.EndList
end_node node.Null is = absurd (cc)
end_node (node.Bool b) is = absurd (cc)
end_node (node.Unsigned i) is = absurd (cc)
end_node (node.Negative z) is = absurd (cc)
end_node (node.Text s) is = absurd (cc)
end_node (node.List i) is = absurd (cc)
end_node node.EndList is = refl
end_node (node.Object i) is = absurd (cc)
end_node node.EndObject is = absurd (cc)
end_node (node.Name s) is = absurd (cc)
end_node (node.Id s z) is = absurd (cc)

pub all_left : (kind : Element) (ns : List Node) (from : ℕ) (old : List ℕ) (ds : Items)
    → AreElements ns from ds → ElementsLeft kind ns from old old ds
all_left kind ns from old ds s = record { left = ds; holds = s; lines_are = refl }

ended : (kind : Element) (ns : List Node) (p : ℕ) (x : Node) (now : List ℕ) (left : Items)
    → AreElements ns p left → piece_of (get_or ns p x) ≡ end_list
    → now ≡ now ++ element_lines kind (elements left)
ended kind ns p x now no_items s end =
    sym (append-nil now) ∙ ap (λ t. now ++ t) (sym (no_lines kind))
ended kind ns p x now (item e rest) s end =
    absurd (no_value_ends ns p e (items_pieces rest ++ end_list ∷ []) x
    (value_then ns p e rest s) end)

pub elements_ended : (kind : Element) (ns : List Node) (p : ℕ) (x : Node) (old now : List ℕ)
    (ds : Items) → ElementsLeft kind ns p old now ds → piece_of (get_or ns p x) ≡ end_list
    → now ≡ old ++ element_lines kind (elements ds)
elements_ended kind ns p x old now ds l end =
    ended kind ns p x now l.left l.holds end ∙ sym l.lines_are

passed : (kind : Element) (ns : List Node) (p end : ℕ) (x : Node) (old now new : List ℕ)
    (ds left : Items) → AreElements ns p left
    → old ++ element_lines kind (elements ds) ≡ now ++ element_lines kind (elements left)
    → (piece_of (get_or ns p x) ≡ end_list → ⊥) → p < length ns
    → end ≡ p + size (piece_of (get_or ns p x))
    → ((d : Doc) → Holds ns p d → new ≡ now ++ element_lines kind (d ∷ []))
    → ElementsLeft kind ns end old new ds
passed kind ns p end x old now new ds no_items s lines_are not_end within wide pushed =
    absurd (not_end (stands_first ns p (get_or ns p x) x end_list [] s refl))
passed kind ns p end x old now new ds (item e rest) s lines_are not_end within wide pushed =
    let value = value_then ns p e rest s in
    let holds = first_part ns p (pieces e) (items_pieces rest ++ end_list ∷ []) value in
    let width = size_there ns p x e (items_pieces rest ++ end_list ∷ []) value within in
    let end_is : p + length (pieces e) ≡ end = omega (arith, wide, width) in
    let after = element_lines kind (elements rest) in
    record {
      left = rest;
      holds = subst (λ i. AreElements ns i rest) end_is
          (second_part ns p (pieces e) (items_pieces rest ++ end_list ∷ []) value);
      lines_are = lines_are ∙ ap (λ t. now ++ t) (lines_then kind e (elements rest))
          ∙ sym (append_assoc now (element_lines kind (e ∷ [])) after)
          ∙ ap (λ t. t ++ after) (sym (pushed e holds));
    }

pub element_passed : (kind : Element) (ns : List Node) (p end : ℕ) (x : Node)
    (old now new : List ℕ) (ds : Items) → ElementsLeft kind ns p old now ds
    → (piece_of (get_or ns p x) ≡ end_list → ⊥) → p < length ns
    → end ≡ p + size (piece_of (get_or ns p x))
    → ((d : Doc) → Holds ns p d → new ≡ now ++ element_lines kind (d ∷ []))
    → ElementsLeft kind ns end old new ds
element_passed kind ns p end x old now new ds l not_end within wide pushed =
    passed kind ns p end x old now new ds l.left l.holds l.lines_are not_end within wide pushed
