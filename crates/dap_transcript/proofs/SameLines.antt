-- The lines of members determine the members, up to the head of the next record.
use Rattle.std.proofs.Common.{◌≡◌, ℕ, zero, suc, ◌+◌, ◌<◌, Bool, true, false, ◌&&◌, List, [], ◌∷◌}
use Rattle.std.proofs.Common.{◌++◌, refl, sym, ap, ap₂, ◌∙◌, subst, arith, append_assoc}
use Rattle.std.proofs.lemmas.Bool.{and_parts}
use Rattle.std.proofs.lemmas.List.{append_cancel_left, replicate-append-replicate}
use Rattle.std.proofs.lemmas.Str.{IsUtf8-from_is_utf8}
use Rattle.std.specs.Str.{is_utf8}
use Rattle.dap_tree.specs.Doc.{Doc, null, boolean, whole, text, list, object, id, Items, no_items}
use Rattle.dap_tree.specs.Doc.{item, Members, no_members, member, all_plain, items_plain}
use Rattle.dap_tree.specs.Doc.{members_plain, all_utf8, items_utf8, members_utf8}
use Rattle.dap_transcript.specs.Lines.{item_lines, list_margin, first_margin, margin, member_lines}
use Rattle.dap_transcript.specs.Lines.{part_text}
use Rattle.dap_transcript.specs.{Names.{is_plain, name_text}, SameText.{AreWritable, EndsRecord}}
use Rattle.dap_transcript.proofs.SameTokens.{StartsName, doc_token, flat_fine, is_flat}
use Rattle.dap_transcript.proofs.SameTokens.{name_starts, quoted, same_flat, same_name}
use Rattle.dap_transcript.proofs.SameTokens.{fine_text, name_spelled, name_token, plain_bare}
use Rattle.dap_transcript.proofs.SameTokens.{same_token, spelled, IsFine as IsFineToken}

-- ---- the indentation of what follows

-- The bytes start with fewer than n blanks, or P holds for the byte after n blanks.
abbrev Ends : (ℕ → Type 0) → ℕ → List ℕ → Type 0
Ends P n [] = Unit {0}
Ends P zero (c ∷ x) = P c
Ends P (suc n) (c ∷ x) = c ≡ 32 → Ends P n x

ends_at : (P : ℕ → Type 0) (n c : ℕ) (x : List ℕ) → P c → Ends P n (margin n ++ c ∷ x)
ends_at P zero c x h = h
ends_at P (suc n) c x h = λ _. ends_at P n c x h

at_end : (P : ℕ → Type 0) (n c : ℕ) (x : List ℕ) → Ends P n (margin n ++ c ∷ x) → P c
at_end P zero c x h = h
at_end P (suc n) c x h = at_end P n c x (h refl)

weaker : (P Q : ℕ → Type 0) → ((c : ℕ) → P c → Q c) → (n : ℕ) (x : List ℕ) → Ends P n x
    → Ends Q n x
weaker P Q f n [] h = tt
weaker P Q f zero (c ∷ x) h = f c h
weaker P Q f (suc n) (c ∷ x) h = λ e. weaker P Q f n x (h e)

deeper : (P Q : ℕ → Type 0) → ((c : ℕ) → P c → c ≡ 32 → ⊥) → (n m : ℕ) (x : List ℕ) → n < m
    → Ends P n x → Ends Q m x
deeper P Q f n m [] less h = tt
deeper P Q f zero zero (c ∷ x) less h = absurd (omega arith)
deeper P Q f zero (suc m) (c ∷ x) less h = λ e. absurd (f c h e)
deeper P Q f (suc n) zero (c ∷ x) less h = absurd (omega arith)
deeper P Q f (suc n) (suc m) (c ∷ x) less h = λ e. deeper P Q f n m x (omega arith) (h e)

-- After the elements of a list, and after an element.
abbrev NoItem : ℕ → Type 0
NoItem c = (c ≡ 45 → ⊥) × (c ≡ 32 → ⊥)

abbrev NoBlank : ℕ → Type 0
NoBlank c = c ≡ 32 → ⊥

-- After the members of an object.
abbrev Never : ℕ → Type 0
Never c = ⊥

-- After the value of a name, and after an element.
abbrev After : Bool → ℕ → Type 0
After true c = NoItem c
After false c = NoBlank c

after_blank : (named : Bool) (c : ℕ) → After named c → c ≡ 32 → ⊥
after_blank true c h = h.1
after_blank false c h = h

list_ends : (named : Bool) (n : ℕ) (x : List ℕ) → Ends (After named) n x
    → Ends NoItem (list_margin named n) x
list_ends true n x h = h
list_ends false n x h = deeper (After false) NoItem (after_blank false) n (n + 2) x (omega arith) h

object_ends : (named : Bool) (n : ℕ) (x : List ℕ) → Ends (After named) n x → Ends Never (n + 2) x
object_ends named n x h =
    deeper (After named) Never (after_blank named) n (n + 2) x (omega arith) h

-- ---- the first line of elements and members

item_shape : (n : ℕ) (d : Doc) (ds : Items) (x : List ℕ) → item_lines n (item d ds) ++ x
    ≡ margin n ++ 45 ∷ (part_text false n d ++ (item_lines n ds ++ x))
item_shape n d ds x =
    append_assoc (margin n ++ 45 ∷ [] ++ part_text false n d) (item_lines n ds) x
    ∙ append_assoc (margin n ++ 45 ∷ []) (part_text false n d) (item_lines n ds ++ x)
    ∙ append_assoc (margin n) (45 ∷ []) (part_text false n d ++ (item_lines n ds ++ x))

-- What follows the name of a member.
abbrev member_rest : ℕ → Doc → Members → List ℕ → List ℕ
member_rest n d ms x = part_text true n d ++ (member_lines n n ms ++ x)

member_shape : (f n : ℕ) (k : List ℕ) (d : Doc) (ms : Members) (x : List ℕ)
    → member_lines f n (member k d ms) ++ x
    ≡ margin f ++ (name_text k ++ 58 ∷ member_rest n d ms x)
member_shape f n k d ms x =
    let start = margin f ++ name_text k in
    append_assoc (start ++ 58 ∷ [] ++ part_text true n d) (member_lines n n ms) x
    ∙ append_assoc (start ++ 58 ∷ []) (part_text true n d) (member_lines n n ms ++ x)
    ∙ append_assoc start (58 ∷ []) (member_rest n d ms x)
    ∙ append_assoc (margin f) (name_text k) (58 ∷ member_rest n d ms x)

items_end : (n : ℕ) (ds : Items) (x : List ℕ) → Ends NoItem n x
    → Ends NoBlank n (item_lines n ds ++ x)
items_end n no_items x h = weaker NoItem NoBlank (λ c h. h.1) n x h
items_end n (item d ds) x h =
    subst (Ends NoBlank n) (sym (item_shape n d ds x))
    (ends_at NoBlank n 45 (part_text false n d ++ (item_lines n ds ++ x)) (λ e. omega arith))

member_start : (f n : ℕ) (k : List ℕ) (d : Doc) (ms : Members) (x : List ℕ)
    → (s : StartsName (name_text k ++ 58 ∷ member_rest n d ms x))
    → member_lines f n (member k d ms) ++ x ≡ margin f ++ s.first ∷ s.rest
member_start f n k d ms x s = member_shape f n k d ms x ∙ ap (λ t. margin f ++ t) s.is

members_end : (n : ℕ) (ms : Members) (x : List ℕ) → Ends Never n x
    → Ends NoItem n (member_lines n n ms ++ x)
members_end n no_members x h = weaker Never NoItem (λ c h. absurd h) n x h
members_end n (member k d ms) x h =
    let s = name_starts k (58 ∷ member_rest n d ms x) in
    subst (Ends NoItem n) (sym (member_start n n k d ms x s))
    (ends_at NoItem n s.first s.rest (s.no_dash, s.no_blank))

-- ---- what is proved of each document

abbrev IsFine : Doc → Type 0
IsFine d = (all_plain d ≡ true) × (all_utf8 d ≡ true)

abbrev AreFine : Items → Type 0
AreFine ds = (items_plain ds ≡ true) × (items_utf8 ds ≡ true)

-- The texts of two documents determine that they are equal, and what follows.
abbrev AreSame : Doc → Doc → Type 0
AreSame d e = (named : Bool) (n : ℕ) (x y : List ℕ) → IsFine e → Ends (After named) n x
    → Ends (After named) n y → part_text named n d ++ x ≡ part_text named n e ++ y
    → (d ≡ e) × (x ≡ y)

abbrev IsSamePart : Doc → Type 0
IsSamePart d = (e : Doc) → AreSame d e

abbrev AreSameItems : Items → Type 0
AreSameItems ds = (n : ℕ) (es : Items) (x y : List ℕ) → AreFine es → Ends NoItem n x
    → Ends NoItem n y → item_lines n ds ++ x ≡ item_lines n es ++ y → (ds ≡ es) × (x ≡ y)

abbrev AreSameMembers : Members → Type 0
AreSameMembers ms = (f n : ℕ) (ns : Members) (x y : List ℕ) → (ms ≡ no_members → f ≡ n)
    → (ns ≡ no_members → f ≡ n) → AreWritable ns → Ends Never n x → Ends Never n y
    → member_lines f n ms ++ x ≡ member_lines f n ns ++ y → (ms ≡ ns) × (x ≡ y)

-- ---- documents on one line

flat_text : (named : Bool) (n : ℕ) (d : Doc) (x : List ℕ) → is_flat d ≡ true
    → part_text named n d ++ x ≡ 32 ∷ (spelled (doc_token d) ++ 10 ∷ x)
flat_text named n null x f = refl
flat_text named n (boolean true) x f = refl
flat_text named n (boolean false) x f = refl
flat_text named n (whole z) x f =
    ap (λ l. 32 ∷ l) (append_assoc (spelled (doc_token (whole z))) (10 ∷ []) x)
flat_text named n (text s) x f = ap (λ l. 32 ∷ l) (append_assoc (spelled (quoted s)) (10 ∷ []) x)
flat_text named n (list no_items) x f = refl
flat_text named n (list (item d ds)) x f = absurd (cc)
flat_text named n (object no_members) x f = refl
flat_text named n (object (member k d ms)) x f = absurd (cc)
flat_text named n (id s z) x f = absurd (cc)

same_heads : (c d : ℕ) (x y : List ℕ) → (c ≡ d → ⊥) → c ∷ x ≡ d ∷ y → ⊥
same_heads c d x y differ h = let same : c ≡ d = cc in differ same

tail_of : (c d : ℕ) (x y : List ℕ) → c ∷ x ≡ d ∷ y → x ≡ y
tail_of c d x y h = cc

both_flat : (d e : Doc) → is_flat d ≡ true → is_flat e ≡ true → IsFine d → AreSame d e
both_flat d e fd fe hd named n x y he ex ey h =
    let whole = sym (flat_text named n d x fd) ∙ h ∙ flat_text named n e y fe in
    let same = same_token (doc_token d) (doc_token e) 10 10 x y (flat_fine d fd hd.0 hd.1)
    (flat_fine e fe he.0 he.1) refl refl (tail_of _ _ _ _ whole) in
    (same_flat d e fd fe hd.0 he.0 hd.1 he.1 same.0, same.2)

name_fine : (k : List ℕ) → is_utf8 k ≡ true → IsFineToken (name_token k)
name_fine k h = fine_text (is_plain k) k (plain_bare k) (IsUtf8-from_is_utf8 k h)

-- A document on one line is no object: the name of its first member ends in `:`.
flat_or_named : (d : Doc) (k : List ℕ) (x y : List ℕ) → is_flat d ≡ true → IsFine d
    → is_utf8 k ≡ true → spelled (doc_token d) ++ 10 ∷ x ≡ name_text k ++ 58 ∷ y → ⊥
flat_or_named d k x y f h utf8 e =
    let same = same_token (doc_token d) (name_token k) 10 58 x y (flat_fine d f h.0 h.1)
    (name_fine k utf8) refl refl (e ∙ ap (λ t. t ++ 58 ∷ y) (name_spelled k)) in
    omega (arith, same.1)

flat_part : (d : Doc) → is_flat d ≡ true → IsFine d → IsSamePart d
flat_part d f hd (list (item e es)) named n x y he ex ey h =
    absurd (same_heads 32 10 _ _ (λ no_same. omega arith) (sym (flat_text named n d x f) ∙ h))
flat_part d f hd (object (member k e ms)) true n x y he ex ey h =
    absurd (same_heads 32 10 _ _ (λ no_same. omega arith) (sym (flat_text true n d x f) ∙ h))
flat_part d f hd (object (member k e ms)) false n x y he ex ey h =
    absurd (flat_or_named d k x (member_rest (n + 2) e ms y) f hd (and_parts (is_utf8 k) _ he.1).0
    (tail_of _ _ _ _ (sym (flat_text false n d x f) ∙ h
    ∙ ap (λ l. 32 ∷ l) (member_shape 0 (n + 2) k e ms y))))
flat_part d f hd (id s z) named n x y he ex ey h = let is = he.0 in absurd (cc)
flat_part d f hd null named n x y he ex ey h = both_flat d null f refl hd named n x y he ex ey h
flat_part d f hd (boolean b) named n x y he ex ey h =
    both_flat d (boolean b) f refl hd named n x y he ex ey h
flat_part d f hd (whole z) named n x y he ex ey h =
    both_flat d (whole z) f refl hd named n x y he ex ey h
flat_part d f hd (text s) named n x y he ex ey h =
    both_flat d (text s) f refl hd named n x y he ex ey h
flat_part d f hd (list no_items) named n x y he ex ey h =
    both_flat d (list no_items) f refl hd named n x y he ex ey h
flat_part d f hd (object no_members) named n x y he ex ey h =
    both_flat d (object no_members) f refl hd named n x y he ex ey h

-- ---- lists

turned : {A B : Type 0} {a b : A} {c d : B} → (a ≡ b) × (c ≡ d) → (b ≡ a) × (d ≡ c)
turned h = (sym h.0, sym h.1)

line_of_item : (n : ℕ) (d : Doc) (ds : Items) (x : List ℕ)
    → (z : List ℕ) × (item_lines n (item d ds) ++ x ≡ margin n ++ 45 ∷ z)
line_of_item n d ds x = (part_text false n d ++ (item_lines n ds ++ x), item_shape n d ds x)

-- The line of a member at the next indentation starts with more blanks.
line_of_member : (n : ℕ) (k : List ℕ) (d : Doc) (ms : Members) (x : List ℕ)
    → (z : List ℕ) × (member_lines (n + 2) (n + 2) (member k d ms) ++ x ≡ margin n ++ 32 ∷ z)
line_of_member n k d ms x =
    let line = name_text k ++ 58 ∷ member_rest (n + 2) d ms x in (
      32 ∷ line,
      member_shape (n + 2) (n + 2) k d ms x
          ∙ ap (λ m. m ++ line) (sym (replicate-append-replicate n 2 32))
          ∙ append_assoc (margin n) (32 ∷ 32 ∷ []) line,
    )

-- A list is no object.
list_or_object : (named : Bool) (n : ℕ) (d : Doc) (ds : Items) (k : List ℕ) (e : Doc)
    (ms : Members) (x y : List ℕ) → part_text named n (list (item d ds)) ++ x
    ≡ part_text named n (object (member k e ms)) ++ y → ⊥
list_or_object true n d ds k e ms x y h =
    let one = line_of_item n d ds x in
    let other = line_of_member n k e ms y in
    same_heads 45 32 one.0 other.0 (λ same. omega arith)
    (append_cancel_left (margin n) (45 ∷ one.0) (32 ∷ other.0)
    (sym one.1 ∙ tail_of _ _ _ _ h ∙ other.1))
list_or_object false n d ds k e ms x y h = same_heads 10 32 _ _ (λ same. omega arith) h

list_part : (ds : Items) → IsFine (list ds) → AreSameItems ds → IsSamePart (list ds)
list_part no_items hd same e named n x y he ex ey h =
    flat_part (list no_items) refl hd e named n x y he ex ey h
list_part (item d ds) hd same (list (item e es)) named n x y he ex ey h =
    let inner = same (list_margin named n) (item e es) x y he (list_ends named n x ex)
    (list_ends named n y ey) (tail_of _ _ _ _ h) in
    (ap list inner.0, inner.1)
list_part (item d ds) hd same (object (member k e ms)) named n x y he ex ey h =
    absurd (list_or_object named n d ds k e ms x y h)
list_part (item d ds) hd same (id s z) named n x y he ex ey h = let is = he.0 in absurd (cc)
list_part (item d ds) hd same e named n x y he ex ey h =
    turned (flat_part e refl he (list (item d ds)) named n y x hd ey ex (sym h))

no_items_part : AreSameItems no_items
no_items_part n no_items x y he ex ey h = (refl, h)
no_items_part n (item e es) x y he ex ey h =
    let line = line_of_item n e es y in
    absurd ((at_end NoItem n 45 line.0 (subst (Ends NoItem n) (h ∙ line.1) ex)).0 refl)

item_part : (d : Doc) (ds : Items) → AreFine (item d ds) → IsSamePart d → AreSameItems ds
    → AreSameItems (item d ds)
item_part d ds hd first later n no_items x y he ex ey h =
    let line = line_of_item n d ds x in
    absurd ((at_end NoItem n 45 line.0 (subst (Ends NoItem n) (sym h ∙ line.1) ey)).0 refl)
item_part d ds hd first later n (item e es) x y he ex ey h =
    let lines = append_cancel_left (margin n) _ _
    (sym (item_shape n d ds x) ∙ h ∙ item_shape n e es y) in
    let plain_parts = and_parts (all_plain e) (items_plain es) he.0 in
    let utf8_parts = and_parts (all_utf8 e) (items_utf8 es) he.1 in
    let one = first e false n (item_lines n ds ++ x) (item_lines n es ++ y)
    (plain_parts.0, utf8_parts.0) (items_end n ds x ex) (items_end n es y ey)
    (tail_of _ _ _ _ lines) in
    let rest = later n es x y (plain_parts.1, utf8_parts.1) ex ey one.1 in
    (ap₂ item one.0 rest.0, rest.1)

-- ---- objects

object_tail : (named : Bool) (n : ℕ) (k : List ℕ) (d : Doc) (ms : Members) (l : List ℕ) (e : Doc)
    (ns : Members) (x y : List ℕ) → part_text named n (object (member k d ms)) ++ x
    ≡ part_text named n (object (member l e ns)) ++ y
    → member_lines (first_margin named n) (n + 2) (member k d ms) ++ x
    ≡ member_lines (first_margin named n) (n + 2) (member l e ns) ++ y
object_tail true n k d ms l e ns x y h = tail_of _ _ _ _ h
object_tail false n k d ms l e ns x y h = tail_of _ _ _ _ h

object_part : (ms : Members) → IsFine (object ms) → AreSameMembers ms → IsSamePart (object ms)
object_part no_members hd same e named n x y he ex ey h =
    flat_part (object no_members) refl hd e named n x y he ex ey h
object_part (member k d ms) hd same (object (member l e ns)) named n x y he ex ey h =
    let inner = same (first_margin named n) (n + 2) (member l e ns) x y (λ is. absurd (cc))
    (λ is. absurd (cc)) he (object_ends named n x ex) (object_ends named n y ey)
    (object_tail named n k d ms l e ns x y h) in
    (ap object inner.0, inner.1)
object_part (member k d ms) hd same (list (item e es)) named n x y he ex ey h =
    absurd (list_or_object named n e es k d ms y x (sym h))
object_part (member k d ms) hd same (id s z) named n x y he ex ey h =
    let is = he.0 in absurd (cc)
object_part (member k d ms) hd same e named n x y he ex ey h =
    turned (flat_part e refl he (object (member k d ms)) named n y x hd ey ex (sym h))

no_member_follows : (n : ℕ) (k : List ℕ) (d : Doc) (ms : Members) (x y : List ℕ)
    → Ends Never n y → y ≡ member_lines n n (member k d ms) ++ x → ⊥
no_member_follows n k d ms x y ends h =
    let s = name_starts k (58 ∷ member_rest n d ms x) in
    at_end Never n s.first s.rest (subst (Ends Never n) (h ∙ member_start n n k d ms x s) ends)

no_members_part : AreSameMembers no_members
no_members_part f n no_members x y hm hn he ex ey h = (refl, h)
no_members_part f n (member l e ns) x y hm hn he ex ey h =
    absurd (no_member_follows n l e ns y x ex
    (h ∙ ap (λ m. member_lines m n (member l e ns) ++ y) (hm refl)))

same_member : {k l : List ℕ} {d e : Doc} {ms ns : Members} → k ≡ l → d ≡ e → ms ≡ ns
    → member k d ms ≡ member l e ns
same_member a b c = λ i. member (a i) (b i) (c i)

member_part : (k : List ℕ) (d : Doc) (ms : Members) → AreWritable (member k d ms) → IsSamePart d
    → AreSameMembers ms → AreSameMembers (member k d ms)
member_part k d ms hd first later f n no_members x y hm hn he ex ey h =
    absurd (no_member_follows n k d ms x y ey
    (sym h ∙ ap (λ m. member_lines m n (member k d ms) ++ x) (hn refl)))
member_part k d ms hd first later f n (member l e ns) x y hm hn he ex ey h =
    let lines = append_cancel_left (margin f) _ _
    (sym (member_shape f n k d ms x) ∙ h ∙ member_shape f n l e ns y) in
    let utf8 = and_parts (is_utf8 k) (all_utf8 d && members_utf8 ms) hd.1 in
    let utf8' = and_parts (is_utf8 l) (all_utf8 e && members_utf8 ns) he.1 in
    let inside' = and_parts (all_utf8 e) (members_utf8 ns) utf8'.1 in
    let plain' = and_parts (all_plain e) (members_plain ns) he.0 in
    let name = same_name k l 58 58 (member_rest n d ms x) (member_rest n e ns y)
    (IsUtf8-from_is_utf8 k utf8.0) (IsUtf8-from_is_utf8 l utf8'.0) refl refl lines in
    let value = first e true n (member_lines n n ms ++ x) (member_lines n n ns ++ y)
    (plain'.0, inside'.0) (members_end n ms x ex) (members_end n ns y ey) name.2 in
    let rest = later n n ns x y (λ is. refl) (λ is. refl) (plain'.1, inside'.1) ex ey value.1 in
    (same_member name.0 value.0 rest.0, rest.1)

-- ---- all documents

mutual
  same_part : (d : Doc) → IsFine d → IsSamePart d
  same_part null h = flat_part null refl h
  same_part (boolean b) h = flat_part (boolean b) refl h
  same_part (whole z) h = flat_part (whole z) refl h
  same_part (text s) h = flat_part (text s) refl h
  same_part (list ds) h = list_part ds h (same_items ds h)
  same_part (object ms) h = object_part ms h (same_members_at ms h)
  same_part (id s z) h = let is = h.0 in absurd (cc)

  same_items : (ds : Items) → AreFine ds → AreSameItems ds
  same_items no_items h = no_items_part
  same_items (item d ds) h =
      let plain_parts = and_parts (all_plain d) (items_plain ds) h.0 in
      let utf8_parts = and_parts (all_utf8 d) (items_utf8 ds) h.1 in
      item_part d ds h (same_part d (plain_parts.0, utf8_parts.0))
      (same_items ds (plain_parts.1, utf8_parts.1))

  same_members_at : (ms : Members) → AreWritable ms → AreSameMembers ms
  same_members_at no_members h = no_members_part
  same_members_at (member k d ms) h =
      let plain_parts = and_parts (all_plain d) (members_plain ms) h.0 in
      let utf8 = and_parts (is_utf8 k) (all_utf8 d && members_utf8 ms) h.1 in
      let utf8_parts = and_parts (all_utf8 d) (members_utf8 ms) utf8.1 in
      member_part k d ms h (same_part d (plain_parts.0, utf8_parts.0))
      (same_members_at ms (plain_parts.1, utf8_parts.1))

record_ends : (x : List ℕ) → EndsRecord x → Ends Never 2 x
record_ends [] h = tt
record_ends (b ∷ x) h = λ e. absurd (omega arith)

-- The lines of the members of a record determine the members and what follows.
pub same_members : (ms ns : Members) (x y : List ℕ) → AreWritable ms → AreWritable ns
    → EndsRecord x → EndsRecord y → member_lines 2 2 ms ++ x ≡ member_lines 2 2 ns ++ y
    → (ms ≡ ns) × (x ≡ y)
same_members ms ns x y hm hn ex ey h =
    same_members_at ms hm 2 2 ns x y (λ is. refl) (λ is. refl) hn (record_ends x ex)
    (record_ends y ey) h
