-- Tests of every part of a document whose result capabilities and marks do not change.
use Rattle.dap_tree.specs.Doc.{Doc, null, boolean, whole, text, list, object, id, Items, no_items}
use Rattle.dap_tree.specs.Doc.{item, Members, no_members, member, get_member, put, change_member}
use Rattle.dap_tree.specs.Doc.{change_child, map_items, change_items}
use Rattle.dap_tree.specs.declared.side.Side.{Side}
use Rattle.dap_tree.specs.declared.sort.Sort.{Sort}
use Rattle.dap_tree.proofs.Booleans.{and_left, and_right, and_both}
use Rattle.std.proofs.Common.{◌≡◌, ℕ, ℤ, Bool, true, false, cond, ◌&&◌, List, [], ◌∷◌, Option, Some}
use Rattle.std.proofs.Common.{None, Ordering, Less, Equal, Greater, nat_cmp, codes, refl, sym, ◌∙◌}
use Rattle.std.specs.Cmp.Lexicographic.{slice_cmp}
use Rattle.std.specs.List.{list_all}
use Rattle.std.specs.Option.{option_map_or}
use Rattle.std.specs.Ordering.{match_ordering}
use Rattle.dap_profile.specs.PlaceSteps.{PlaceStep, named, each}
use Rattle.dap_profile.specs.ProfileRows.{ProfileRow}
use Rattle.dap_message.specs.Capabilities.{is_given, default_member, default_to, false_members}
use Rattle.dap_message.specs.Capabilities.{false_at, capabilities, with_capabilities}
use Rattle.dap_message.specs.Capabilities.{carries_capabilities}
use Rattle.dap_message.specs.Marks.{mark_by_rows}
use Rattle.dap_message.specs.Marks.{is_id_of, marked, edit, mark_row, mark_rows, sort_of}
use Rattle.dap_message.specs.Message.{message_by_rows}
use Rattle.dap_message.specs.Rows.{row_applies}
use Rattle.dap_message.proofs.Edits.{by_bool}

-- A test of members and items: by the test of each document in them, and by a test of each name and
-- the members after it.
pub record PartTest : Type 0 where
  pub document : Doc → Bool
  pub members : Members → Bool
  pub items : Items → Bool
  pub beside : List ℕ → Members → Bool
  -- the names that may be inserted
  pub may_come : List ℕ → Bool
  pub no_member : members no_members ≡ true
  pub each_member : (k : List ℕ) (d : Doc) (ms : Members)
      → members (member k d ms) ≡ (beside k ms && (document d && members ms))
  pub each_item : (d : Doc) (ds : Items) → items (item d ds) ≡ (document d && items ds)
  pub beside_changed : (l k : List ℕ) (f : Doc → Doc) (ms : Members)
      → beside l (change_member k f ms) ≡ beside l ms
  pub put_in : (k : List ℕ) (d : Doc) (ms : Members) → may_come k ≡ true → document d ≡ true
      → members ms ≡ true → members (put k d ms) ≡ true

-- ---- members and items

module _ (t : PartTest) where
  with_member : (k : List ℕ) (d : Doc) (ms : Members) → t.beside k ms ≡ true → t.document d ≡ true
      → t.members ms ≡ true → t.members (member k d ms) ≡ true
  with_member k d ms a b c =
      t.each_member k d ms
      ∙ and_both (t.beside k ms) (t.document d && t.members ms) a
      (and_both (t.document d) (t.members ms) b c)

  change_at : (o : Ordering) (l : List ℕ) (d e : Doc) (ms rest : Members) → t.beside l ms ≡ true
      → t.beside l rest ≡ true → t.document d ≡ true → t.document e ≡ true → t.members ms ≡ true
      → t.members rest ≡ true
      → t.members (match_ordering o (member l d rest) (member l e ms) (member l d rest)) ≡ true
  change_at Less l d e ms rest a b hd he hm hr = with_member l d rest b hd hr
  change_at Equal l d e ms rest a b hd he hm hr = with_member l e ms a he hm
  change_at Greater l d e ms rest a b hd he hm hr = with_member l d rest b hd hr

  pub member_changed : (k : List ℕ) (f : Doc → Doc)
      → ((d : Doc) → t.document d ≡ true → t.document (f d) ≡ true) → (ms : Members)
      → t.members ms ≡ true → t.members (change_member k f ms) ≡ true
  member_changed k f step no_members h = h
  member_changed k f step (member l e ms) h =
      let all = sym (t.each_member l e ms) ∙ h in
      let a = and_left (t.beside l ms) (t.document e && t.members ms) all in
      let rest = and_right (t.beside l ms) (t.document e && t.members ms) all in
      let he = and_left (t.document e) (t.members ms) rest in
      let hm = and_right (t.document e) (t.members ms) rest in
      change_at (slice_cmp nat_cmp k l) l e (f e) ms (change_member k f ms) a
      (t.beside_changed l k f ms ∙ a) he (step e he) hm (member_changed k f step ms hm)

  pub items_changed : (f : Doc → Doc) → ((d : Doc) → t.document d ≡ true → t.document (f d) ≡ true)
      → (ds : Items) → t.items ds ≡ true → t.items (map_items f ds) ≡ true
  items_changed f step no_items h = h
  items_changed f step (item d ds) h =
      let all = sym (t.each_item d ds) ∙ h in
      t.each_item (f d) (map_items f ds)
      ∙ and_both (t.document (f d)) (t.items (map_items f ds))
      (step d (and_left (t.document d) (t.items ds) all))
      (items_changed f step ds (and_right (t.document d) (t.items ds) all))

  pub member_defaulted : (k : List ℕ) (d : Doc) (ms : Members) → t.may_come k ≡ true
      → t.document d ≡ true → t.members ms ≡ true → t.members (default_member k d ms) ≡ true
  member_defaulted k d ms n hd hm = go (is_given (get_member k ms))
    where
      go : (b : Bool) → t.members (cond b ms (put k d ms)) ≡ true
      go true = hm
      go false = t.put_in k d ms n hd hm

  pub members_false : (ks : List (List ℕ)) (ms : Members) → list_all t.may_come ks ≡ true
      → t.document (boolean false) ≡ true → t.members ms ≡ true
      → t.members (false_members ks ms) ≡ true
  members_false [] ms n hf hm = hm
  members_false (k ∷ ks) ms n hf hm =
      members_false ks (default_member k (boolean false) ms)
      (and_right (t.may_come k) (list_all t.may_come ks) n) hf
      (member_defaulted k (boolean false) ms
      (and_left (t.may_come k) (list_all t.may_come ks) n) hf hm)

-- ---- members and items whose names are not tested

module _ (P : Doc → Bool) (Q : Members → Bool) (each_member : (k : List ℕ) (d : Doc) (ms : Members)
    → Q (member k d ms) ≡ (P d && Q ms)) where
  with_nameless : (k : List ℕ) (d : Doc) (ms : Members) → P d ≡ true → Q ms ≡ true
      → Q (member k d ms) ≡ true
  with_nameless k d ms h j = each_member k d ms ∙ and_both (P d) (Q ms) h j

  put_at : (o : Ordering) (k l : List ℕ) (d e : Doc) (ms rest : Members) → P d ≡ true → P e ≡ true
      → Q ms ≡ true → Q rest ≡ true
      → Q (match_ordering o (member k d (member l e ms)) (member l d ms) (member l e rest)) ≡ true
  put_at Less k l d e ms rest hd he hm hr =
      with_nameless k d (member l e ms) hd (with_nameless l e ms he hm)
  put_at Equal k l d e ms rest hd he hm hr = with_nameless l d ms hd hm
  put_at Greater k l d e ms rest hd he hm hr = with_nameless l e rest he hr

  pub put_nameless : Q no_members ≡ true → (k : List ℕ) (d : Doc) (ms : Members) → P d ≡ true
      → Q ms ≡ true → Q (put k d ms) ≡ true
  put_nameless none k d no_members hd hm = with_nameless k d no_members hd none
  put_nameless none k d (member l e ms) hd hm =
      let h = sym (each_member l e ms) ∙ hm in
      put_at (slice_cmp nat_cmp k l) k l d e ms (put k d ms) hd (and_left (P e) (Q ms) h)
      (and_right (P e) (Q ms) h) (put_nameless none k d ms hd (and_right (P e) (Q ms) h))

abbrev pub nameless : (P : Doc → Bool) (Q : Members → Bool) (R : Items → Bool) → Q no_members ≡ true
    → ((k : List ℕ) (d : Doc) (ms : Members) → Q (member k d ms) ≡ (P d && Q ms))
    → ((d : Doc) (ds : Items) → R (item d ds) ≡ (P d && R ds)) → PartTest
nameless P Q R none each_member each_item =
    record {
      document = P;
      members = Q;
      items = R;
      beside = λ k ms. true;
      may_come = λ k. true;
      no_member = none;
      each_member = each_member;
      each_item = each_item;
      beside_changed = λ l k f ms. refl;
      put_in = λ k d ms n hd hm. put_nameless P Q each_member none k d ms hd hm;
    }

-- ---- documents

-- A test of a document that is the test of its members or items.
pub record DocTest : Type 0 where
  pub parts : PartTest
  pub of_object : (ms : Members) → parts.document (object ms) ≡ parts.members ms
  pub of_list : (ds : Items) → parts.document (list ds) ≡ parts.items ds
  pub of_false : parts.document (boolean false) ≡ true

abbrev pub Passes : DocTest → Doc → Type 0
Passes t d = t.parts.document d ≡ true

module _ (t : DocTest) where
  child_changed : (k : List ℕ) (f : Doc → Doc) → ((d : Doc) → Passes t d → Passes t (f d))
      → (d : Doc) → Passes t d → Passes t (change_child k f d)
  child_changed k f step null h = h
  child_changed k f step (boolean b) h = h
  child_changed k f step (whole z) h = h
  child_changed k f step (text s) h = h
  child_changed k f step (list ds) h = h
  child_changed k f step (object ms) h =
      t.of_object (change_member k f ms)
      ∙ member_changed t.parts k f step ms (sym (t.of_object ms) ∙ h)
  child_changed k f step (id s z) h = h

  list_changed : (f : Doc → Doc) → ((d : Doc) → Passes t d → Passes t (f d)) → (d : Doc)
      → Passes t d → Passes t (change_items f d)
  list_changed f step null h = h
  list_changed f step (boolean b) h = h
  list_changed f step (whole z) h = h
  list_changed f step (text s) h = h
  list_changed f step (list ds) h =
      t.of_list (map_items f ds) ∙ items_changed t.parts f step ds (sym (t.of_list ds) ∙ h)
  list_changed f step (object ms) h = h
  list_changed f step (id s z) h = h

  child_defaulted : (k : List ℕ) (d : Doc) → t.parts.may_come k ≡ true → Passes t d → (e : Doc)
      → Passes t e → Passes t (default_to k d e)
  child_defaulted k d n hd null h = h
  child_defaulted k d n hd (boolean b) h = h
  child_defaulted k d n hd (whole z) h = h
  child_defaulted k d n hd (text s) h = h
  child_defaulted k d n hd (list ds) h = h
  child_defaulted k d n hd (object ms) h =
      t.of_object (default_member k d ms)
      ∙ member_defaulted t.parts k d ms n hd (sym (t.of_object ms) ∙ h)
  child_defaulted k d n hd (id s z) h = h

  all_false : (ks : List (List ℕ)) → list_all t.parts.may_come ks ≡ true → (d : Doc) → Passes t d
      → Passes t (false_at ks d)
  all_false ks n null h = h
  all_false ks n (boolean b) h = h
  all_false ks n (whole z) h = h
  all_false ks n (text s) h = h
  all_false ks n (list ds) h = h
  all_false ks n (object ms) h =
      t.of_object (false_members ks ms)
      ∙ members_false t.parts ks ms n t.of_false (sym (t.of_object ms) ∙ h)
  all_false ks n (id s z) h = h

  pub passes-filled : (b : Bool) (d : Doc) → t.parts.may_come (codes "body") ≡ true
      → list_all t.parts.may_come capabilities ≡ true → Passes t d
      → Passes t (cond b (with_capabilities d) d)
  unfolding with_capabilities
  passes-filled true d n ns h =
      child_changed (codes "body") (false_at capabilities) (λ e j. all_false capabilities ns e j)
      (default_to (codes "body") (object no_members) d)
      (child_defaulted (codes "body") (object no_members) n (t.of_object no_members
      ∙ t.parts.no_member) d h)
  passes-filled false d n ns h = h

-- ---- marks

-- Each id that marks produce passes the test.
abbrev pub TakesIds : DocTest → Type 0
TakesIds t = (s : Sort) (z : ℤ) → is_id_of s z ≡ true → Passes t (id s z)

module _ (t : DocTest) (takes : TakesIds t) where
  passes-marked : (s : Sort) (d : Doc) → Passes t d → Passes t (marked s d)
  passes-marked s null h = h
  passes-marked s (boolean b) h = h
  passes-marked s (whole z) h = by_bool (is_id_of s z) (λ e. rw e (takes s z e)) (λ e. rw e h)
  passes-marked s (text r) h = h
  passes-marked s (list ds) h = h
  passes-marked s (object ms) h = h
  passes-marked s (id r z) h = h

  passes-edit : (ps : List PlaceStep) (s : Sort) (d : Doc) → Passes t d
      → Passes t (edit ps (marked s) d)
  passes-edit [] s d h = passes-marked s d h
  passes-edit (named k ∷ ps) s d h =
      child_changed t k (edit ps (marked s)) (λ e j. passes-edit ps s e j) d h
  passes-edit (each ∷ ps) s d h =
      list_changed t (edit ps (marked s)) (λ e j. passes-edit ps s e j) d h

  passes-mark_row : (r : ProfileRow) (side : Side) (d : Doc) → Passes t d
      → Passes t (mark_row r side d)
  passes-mark_row r side d h = go (sort_of side r.want) (row_applies r.kind r.name d)
    where
      go : (o : Option Sort) (b : Bool)
          → Passes t (option_map_or (λ s. cond b (edit r.place (marked s) d) d) o d)
      go None b = h
      go (Some s) true = passes-edit r.place s d h
      go (Some s) false = h

  passes-mark_rows : (rs : List ProfileRow) (side : Side) (d : Doc) → Passes t d
      → Passes t (mark_rows rs side d)
  passes-mark_rows [] side d h = h
  passes-mark_rows (r ∷ rs) side d h =
      passes-mark_rows rs side (mark_row r side d) (passes-mark_row r side d h)

  pub passes-mark : (rows : List ProfileRow) (side : Side) (d : Doc) → Passes t d
      → Passes t (mark_by_rows rows side d)
  unfolding mark_by_rows
  passes-mark rows side d h = passes-mark_rows rows side d h

  pub passes-message : (rows : List ProfileRow) (side : Side) (d : Doc)
      → t.parts.may_come (codes "body") ≡ true
      → list_all t.parts.may_come capabilities ≡ true → Passes t d
      → Passes t (message_by_rows rows side d)
  passes-message rows side d n ns h =
      passes-mark rows side _ (passes-filled t (carries_capabilities side d) d n ns h)
