-- Properties of a document that marks and capabilities do not change: it is sound, and no id is a
-- variables reference of 0.
use Rattle.dap_tree.specs.Doc.{Doc, null, boolean, whole, text, list, object, id, Items, no_items}
use Rattle.dap_tree.specs.Doc.{item, Members, no_members, member, change_child, change_items, fits}
use Rattle.dap_tree.specs.Doc.{items_fit, members_fit, is_sound, is_plain, all_plain, items_plain}
use Rattle.dap_tree.specs.Doc.{members_plain}
use Rattle.dap_tree.specs.declared.side.Side.{Side}
use Rattle.dap_tree.specs.declared.sort.Sort.{Sort}
use Rattle.dap_tree.specs.declared.sort.Sort.TheVariants.{Reference}
use Rattle.dap_tree.proofs.Booleans.{and_left, and_right, and_both}
use Rattle.dap_tree.proofs.Depths.{fits_is}
use Rattle.dap_tree.proofs.WithoutIds.{plain_parts}
use Rattle.dap_tree.specs.Ids.{ids, items_ids, members_ids}
use Rattle.std.proofs.Common.{◌≡◌, ℕ, ◌-◌, ℤ, pos, Bool, true, false, cond, not, ◌&&◌, List, []}
use Rattle.std.proofs.Common.{◌∷◌, ◌++◌, Option, Some, None, codes, refl, sym, ◌∙◌, ap, ap₂, ltb}
use Rattle.std.specs.Option.{option_map_or}
use Rattle.std.proofs.lemmas.List.Folds.{list_all-append}
use Rattle.std.specs.List.{list_all}
use Rattle.std.specs.Ordering.{int_eq}
use Rattle.dap_profile.specs.PlaceSteps.{PlaceStep, named, each}
use Rattle.dap_profile.specs.Profile.{profile}
use Rattle.dap_profile.specs.ProfileRows.{ProfileRow}
use Rattle.dap_message.specs.Rows.{row_applies, is_id_number}
use Rattle.dap_message.specs.Marks.{mark_by_rows}
use Rattle.dap_message.specs.Marks.{is_id_of, marked, edit, mark_rows, mark_row, sort_of}
use Rattle.dap_message.specs.Capabilities.{default_to, false_at, capabilities, with_capabilities}
use Rattle.dap_message.specs.Capabilities.{filled, carries_capabilities}
use Rattle.dap_message.specs.Numbers.{is_proper, are_proper, is_proper_number}
use Rattle.dap_message.specs.Message.{message_of, message_by_rows}
use Rattle.dap_message.proofs.Edits.{by_bool}
use Rattle.dap_message.proofs.PartTests.{PartTest, DocTest, nameless, member_changed, items_changed}
use Rattle.dap_message.proofs.PartTests.{member_defaulted, members_false, passes-message}

-- ---- depth and range

abbrev Fits : ℕ → Doc → Type 0
Fits n d = fits n d ≡ true

abbrev fits_parts : ℕ → PartTest
fits_parts n = nameless (fits n) (members_fit n) (items_fit n) refl (λ k d ms. refl) (λ d ds. refl)

fits-change : (n : ℕ) (k : List ℕ) (f : Doc → Doc) → ((m : ℕ) (e : Doc) → Fits m e → Fits m (f e))
    → (d : Doc) → Fits n d → Fits n (change_child k f d)
fits-change n k f step null h = h
fits-change n k f step (boolean b) h = h
fits-change n k f step (whole z) h = h
fits-change n k f step (text s) h = h
fits-change n k f step (list ds) h = h
fits-change n k f step (object ms) h =
    and_both (ltb 0 n) _ (and_left (ltb 0 n) _ h)
    (member_changed (fits_parts (n - 1)) k f (step (n - 1)) ms (and_right (ltb 0 n) _ h))
fits-change n k f step (id s z) h = h

fits-items : (n : ℕ) (f : Doc → Doc) → ((m : ℕ) (e : Doc) → Fits m e → Fits m (f e)) → (d : Doc)
    → Fits n d → Fits n (change_items f d)
fits-items n f step null h = h
fits-items n f step (boolean b) h = h
fits-items n f step (whole z) h = h
fits-items n f step (text s) h = h
fits-items n f step (list ds) h =
    and_both (ltb 0 n) _ (and_left (ltb 0 n) _ h)
    (items_changed (fits_parts (n - 1)) f (step (n - 1)) ds (and_right (ltb 0 n) _ h))
fits-items n f step (object ms) h = h
fits-items n f step (id s z) h = h

fits-marked : (s : Sort) (n : ℕ) (d : Doc) → Fits n d → Fits n (marked s d)
fits-marked s n null h = h
fits-marked s n (boolean b) h = h
fits-marked s n (whole z) h = by_bool (is_id_of s z) (λ e. rw e refl) (λ e. rw e h)
fits-marked s n (text t) h = h
fits-marked s n (list ds) h = h
fits-marked s n (object ms) h = h
fits-marked s n (id r z) h = h

fits-edit : (ps : List PlaceStep) (s : Sort) (n : ℕ) (d : Doc) → Fits n d
    → Fits n (edit ps (marked s) d)
fits-edit [] s n d h = fits-marked s n d h
fits-edit (named k ∷ ps) s n d h =
    fits-change n k (edit ps (marked s)) (λ m e j. fits-edit ps s m e j) d h
fits-edit (each ∷ ps) s n d h =
    fits-items n (edit ps (marked s)) (λ m e j. fits-edit ps s m e j) d h

fits-mark_row : (r : ProfileRow) (side : Side) (n : ℕ) (d : Doc) → Fits n d
    → Fits n (mark_row r side d)
fits-mark_row r side n d h = go (sort_of side r.want) (row_applies r.kind r.name d)
  where
    go : (o : Option Sort) (b : Bool)
        → Fits n (option_map_or (λ s. cond b (edit r.place (marked s) d) d) o d)
    go None b = h
    go (Some s) true = fits-edit r.place s n d h
    go (Some s) false = h

fits-mark : (rs : List ProfileRow) (side : Side) (n : ℕ) (d : Doc) → Fits n d
    → Fits n (mark_rows rs side d)
fits-mark [] side n d h = h
fits-mark (r ∷ rs) side n d h = fits-mark rs side n (mark_row r side d) (fits-mark_row r side n d h)

fits-default : (k : List ℕ) (n : ℕ) (e d : Doc) → Fits (n - 1) e → Fits n d
    → Fits n (default_to k e d)
fits-default k n e null j h = h
fits-default k n e (boolean b) j h = h
fits-default k n e (whole z) j h = h
fits-default k n e (text s) j h = h
fits-default k n e (list ds) j h = h
fits-default k n e (object ms) j h =
    and_both (ltb 0 n) _ (and_left (ltb 0 n) _ h)
    (member_defaulted (fits_parts (n - 1)) k e ms refl j (and_right (ltb 0 n) _ h))
fits-default k n e (id s z) j h = h

all_may_come : (ks : List (List ℕ)) → list_all (λ k. true) ks ≡ true
all_may_come [] = refl
all_may_come (k ∷ ks) = all_may_come ks

fits-false : (ks : List (List ℕ)) (n : ℕ) (d : Doc) → Fits n d → Fits n (false_at ks d)
fits-false ks n null h = h
fits-false ks n (boolean b) h = h
fits-false ks n (whole z) h = h
fits-false ks n (text s) h = h
fits-false ks n (list ds) h = h
fits-false ks n (object ms) h =
    and_both (ltb 0 n) _ (and_left (ltb 0 n) _ h)
    (members_false (fits_parts (n - 1)) ks ms (all_may_come ks) refl (and_right (ltb 0 n) _ h))
fits-false ks n (id s z) h = h

fits-capabilities : (d : Doc) → Fits 127 d → Fits 127 (with_capabilities d)
unfolding with_capabilities
fits-capabilities d h =
    fits-change 127 (codes "body") (false_at capabilities) (λ m e j. fits-false capabilities m e j)
    (default_to (codes "body") (object no_members) d)
    (fits-default (codes "body") 127 (object no_members) d refl h)

fits-if : (b : Bool) (d : Doc) → Fits 127 d → Fits 127 (cond b (with_capabilities d) d)
fits-if true d h = fits-capabilities d h
fits-if false d h = h

pub sound-message : (rows : List ProfileRow) (side : Side) (d : Doc) → is_plain d ≡ true
    → is_sound (message_by_rows rows side d) ≡ true
unfolding mark_by_rows
sound-message rows side d h =
    sym (fits_is 127 (mark_rows rows side (filled side d)))
    ∙ fits-mark rows side 127 (filled side d)
    (fits-if (carries_capabilities side d) d (fits_is 127 d ∙ and_left (is_sound d) _ h))

-- ---- no reference 0 among the ids

abbrev Proper : Doc → Type 0
Proper d = is_proper d ≡ true

abbrev members_proper : Members → Bool
members_proper ms = are_proper (members_ids ms)

abbrev items_proper : Items → Bool
items_proper ds = are_proper (items_ids ds)

members_proper-member : (k : List ℕ) (d : Doc) (ms : Members)
    → members_proper (member k d ms) ≡ (is_proper d && members_proper ms)
members_proper-member k d ms =
    list_all-append (λ i. is_proper_number i.0 i.1) (ids d) (members_ids ms)

items_proper-item : (d : Doc) (ds : Items)
    → items_proper (item d ds) ≡ (is_proper d && items_proper ds)
items_proper-item d ds = list_all-append (λ i. is_proper_number i.0 i.1) (ids d) (items_ids ds)

mutual
  no_ids-plain : (d : Doc) → all_plain d ≡ true → ids d ≡ []
  no_ids-plain null h = refl
  no_ids-plain (boolean b) h = refl
  no_ids-plain (whole z) h = refl
  no_ids-plain (text s) h = refl
  no_ids-plain (list ds) h = no_items_ids-plain ds h
  no_ids-plain (object ms) h = no_members_ids-plain ms h
  no_ids-plain (id s z) h = cc

  no_items_ids-plain : (ds : Items) → items_plain ds ≡ true → items_ids ds ≡ []
  no_items_ids-plain no_items h = refl
  no_items_ids-plain (item d ds) h =
      ap₂ (λ a b. a ++ b) (no_ids-plain d (and_left (all_plain d) (items_plain ds) h))
      (no_items_ids-plain ds (and_right (all_plain d) (items_plain ds) h))

  no_members_ids-plain : (ms : Members) → members_plain ms ≡ true → members_ids ms ≡ []
  no_members_ids-plain no_members h = refl
  no_members_ids-plain (member k d ms) h =
      ap₂ (λ a b. a ++ b) (no_ids-plain d (and_left (all_plain d) (members_plain ms) h))
      (no_members_ids-plain ms (and_right (all_plain d) (members_plain ms) h))

proper-plain : (d : Doc) → all_plain d ≡ true → Proper d
proper-plain d h = ap are_proper (no_ids-plain d h)

one_proper : (s : Sort) (z : ℤ) → is_proper_number s z ≡ true → Proper (id s z)
one_proper s z h = and_both (is_proper_number s z) true h refl

proper-id : (s : Sort) (z : ℤ) → is_id_of s z ≡ true → is_proper_number s z ≡ true
proper-id Reference z h = and_right (is_id_number z) (not (int_eq z (pos 0))) h
proper-id s z h = refl

abbrev proper_test : DocTest
proper_test =
    record {
      parts = nameless is_proper members_proper items_proper refl members_proper-member
          items_proper-item;
      of_object = λ ms. refl;
      of_list = λ ds. refl;
      of_false = refl;
    }

pub proper-message : (side : Side) (d : Doc) → is_plain d ≡ true
    → is_proper (message_of side d) ≡ true
proper-message side d h =
    passes-message proper_test (λ s z is. one_proper s z (proper-id s z is)) profile side d refl
    refl (proper-plain d (plain_parts d h))
