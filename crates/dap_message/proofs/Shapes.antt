-- Maps of documents that keep the shape: the members, arrays and values at row paths in the
-- resulting document.
use Rattle.dap_tree.specs.Doc.{Doc, null, boolean, whole, text, list, object, id, Items, no_items}
use Rattle.dap_tree.specs.Doc.{item, Members, no_members, member, get, get_member}
use Rattle.dap_tree.specs.Ids.{ids, items_ids, members_ids, map_ids, items_map_ids}
use Rattle.dap_tree.specs.Ids.{members_map_ids, as_whole, as_zero, skeleton, without_ids}
use Rattle.dap_tree.specs.declared.sort.Sort.{Sort}
use Rattle.std.proofs.Common.{◌≡◌, ℕ, ℤ, Bool, true, false, cond, ◌&&◌, List, [], ◌∷◌, ◌++◌, map}
use Rattle.std.proofs.Common.{Option, Some, None, option_map, Ordering, Less, Equal, Greater}
use Rattle.std.proofs.Common.{nat_cmp, codes, refl, sym, ◌∙◌, ap, ap₂}
use Rattle.std.specs.Cmp.Lexicographic.{slice_cmp}
use Rattle.std.specs.List.{flat_map}
use Rattle.std.specs.Option.{option_map_or}
use Rattle.std.specs.Ordering.{match_ordering}
use Rattle.dap_profile.specs.PlaceSteps.{PlaceStep, named, each}
use Rattle.dap_profile.specs.declared.profile.Kind.{Kind}
use Rattle.dap_profile.specs.declared.profile.Kind.TheVariants.{Request, Response, Event}
use Rattle.dap_message.specs.Capabilities.{is_given}
use Rattle.dap_message.specs.Places.{parts_at, is_object, list_of, elements}
use Rattle.dap_message.specs.Rows.{is_text, is_true, row_applies, may_have_body, type_name}
use Rattle.dap_message.specs.Rows.{name_key}
use Rattle.dap_message.proofs.SortsApart.{AskedAlike}
use Rattle.dap_message.proofs.MarkedPlaces.{IdNumbers, numbers_left, numbers_right}

map_append : {A B : Type 0} (f : A → B) (xs ys : List A) → map f (xs ++ ys) ≡ map f xs ++ map f ys
map_append f [] ys = refl
map_append f (x ∷ xs) ys = ap (λ zs. f x ∷ zs) (map_append f xs ys)

-- a map of documents that changes only numbers
pub record KeepsShape (h : Doc → Doc) : Type 0 where
  pub member : (k : List ℕ) (d : Doc) → get k (h d) ≡ option_map h (get k d)
  pub is_object : (d : Doc) → is_object (h d) ≡ is_object d
  pub list : (d : Doc) → list_of (h d) ≡ option_map (map h) (list_of d)
  pub text : (w : List ℕ) (o : Option Doc) → is_text w (option_map h o) ≡ is_text w o
  pub boolean : (o : Option Doc) → is_true (option_map h o) ≡ is_true o
  pub given : (o : Option Doc) → is_given (option_map h o) ≡ is_given o

module _ (h : Doc → Doc) (keeps : KeepsShape h) where
  found_member : (b : Bool) (o : Option Doc)
      → cond b (option_map h o ∷ []) [] ≡ map (option_map h) (cond b (o ∷ []) [])
  found_member true o = refl
  found_member false o = refl

  found_below : (ps : List PlaceStep)
      → ((e : Doc) → parts_at ps (h e) ≡ map (option_map h) (parts_at ps e)) → (o : Option Doc)
      → option_map_or (parts_at ps) (option_map h o) []
      ≡ map (option_map h) (option_map_or (parts_at ps) o [])
  found_below ps same None = refl
  found_below ps same (Some e) = same e

  found_each : (ps : List PlaceStep)
      → ((e : Doc) → parts_at ps (h e) ≡ map (option_map h) (parts_at ps e)) → (ds : List Doc)
      → flat_map (parts_at ps) (map h ds) ≡ map (option_map h) (flat_map (parts_at ps) ds)
  found_each ps same [] = refl
  found_each ps same (d ∷ ds) =
      ap₂ (λ a b. a ++ b) (same d) (found_each ps same ds)
      ∙ sym (map_append (option_map h) (parts_at ps d) (flat_map (parts_at ps) ds))

  found_list : (ps : List PlaceStep)
      → ((e : Doc) → parts_at ps (h e) ≡ map (option_map h) (parts_at ps e))
      → (o : Option (List Doc))
      → option_map_or (flat_map (parts_at ps)) (option_map (map h) o) []
      ≡ map (option_map h) (option_map_or (flat_map (parts_at ps)) o [])
  found_list ps same None = refl
  found_list ps same (Some ds) = found_each ps same ds

  pub found-shape : (ps : List PlaceStep) (d : Doc)
      → parts_at ps (h d) ≡ map (option_map h) (parts_at ps d)
  found-shape [] d = refl
  found-shape (named k ∷ []) d =
      ap₂ (λ b o. cond b (o ∷ []) []) (keeps.is_object d) (keeps.member k d)
      ∙ found_member (is_object d) (get k d)
  found-shape (named k ∷ p ∷ ps) d =
      ap (λ o. option_map_or (parts_at (p ∷ ps)) o []) (keeps.member k d)
      ∙ found_below (p ∷ ps) (λ e. found-shape (p ∷ ps) e) (get k d)
  found-shape (each ∷ ps) d =
      ap (λ o. option_map_or (flat_map (parts_at ps)) o []) (keeps.list d)
      ∙ found_list ps (λ e. found-shape ps e) (list_of d)

  pub text-shape : (w k : List ℕ) (d : Doc) → is_text w (get k (h d)) ≡ is_text w (get k d)
  text-shape w k d = ap (is_text w) (keeps.member k d) ∙ keeps.text w (get k d)

  body-shape : (k : Kind) (d : Doc) → may_have_body k (h d) ≡ may_have_body k d
  body-shape Request d = refl
  body-shape Response d =
      ap is_true (keeps.member (codes "success") d) ∙ keeps.boolean (get (codes "success") d)
  body-shape Event d = refl

  pub asked-shape : (d : Doc) → AskedAlike d (h d)
  asked-shape d None n = refl
  asked-shape d (Some k) None = text-shape (type_name k) (codes "type") d
  asked-shape d (Some k) (Some n) =
      ap₂ (λ a b. a && b)
      (ap₂ (λ a b. a && b) (text-shape (type_name k) (codes "type") d)
      (text-shape n (name_key k) d)) (body-shape k d)

-- ---- replacing each id

-- the replacement is a number: not an object, array, string, boolean or null
pub record PutsNumbers (f : Sort → ℤ → Doc) : Type 0 where
  pub member : (k : List ℕ) (s : Sort) (z : ℤ) → get k (f s z) ≡ None
  pub is_object : (s : Sort) (z : ℤ) → is_object (f s z) ≡ false
  pub list : (s : Sort) (z : ℤ) → list_of (f s z) ≡ None
  pub text : (w : List ℕ) (s : Sort) (z : ℤ) → is_text w (Some (f s z)) ≡ false
  pub boolean : (s : Sort) (z : ℤ) → is_true (Some (f s z)) ≡ false
  pub given : (s : Sort) (z : ℤ) → is_given (Some (f s z)) ≡ true

module _ (f : Sort → ℤ → Doc) (puts : PutsNumbers f) where
  at_mapped : (o : Ordering) (d : Doc) (a b : Option Doc) → a ≡ option_map (map_ids f) b
      → match_ordering o a (Some (map_ids f d)) a
      ≡ option_map (map_ids f) (match_ordering o b (Some d) b)
  at_mapped Less d a b h = h
  at_mapped Equal d a b h = refl
  at_mapped Greater d a b h = h

  get_member-mapped : (k : List ℕ) (ms : Members)
      → get_member k (members_map_ids f ms) ≡ option_map (map_ids f) (get_member k ms)
  get_member-mapped k no_members = refl
  get_member-mapped k (member l d ms) =
      at_mapped (slice_cmp nat_cmp k l) d _ _ (get_member-mapped k ms)

  get-mapped : (k : List ℕ) (d : Doc) → get k (map_ids f d) ≡ option_map (map_ids f) (get k d)
  get-mapped k null = refl
  get-mapped k (boolean b) = refl
  get-mapped k (whole z) = refl
  get-mapped k (text s) = refl
  get-mapped k (list ds) = refl
  get-mapped k (object ms) = get_member-mapped k ms
  get-mapped k (id s z) = puts.member k s z

  object-mapped : (d : Doc) → is_object (map_ids f d) ≡ is_object d
  object-mapped null = refl
  object-mapped (boolean b) = refl
  object-mapped (whole z) = refl
  object-mapped (text s) = refl
  object-mapped (list ds) = refl
  object-mapped (object ms) = refl
  object-mapped (id s z) = puts.is_object s z

  elements-mapped : (ds : Items) → elements (items_map_ids f ds) ≡ map (map_ids f) (elements ds)
  elements-mapped no_items = refl
  elements-mapped (item d ds) = ap (λ es. map_ids f d ∷ es) (elements-mapped ds)

  list-mapped : (d : Doc) → list_of (map_ids f d) ≡ option_map (map (map_ids f)) (list_of d)
  list-mapped null = refl
  list-mapped (boolean b) = refl
  list-mapped (whole z) = refl
  list-mapped (text s) = refl
  list-mapped (list ds) = ap Some (elements-mapped ds)
  list-mapped (object ms) = refl
  list-mapped (id s z) = puts.list s z

  text-mapped : (w : List ℕ) (o : Option Doc)
      → is_text w (option_map (map_ids f) o) ≡ is_text w o
  text-mapped w None = refl
  text-mapped w (Some null) = refl
  text-mapped w (Some (boolean b)) = refl
  text-mapped w (Some (whole z)) = refl
  text-mapped w (Some (text s)) = refl
  text-mapped w (Some (list ds)) = refl
  text-mapped w (Some (object ms)) = refl
  text-mapped w (Some (id s z)) = puts.text w s z

  true-mapped : (o : Option Doc) → is_true (option_map (map_ids f) o) ≡ is_true o
  true-mapped None = refl
  true-mapped (Some null) = refl
  true-mapped (Some (boolean b)) = refl
  true-mapped (Some (whole z)) = refl
  true-mapped (Some (text s)) = refl
  true-mapped (Some (list ds)) = refl
  true-mapped (Some (object ms)) = refl
  true-mapped (Some (id s z)) = puts.boolean s z

  given-mapped : (o : Option Doc) → is_given (option_map (map_ids f) o) ≡ is_given o
  given-mapped None = refl
  given-mapped (Some null) = refl
  given-mapped (Some (boolean b)) = refl
  given-mapped (Some (whole z)) = refl
  given-mapped (Some (text s)) = refl
  given-mapped (Some (list ds)) = refl
  given-mapped (Some (object ms)) = refl
  given-mapped (Some (id s z)) = puts.given s z

  pub mapped_keeps : KeepsShape (map_ids f)
  mapped_keeps =
      record {
        member = get-mapped;
        is_object = object-mapped;
        list = list-mapped;
        text = text-mapped;
        boolean = true-mapped;
        given = given-mapped;
      }

pub without_keeps : KeepsShape without_ids
without_keeps =
    mapped_keeps as_whole (record {
      member = λ k s z. refl;
      is_object = λ s z. refl;
      list = λ s z. refl;
      text = λ w s z. refl;
      boolean = λ s z. refl;
      given = λ s z. refl;
    })

pub skeleton_keeps : KeepsShape skeleton
skeleton_keeps =
    mapped_keeps as_zero (record {
      member = λ k s z. refl;
      is_object = λ s z. refl;
      list = λ s z. refl;
      text = λ w s z. refl;
      boolean = λ s z. refl;
      given = λ s z. refl;
    })

-- the same rows apply to two documents with the same skeleton, with their ids as integers
pub asked_without : (m n : Doc) → skeleton n ≡ skeleton m
    → AskedAlike (without_ids m) (without_ids n)
asked_without m n same k o =
    asked-shape without_ids without_keeps n k o
    ∙ sym (asked-shape skeleton skeleton_keeps n k o)
    ∙ ap (row_applies k o) same
    ∙ asked-shape skeleton skeleton_keeps m k o
    ∙ sym (asked-shape without_ids without_keeps m k o)

-- ---- ids with valid numbers

abbrev pub NumbersAt : Option Doc → Type 0
NumbersAt None = Unit {0}
NumbersAt (Some d) = IdNumbers (ids d)

abbrev pub AllNumbered : List (Option Doc) → Type 0
AllNumbered [] = Unit {0}
AllNumbered (o ∷ os) = NumbersAt o × AllNumbered os

numbers_get_member : (k : List ℕ) (ms : Members) → IdNumbers (members_ids ms)
    → NumbersAt (get_member k ms)
numbers_get_member k no_members h = tt
numbers_get_member k (member l d ms) h =
    pick (slice_cmp nat_cmp k l) (get_member k ms)
    (numbers_get_member k ms (numbers_right (ids d) (members_ids ms) h))
  where
    pick : (o : Ordering) (r : Option Doc) → NumbersAt r → NumbersAt (match_ordering o r (Some d) r)
    pick Less r g = g
    pick Equal r g = numbers_left (ids d) (members_ids ms) h
    pick Greater r g = g

numbers_get : (k : List ℕ) (d : Doc) → IdNumbers (ids d) → NumbersAt (get k d)
numbers_get k null h = tt
numbers_get k (boolean b) h = tt
numbers_get k (whole z) h = tt
numbers_get k (text s) h = tt
numbers_get k (list ds) h = tt
numbers_get k (object ms) h = numbers_get_member k ms h
numbers_get k (id s z) h = tt

all_numbered_append : (xs ys : List (Option Doc)) → AllNumbered xs → AllNumbered ys
    → AllNumbered (xs ++ ys)
all_numbered_append [] ys h g = g
all_numbered_append (x ∷ xs) ys h g = (h.0, all_numbered_append xs ys h.1 g)

numbers_below : (ps : List PlaceStep)
    → ((e : Doc) → IdNumbers (ids e) → AllNumbered (parts_at ps e)) → (o : Option Doc)
    → NumbersAt o → AllNumbered (option_map_or (parts_at ps) o [])
numbers_below ps below None h = tt
numbers_below ps below (Some e) h = below e h

numbers_each : (ps : List PlaceStep) → ((e : Doc) → IdNumbers (ids e) → AllNumbered (parts_at ps e))
    → (ds : Items) → IdNumbers (items_ids ds) → AllNumbered (flat_map (parts_at ps) (elements ds))
numbers_each ps below no_items h = tt
numbers_each ps below (item d ds) h =
    all_numbered_append (parts_at ps d) (flat_map (parts_at ps) (elements ds))
    (below d (numbers_left (ids d) (items_ids ds) h))
    (numbers_each ps below ds (numbers_right (ids d) (items_ids ds) h))

numbers_list : (ps : List PlaceStep) → ((e : Doc) → IdNumbers (ids e) → AllNumbered (parts_at ps e))
    → (d : Doc) → IdNumbers (ids d)
    → AllNumbered (option_map_or (flat_map (parts_at ps)) (list_of d) [])
numbers_list ps below null h = tt
numbers_list ps below (boolean b) h = tt
numbers_list ps below (whole z) h = tt
numbers_list ps below (text s) h = tt
numbers_list ps below (list ds) h = numbers_each ps below ds h
numbers_list ps below (object ms) h = tt
numbers_list ps below (id s z) h = tt

numbers_one : (b : Bool) (o : Option Doc) → NumbersAt o → AllNumbered (cond b (o ∷ []) [])
numbers_one true o h = (h, tt)
numbers_one false o h = tt

pub numbers_found : (ps : List PlaceStep) (d : Doc) → IdNumbers (ids d)
    → AllNumbered (parts_at ps d)
numbers_found [] d h = (h, tt)
numbers_found (named k ∷ []) d h = numbers_one (is_object d) (get k d) (numbers_get k d h)
numbers_found (named k ∷ p ∷ ps) d h =
    numbers_below (p ∷ ps) (λ e g. numbers_found (p ∷ ps) e g) (get k d) (numbers_get k d h)
numbers_found (each ∷ ps) d h = numbers_list ps (λ e g. numbers_found ps e g) d h
