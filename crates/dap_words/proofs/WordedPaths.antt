-- The result path by path.
use Rattle.std.proofs.Common.{◌≡◌, ℕ, zero, suc, Bool, true, false, cond, ◌&&◌, List, [], ◌∷◌}
use Rattle.std.proofs.Common.{Option, Some, None, option_map, option_and_then, bytes_eq, is_eq}
use Rattle.std.proofs.Common.{Ordering, Less, Equal, Greater, nat_cmp, refl, sym, ap, ◌∙◌}
use Rattle.std.proofs.lemmas.Map.Text.{is_eq-slice_cmp}
use Rattle.std.proofs.lemmas.Slice.Eq.{bytes_eq-Decides}
use Rattle.std.specs.Cmp.Lexicographic.{slice_cmp}
use Rattle.std.specs.Ordering.{match_ordering}
use Rattle.dap_tree.specs.Doc.{Doc, null, boolean, whole, text, list, object, id, Items, no_items}
use Rattle.dap_tree.specs.Doc.{item, Members, no_members, member, get, get_member}
use Rattle.dap_tree.specs.Path.{Step, name, place, step, at, get_item}
use Rattle.dap_message.specs.Marks.{top, items_top, members_top}
use Rattle.dap_words.specs.Words.{Pair}
use Rattle.dap_words.specs.Worded.{worded, items_worded, members_worded, names_its_kind, is_in_kind}
use Rattle.dap_words.specs.Worded.{leaf, IsWorded}

module _ (pairs : List Pair) where
  -- ---- the first level

  items_top_worded : (ds : Items) → items_top (items_worded pairs ds) ≡ items_top ds
  items_top_worded no_items = refl
  items_top_worded (item d ds) = ap (item null) (items_top_worded ds)

  members_top_worded : (m : Bool) (ms : Members)
      → members_top (members_worded pairs m ms) ≡ members_top ms
  members_top_worded m no_members = refl
  members_top_worded m (member k d ms) = ap (member k null) (members_top_worded m ms)

  top_worded : (m : Bool) (d : Doc) → top (worded pairs m d) ≡ top (leaf pairs d)
  top_worded m null = refl
  top_worded m (boolean b) = refl
  top_worded m (whole z) = refl
  top_worded m (text s) = refl
  top_worded m (list ds) = ap list (items_top_worded ds)
  top_worded m (object ms) = ap object (members_top_worded m ms)
  top_worded m (id s z) = refl

  -- ---- one step

  -- a part after a step
  abbrev part : Bool → Doc → Doc
  part kind d = cond kind d (worded pairs false d)

  here_at : (o : Ordering) (m : Bool) (k l : List ℕ) (d : Doc) (found changed : Option Doc)
      → slice_cmp nat_cmp k l ≡ o → changed ≡ option_map (part (m && names_its_kind k)) found
      → match_ordering o changed (Some (part (m && names_its_kind l) d)) changed
      ≡ option_map (part (m && names_its_kind k)) (match_ordering o found (Some d) found)
  here_at Less m k l d found changed is later = later
  here_at Equal m k l d found changed is later =
      let same : k ≡ l = (bytes_eq-Decides k l).0 (sym (is_eq-slice_cmp k l) ∙ ap is_eq is) in
      ap (λ n. Some (part (m && names_its_kind n) d)) (sym same)
  here_at Greater m k l d found changed is later = later

  get_member-worded : (m : Bool) (k : List ℕ) (ms : Members)
      → get_member k (members_worded pairs m ms)
      ≡ option_map (part (m && names_its_kind k)) (get_member k ms)
  get_member-worded m k no_members = refl
  get_member-worded m k (member l d ms) =
      here_at (slice_cmp nat_cmp k l) m k l d (get_member k ms)
      (get_member k (members_worded pairs m ms)) refl (get_member-worded m k ms)

  pub get-worded : (m : Bool) (k : List ℕ) (d : Doc)
      → get k (worded pairs m d) ≡ option_map (part (m && names_its_kind k)) (get k d)
  get-worded m k null = refl
  get-worded m k (boolean b) = refl
  get-worded m k (whole z) = refl
  get-worded m k (text s) = refl
  get-worded m k (list ds) = refl
  get-worded m k (object ms) = get_member-worded m k ms
  get-worded m k (id s z) = refl

  get_item-worded : (n : ℕ) (ds : Items)
      → get_item n (items_worded pairs ds) ≡ option_map (part false) (get_item n ds)
  get_item-worded n no_items = refl
  get_item-worded zero (item d ds) = refl
  get_item-worded (suc n) (item d ds) = get_item-worded n ds

  -- whether the parts after this step are kept
  abbrev stays : Bool → Step → Bool
  stays m (name k) = m && names_its_kind k
  stays m (place n) = false

  step-worded : (m : Bool) (st : Step) (d : Doc)
      → step st (worded pairs m d) ≡ option_map (part (stays m st)) (step st d)
  step-worded m (name k) d = get-worded m k d
  step-worded m (place n) null = refl
  step-worded m (place n) (boolean b) = refl
  step-worded m (place n) (whole z) = refl
  step-worded m (place n) (text s) = refl
  step-worded m (place n) (list ds) = get_item-worded n ds
  step-worded m (place n) (object ms) = refl
  step-worded m (place n) (id s z) = refl

  -- ---- paths

  -- the value at a path, by whether the path leads into a member that names the kind
  abbrev value_at : Bool → Doc → Doc
  value_at kind x = top (cond kind x (leaf pairs x))

  not_kind : (p : List Step) → is_in_kind false p ≡ false
  not_kind [] = refl
  not_kind (name k ∷ p) = refl
  not_kind (place n ∷ p) = refl

  told_by_step : (m : Bool) (st : Step) (p : List Step) → is_in_kind m (st ∷ p) ≡ stays m st
  told_by_step m (name k) p = refl
  told_by_step m (place n) p = refl

  after : (o : Option Doc) (kind : Bool) (p : List Step)
      → ((d : Doc) → option_map top (at p (part kind d)) ≡ option_map (value_at kind) (at p d))
      → option_map top (option_and_then (at p) (option_map (part kind) o))
      ≡ option_map (value_at kind) (option_and_then (at p) o)
  after None kind p h = refl
  after (Some d) kind p h = h d

  part_at : (p : List Step) → ((d : Doc) → option_map top (at p (worded pairs false d))
      ≡ option_map (value_at (is_in_kind false p)) (at p d)) → (kind : Bool) (d : Doc)
      → option_map top (at p (part kind d)) ≡ option_map (value_at kind) (at p d)
  part_at p h true d = refl
  part_at p h false d = h d ∙ ap (λ b. option_map (value_at b) (at p d)) (not_kind p)

  pub at-worded : (m : Bool) (p : List Step) (d : Doc)
      → option_map top (at p (worded pairs m d)) ≡ option_map (value_at (is_in_kind m p)) (at p d)
  at-worded m [] d = ap Some (top_worded m d)
  at-worded m (st ∷ p) d =
      ap (λ o. option_map top (option_and_then (at p) o)) (step-worded m st d)
      ∙ after (step st d) (stays m st) p (part_at p (λ e. at-worded false p e) (stays m st))
      ∙ ap (λ b. option_map (value_at b) (option_and_then (at p) (step st d)))
      (sym (told_by_step m st p))

  pub worded_by_path : (d : Doc) → IsWorded pairs d (worded pairs true d)
  unfolding IsWorded
  worded_by_path d = λ p. at-worded true p d

  same_if_some : (o : Option Doc) → option_map (part true) o ≡ o
  same_if_some None = refl
  same_if_some (Some d) = refl

  pub told_kept : (d : Doc) (k : List ℕ) → names_its_kind k ≡ true
      → get k (worded pairs true d) ≡ get k d
  told_kept d k h =
      get-worded true k d ∙ ap (λ b. option_map (part b) (get k d)) h ∙ same_if_some (get k d)
