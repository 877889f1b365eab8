-- Naming and marking ids commute, since no declaration has the place of an id of the profile.
use Rattle.std.proofs.Common.{◌≡◌, ℕ, Bool, true, false, cond, ◌&&◌, List, []}
use Rattle.std.proofs.Common.{◌∷◌, ◌++◌, Option, Some, None, option_map, Ordering, Less}
use Rattle.std.proofs.Common.{Equal, Greater, nat_cmp, codes, refl, ap, ap₂, sym, ◌∙◌}
use Rattle.std.specs.Cmp.Lexicographic.{slice_cmp}
use Rattle.std.specs.Option.{option_map_or}
use Rattle.std.specs.Ordering.{match_ordering}
use Rattle.std.proofs.lemmas.Map.Lookups.{exact_bytes}
use Rattle.dap_tree.specs.Doc.{Doc, null, boolean, whole, text, list, object, id, Items, no_items}
use Rattle.dap_tree.specs.Doc.{item, Members, no_members, member, get, change_member, change_child}
use Rattle.dap_tree.specs.Doc.{map_items, change_items}
use Rattle.dap_tree.specs.Path.{Step, name as child, at}
use Rattle.dap_tree.specs.declared.side.Side.{Side}
use Rattle.dap_tree.specs.declared.side.Side.TheVariants.{Client, Adapter}
use Rattle.dap_tree.specs.declared.sort.Sort.{Sort}
use Rattle.dap_tree.proofs.Booleans.{and_left, and_right, and_both, or_left, or_right}
use Rattle.dap_profile.specs.PlaceSteps.{PlaceStep, named, each}
use Rattle.dap_profile.specs.Profile.{wants_id}
use Rattle.dap_profile.specs.ProfileRows.{ProfileRow}
use Rattle.dap_profile.specs.declared.profile.Kind.{Kind}
use Rattle.dap_profile.specs.declared.profile.Want.{Want}
use Rattle.dap_profile.specs.declared.profile.Want.TheVariants.{Bool as WantBool, Whole, Text}
use Rattle.dap_profile.specs.declared.profile.Want.TheVariants.{Object, List as WantList}
use Rattle.dap_message.specs.Marks.{marked, is_id_of, edit, mark_row, mark_rows, sort_of}
use Rattle.dap_message.specs.Places.{fits_place}
use Rattle.dap_message.specs.Rows.{is_text, row_applies, is_of_kind, name_key}
use Rattle.dap_message.specs.Rows.{may_have_body}
use Rattle.dap_message.proofs.Edits.{at-edit}
use Rattle.dap_message.proofs.RowMarks.{text-top, text-marked, one_step}
use Rattle.dap_tokens.specs.{Naming.Numbering, Models.no_labels}
use Rattle.dap_tokens.specs.declared.form.Form.TheVariants as form
use Rattle.dap_mask.specs.RuleSteps.{is_called, plain_place}
use Rattle.dap_mask.specs.Rules.{Rule, rule_applies, has_head, has_name, same_place}
use Rattle.dap_mask.specs.Rules.{category_path}
use Rattle.dap_mask.specs.Declarations.{Declaration, are_declared}
use Rattle.dap_mask.specs.Ids.{meets, takes_id, takes_id_of}
use Rattle.dap_mask.proofs.Matches.{head_of, kind_alike, name_alike}
use Rattle.dap_naming.specs.Documents.{Declared, here, below, inside, ids_of, items_ids}
use Rattle.dap_naming.specs.Documents.{members_ids, named_doc, named_items}
use Rattle.dap_naming.specs.Documents.{named_members}
use Rattle.dap_naming.specs.Sessions.{rules_for}
use Rattle.dap_naming.proofs.Lists.{by_bool, same_append}
use Rattle.dap_naming.proofs.Heres.{no_label}
use Rattle.dap_naming.proofs.SoundRules.{inside-same}
use Rattle.dap_naming.proofs.SessionsPlaces.{Avoid, nothing_here, avoid-below, avoid-inside}
use Rattle.dap_naming.proofs.SessionsPlaces.{Placed, avoid_for, Reads, rules_alike}
use Rattle.dap_naming.proofs.SessionsPlaces.{row_of_named}

-- ---- a mark changes no string

text-edit_at : (ps : List PlaceStep) (s : Sort) (w : List ℕ) (p : List Step) (d : Doc)
    → is_text w (at p (edit ps (marked s) d)) ≡ is_text w (at p d)
text-edit_at ps s w p d =
    sym (text-top w (at p (edit ps (marked s) d)))
    ∙ (ap (is_text w) (at-edit ps s d p)
    ∙ (text-top w (cond (fits_place ps p) (option_map (marked s) (at p d)) (at p d))
    ∙ text-marked w s (fits_place ps p) (at p d)))

text-edit : (ps : List PlaceStep) (s : Sort) (w k : List ℕ) (d : Doc)
    → is_text w (get k (edit ps (marked s) d)) ≡ is_text w (get k d)
text-edit ps s w k d =
    ap (is_text w) (sym (one_step k (edit ps (marked s) d)))
    ∙ (text-edit_at ps s w (child k ∷ []) d ∙ ap (is_text w) (one_step k d))

called-edit : (ps : List PlaceStep) (s : Sort) (d : Doc) (n : Option (List ℕ))
    → is_called n (Some (edit ps (marked s) d)) ≡ is_called n (Some d)
called-edit ps s d None = refl
called-edit ps s d (Some n) = text-edit ps s n (codes "name") d

inside-edit : (rs : List Declared) (ps : List PlaceStep) (s : Sort) (d : Doc)
    → inside (edit ps (marked s) d) rs ≡ inside d rs
inside-edit rs ps s d = inside-same _ d rs (λ n. called-edit ps s d n)

-- ---- a change of a member or of the elements, and the names

module _ (rs : List Declared) (number : Numbering) where
  changed_at : (o : Ordering) (k l : List ℕ) (f : Doc → Doc) (e : Doc) (ms : Members)
      → slice_cmp nat_cmp k l ≡ o
      → ((d : Doc) → named_doc (below k rs) number (f d) ≡ f (named_doc (below k rs) number d))
      → named_members rs number (change_member k f ms)
      ≡ change_member k f (named_members rs number ms)
      → named_members rs number
      (match_ordering o (member l e (change_member k f ms)) (member l (f e) ms)
      (member l e (change_member k f ms)))
      ≡ match_ordering o
      (member l (named_doc (below l rs) number e) (change_member k f (named_members rs number ms)))
      (member l (f (named_doc (below l rs) number e)) (named_members rs number ms))
      (member l (named_doc (below l rs) number e) (change_member k f (named_members rs number ms)))
  changed_at Less k l f e ms is h more = ap (member l (named_doc (below l rs) number e)) more
  changed_at Equal k l f e ms is h more =
      let same : k ≡ l = exact_bytes k l is in
      ap (λ d. member l d (named_members rs number ms))
      (ap (λ j. named_doc (below j rs) number (f e)) (sym same)
      ∙ (h e ∙ ap (λ j. f (named_doc (below j rs) number e)) same))
  changed_at Greater k l f e ms is h more = ap (member l (named_doc (below l rs) number e)) more

  changed_member : (k : List ℕ) (f : Doc → Doc)
      → ((d : Doc) → named_doc (below k rs) number (f d) ≡ f (named_doc (below k rs) number d))
      → (ms : Members)
      → named_members rs number (change_member k f ms)
      ≡ change_member k f (named_members rs number ms)
  changed_member k f h no_members = refl
  changed_member k f h (member l e ms) =
      changed_at (slice_cmp nat_cmp k l) k l f e ms refl h (changed_member k f h ms)

  pub changed_child : (k : List ℕ) (f : Doc → Doc)
      → ((d : Doc) → named_doc (below k rs) number (f d) ≡ f (named_doc (below k rs) number d))
      → (d : Doc)
      → named_doc rs number (change_child k f d) ≡ change_child k f (named_doc rs number d)
  changed_child k f h null = refl
  changed_child k f h (boolean b) = refl
  changed_child k f h (whole z) = refl
  changed_child k f h (text s) = refl
  changed_child k f h (list ds) = refl
  changed_child k f h (object ms) = ap object (changed_member k f h ms)
  changed_child k f h (id s z) = refl

  changed_each : (f : Doc → Doc) → ((d : Doc) → inside (f d) rs ≡ inside d rs)
      → ((d : Doc) → named_doc (inside d rs) number (f d) ≡ f (named_doc (inside d rs) number d))
      → (ds : Items)
      → named_items rs number (map_items f ds) ≡ map_items f (named_items rs number ds)
  changed_each f same h no_items = refl
  changed_each f same h (item d ds) =
      ap₂ item (ap (λ qs. named_doc qs number (f d)) (same d) ∙ h d) (changed_each f same h ds)

  changed_items : (f : Doc → Doc) → ((d : Doc) → inside (f d) rs ≡ inside d rs)
      → ((d : Doc) → named_doc (inside d rs) number (f d) ≡ f (named_doc (inside d rs) number d))
      → (d : Doc) → named_doc rs number (change_items f d) ≡ change_items f (named_doc rs number d)
  changed_items f same h null = refl
  changed_items f same h (boolean b) = refl
  changed_items f same h (whole z) = refl
  changed_items f same h (text s) = refl
  changed_items f same h (list ds) = ap list (changed_each f same h ds)
  changed_items f same h (object ms) = refl
  changed_items f same h (id s z) = refl

-- ---- a mark and the names

named_marked : (number : Numbering) (s : Sort) (rs : List Declared) (d : Doc)
    → here rs ≡ no_labels
    → named_doc rs number (marked s d) ≡ marked s (named_doc rs number d)
named_marked number s rs null h = refl
named_marked number s rs (boolean b) h = refl
named_marked number s rs (whole z) h =
    let none = no_label rs form.Whole h in
    by_bool (is_id_of s z) (λ b. rw (none, b) refl) (λ b. rw (none, b) (rw none refl))
named_marked number s rs (text t) h = refl
named_marked number s rs (list ds) h = refl
named_marked number s rs (object ms) h = refl
named_marked number s rs (id r z) h = refl

named_edit : (number : Numbering) (s : Sort) (ps : List PlaceStep) (rs : List Declared) (d : Doc)
    → Avoid ps rs
    → named_doc rs number (edit ps (marked s) d) ≡ edit ps (marked s) (named_doc rs number d)
named_edit number s [] rs d a = named_marked number s rs d (nothing_here rs a)
named_edit number s (named k ∷ ps) rs d a =
    changed_child rs number k (edit ps (marked s))
    (λ e. named_edit number s ps (below k rs) e (avoid-below k ps rs a)) d
named_edit number s (each ∷ ps) rs d a =
    changed_items rs number (edit ps (marked s)) (λ e. inside-edit rs ps s e)
    (λ e. named_edit number s ps (inside e rs) e (avoid-inside e ps rs a)) d

-- ---- a mark and the ids

ids-changed_at : (rs : List Declared) (o : Ordering) (k l : List ℕ) (f : Doc → Doc) (e : Doc)
    (ms : Members) → slice_cmp nat_cmp k l ≡ o
    → ((d : Doc) → ids_of (below k rs) (f d) ≡ ids_of (below k rs) d)
    → members_ids rs (change_member k f ms) ≡ members_ids rs ms
    → members_ids rs
    (match_ordering o (member l e (change_member k f ms)) (member l (f e) ms)
    (member l e (change_member k f ms)))
    ≡ ids_of (below l rs) e ++ members_ids rs ms
ids-changed_at rs Less k l f e ms is h more = ap (λ is. ids_of (below l rs) e ++ is) more
ids-changed_at rs Equal k l f e ms is h more =
    let same : k ≡ l = exact_bytes k l is in
    ap (λ is. is ++ members_ids rs ms)
    (ap (λ j. ids_of (below j rs) (f e)) (sym same)
    ∙ (h e ∙ ap (λ j. ids_of (below j rs) e) same))
ids-changed_at rs Greater k l f e ms is h more = ap (λ is. ids_of (below l rs) e ++ is) more

ids-changed_member : (rs : List Declared) (k : List ℕ) (f : Doc → Doc)
    → ((d : Doc) → ids_of (below k rs) (f d) ≡ ids_of (below k rs) d) → (ms : Members)
    → members_ids rs (change_member k f ms) ≡ members_ids rs ms
ids-changed_member rs k f h no_members = refl
ids-changed_member rs k f h (member l e ms) =
    ids-changed_at rs (slice_cmp nat_cmp k l) k l f e ms refl h (ids-changed_member rs k f h ms)

pub ids-changed_child : (rs : List Declared) (k : List ℕ) (f : Doc → Doc)
    → ((d : Doc) → ids_of (below k rs) (f d) ≡ ids_of (below k rs) d) → (d : Doc)
    → ids_of rs (change_child k f d) ≡ ids_of rs d
ids-changed_child rs k f h null = refl
ids-changed_child rs k f h (boolean b) = refl
ids-changed_child rs k f h (whole z) = refl
ids-changed_child rs k f h (text s) = refl
ids-changed_child rs k f h (list ds) = refl
ids-changed_child rs k f h (object ms) = ids-changed_member rs k f h ms
ids-changed_child rs k f h (id s z) = refl

ids-changed_each : (rs : List Declared) (f : Doc → Doc)
    → ((d : Doc) → inside (f d) rs ≡ inside d rs)
    → ((d : Doc) → ids_of (inside d rs) (f d) ≡ ids_of (inside d rs) d) → (ds : Items)
    → items_ids rs (map_items f ds) ≡ items_ids rs ds
ids-changed_each rs f same h no_items = refl
ids-changed_each rs f same h (item d ds) =
    same_append _ _ _ _ (ap (λ qs. ids_of qs (f d)) (same d) ∙ h d)
    (ids-changed_each rs f same h ds)

ids-changed_items : (rs : List Declared) (f : Doc → Doc)
    → ((d : Doc) → inside (f d) rs ≡ inside d rs)
    → ((d : Doc) → ids_of (inside d rs) (f d) ≡ ids_of (inside d rs) d) → (d : Doc)
    → ids_of rs (change_items f d) ≡ ids_of rs d
ids-changed_items rs f same h null = refl
ids-changed_items rs f same h (boolean b) = refl
ids-changed_items rs f same h (whole z) = refl
ids-changed_items rs f same h (text s) = refl
ids-changed_items rs f same h (list ds) = ids-changed_each rs f same h ds
ids-changed_items rs f same h (object ms) = refl
ids-changed_items rs f same h (id s z) = refl

ids-marked : (s : Sort) (rs : List Declared) (d : Doc) → here rs ≡ no_labels
    → ids_of rs (marked s d) ≡ ids_of rs d
ids-marked s rs null h = refl
ids-marked s rs (boolean b) h = refl
ids-marked s rs (whole z) h =
    by_bool (is_id_of s z) (λ b. rw (b, no_label rs form.Whole h) refl) (λ b. rw b refl)
ids-marked s rs (text t) h = refl
ids-marked s rs (list ds) h = refl
ids-marked s rs (object ms) h = refl
ids-marked s rs (id r z) h = refl

ids-edit : (s : Sort) (ps : List PlaceStep) (rs : List Declared) (d : Doc) → Avoid ps rs
    → ids_of rs (edit ps (marked s) d) ≡ ids_of rs d
ids-edit s [] rs d a = ids-marked s rs d (nothing_here rs a)
ids-edit s (named k ∷ ps) rs d a =
    ids-changed_child rs k (edit ps (marked s))
    (λ e. ids-edit s ps (below k rs) e (avoid-below k ps rs a)) d
ids-edit s (each ∷ ps) rs d a =
    ids-changed_items rs (edit ps (marked s)) (λ e. inside-edit rs ps s e)
    (λ e. ids-edit s ps (inside e rs) e (avoid-inside e ps rs a)) d

-- ---- the rules for a marked message

mark_row_reads : (row : ProfileRow) (side : Side) (d : Doc) → Reads (mark_row row side d) d
mark_row_reads row side d =
    record {
      text = λ w k t. text_of w k (sort_of side row.want) (row_applies row.kind row.name d);
      category = λ w. category_of w (sort_of side row.want) (row_applies row.kind row.name d);
    }
  where
    text_of : (w k : List ℕ) (o : Option Sort) (b : Bool)
        → is_text w (get k (option_map_or (λ s. cond b (edit row.place (marked s) d) d) o d))
        ≡ is_text w (get k d)
    text_of w k None b = refl
    text_of w k (Some s) true = text-edit row.place s w k d
    text_of w k (Some s) false = refl

    category_of : (w : List ℕ) (o : Option Sort) (b : Bool)
        → is_text w
        (at category_path (option_map_or (λ s. cond b (edit row.place (marked s) d) d) o d))
        ≡ is_text w (at category_path d)
    category_of w None b = refl
    category_of w (Some s) true = text-edit_at row.place s w category_path d
    category_of w (Some s) false = refl

pub mark_row_rules : (xs : List Declaration) (row : ProfileRow) (side : Side) (d : Doc)
    → rules_for xs (mark_row row side d) ≡ rules_for xs d
mark_row_rules xs row side d =
    rules_alike (mark_row row side d) d (mark_row_reads row side d) xs

pub marks_rules : (xs : List Declaration) (side : Side) (rows : List ProfileRow) (d : Doc)
    → rules_for xs (mark_rows rows side d) ≡ rules_for xs d
marks_rules xs side [] d = refl
marks_rules xs side (row ∷ rows) d =
    marks_rules xs side rows (mark_row row side d) ∙ mark_row_rules xs row side d

-- ---- no declaration has the place of an id

-- a rule and a row that apply to one document may apply to the same message
both_meet : (r : Rule) (k : Option Kind) (n : Option (List ℕ)) (d : Doc) → has_head r d ≡ true
    → row_applies k n d ≡ true → meets r k n ≡ true
both_meet r None n d h g = refl
both_meet r (Some k) None d h g =
    let one = and_left (is_of_kind r.kind d) (has_name r.kind r.name d) h in
    let name = and_right (is_of_kind r.kind d) (has_name r.kind r.name d) h in
    and_both _ _ (kind_alike r.kind k d one g).0 (name_alike r.kind r.name None d name refl)
both_meet r (Some k) (Some n) d h g =
    let one = and_left (is_of_kind r.kind d) (has_name r.kind r.name d) h in
    let name = and_right (is_of_kind r.kind d) (has_name r.kind r.name d) h in
    let head = and_left (is_of_kind k d && is_text n (get (name_key k) d)) (may_have_body k d) g in
    let kinds = kind_alike r.kind k d one
    (and_left (is_of_kind k d) (is_text n (get (name_key k) d)) head) in
    let other : has_name r.kind (Some n) d ≡ true =
    ap (λ j. has_name j (Some n) d) kinds.1
    ∙ and_right (is_of_kind k d) (is_text n (get (name_key k) d)) head in
    and_both _ _ kinds.0 (name_alike r.kind r.name (Some n) d name other)

not_all : (a b c : Bool) → a ≡ true → c ≡ true → (a && (b && c)) ≡ false → b ≡ false
not_all true false c p q h = refl
not_all true true true p q h = cc
not_all true true false p q h = cc
not_all false b c p q h = cc

free_row : (r : Rule) (row : ProfileRow) (d : Doc) → takes_id r row ≡ false
    → wants_id row.want ≡ true → rule_applies r d ≡ true
    → row_applies row.kind row.name d ≡ true → same_place (plain_place r.place) row.place ≡ false
free_row r row d free wants a b =
    not_all (wants_id row.want) (same_place (plain_place r.place) row.place)
    (meets r row.kind row.name) wants
    (both_meet r row.kind row.name d (head_of r d a) b) free

pub avoid_row : (xs : List Declaration) (row : ProfileRow) (d : Doc) → are_declared xs ≡ true
    → ((r : Rule) → Placed r → takes_id r row ≡ false) → wants_id row.want ≡ true
    → row_applies row.kind row.name d ≡ true → Avoid row.place (rules_for xs d)
avoid_row xs row d h free wants b =
    avoid_for row.place d (λ r p a. free_row r row d (free r p) wants a b) xs h

sort_wanted : (side : Side) (w : Want) (s : Sort) → sort_of side w ≡ Some s → wants_id w ≡ true
sort_wanted Client WantBool s e = cc
sort_wanted Client Whole s e = cc
sort_wanted Client Text s e = cc
sort_wanted Client Object s e = cc
sort_wanted Client WantList s e = cc
sort_wanted Client w s e = refl
sort_wanted Adapter WantBool s e = cc
sort_wanted Adapter Whole s e = cc
sort_wanted Adapter Text s e = cc
sort_wanted Adapter Object s e = cc
sort_wanted Adapter WantList s e = cc
sort_wanted Adapter w s e = refl

module _ (xs : List Declaration) (h : are_declared xs ≡ true) (side : Side) where
  -- ---- the names of a marked message

  mark_row_named : (number : Numbering) (row : ProfileRow)
      → ((r : Rule) → Placed r → takes_id r row ≡ false) → (d : Doc)
      → named_doc (rules_for xs d) number (mark_row row side d)
      ≡ mark_row row side (named_doc (rules_for xs d) number d)
  mark_row_named number row free d =
      go (sort_of side row.want) refl (row_applies row.kind row.name d) refl
      ∙ ap (λ b. option_map_or (λ s. cond b (edit row.place (marked s) e) e)
      (sort_of side row.want) e) (sym (row_of_named xs number d h row.kind row.name))
    where
      e : Doc
      e = named_doc (rules_for xs d) number d

      go : (o : Option Sort) → sort_of side row.want ≡ o → (b : Bool)
          → row_applies row.kind row.name d ≡ b
          → named_doc (rules_for xs d) number
          (option_map_or (λ s. cond b (edit row.place (marked s) d) d) o d)
          ≡ option_map_or (λ s. cond b (edit row.place (marked s) e) e) o e
      go None is b applies = refl
      go (Some s) is true applies =
          named_edit number s row.place (rules_for xs d) d
          (avoid_row xs row d h free (sort_wanted side row.want s is) applies)
      go (Some s) is false applies = refl

  pub marks_named : (number : Numbering) (rows : List ProfileRow)
      → ((r : Rule) → Placed r → takes_id_of r rows ≡ false) → (d : Doc)
      → named_doc (rules_for xs d) number (mark_rows rows side d)
      ≡ mark_rows rows side (named_doc (rules_for xs d) number d)
  marks_named number [] free d = refl
  marks_named number (row ∷ rows) free d =
      let e = mark_row row side d in
      let same = mark_row_rules xs row side d in
      ap (λ rs. named_doc rs number (mark_rows rows side e)) (sym same)
      ∙ (marks_named number rows (λ r p. or_right (takes_id r row) (takes_id_of r rows) (free r p))
      e
      ∙ ap (mark_rows rows side)
      (ap (λ rs. named_doc rs number e) same
      ∙ mark_row_named number row
      (λ r p. or_left (takes_id r row) (takes_id_of r rows) (free r p)) d))

  -- ---- the ids of a marked message

  mark_row_ids : (row : ProfileRow) → ((r : Rule) → Placed r → takes_id r row ≡ false) → (d : Doc)
      → ids_of (rules_for xs d) (mark_row row side d) ≡ ids_of (rules_for xs d) d
  mark_row_ids row free d = go (sort_of side row.want) refl (row_applies row.kind row.name d) refl
    where
      go : (o : Option Sort) → sort_of side row.want ≡ o → (b : Bool)
          → row_applies row.kind row.name d ≡ b
          → ids_of (rules_for xs d)
          (option_map_or (λ s. cond b (edit row.place (marked s) d) d) o d)
          ≡ ids_of (rules_for xs d) d
      go None is b applies = refl
      go (Some s) is true applies =
          ids-edit s row.place (rules_for xs d) d
          (avoid_row xs row d h free (sort_wanted side row.want s is) applies)
      go (Some s) is false applies = refl

  pub marks_ids : (rows : List ProfileRow)
      → ((r : Rule) → Placed r → takes_id_of r rows ≡ false) → (d : Doc)
      → ids_of (rules_for xs d) (mark_rows rows side d) ≡ ids_of (rules_for xs d) d
  marks_ids [] free d = refl
  marks_ids (row ∷ rows) free d =
      let e = mark_row row side d in
      let same = mark_row_rules xs row side d in
      ap (λ rs. ids_of rs (mark_rows rows side e)) (sym same)
      ∙ (marks_ids rows (λ r p. or_right (takes_id r row) (takes_id_of r rows) (free r p)) e
      ∙ (ap (λ rs. ids_of rs e) same
      ∙ mark_row_ids row (λ r p. or_left (takes_id r row) (takes_id_of r rows) (free r p)) d))
