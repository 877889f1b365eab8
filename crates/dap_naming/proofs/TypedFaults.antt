-- A named message violates the same row as the message: a name has the type of its id, and no
-- declaration has the place of an id of the profile.
use Rattle.std.proofs.Common.{◌≡◌, ℕ, ℤ, Bool, true, false, cond, ◌||◌, List, [], ◌∷◌, map}
use Rattle.std.proofs.Common.{Option, Some, None, option_map, refl, ap, ap₂, sym, ◌∙◌}
use Rattle.std.specs.List.{flat_map}
use Rattle.std.specs.Option.{option_map_or, option_or}
use Rattle.std.proofs.lemmas.List.{map-append}
use Rattle.dap_tree.specs.Doc.{Doc, null, boolean, whole, text, list, object, id, Items, no_items}
use Rattle.dap_tree.specs.Doc.{item, Members, get}
use Rattle.dap_tree.proofs.Booleans.{or_left, or_right}
use Rattle.dap_profile.specs.PlaceSteps.{PlaceStep, named, each}
use Rattle.dap_profile.specs.Profile.{profile, wants_id}
use Rattle.dap_profile.specs.ProfileRows.{ProfileRow}
use Rattle.dap_profile.specs.declared.profile.Kind.TheVariants.{Request, Response, Event}
use Rattle.dap_profile.specs.declared.profile.Want.{Want}
use Rattle.dap_profile.specs.declared.profile.Want.TheVariants.{Bool as WantBool, Whole, Text}
use Rattle.dap_profile.specs.declared.profile.Want.TheVariants.{Object, List as WantList}
use Rattle.dap_message.specs.Faults.{broken_by_rows, has_kind}
use Rattle.dap_message.specs.Places.{parts_at, is_object, list_of, elements}
use Rattle.dap_message.specs.Rows.{has_type, is_null, cause_against, first_cause, of_row}
use Rattle.dap_message.specs.Rows.{row_applies, row_fault, first_fault, broken_at}
use Rattle.dap_message.specs.declared.fault.MessageFault.TheVariants.{NotObject, UnknownType}
use Rattle.dap_tokens.specs.{Naming.Numbering, Models.no_labels}
use Rattle.dap_tokens.specs.declared.form.Form.TheVariants as form
use Rattle.dap_mask.specs.Rules.{Rule}
use Rattle.dap_mask.specs.Declarations.{Declaration, are_declared}
use Rattle.dap_mask.specs.Ids.{takes_id, takes_id_of, takes_profile_id}
use Rattle.dap_naming.specs.Documents.{Declared, here, below, inside, named_doc, named_items}
use Rattle.dap_naming.specs.Sessions.{rules_for}
use Rattle.dap_naming.specs.SessionLaws.{NamesKeepFaults}
use Rattle.dap_naming.proofs.Lists.{same_append}
use Rattle.dap_naming.proofs.Heres.{no_label}
use Rattle.dap_naming.proofs.SessionsPlaces.{get-named, Avoid, nothing_here, avoid-below}
use Rattle.dap_naming.proofs.SessionsPlaces.{avoid-inside, Placed, named_reads, kind_alike}
use Rattle.dap_naming.proofs.SessionsPlaces.{row_of_named}
use Rattle.dap_naming.proofs.TypedMarks.{avoid_row}

-- ---- the type of a name

text_type : (w : Want) (s t : List ℕ) → has_type w (text s) ≡ has_type w (text t)
text_type Text s t = refl
text_type w s t = refl

list_type : (w : Want) (ds es : Items) → has_type w (list ds) ≡ has_type w (list es)
list_type WantList ds es = refl
list_type w ds es = refl

object_type : (w : Want) (ms ns : Members) → has_type w (object ms) ≡ has_type w (object ns)
object_type Object ms ns = refl
object_type w ms ns = refl

module _ (number : Numbering) where
  whole_type : (w : Want) (rs : List Declared) (z : ℤ)
      → (wants_id w ≡ true → here rs ≡ no_labels)
      → has_type w (named_doc rs number (whole z)) ≡ has_type w (whole z)
  whole_type WantBool rs z h = refl
  whole_type Whole rs z h = refl
  whole_type Text rs z h = refl
  whole_type Object rs z h = refl
  whole_type WantList rs z h = refl
  whole_type w rs z h = rw (no_label rs form.Whole (h refl)) refl

  named_type : (w : Want) (rs : List Declared) (d : Doc)
      → (wants_id w ≡ true → here rs ≡ no_labels)
      → has_type w (named_doc rs number d) ≡ has_type w d
  named_type w rs null h = refl
  named_type w rs (boolean b) h = refl
  named_type w rs (whole z) h = whole_type w rs z h
  named_type w rs (text s) h = text_type w _ s
  named_type w rs (list ds) h = list_type w _ ds
  named_type w rs (object ms) h = object_type w _ ms
  named_type w rs (id s z) h = refl

  named_null : (rs : List Declared) (d : Doc) → is_null (named_doc rs number d) ≡ is_null d
  named_null rs null = refl
  named_null rs (boolean b) = refl
  named_null rs (whole z) = refl
  named_null rs (text s) = refl
  named_null rs (list ds) = refl
  named_null rs (object ms) = refl
  named_null rs (id s z) = refl

  named_object : (rs : List Declared) (d : Doc) → is_object (named_doc rs number d) ≡ is_object d
  named_object rs null = refl
  named_object rs (boolean b) = refl
  named_object rs (whole z) = refl
  named_object rs (text s) = refl
  named_object rs (list ds) = refl
  named_object rs (object ms) = refl
  named_object rs (id s z) = refl

  -- ---- the values at the place of a row

  module _ (w : Want) (needed : Bool) where
    cause_named : (rs : List Declared) (o : Option Doc)
        → (wants_id w ≡ true → here rs ≡ no_labels)
        → cause_against w needed (option_map (named_doc rs number) o) ≡ cause_against w needed o
    cause_named rs None h = refl
    cause_named rs (Some d) h =
        rw (named_type w rs d h, named_null rs d) refl

    abbrev Kept : List PlaceStep → List Declared → Doc → Type 0
    Kept ps rs d =
        map (cause_against w needed) (parts_at ps (named_doc rs number d))
        ≡ map (cause_against w needed) (parts_at ps d)

    kept_below : (ps : List PlaceStep) (rs : List Declared) (o : Option Doc)
        → ((e : Doc) → Kept ps rs e)
        → map (cause_against w needed)
        (option_map_or (parts_at ps) (option_map (named_doc rs number) o) [])
        ≡ map (cause_against w needed) (option_map_or (parts_at ps) o [])
    kept_below ps rs None h = refl
    kept_below ps rs (Some e) h = h e

    kept_items : (ps : List PlaceStep) (rs : List Declared) (ds : Items)
        → ((e : Doc) → Kept ps (inside e rs) e)
        → map (cause_against w needed)
        (flat_map (parts_at ps) (elements (named_items rs number ds)))
        ≡ map (cause_against w needed) (flat_map (parts_at ps) (elements ds))
    kept_items ps rs no_items h = refl
    kept_items ps rs (item d ds) h =
        map-append _ (parts_at ps (named_doc (inside d rs) number d)) _
        ∙ (same_append _ _ _ _ (h d) (kept_items ps rs ds h)
        ∙ sym (map-append _ (parts_at ps d) _))

    kept_list : (ps : List PlaceStep) (rs : List Declared) (d : Doc)
        → ((e : Doc) → Kept ps (inside e rs) e)
        → map (cause_against w needed)
        (option_map_or (flat_map (parts_at ps)) (list_of (named_doc rs number d)) [])
        ≡ map (cause_against w needed) (option_map_or (flat_map (parts_at ps)) (list_of d) [])
    kept_list ps rs null h = refl
    kept_list ps rs (boolean b) h = refl
    kept_list ps rs (whole z) h = refl
    kept_list ps rs (text s) h = refl
    kept_list ps rs (list ds) h = kept_items ps rs ds h
    kept_list ps rs (object ms) h = refl
    kept_list ps rs (id s z) h = refl

    kept_member : (rs : List Declared) (b : Bool) (o : Option Doc)
        → (wants_id w ≡ true → here rs ≡ no_labels)
        → map (cause_against w needed) (cond b (option_map (named_doc rs number) o ∷ []) [])
        ≡ map (cause_against w needed) (cond b (o ∷ []) [])
    kept_member rs true o h = ap (λ c. c ∷ []) (cause_named rs o h)
    kept_member rs false o h = refl

    parts_named : (ps : List PlaceStep) (rs : List Declared) (d : Doc)
        → (wants_id w ≡ true → Avoid ps rs) → Kept ps rs d
    parts_named [] rs d a = ap (λ c. c ∷ []) (cause_named rs (Some d) (λ e. nothing_here rs (a e)))
    parts_named (named k ∷ []) rs d a =
        ap₂ (λ b o. map (cause_against w needed) (cond b (o ∷ []) []))
        (named_object rs d) (get-named rs number k d)
        ∙ kept_member (below k rs) (is_object d) (get k d)
        (λ e. nothing_here (below k rs) (avoid-below k [] rs (a e)))
    parts_named (named k ∷ p ∷ ps) rs d a =
        ap (λ o. map (cause_against w needed) (option_map_or (parts_at (p ∷ ps)) o []))
        (get-named rs number k d)
        ∙ kept_below (p ∷ ps) (below k rs) (get k d)
        (λ e. parts_named (p ∷ ps) (below k rs) e (λ i. avoid-below k (p ∷ ps) rs (a i)))
    parts_named (each ∷ ps) rs d a =
        kept_list ps rs d
        (λ e. parts_named ps (inside e rs) e (λ i. avoid-inside e ps rs (a i)))

-- ---- the rows

module _ (xs : List Declaration) (h : are_declared xs ≡ true) (number : Numbering) (d : Doc) where
  abbrev e : Doc
  e = named_doc (rules_for xs d) number d

  row_named : (row : ProfileRow) → ((r : Rule) → Placed r → takes_id r row ≡ false)
      → row_fault row e ≡ row_fault row d
  row_named row free =
      ap (λ b. cond b (option_map (of_row row.number)
      (broken_at row.place row.want row.needed e)) None)
      (row_of_named xs number d h row.kind row.name)
      ∙ go (row_applies row.kind row.name d) refl
    where
      go : (b : Bool) → row_applies row.kind row.name d ≡ b
          → cond b (option_map (of_row row.number) (broken_at row.place row.want row.needed e)) None
          ≡ cond b (option_map (of_row row.number) (broken_at row.place row.want row.needed d)) None
      go true applies =
          ap (λ cs. option_map (of_row row.number) (first_cause cs))
          (parts_named number row.want row.needed row.place (rules_for xs d) d
          (λ w. avoid_row xs row d h free w applies))
      go false applies = refl

  rows_named : (rows : List ProfileRow) → ((r : Rule) → Placed r → takes_id_of r rows ≡ false)
      → first_fault rows e ≡ first_fault rows d
  rows_named [] free = refl
  rows_named (row ∷ rows) free =
      ap₂ option_or
      (row_named row (λ r p. or_left (takes_id r row) (takes_id_of r rows) (free r p)))
      (rows_named rows (λ r p. or_right (takes_id r row) (takes_id_of r rows) (free r p)))

  kind_named : has_kind e ≡ has_kind d
  kind_named =
      let same = kind_alike e d (named_reads xs number d h) in
      ap₂ (λ a b. a || b) (ap₂ (λ a b. a || b) (same Request) (same Response)) (same Event)

  broken_named : broken_by_rows profile e ≡ broken_by_rows profile d
  unfolding broken_by_rows takes_profile_id
  broken_named = rows_named profile (λ r p. p.3)

pub names_keep_faults : NamesKeepFaults
names_keep_faults xs number d h =
    let rs = rules_for xs d in
    ap₂ (λ a b. cond a b (Some NotObject)) (named_object number rs d)
    (ap₂ (λ a b. cond a b (Some UnknownType)) (kind_named xs h number d)
    (broken_named xs h number d))
