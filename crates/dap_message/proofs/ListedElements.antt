-- Each element that a message lists has a view.
use Rattle.dap_tree.specs.Doc.{Doc, null, boolean, whole, text, list, object, id, get, is_plain}
use Rattle.dap_tree.specs.Ids.{skeleton, with_ids, without_ids}
use Rattle.dap_tree.specs.declared.side.Side.{Side}
use Rattle.dap_tree.proofs.Booleans.{and_both, and_left, and_right}
use Rattle.dap_tree.proofs.IdNumbers.{skeleton-with}
use Rattle.std.proofs.Common.{◌≡◌, ℕ, ℤ, Bool, true, false, cond, ◌&&◌, List, [], ◌∷◌, ◌++◌, map}
use Rattle.std.proofs.Common.{filter_map, Option, Some, None, option_map, option_and_then, codes}
use Rattle.std.proofs.Common.{refl, sym, ◌∙◌, ap, ap₂, subst}
use Rattle.std.specs.List.{list_all, flat_map, cons_option}
use Rattle.std.specs.Option.{is_some, option_or, option_map_or, unwrap_or}
use Rattle.dap_profile.specs.PlaceSteps.{PlaceStep, named, each}
use Rattle.dap_profile.specs.Profile.{profile, first_rows, later_rows}
use Rattle.dap_profile.specs.ProfileRows.{ProfileRow}
use Rattle.dap_profile.specs.declared.profile.Kind.TheVariants.{Response}
use Rattle.dap_profile.specs.declared.profile.Want.{Want}
use Rattle.dap_profile.specs.declared.profile.Want.TheVariants.{Whole, Text, Object, Frame}
use Rattle.dap_profile.specs.declared.profile.Want.TheVariants.{Reference}
use Rattle.dap_message.specs.Envelope.{text_value}
use Rattle.dap_message.specs.Faults.{Fits, has_kind, row_broken}
use Rattle.dap_message.specs.Message.{IsTyped, IsTypedContent}
use Rattle.dap_message.specs.Places.{parts_at, is_object, list_of}
use Rattle.dap_message.specs.Rows.{row_applies, is_id_number, cause_against, first_cause, broken_at}
use Rattle.dap_message.specs.Rows.{of_row, row_fault, first_fault}
use Rattle.dap_message.specs.Views.{number_value, reference_value, frame_from, scope_from}
use Rattle.dap_message.specs.Views.{variable_from, frame_of, scope_of, variable_of, frames_of}
use Rattle.dap_message.specs.Views.{scopes_of, variables_of, listed, listed_frames, listed_scopes}
use Rattle.dap_message.specs.Views.{listed_variables, are_frames, are_scopes, are_variables}
use Rattle.dap_message.specs.Views.{shows_all}
use Rattle.dap_message.specs.declared.broken_rows.Cause.{Cause}
use Rattle.dap_message.specs.declared.broken_rows.Cause.TheVariants.{WrongType}
use Rattle.dap_message.specs.declared.fault.MessageFault.TheVariants.{NotObject, UnknownType}
use Rattle.dap_tree.proofs.Outcomes.{read_is_plain}
use Rattle.dap_message.proofs.Contents.{own_again}
use Rattle.dap_message.proofs.Edits.{by_bool}
use Rattle.dap_message.proofs.Envelopes.{fault_free, fault_parts, free_at, free_cause, one_cause}
use Rattle.dap_message.proofs.Envelopes.{rows_free}
use Rattle.dap_message.proofs.Shapes.{KeepsShape, asked-shape, skeleton_keeps, without_keeps}

-- ---- the elements of an array, with the ids as integers or with all numbers 0

module _ (h : Doc → Doc) (keeps : KeepsShape h) where
  list-shape : (o : Option Doc)
      → option_and_then list_of (option_map h o) ≡ option_map (map h) (option_and_then list_of o)
  list-shape None = refl
  list-shape (Some d) = keeps.list d

  inside-shape : (k : List ℕ) (o : Option Doc)
      → option_and_then (get k) (option_map h o) ≡ option_map h (option_and_then (get k) o)
  inside-shape k None = refl
  inside-shape k (Some d) = keeps.member k d

  or_none : (o : Option (List Doc)) → unwrap_or (option_map (map h) o) [] ≡ map h (unwrap_or o [])
  or_none None = refl
  or_none (Some ds) = refl

  if_asked : (b : Bool) (ds : List Doc) → cond b (map h ds) [] ≡ map h (cond b ds [])
  if_asked true ds = refl
  if_asked false ds = refl

  listed-shape : (command name : List ℕ) (d : Doc)
      → listed command name (h d) ≡ map h (listed command name d)
  listed-shape command name d =
      let body = get (codes "body") d in
      let inner = option_and_then (get name) body in
      let lists : option_and_then list_of (option_and_then (get name) (get (codes "body") (h d)))
      ≡ option_map (map h) (option_and_then list_of inner) =
      ap (λ o. option_and_then list_of (option_and_then (get name) o))
      (keeps.member (codes "body") d)
      ∙ ap (option_and_then list_of) (inside-shape name body)
      ∙ list-shape inner in
      ap₂ (λ b o. cond b (unwrap_or o []) []) (asked-shape h keeps d (Some Response) (Some command))
      lists
      ∙ ap (λ ds. cond (row_applies (Some Response) (Some command) d) ds [])
      (or_none (option_and_then list_of inner))
      ∙ if_asked (row_applies (Some Response) (Some command) d)
      (unwrap_or (option_and_then list_of inner) [])

-- ---- a view exists, whatever the numbers of the ids are

name-skeleton : (o : Option Doc)
    → is_some (text_value (option_map skeleton o)) ≡ is_some (text_value o)
name-skeleton None = refl
name-skeleton (Some null) = refl
name-skeleton (Some (boolean b)) = refl
name-skeleton (Some (whole z)) = refl
name-skeleton (Some (text s)) = refl
name-skeleton (Some (list ds)) = refl
name-skeleton (Some (object ms)) = refl
name-skeleton (Some (id s z)) = refl

number-skeleton : (o : Option Doc)
    → is_some (number_value (option_map skeleton o)) ≡ is_some (number_value o)
number-skeleton None = refl
number-skeleton (Some null) = refl
number-skeleton (Some (boolean b)) = refl
number-skeleton (Some (whole z)) = refl
number-skeleton (Some (text s)) = refl
number-skeleton (Some (list ds)) = refl
number-skeleton (Some (object ms)) = refl
number-skeleton (Some (id s z)) = refl

reference-skeleton : (o : Option Doc)
    → is_some (reference_value (option_map skeleton o)) ≡ is_some (reference_value o)
reference-skeleton None = refl
reference-skeleton (Some null) = refl
reference-skeleton (Some (boolean b)) = refl
reference-skeleton (Some (whole z)) = refl
reference-skeleton (Some (text s)) = refl
reference-skeleton (Some (list ds)) = refl
reference-skeleton (Some (object ms)) = refl
reference-skeleton (Some (id s z)) = refl

-- a view exists if each of its parts does
frame_parts : (a : Option ℤ) (b : Option (List ℕ)) (c d : Option ℤ)
    → is_some (frame_from a b c d) ≡ is_some a && is_some b && is_some c && is_some d
frame_parts (Some i) (Some n) (Some l) (Some c) = refl
frame_parts (Some i) (Some n) (Some l) None = refl
frame_parts (Some i) (Some n) None d = refl
frame_parts (Some i) None c d = refl
frame_parts None b c d = refl

scope_parts : (a : Option (List ℕ)) (b : Option ℤ)
    → is_some (scope_from a b) ≡ is_some a && is_some b
scope_parts (Some n) (Some r) = refl
scope_parts (Some n) None = refl
scope_parts None b = refl

variable_parts : (a b : Option (List ℕ)) (c : Option ℤ)
    → is_some (variable_from a b c) ≡ is_some a && is_some b && is_some c
variable_parts (Some n) (Some v) (Some r) = refl
variable_parts (Some n) (Some v) None = refl
variable_parts (Some n) None c = refl
variable_parts None b c = refl

name_at-skeleton : (k : List ℕ) (d : Doc)
    → is_some (text_value (get k (skeleton d))) ≡ is_some (text_value (get k d))
name_at-skeleton k d =
    ap (λ o. is_some (text_value o)) (skeleton_keeps.member k d) ∙ name-skeleton (get k d)

number_at-skeleton : (k : List ℕ) (d : Doc)
    → is_some (number_value (get k (skeleton d))) ≡ is_some (number_value (get k d))
number_at-skeleton k d =
    ap (λ o. is_some (number_value o)) (skeleton_keeps.member k d) ∙ number-skeleton (get k d)

reference_at-skeleton : (k : List ℕ) (d : Doc)
    → is_some (reference_value (get k (skeleton d))) ≡ is_some (reference_value (get k d))
reference_at-skeleton k d =
    ap (λ o. is_some (reference_value o)) (skeleton_keeps.member k d) ∙ reference-skeleton (get k d)

frame-skeleton : (d : Doc) → is_some (frame_of (skeleton d)) ≡ is_some (frame_of d)
frame-skeleton d =
    frame_parts (reference_value (get (codes "id") (skeleton d)))
    (text_value (get (codes "name") (skeleton d)))
    (number_value (get (codes "line") (skeleton d)))
    (number_value (get (codes "column") (skeleton d)))
    ∙ ap₂ (λ a b. a && b)
    (ap₂ (λ a b. a && b)
    (ap₂ (λ a b. a && b) (reference_at-skeleton (codes "id") d)
    (name_at-skeleton (codes "name") d)) (number_at-skeleton (codes "line") d))
    (number_at-skeleton (codes "column") d)
    ∙ sym (frame_parts (reference_value (get (codes "id") d)) (text_value (get (codes "name") d))
    (number_value (get (codes "line") d)) (number_value (get (codes "column") d)))

scope-skeleton : (d : Doc) → is_some (scope_of (skeleton d)) ≡ is_some (scope_of d)
scope-skeleton d =
    scope_parts (text_value (get (codes "name") (skeleton d)))
    (reference_value (get (codes "variablesReference") (skeleton d)))
    ∙ ap₂ (λ a b. a && b) (name_at-skeleton (codes "name") d)
    (reference_at-skeleton (codes "variablesReference") d)
    ∙ sym (scope_parts (text_value (get (codes "name") d))
    (reference_value (get (codes "variablesReference") d)))

variable-skeleton : (d : Doc) → is_some (variable_of (skeleton d)) ≡ is_some (variable_of d)
variable-skeleton d =
    variable_parts (text_value (get (codes "name") (skeleton d)))
    (text_value (get (codes "value") (skeleton d)))
    (reference_value (get (codes "variablesReference") (skeleton d)))
    ∙ ap₂ (λ a b. a && b)
    (ap₂ (λ a b. a && b) (name_at-skeleton (codes "name") d)
    (name_at-skeleton (codes "value") d)) (reference_at-skeleton (codes "variablesReference") d)
    ∙ sym (variable_parts (text_value (get (codes "name") d)) (text_value (get (codes "value") d))
    (reference_value (get (codes "variablesReference") d)))

all_alike : (p : Doc → Bool) (h : Doc → Doc) → ((d : Doc) → p (h d) ≡ p d) → (ds : List Doc)
    → list_all p (map h ds) ≡ list_all p ds
all_alike p h same [] = refl
all_alike p h same (d ∷ ds) = ap₂ (λ a b. a && b) (same d) (all_alike p h same ds)

shows_all-skeleton : (d : Doc) → shows_all (skeleton d) ≡ shows_all d
shows_all-skeleton d =
    ap₂ (λ a b. a && b)
    (ap₂ (λ a b. a && b)
    (ap are_frames
    (listed-shape skeleton skeleton_keeps (codes "stackTrace") (codes "stackFrames") d)
    ∙ all_alike (λ e. is_some (frame_of e)) skeleton frame-skeleton (listed_frames d))
    (ap are_scopes (listed-shape skeleton skeleton_keeps (codes "scopes") (codes "scopes") d)
    ∙ all_alike (λ e. is_some (scope_of e)) skeleton scope-skeleton (listed_scopes d)))
    (ap are_variables
    (listed-shape skeleton skeleton_keeps (codes "variables") (codes "variables") d)
    ∙ all_alike (λ e. is_some (variable_of e)) skeleton variable-skeleton (listed_variables d))

-- documents with the same skeleton have views of the same elements
pub shows_all-alike : (m n : Doc) → skeleton n ≡ skeleton m → shows_all n ≡ shows_all m
shows_all-alike m n same = sym (shows_all-skeleton n) ∙ ap shows_all same ∙ shows_all-skeleton m

-- other numbers at the ids change nothing
pub shows_all-with : (d : Doc) (ns : List ℤ) → shows_all (with_ids d ns) ≡ shows_all d
shows_all-with d ns = shows_all-alike d (with_ids d ns) (skeleton-with d ns)

-- ---- a view exists if it exists with the ids as integers

name-without : (o : Option Doc) → is_some (text_value (option_map without_ids o)) ≡ true
    → is_some (text_value o) ≡ true
name-without None h = h
name-without (Some null) h = h
name-without (Some (boolean b)) h = h
name-without (Some (whole z)) h = h
name-without (Some (text s)) h = h
name-without (Some (list ds)) h = h
name-without (Some (object ms)) h = h
name-without (Some (id s z)) h = cc

number-without : (o : Option Doc) → is_some (number_value (option_map without_ids o)) ≡ true
    → is_some (number_value o) ≡ true
number-without None h = h
number-without (Some null) h = h
number-without (Some (boolean b)) h = h
number-without (Some (whole z)) h = h
number-without (Some (text s)) h = h
number-without (Some (list ds)) h = h
number-without (Some (object ms)) h = h
number-without (Some (id s z)) h = refl

reference-without : (o : Option Doc) → is_some (reference_value (option_map without_ids o)) ≡ true
    → is_some (reference_value o) ≡ true
reference-without None h = h
reference-without (Some null) h = h
reference-without (Some (boolean b)) h = h
reference-without (Some (whole z)) h = h
reference-without (Some (text s)) h = h
reference-without (Some (list ds)) h = h
reference-without (Some (object ms)) h = h
reference-without (Some (id s z)) h = refl

-- ---- what the rows require of each element

-- a required value without a violation exists and has the expected type
text_well : (o : Option Doc) → cause_against Text true o ≡ None → is_some (text_value o) ≡ true
text_well None h = cc
text_well (Some null) h = cc
text_well (Some (boolean b)) h = cc
text_well (Some (whole z)) h = cc
text_well (Some (text s)) h = refl
text_well (Some (list ds)) h = cc
text_well (Some (object ms)) h = cc
text_well (Some (id s z)) h = cc

whole_well : (o : Option Doc) → cause_against Whole true o ≡ None → is_some (number_value o) ≡ true
whole_well None h = cc
whole_well (Some null) h = cc
whole_well (Some (boolean b)) h = cc
whole_well (Some (whole z)) h = refl
whole_well (Some (text s)) h = cc
whole_well (Some (list ds)) h = cc
whole_well (Some (object ms)) h = cc
whole_well (Some (id s z)) h = refl

in_range_well : (b : Bool) (z : ℤ) → cond b None (Some WrongType) ≡ None
    → is_some (cond b (Some z) None) ≡ true
in_range_well true z h = refl
in_range_well false z h = cc

object_well : (o : Option Doc) → cause_against Object true o ≡ None
    → option_map_or is_object o false ≡ true
object_well None h = cc
object_well (Some null) h = cc
object_well (Some (boolean b)) h = cc
object_well (Some (whole z)) h = cc
object_well (Some (text s)) h = cc
object_well (Some (list ds)) h = cc
object_well (Some (object ms)) h = refl
object_well (Some (id s z)) h = cc

frame_well : (o : Option Doc) → cause_against Frame true o ≡ None
    → is_some (reference_value o) ≡ true
frame_well None h = cc
frame_well (Some null) h = cc
frame_well (Some (boolean b)) h = cc
frame_well (Some (whole z)) h = in_range_well (is_id_number z) z h
frame_well (Some (text s)) h = cc
frame_well (Some (list ds)) h = cc
frame_well (Some (object ms)) h = cc
frame_well (Some (id s z)) h = cc

reference_well : (o : Option Doc) → cause_against Reference true o ≡ None
    → is_some (reference_value o) ≡ true
reference_well None h = cc
reference_well (Some null) h = cc
reference_well (Some (boolean b)) h = cc
reference_well (Some (whole z)) h = in_range_well (is_id_number z) z h
reference_well (Some (text s)) h = cc
reference_well (Some (list ds)) h = cc
reference_well (Some (object ms)) h = cc
reference_well (Some (id s z)) h = cc

-- the value at a row's path has no violation in each of the documents
abbrev AllWell : List PlaceStep → Want → List Doc → Type 0
AllWell ps w [] = Unit {0}
AllWell ps w (d ∷ ds) = (broken_at ps w true d ≡ None) × AllWell ps w ds

first_cause-append : (f : Option Doc → Option Cause) (xs ys : List (Option Doc))
    → first_cause (map f (xs ++ ys)) ≡ None
    → (first_cause (map f xs) ≡ None) × (first_cause (map f ys) ≡ None)
first_cause-append f [] ys h = (refl, h)
first_cause-append f (x ∷ xs) ys h =
    let p = fault_free (f x) (first_cause (map f (xs ++ ys))) h in
    let q = first_cause-append f xs ys p.1 in
    (ap (λ o. option_or o (first_cause (map f xs))) p.0 ∙ q.0, q.1)

all_well : (ps : List PlaceStep) (w : Want) (ds : List Doc)
    → first_cause (map (cause_against w true) (flat_map (parts_at ps) ds)) ≡ None → AllWell ps w ds
all_well ps w [] h = tt
all_well ps w (d ∷ ds) h =
    let p = first_cause-append (cause_against w true) (parts_at ps d) (flat_map (parts_at ps) ds) h
    in
    (p.0, all_well ps w ds p.1)

-- the values at a row's path in each element of an array of the body
found_each : (ps : List PlaceStep) (name : List ℕ) (body : Option Doc)
    → option_map_or (parts_at (named name ∷ each ∷ ps)) body []
    ≡ flat_map (parts_at ps)
    (unwrap_or (option_and_then list_of (option_and_then (get name) body)) [])
found_each ps name None = refl
found_each ps name (Some b) = go (get name b)
  where
    inner : (o : Option (List Doc))
        → option_map_or (flat_map (parts_at ps)) o [] ≡ flat_map (parts_at ps) (unwrap_or o [])
    inner None = refl
    inner (Some ds) = refl

    go : (o : Option Doc)
        → option_map_or (parts_at (each ∷ ps)) o []
        ≡ flat_map (parts_at ps) (unwrap_or (option_and_then list_of o) [])
    go None = refl
    go (Some e) = inner (list_of e)

-- a required row for each element of an array of the body
abbrev row_of_each : ℕ → List ℕ → List ℕ → List PlaceStep → Want → ProfileRow
row_of_each n command name ps w =
    record {
      number = n;
      kind = Some Response;
      name = Some command;
      place = named (codes "body")
          ∷ named name ∷ each ∷ ps;
      want = w;
      needed = true;
    }

each_well : (n : ℕ) (command name : List ℕ) (ps : List PlaceStep) (w : Want) (d : Doc)
    → row_applies (Some Response) (Some command) d ≡ true
    → row_fault (row_of_each n command name ps w) d ≡ None
    → AllWell ps w
    (unwrap_or (option_and_then list_of (option_and_then (get name) (get (codes "body") d))) [])
each_well n command name ps w d asked free =
    let p : List PlaceStep = named (codes "body") ∷ named name ∷ each ∷ ps in
    let a : option_map (of_row n) (broken_at p w true d) ≡ None = rw asked at free in
    let b : broken_at p w true d ≡ None = free_cause n (broken_at p w true d) a in
    all_well ps w _
    (ap (λ os. first_cause (map (cause_against w true) os))
    (sym (found_each ps name (get (codes "body") d))) ∙ b)

-- the elements of a message's array, with their ids as integers, have no violation if the row of
-- the array is not violated
listed_well : (n : ℕ) (command name : List ℕ) (ps : List PlaceStep) (w : Want) (m : Doc)
    → row_applies (Some Response) (Some command) (without_ids m) ≡ true
    → row_fault (row_of_each n command name ps w) (without_ids m) ≡ None
    → AllWell ps w (map without_ids (listed command name m))
listed_well n command name ps w m asked free =
    let ds = unwrap_or
    (option_and_then list_of (option_and_then (get name) (get (codes "body") (without_ids m))))
    [] in
    subst (AllWell ps w) (sym (ap (λ b. cond b ds []) asked)
    ∙ listed-shape without_ids without_keeps command name m)
    (each_well n command name ps w (without_ids m) asked free)

member_well : (k : List ℕ) (w : Want) (d : Doc) → is_object (without_ids d) ≡ true
    → broken_at (named k ∷ []) w true (without_ids d) ≡ None
    → cause_against w true (option_map without_ids (get k d)) ≡ None
member_well k w d ob h =
    let one : first_cause (cause_against w true (get k (without_ids d)) ∷ []) ≡ None = rw ob at h in
    ap (cause_against w true) (sym (without_keeps.member k d))
    ∙ one_cause (cause_against w true (get k (without_ids d))) one

text_there : (k : List ℕ) (d : Doc) → is_object (without_ids d) ≡ true
    → broken_at (named k ∷ []) Text true (without_ids d) ≡ None
    → is_some (text_value (get k d)) ≡ true
text_there k d ob h =
    name-without (get k d)
    (text_well (option_map without_ids (get k d)) (member_well k Text d ob h))

whole_there : (k : List ℕ) (d : Doc) → is_object (without_ids d) ≡ true
    → broken_at (named k ∷ []) Whole true (without_ids d) ≡ None
    → is_some (number_value (get k d)) ≡ true
whole_there k d ob h =
    number-without (get k d)
    (whole_well (option_map without_ids (get k d)) (member_well k Whole d ob h))

frame_there : (k : List ℕ) (d : Doc) → is_object (without_ids d) ≡ true
    → broken_at (named k ∷ []) Frame true (without_ids d) ≡ None
    → is_some (reference_value (get k d)) ≡ true
frame_there k d ob h =
    reference-without (get k d)
    (frame_well (option_map without_ids (get k d)) (member_well k Frame d ob h))

reference_there : (k : List ℕ) (d : Doc) → is_object (without_ids d) ≡ true
    → broken_at (named k ∷ []) Reference true (without_ids d) ≡ None
    → is_some (reference_value (get k d)) ≡ true
reference_there k d ob h =
    reference-without (get k d)
    (reference_well (option_map without_ids (get k d)) (member_well k Reference d ob h))

object_there : (d : Doc) → broken_at [] Object true d ≡ None → is_object d ≡ true
object_there d h = object_well (Some d) (one_cause (cause_against Object true (Some d)) h)

-- ---- all elements

frames_there : (ds : List Doc) → AllWell [] Object (map without_ids ds)
    → AllWell (named (codes "id") ∷ []) Frame (map without_ids ds)
    → AllWell (named (codes "name") ∷ []) Text (map without_ids ds)
    → AllWell (named (codes "line") ∷ []) Whole (map without_ids ds)
    → AllWell (named (codes "column") ∷ []) Whole (map without_ids ds) → are_frames ds ≡ true
frames_there [] o i n l c = refl
frames_there (d ∷ ds) o i n l c =
    let ob = object_there (without_ids d) o.0 in
    let a = reference_value (get (codes "id") d) in
    let b = text_value (get (codes "name") d) in
    let e = number_value (get (codes "line") d) in
    let f = number_value (get (codes "column") d) in
    let parts : (is_some a && is_some b && is_some e && is_some f) ≡ true =
    and_both (is_some a && is_some b && is_some e) (is_some f)
    (and_both (is_some a && is_some b) (is_some e)
    (and_both (is_some a) (is_some b) (frame_there (codes "id") d ob i.0)
    (text_there (codes "name") d ob n.0)) (whole_there (codes "line") d ob l.0))
    (whole_there (codes "column") d ob c.0) in
    and_both (is_some (frame_of d)) (are_frames ds) (frame_parts a b e f ∙ parts)
    (frames_there ds o.1 i.1 n.1 l.1 c.1)

scopes_there : (ds : List Doc) → AllWell [] Object (map without_ids ds)
    → AllWell (named (codes "name") ∷ []) Text (map without_ids ds)
    → AllWell (named (codes "variablesReference") ∷ []) Reference (map without_ids ds)
    → are_scopes ds ≡ true
scopes_there [] o n r = refl
scopes_there (d ∷ ds) o n r =
    let ob = object_there (without_ids d) o.0 in
    let a = text_value (get (codes "name") d) in
    let b = reference_value (get (codes "variablesReference") d) in
    and_both (is_some (scope_of d)) (are_scopes ds)
    (scope_parts a b
    ∙ and_both (is_some a) (is_some b) (text_there (codes "name") d ob n.0)
    (reference_there (codes "variablesReference") d ob r.0))
    (scopes_there ds o.1 n.1 r.1)

variables_there : (ds : List Doc) → AllWell [] Object (map without_ids ds)
    → AllWell (named (codes "name") ∷ []) Text (map without_ids ds)
    → AllWell (named (codes "value") ∷ []) Text (map without_ids ds)
    → AllWell (named (codes "variablesReference") ∷ []) Reference (map without_ids ds)
    → are_variables ds ≡ true
variables_there [] o n v r = refl
variables_there (d ∷ ds) o n v r =
    let ob = object_there (without_ids d) o.0 in
    let a = text_value (get (codes "name") d) in
    let b = text_value (get (codes "value") d) in
    let e = reference_value (get (codes "variablesReference") d) in
    and_both (is_some (variable_of d)) (are_variables ds)
    (variable_parts a b e
    ∙ and_both (is_some a && is_some b) (is_some e)
    (and_both (is_some a) (is_some b) (text_there (codes "name") d ob n.0)
    (text_there (codes "value") d ob v.0))
    (reference_there (codes "variablesReference") d ob r.0))
    (variables_there ds o.1 n.1 v.1 r.1)

-- an array to which no row applies is empty
none_listed : (p : Doc → Bool) (command name : List ℕ) (m : Doc)
    → row_applies (Some Response) (Some command) m ≡ false → list_all p (listed command name m)
    ≡ true
none_listed p command name m h =
    ap (λ b. list_all p
    (cond b (unwrap_or (option_and_then list_of (option_and_then (get name) (get (codes "body") m)))
    []) [])) h

-- Each element of the array passes the test if the message with its ids as integers violates no
-- row, provided that it does so if the row applies.
all_listed : (p : Doc → Bool) (command name : List ℕ) (m : Doc)
    → (row_applies (Some Response) (Some command) (without_ids m) ≡ true
    → list_all p (listed command name m) ≡ true) → list_all p (listed command name m) ≡ true
all_listed p command name m asked =
    by_bool (row_applies (Some Response) (Some command) (without_ids m)) asked
    (λ no. none_listed p command name m
    (sym (asked-shape without_ids without_keeps m (Some Response) (Some command)) ∙ no))

frames_listed : (m : Doc) → first_fault profile (without_ids m) ≡ None
    → are_frames (listed_frames m) ≡ true
unfolding profile first_rows later_rows
frames_listed m h =
    let command = codes "stackTrace" in
    let name = codes "stackFrames" in
    let e = without_ids m in
    all_listed (λ d. is_some (frame_of d)) command name m
    (λ asked. frames_there (listed_frames m)
    (listed_well 61 command name [] Object m asked
    (free_at 60 profile (row_of_each 61 command name [] Object) e h refl))
    (listed_well 62 command name (named (codes "id") ∷ []) Frame m asked
    (free_at 61 profile (row_of_each 62 command name (named (codes "id") ∷ []) Frame) e h refl))
    (listed_well 63 command name (named (codes "name") ∷ []) Text m asked
    (free_at 62 profile (row_of_each 63 command name (named (codes "name") ∷ []) Text) e h
    refl))
    (listed_well 64 command name (named (codes "line") ∷ []) Whole m asked
    (free_at 63 profile (row_of_each 64 command name (named (codes "line") ∷ []) Whole) e h
    refl))
    (listed_well 65 command name (named (codes "column") ∷ []) Whole m asked
    (free_at 64 profile (row_of_each 65 command name (named (codes "column") ∷ []) Whole) e h
    refl)))

scopes_listed : (m : Doc) → first_fault profile (without_ids m) ≡ None
    → are_scopes (listed_scopes m) ≡ true
unfolding profile first_rows later_rows
scopes_listed m h =
    let command = codes "scopes" in
    let name = codes "scopes" in
    let e = without_ids m in
    all_listed (λ d. is_some (scope_of d)) command name m
    (λ asked. scopes_there (listed_scopes m)
    (listed_well 69 command name [] Object m asked
    (free_at 68 profile (row_of_each 69 command name [] Object) e h refl))
    (listed_well 70 command name (named (codes "name") ∷ []) Text m asked
    (free_at 69 profile (row_of_each 70 command name (named (codes "name") ∷ []) Text) e h
    refl))
    (listed_well 71 command name (named (codes "variablesReference") ∷ []) Reference m asked
    (free_at 70 profile
    (row_of_each 71 command name (named (codes "variablesReference") ∷ []) Reference) e h
    refl)))

variables_listed : (m : Doc) → first_fault profile (without_ids m) ≡ None
    → are_variables (listed_variables m) ≡ true
unfolding profile first_rows later_rows
variables_listed m h =
    let command = codes "variables" in
    let name = codes "variables" in
    let e = without_ids m in
    all_listed (λ d. is_some (variable_of d)) command name m
    (λ asked. variables_there (listed_variables m)
    (listed_well 74 command name [] Object m asked
    (free_at 73 profile (row_of_each 74 command name [] Object) e h refl))
    (listed_well 75 command name (named (codes "name") ∷ []) Text m asked
    (free_at 74 profile (row_of_each 75 command name (named (codes "name") ∷ []) Text) e h
    refl))
    (listed_well 76 command name (named (codes "value") ∷ []) Text m asked
    (free_at 75 profile (row_of_each 76 command name (named (codes "value") ∷ []) Text) e h
    refl))
    (listed_well 77 command name (named (codes "variablesReference") ∷ []) Reference m asked
    (free_at 76 profile
    (row_of_each 77 command name (named (codes "variablesReference") ∷ []) Reference) e h
    refl)))

fits_shows : (m : Doc) → Fits (without_ids m) → shows_all m ≡ true
fits_shows m h =
    let e = without_ids m in
    let p = fault_parts (is_object e) (has_kind e) (row_broken e) UnknownType NotObject h in
    let free = rows_free e p.2 in
    and_both (are_frames (listed_frames m) && are_scopes (listed_scopes m))
    (are_variables (listed_variables m))
    (and_both (are_frames (listed_frames m)) (are_scopes (listed_scopes m)) (frames_listed m free)
    (scopes_listed m free)) (variables_listed m free)

-- a message has a view of each element of its array
pub shows_all-typed : (side : Side) (d m : Doc) → is_plain d ≡ true → IsTyped side d m
    → shows_all m ≡ true
shows_all-typed side d m plain h = fits_shows m (own_again side d m plain h).0

pub content_shows : (side : Side) (bytes : List ℕ) (m : Doc) → IsTypedContent side bytes m
    → shows_all m ≡ true
content_shows side bytes m (d, reads, h) = shows_all-typed side d m (read_is_plain bytes d reads) h

-- ---- no element is omitted

passed_over : {A : Type 0} (o : Option A) (xs : List A) (os : List (Option A)) → is_some o ≡ true
    → map Some xs ≡ os → map Some (cons_option o xs) ≡ o ∷ os
passed_over None xs os e later = cc
passed_over (Some x) xs os e later = ap (λ ys. Some x ∷ ys) later

pub none_passed : {A : Type 0} (f : Doc → Option A) (ds : List Doc)
    → list_all (λ d. is_some (f d)) ds ≡ true → map Some (filter_map f ds) ≡ map f ds
none_passed f [] h = refl
none_passed f (d ∷ ds) h =
    passed_over (f d) (filter_map f ds) (map f ds)
    (and_left (is_some (f d)) (list_all (λ d. is_some (f d)) ds) h)
    (none_passed f ds (and_right (is_some (f d)) (list_all (λ d. is_some (f d)) ds) h))

pub each_shown : (m : Doc) → shows_all m ≡ true
    → (map Some (frames_of m) ≡ map frame_of (listed_frames m))
    × (map Some (scopes_of m) ≡ map scope_of (listed_scopes m))
    × (map Some (variables_of m) ≡ map variable_of (listed_variables m))
each_shown m h =
    let a = are_frames (listed_frames m) in
    let b = are_scopes (listed_scopes m) in
    let c = are_variables (listed_variables m) in
    let front = and_left (a && b) c h in (
      none_passed frame_of (listed_frames m) (and_left a b front),
      none_passed scope_of (listed_scopes m) (and_right a b front),
      none_passed variable_of (listed_variables m) (and_right (a && b) c h),
    )
