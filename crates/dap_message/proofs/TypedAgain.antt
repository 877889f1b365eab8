-- A document that differs from a message only in the numbers of its ids is typed again as itself,
-- if the numbers are valid for their kinds.
use Rattle.dap_tree.specs.Doc.{Doc, null, boolean, whole, text, list, object, id, Items, no_items}
use Rattle.dap_tree.specs.Doc.{item, Members, no_members, member, get, get_member, put}
use Rattle.dap_tree.specs.Doc.{change_member, change_child, is_plain, is_sound, in_range}
use Rattle.dap_tree.specs.Doc.{is_ordered, all_utf8}
use Rattle.dap_tree.specs.Ids.{ids_in_range, items_ids_in_range, members_ids_in_range, ids}
use Rattle.dap_tree.specs.Ids.{items_ids, members_ids, with_ids, skeleton, numbers_of, without_ids}
use Rattle.dap_tree.specs.Json.{text_of, IsRead}
use Rattle.dap_tree.specs.declared.side.Side.{Side}
use Rattle.dap_tree.specs.declared.side.Side.TheVariants.{Client, Adapter}
use Rattle.dap_tree.proofs.Booleans.{and_left, and_right, and_both}
use Rattle.dap_tree.proofs.IdNumbers.{with_others, ordered-skeleton, utf8-skeleton, sound_with}
use Rattle.dap_tree.proofs.Texts.{text_is_read}
use Rattle.dap_tree.proofs.WithoutIds.{sound_without}
use Rattle.std.proofs.Common.{◌≡◌, ℕ, ℤ, pos, negsuc, Bool, true, false, cond, ◌&&◌, ◌||◌, List, []}
use Rattle.std.proofs.Common.{◌∷◌, map, Option, Some, None, option_map, option_and_then, Ordering}
use Rattle.std.proofs.Common.{Less, Equal, Greater, nat_cmp, codes, refl, sym, ◌∙◌, ap, ap₂, arith}
use Rattle.std.proofs.lemmas.Bool.Decides.{nat_tests}
use Rattle.std.specs.Cmp.Lexicographic.{slice_cmp}
use Rattle.std.specs.List.{list_all}
use Rattle.std.specs.Ordering.{match_ordering}
use Rattle.dap_profile.specs.PlaceSteps.{PlaceStep}
use Rattle.dap_profile.specs.Profile.{profile, first_rows, later_rows}
use Rattle.dap_profile.specs.ProfileRows.{ProfileRow}
use Rattle.dap_profile.specs.declared.profile.Kind.TheVariants.{Request, Response, Event}
use Rattle.dap_profile.specs.declared.profile.Want.{Want}
use Rattle.dap_profile.specs.declared.profile.Want.TheVariants.{Bool as WantBool, Whole, Text}
use Rattle.dap_profile.specs.declared.profile.Want.TheVariants.{Object, List as WantList}
use Rattle.dap_message.specs.Capabilities.{is_given, default_to, false_members, false_at}
use Rattle.dap_message.specs.Capabilities.{capabilities, carries_capabilities, with_capabilities}
use Rattle.dap_message.specs.Capabilities.{filled}
use Rattle.dap_message.specs.Faults.{fault, Fits, has_kind, row_broken}
use Rattle.dap_message.specs.Marks.{mark_by_rows}
use Rattle.dap_message.specs.Marks.{is_id_of}
use Rattle.dap_message.specs.Message.{message_of, message_by_rows, IsTyped}
use Rattle.dap_message.specs.Numbers.{has_id_numbers}
use Rattle.dap_message.specs.Places.{parts_at, is_object}
use Rattle.dap_message.specs.Rows.{row_applies, is_id_number, cause_against, first_cause, broken_at}
use Rattle.dap_message.specs.Rows.{of_row, row_fault, first_fault}
use Rattle.dap_message.specs.declared.broken_rows.Cause.{Cause}
use Rattle.dap_message.specs.declared.fault.MessageFault.TheVariants.{NotObject, UnknownType}
use Rattle.dap_message.proofs.FilledOnce.{numbers-again, tells-again, AllGiven, false-given}
use Rattle.dap_message.proofs.FilledOnce.{false-noop}
use Rattle.dap_message.proofs.SortsApart.{AskedAlike, pending, mark_rows-edits, AllAgree}
use Rattle.dap_message.proofs.SortsApart.{profile_agree}
use Rattle.dap_message.proofs.BodyRows.{both_free, Tells, row_50, body_case, body_was, get-default}
use Rattle.dap_message.proofs.Edits.{by_bool}
use Rattle.dap_message.proofs.Envelopes.{fault_free, fault_parts, rows_free, free_at}
use Rattle.dap_message.proofs.KeptByTyping.{sound-message}
use Rattle.dap_message.proofs.MemberNames.{ordered-message, utf8-message}
use Rattle.dap_message.proofs.MarkedPlaces.{edits, edits-again, id_number, IdNumbers, numbers_left}
use Rattle.dap_message.proofs.MarkedPlaces.{numbers_right}
use Rattle.dap_message.proofs.FilledFits.{fault-filled, rows_broken, faultless, body-filled}
use Rattle.dap_message.proofs.Shapes.{KeepsShape, without_keeps, skeleton_keeps, found-shape}
use Rattle.dap_message.proofs.Shapes.{asked-shape, asked_without, NumbersAt, AllNumbered}
use Rattle.dap_message.proofs.Shapes.{numbers_found}

-- the document with each id replaced by the integer 0
abbrev zeroed : Doc → Doc
zeroed d = without_ids (skeleton d)

-- ---- what the rows check

abbrev Well : Want → Bool → Option Doc → Type 0
Well w b o = cause_against w b o ≡ None

numbers_alike : (w : Want) (b : Bool) (y z : ℤ) → is_id_number y ≡ true → Well w b (Some (whole z))
    → Well w b (Some (whole y))
numbers_alike WantBool b y z h g = g
numbers_alike Whole b y z h g = g
numbers_alike Text b y z h g = g
numbers_alike Object b y z h g = g
numbers_alike WantList b y z h g = g
numbers_alike w b y z h g = rw h refl

abbrev Alike : Doc → Doc → Type 0
Alike d e = (w : Want) (b : Bool) → Well w b (Some d) → Well w b (Some e)

list_alike : (w : Want) (b : Bool) (ds es : Items)
    → cause_against w b (Some (list ds)) ≡ cause_against w b (Some (list es))
list_alike WantBool b ds es = refl
list_alike w b ds es = refl

object_alike : (w : Want) (b : Bool) (ms os : Members)
    → cause_against w b (Some (object ms)) ≡ cause_against w b (Some (object os))
object_alike WantBool b ms os = refl
object_alike w b ms os = refl

well_zeroed : (w : Want) (b : Bool) (o : Option Doc) → Well w b (option_map without_ids o)
    → Well w b (option_map without_ids (option_map skeleton o))
well_zeroed w b None h = h
well_zeroed w b (Some null) h = h
well_zeroed w b (Some (boolean c)) h = h
well_zeroed w b (Some (whole z)) h = h
well_zeroed w b (Some (text s)) h = h
well_zeroed w b (Some (list ds)) h = list_alike w b _ _ ∙ h
well_zeroed w b (Some (object ms)) h = object_alike w b _ _ ∙ h
well_zeroed w b (Some (id s z)) h = numbers_alike w b (pos 0) z refl h

well_numbered : (w : Want) (b : Bool) (o : Option Doc) → NumbersAt o
    → Well w b (option_map without_ids (option_map skeleton o))
    → Well w b (option_map without_ids o)
well_numbered w b None fit h = h
well_numbered w b (Some null) fit h = h
well_numbered w b (Some (boolean c)) fit h = h
well_numbered w b (Some (whole z)) fit h = h
well_numbered w b (Some (text s)) fit h = h
well_numbered w b (Some (list ds)) fit h = list_alike w b _ _ ∙ h
well_numbered w b (Some (object ms)) fit h = object_alike w b _ _ ∙ h
well_numbered w b (Some (id s z)) fit h =
    numbers_alike w b z (pos 0) (id_number s z (and_left (is_id_of s z) true fit)) h

abbrev Free : Want → Bool → List (Option Doc) → Type 0
Free w b os = first_cause (map (cause_against w b) os) ≡ None

free_zeroed : (w : Want) (b : Bool) (os : List (Option Doc))
    → Free w b (map (option_map without_ids) os)
    → Free w b (map (option_map without_ids) (map (option_map skeleton) os))
free_zeroed w b [] h = refl
free_zeroed w b (o ∷ os) h =
    let p = fault_free (cause_against w b (option_map without_ids o))
    (first_cause (map (cause_against w b) (map (option_map without_ids) os))) h in
    both_free (cause_against w b (option_map without_ids (option_map skeleton o))) _
    (well_zeroed w b o p.0) (free_zeroed w b os p.1)

free_numbered : (w : Want) (b : Bool) (os : List (Option Doc)) → AllNumbered os
    → Free w b (map (option_map without_ids) (map (option_map skeleton) os))
    → Free w b (map (option_map without_ids) os)
free_numbered w b [] fit h = refl
free_numbered w b (o ∷ os) fit h =
    let p = fault_free (cause_against w b (option_map without_ids (option_map skeleton o)))
    (first_cause
    (map (cause_against w b) (map (option_map without_ids) (map (option_map skeleton) os)))) h
    in
    both_free (cause_against w b (option_map without_ids o)) _ (well_numbered w b o fit.0 p.0)
    (free_numbered w b os fit.1 p.1)

found_without : (ps : List PlaceStep) (d : Doc)
    → parts_at ps (without_ids d) ≡ map (option_map without_ids) (parts_at ps d)
found_without ps d = found-shape without_ids without_keeps ps d

found_zeroed : (ps : List PlaceStep) (d : Doc)
    → parts_at ps (zeroed d)
    ≡ map (option_map without_ids) (map (option_map skeleton) (parts_at ps d))
found_zeroed ps d =
    found_without ps (skeleton d)
    ∙ ap (map (option_map without_ids)) (found-shape skeleton skeleton_keeps ps d)

place_zeroed : (r : ProfileRow) (d : Doc) → broken_at r.place r.want r.needed (without_ids d) ≡ None
    → broken_at r.place r.want r.needed (zeroed d) ≡ None
place_zeroed r d h =
    ap (λ os. first_cause (map (cause_against r.want r.needed) os)) (found_zeroed r.place d)
    ∙ free_zeroed r.want r.needed (parts_at r.place d)
    (ap (λ os. first_cause (map (cause_against r.want r.needed) os))
    (sym (found_without r.place d)) ∙ h)

place_numbered : (r : ProfileRow) (d : Doc) → IdNumbers (ids d)
    → broken_at r.place r.want r.needed (zeroed d) ≡ None
    → broken_at r.place r.want r.needed (without_ids d) ≡ None
place_numbered r d fit h =
    ap (λ os. first_cause (map (cause_against r.want r.needed) os)) (found_without r.place d)
    ∙ free_numbered r.want r.needed (parts_at r.place d) (numbers_found r.place d fit)
    (ap (λ os. first_cause (map (cause_against r.want r.needed) os))
    (sym (found_zeroed r.place d)) ∙ h)

asked_zeroed : (d : Doc) → AskedAlike (without_ids d) (zeroed d)
asked_zeroed d k n =
    asked-shape without_ids without_keeps (skeleton d) k n
    ∙ asked-shape skeleton skeleton_keeps d k n
    ∙ sym (asked-shape without_ids without_keeps d k n)

row_cond : (n : ℕ) (a b : Bool) (o p : Option Cause) → a ≡ b → (o ≡ None → p ≡ None)
    → cond a (option_map (of_row n) o) None ≡ None → cond b (option_map (of_row n) p) None ≡ None
row_cond n true true None p e f h = ap (option_map (of_row n)) (f refl)
row_cond n true true (Some c) p e f h = cc
row_cond n false false o p e f h = refl
row_cond n true false o p e f h = cc
row_cond n false true o p e f h = cc

row_zeroed : (r : ProfileRow) (d : Doc) → row_fault r (without_ids d) ≡ None
    → row_fault r (zeroed d) ≡ None
row_zeroed r d h =
    row_cond r.number (row_applies r.kind r.name (without_ids d))
    (row_applies r.kind r.name (zeroed d))
    (broken_at r.place r.want r.needed (without_ids d))
    (broken_at r.place r.want r.needed (zeroed d))
    (sym (asked_zeroed d r.kind r.name)) (place_zeroed r d) h

row_numbered : (r : ProfileRow) (d : Doc) → IdNumbers (ids d) → row_fault r (zeroed d) ≡ None
    → row_fault r (without_ids d) ≡ None
row_numbered r d fit h =
    row_cond r.number (row_applies r.kind r.name (zeroed d))
    (row_applies r.kind r.name (without_ids d))
    (broken_at r.place r.want r.needed (zeroed d))
    (broken_at r.place r.want r.needed (without_ids d))
    (asked_zeroed d r.kind r.name) (place_numbered r d fit) h

rows_zeroed : (rs : List ProfileRow) (d : Doc) → first_fault rs (without_ids d) ≡ None
    → first_fault rs (zeroed d) ≡ None
rows_zeroed [] d h = refl
rows_zeroed (r ∷ rs) d h =
    let p = fault_free (row_fault r (without_ids d)) (first_fault rs (without_ids d)) h in
    both_free (row_fault r (zeroed d)) (first_fault rs (zeroed d)) (row_zeroed r d p.0)
    (rows_zeroed rs d p.1)

rows_numbered : (rs : List ProfileRow) (d : Doc) → IdNumbers (ids d)
    → first_fault rs (zeroed d) ≡ None → first_fault rs (without_ids d) ≡ None
rows_numbered [] d fit h = refl
rows_numbered (r ∷ rs) d fit h =
    let p = fault_free (row_fault r (zeroed d)) (first_fault rs (zeroed d)) h in
    both_free (row_fault r (without_ids d)) (first_fault rs (without_ids d))
    (row_numbered r d fit p.0) (rows_numbered rs d fit p.1)

kind_zeroed : (d : Doc) → has_kind (zeroed d) ≡ has_kind (without_ids d)
kind_zeroed d =
    ap₂ (λ a b. a || b)
    (ap₂ (λ a b. a || b) (asked_zeroed d (Some Request) None)
    (asked_zeroed d (Some Response) None)) (asked_zeroed d (Some Event) None)

object_zeroed : (d : Doc) → is_object (zeroed d) ≡ is_object (without_ids d)
object_zeroed d =
    without_keeps.is_object (skeleton d) ∙ skeleton_keeps.is_object d
    ∙ sym (without_keeps.is_object d)

fits_zeroed : (d : Doc) → Fits (without_ids d) → Fits (zeroed d)
fits_zeroed d h =
    let p = fault_parts (is_object (without_ids d)) (has_kind (without_ids d))
    (row_broken (without_ids d)) UnknownType NotObject h in
    faultless (zeroed d) (object_zeroed d ∙ p.0) (kind_zeroed d ∙ p.1)
    (rows_broken (zeroed d) (rows_zeroed profile d (rows_free (without_ids d) p.2)))

fits_numbered : (d : Doc) → IdNumbers (ids d) → Fits (zeroed d) → Fits (without_ids d)
fits_numbered d fit h =
    let p = fault_parts (is_object (zeroed d)) (has_kind (zeroed d)) (row_broken (zeroed d))
    UnknownType NotObject h in
    faultless (without_ids d) (sym (object_zeroed d) ∙ p.0) (sym (kind_zeroed d) ∙ p.1)
    (rows_broken (without_ids d) (rows_numbered profile d fit (rows_free (zeroed d) p.2)))

-- a message's rows are not violated with other valid numbers at its ids
pub fits_again : (m n : Doc) → skeleton n ≡ skeleton m → IdNumbers (ids n) → Fits (without_ids m)
    → Fits (without_ids n)
fits_again m n same fit h =
    fits_numbered n fit (ap (λ d. fault (without_ids d)) same ∙ fits_zeroed m h)

-- ---- the capabilities exist

-- the body is given, and each of these names in it
abbrev has_all : List (List ℕ) → Doc → Bool
has_all ks d =
    is_given (get (codes "body") d)
    && list_all (λ k. is_given (option_and_then (get k) (get (codes "body") d))) ks

module _ (h : Doc → Doc) (keeps : KeepsShape h) where
  given_inside : (k : List ℕ) (o : Option Doc)
      → is_given (option_and_then (get k) (option_map h o)) ≡ is_given (option_and_then (get k) o)
  given_inside k None = refl
  given_inside k (Some e) = ap is_given (keeps.member k e) ∙ keeps.given (get k e)

  all_inside : (ks : List (List ℕ)) (o : Option Doc)
      → list_all (λ k. is_given (option_and_then (get k) (option_map h o))) ks
      ≡ list_all (λ k. is_given (option_and_then (get k) o)) ks
  all_inside [] o = refl
  all_inside (k ∷ ks) o = ap₂ (λ a b. a && b) (given_inside k o) (all_inside ks o)

  has_all-shape : (ks : List (List ℕ)) (d : Doc) → has_all ks (h d) ≡ has_all ks d
  has_all-shape ks d =
      ap (λ o. is_given o && list_all (λ k. is_given (option_and_then (get k) o)) ks)
      (keeps.member (codes "body") d)
      ∙ ap₂ (λ a b. a && b) (keeps.given (get (codes "body") d))
      (all_inside ks (get (codes "body") d))

given_list : (ks : List (List ℕ)) (ms : Members) → AllGiven ks ms
    → list_all (λ k. is_given (get_member k ms)) ks ≡ true
given_list [] ms h = refl
given_list (k ∷ ks) ms h =
    and_both (is_given (get_member k ms)) (list_all (λ q. is_given (get_member q ms)) ks) h.0
    (given_list ks ms h.1)

list_given : (ks : List (List ℕ)) (ms : Members)
    → list_all (λ k. is_given (get_member k ms)) ks ≡ true → AllGiven ks ms
list_given [] ms h = tt
list_given (k ∷ ks) ms h = (
  and_left (is_given (get_member k ms)) (list_all (λ q. is_given (get_member q ms)) ks) h,
  list_given ks ms
      (and_right (is_given (get_member k ms)) (list_all (λ q. is_given (get_member q ms)) ks) h),
)

has_body : (ks : List (List ℕ)) (d : Doc) (ms : Members) → get (codes "body") d ≡ Some (object ms)
    → AllGiven ks ms → has_all ks d ≡ true
has_body ks d ms is given =
    ap (λ o. is_given o && list_all (λ k. is_given (option_and_then (get k) o)) ks) is
    ∙ given_list ks ms given

has_all-capabilities : (d : Doc) → Fits d → Tells d
    → has_all capabilities (with_capabilities d) ≡ true
unfolding profile first_rows later_rows
has_all-capabilities d fits tells =
    let p = fault_parts (is_object d) (has_kind d) (row_broken d) UnknownType NotObject fits in
    let free = free_at 49 profile row_50 d (rows_free d p.2) refl in
    let b = body_case (get (codes "body") d) (body_was d tells p.0 free) in
    let is : get (codes "body") (with_capabilities d)
    ≡ Some (object (false_members capabilities b.0)) =
    body-filled d p.0
    ∙ ap (option_map (false_at capabilities))
    (get-default (codes "body") (object no_members) d p.0 ∙ b.1) in
    has_body capabilities (with_capabilities d) (false_members capabilities b.0) is
    (false-given capabilities b.0)

noop_at : (o : Ordering) (k l : List ℕ) (f : Doc → Doc) (e : Doc) (ms : Members)
    → slice_cmp nat_cmp k l ≡ o
    → (option_map f (match_ordering o (get_member k ms) (Some e) (get_member k ms))
    ≡ match_ordering o (get_member k ms) (Some e) (get_member k ms))
    → (option_map f (get_member k ms) ≡ get_member k ms → change_member k f ms ≡ ms)
    → match_ordering o (member l e (change_member k f ms)) (member l (f e) ms)
    (member l e (change_member k f ms)) ≡ member l e ms
noop_at Less k l f e ms is h later = ap (member l e) (later h)
noop_at Equal k l f e ms is h later = let same : f e ≡ e = cc in ap (λ x. member l x ms) same
noop_at Greater k l f e ms is h later = ap (member l e) (later h)

change_member-noop : (k : List ℕ) (f : Doc → Doc) (ms : Members)
    → option_map f (get_member k ms) ≡ get_member k ms → change_member k f ms ≡ ms
change_member-noop k f no_members h = refl
change_member-noop k f (member l e ms) h =
    noop_at (slice_cmp nat_cmp k l) k l f e ms refl h (λ g. change_member-noop k f ms g)

false-given_body : (ks : List (List ℕ)) (o : Option Doc)
    → list_all (λ k. is_given (option_and_then (get k) o)) ks ≡ true
    → option_map (false_at ks) o ≡ o
false-given_body ks None h = refl
false-given_body ks (Some null) h = refl
false-given_body ks (Some (boolean b)) h = refl
false-given_body ks (Some (whole z)) h = refl
false-given_body ks (Some (text s)) h = refl
false-given_body ks (Some (list ds)) h = refl
false-given_body ks (Some (object ms)) h =
    ap (λ os. Some (object os)) (false-noop ks ms (list_given ks ms h))
false-given_body ks (Some (id s z)) h = refl

-- nothing is filled in if everything is given
fill-noop : (ks : List (List ℕ)) (d : Doc) → has_all ks d ≡ true
    → change_child (codes "body") (false_at ks) (default_to (codes "body") (object no_members) d)
    ≡ d
fill-noop ks null h = refl
fill-noop ks (boolean b) h = refl
fill-noop ks (whole z) h = refl
fill-noop ks (text s) h = refl
fill-noop ks (list ds) h = refl
fill-noop ks (object ms) h =
    let body = get_member (codes "body") ms in
    let given : is_given body ≡ true =
    and_left (is_given body) (list_all (λ k. is_given (option_and_then (get k) body)) ks) h in
    let inside =
    and_right (is_given body) (list_all (λ k. is_given (option_and_then (get k) body)) ks) h in
    ap (λ b. object
    (change_member (codes "body") (false_at ks)
    (cond b ms (put (codes "body") (object no_members) ms)))) given
    ∙ ap object
    (change_member-noop (codes "body") (false_at ks) ms (false-given_body ks body inside))
fill-noop ks (id s z) h = refl

capabilities-noop : (d : Doc) → has_all capabilities d ≡ true → with_capabilities d ≡ d
unfolding with_capabilities
capabilities-noop d h = fill-noop capabilities d h

has_all-again : (ks : List (List ℕ)) (m n : Doc) → skeleton n ≡ skeleton m
    → has_all ks (without_ids m) ≡ true → has_all ks (without_ids n) ≡ true
has_all-again ks m n same h =
    has_all-shape without_ids without_keeps ks n
    ∙ sym (has_all-shape skeleton skeleton_keeps ks n)
    ∙ ap (has_all ks) same
    ∙ has_all-shape skeleton skeleton_keeps ks m
    ∙ sym (has_all-shape without_ids without_keeps ks m)
    ∙ h

-- the capabilities of a message exist with other numbers too, whatever rows defined its ids
pub filled_again : (rows : List ProfileRow) (side : Side) (d n : Doc) → is_plain d ≡ true → Fits d
    → skeleton n ≡ skeleton (message_by_rows rows side d)
    → filled side (without_ids n) ≡ without_ids n
filled_again rows Client d n plain fits same = refl
filled_again rows Adapter d n plain fits same =
    let m = message_by_rows rows Adapter d in
    let alike = asked_without m n same in
    let numbers_of_m : without_ids m ≡ filled Adapter d = numbers-again rows Adapter d plain in
    by_bool (carries_capabilities Adapter (without_ids n))
    (λ t.
    let reported : carries_capabilities Adapter d ≡ true =
    sym (tells-again Adapter d) ∙ ap (carries_capabilities Adapter) (sym numbers_of_m)
    ∙ sym (alike (Some Response) (Some (codes "initialize"))) ∙ t in
    let full : has_all capabilities (without_ids m) ≡ true =
    ap (has_all capabilities) (numbers_of_m ∙ ap (λ b. cond b (with_capabilities d) d) reported)
    ∙ has_all-capabilities d fits reported in
    ap (λ b. cond b (with_capabilities (without_ids n)) (without_ids n)) t
    ∙ capabilities-noop (without_ids n) (has_all-again capabilities m n same full))
    (λ t. ap (λ b. cond b (with_capabilities (without_ids n)) (without_ids n)) t)

-- ---- the marks are the same again

mark-again_with : (rows : List ProfileRow) → AllAgree rows → (side : Side) (m n : Doc)
    → skeleton n ≡ skeleton m → IdNumbers (ids n)
    → mark_by_rows rows side (without_ids m) ≡ m → mark_by_rows rows side (without_ids n) ≡ n
unfolding mark_by_rows
mark-again_with rows agree side m n same fit h =
    let es = pending rows side (without_ids m) in
    let is : with_ids m (numbers_of (ids n)) ≡ n = with_others m n (sym same) in
    let first : edits es (without_ids m) ≡ m =
    sym (mark_rows-edits rows side (without_ids m) (without_ids m) (λ k o. refl)) ∙ h in
    let again =
    edits-again es (agree side (without_ids m)) m (numbers_of (ids n))
    (ap (λ e. list_all (λ i. is_id_of i.0 i.1) (ids e)) is ∙ fit) first in
    mark_rows-edits rows side (without_ids m) (without_ids n) (asked_without m n same)
    ∙ ap (λ e. edits es (without_ids e)) (sym is) ∙ again ∙ is

-- a document with other numbers is the message of its numbers, by the same rows
pub message_again : (rows : List ProfileRow) → AllAgree rows → (side : Side) (d n : Doc)
    → is_plain d ≡ true → Fits d → skeleton n ≡ skeleton (message_by_rows rows side d)
    → has_id_numbers n ≡ true → n ≡ message_by_rows rows side (without_ids n)
message_again rows agree side d n plain fits same fit =
    let m = message_by_rows rows side d in
    let marks : mark_by_rows rows side (without_ids m) ≡ m =
    ap (mark_by_rows rows side) (numbers-again rows side d plain) in
    sym (ap (mark_by_rows rows side) (filled_again rows side d n plain fits same)
    ∙ mark-again_with rows agree side m n same fit marks)

-- ---- the text

number_in_range : (z : ℤ) → is_id_number z ≡ true → in_range z ≡ true
number_in_range (pos n) h = grind (arith, nat_tests)
number_in_range (negsuc n) h = h

mutual
  ids_in_range-numbers : (d : Doc) → IdNumbers (ids d) → ids_in_range d ≡ true
  ids_in_range-numbers null h = refl
  ids_in_range-numbers (boolean b) h = refl
  ids_in_range-numbers (whole z) h = refl
  ids_in_range-numbers (text s) h = refl
  ids_in_range-numbers (list ds) h = items_ids_in_range-numbers ds h
  ids_in_range-numbers (object ms) h = members_ids_in_range-numbers ms h
  ids_in_range-numbers (id s z) h =
      number_in_range z (id_number s z (and_left (is_id_of s z) true h))

  items_ids_in_range-numbers : (ds : Items) → IdNumbers (items_ids ds)
      → items_ids_in_range ds ≡ true
  items_ids_in_range-numbers no_items h = refl
  items_ids_in_range-numbers (item d ds) h =
      and_both (ids_in_range d) (items_ids_in_range ds)
      (ids_in_range-numbers d (numbers_left (ids d) (items_ids ds) h))
      (items_ids_in_range-numbers ds (numbers_right (ids d) (items_ids ds) h))

  members_ids_in_range-numbers : (ms : Members) → IdNumbers (members_ids ms)
      → members_ids_in_range ms ≡ true
  members_ids_in_range-numbers no_members h = refl
  members_ids_in_range-numbers (member k d ms) h =
      and_both (ids_in_range d) (members_ids_in_range ms)
      (ids_in_range-numbers d (numbers_left (ids d) (members_ids ms) h))
      (members_ids_in_range-numbers ms (numbers_right (ids d) (members_ids ms) h))

plain_again : (m n : Doc) → skeleton n ≡ skeleton m → IdNumbers (ids n) → is_sound m ≡ true
    → is_plain (without_ids n) ≡ true
plain_again m n same fit sound =
    sound_without n (ap is_sound (sym (with_others m n (sym same)))
    ∙ sound_with m (numbers_of (ids n)) ∙ sound) (ids_in_range-numbers n fit)

-- ---- typed again

-- Let a document differ from a message only in the numbers of its ids, whatever rows defined its
-- ids. Then it is plain with its ids as integers, and fits the profile like the document of the
-- message.
pub read_again : (rows : List ProfileRow) (side : Side) (d n : Doc) → is_plain d ≡ true → Fits d
    → skeleton n ≡ skeleton (message_by_rows rows side d) → has_id_numbers n ≡ true
    → (is_plain (without_ids n) ≡ true) × Fits (without_ids n)
read_again rows side d n plain fits same fit =
    let m = message_by_rows rows side d in (
      plain_again m n same fit (sound-message rows side d plain),
      fits_again m n same fit (ap fault (numbers-again rows side d plain)
          ∙ fault-filled side d fits),
    )

pub typed_again : (side : Side) (d n : Doc) → is_plain d ≡ true → Fits d
    → skeleton n ≡ skeleton (message_of side d) → has_id_numbers n ≡ true
    → (is_plain (without_ids n) ≡ true) × IsTyped side (without_ids n) n
typed_again side d n plain fits same fit =
    let again = read_again profile side d n plain fits same fit in
    (again.0, (again.1, message_again profile profile_agree side d n plain fits same fit))

-- its text is read as the document with its ids as integers
pub text_again : (rows : List ProfileRow) (side : Side) (d n : Doc) → is_plain d ≡ true
    → is_ordered d ≡ true → all_utf8 d ≡ true → skeleton n ≡ skeleton (message_by_rows rows side d)
    → has_id_numbers n ≡ true → IsRead (text_of n) (without_ids n)
text_again rows side d n plain ordered utf8 same fit =
    let m = message_by_rows rows side d in
    text_is_read n (ap is_sound (sym (with_others m n (sym same)))
    ∙ sound_with m (numbers_of (ids n)) ∙ sound-message rows side d plain)
    (ids_in_range-numbers n fit)
    (sym (ordered-skeleton n) ∙ ap is_ordered same ∙ ordered-skeleton m
    ∙ ordered-message rows side d ordered)
    (sym (utf8-skeleton n) ∙ ap all_utf8 same ∙ utf8-skeleton m ∙ utf8-message rows side d utf8)
