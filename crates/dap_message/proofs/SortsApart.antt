-- The row paths of the profile that expect ids of different kinds never match the same path in one
-- message.
use Rattle.dap_tree.specs.Doc.{Doc, text, get}
use Rattle.dap_tree.specs.declared.side.Side.{Side}
use Rattle.dap_tree.specs.declared.side.Side.TheVariants.{Client, Adapter}
use Rattle.dap_tree.specs.declared.sort.Sort.{Sort}
use Rattle.dap_tree.specs.declared.sort.Sort.TheVariants.{ClientSeq, AdapterSeq}
use Rattle.dap_tree.specs.Sorts.{same_sort}
use Rattle.dap_tree.proofs.Sorts.{same_sort_told}
use Rattle.dap_tree.proofs.Booleans.{and_left, and_right, and_both}
use Rattle.std.proofs.Common.{◌≡◌, ℕ, Bool, true, false, cond, not, ◌&&◌, ◌||◌, List, [], ◌∷◌}
use Rattle.std.proofs.Common.{◌++◌}
use Rattle.std.proofs.Common.{Option, Some, None, codes, refl, sym, ◌∙◌, ap, ap₂, bytes_eq}
use Rattle.std.proofs.lemmas.Slice.Eq.{bytes_eq-Decides}
use Rattle.std.specs.List.{list_all}
use Rattle.std.proofs.lemmas.List.Folds.{list_all-append}
use Rattle.std.specs.Option.{option_map_or}
use Rattle.dap_profile.specs.PlaceSteps.{PlaceStep}
use Rattle.dap_profile.specs.Profile.{profile, first_rows, later_rows}
use Rattle.dap_profile.specs.ProfileRows.{ProfileRow}
use Rattle.dap_profile.specs.declared.profile.Kind.{Kind}
use Rattle.dap_profile.specs.declared.profile.Kind.TheVariants.{Request, Response, Event}
use Rattle.dap_profile.specs.declared.profile.Want.{Want}
use Rattle.dap_profile.specs.declared.profile.Want.TheVariants.{OwnSeq}
use Rattle.dap_profile.specs.declared.profile.Want.TheVariants.{OtherSeq}
use Rattle.dap_message.specs.Marks.{sort_of, marked, edit, mark_row, mark_rows}
use Rattle.dap_message.specs.Rows.{row_applies, is_of_kind, is_text, type_name, name_key}
use Rattle.dap_message.specs.Rows.{may_have_body}
use Rattle.dap_message.proofs.RowMarks.{asked-mark_row}
use Rattle.dap_message.proofs.MarkedPlaces.{Pending, done, mark_at, edits, meet, AgreeWith, Agree}

-- the pending marks of a row in a document
abbrev pub then_row : Option Sort → Bool → List PlaceStep → Pending → Pending
then_row None b ps es = es
then_row (Some s) true ps es = mark_at s ps es
then_row (Some s) false ps es = es

abbrev pub pending : List ProfileRow → Side → Doc → Pending
pending [] side d = done
pending (r ∷ rs) side d =
    then_row (sort_of side r.want) (row_applies r.kind r.name d) r.place (pending rs side d)

edits-then_row : (o : Option Sort) (b : Bool) (ps : List PlaceStep) (es : Pending) (d : Doc)
    → edits (then_row o b ps es) d
    ≡ edits es (option_map_or (λ s. cond b (edit ps (marked s) d) d) o d)
edits-then_row None b ps es d = refl
edits-then_row (Some s) true ps es d = refl
edits-then_row (Some s) false ps es d = refl

-- the same rows apply to d and e
abbrev pub AskedAlike : Doc → Doc → Type 0
AskedAlike d e = (k : Option Kind) (n : Option (List ℕ)) → row_applies k n e ≡ row_applies k n d

pub mark_rows-edits : (rs : List ProfileRow) (side : Side) (d e : Doc) → AskedAlike d e
    → mark_rows rs side e ≡ edits (pending rs side d) e
mark_rows-edits [] side d e h = refl
mark_rows-edits (r ∷ rs) side d e h =
    mark_rows-edits rs side d (mark_row r side e) (λ k n. asked-mark_row r side k n e ∙ h k n)
    ∙ ap (λ b. edits (pending rs side d)
    (option_map_or (λ s. cond b (edit r.place (marked s) e) e) (sort_of side r.want) e))
    (h r.kind r.name)
    ∙ sym (edits-then_row (sort_of side r.want) (row_applies r.kind r.name d) r.place
    (pending rs side d) e)

-- ---- rows that apply to the same message

abbrev one_kind : Kind → Kind → Bool
one_kind Request Request = true
one_kind Response Response = true
one_kind Event Event = true
one_kind _ _ = false

abbrev one_name : Option (List ℕ) → Option (List ℕ) → Bool
one_name (Some n) (Some m) = bytes_eq n m
one_name _ _ = true

-- there may be a message to which both rows apply
abbrev both_asked : Option Kind → Option (List ℕ) → Option Kind → Option (List ℕ) → Bool
both_asked (Some k) n (Some l) m = one_kind k l && one_name n m
both_asked _ n _ m = true

same_text : (v w : List ℕ) (o : Option Doc) → is_text v o ≡ true → is_text w o ≡ true
    → bytes_eq v w ≡ true
same_text v w (Some (text s)) h g =
    (bytes_eq-Decides v w).1 ((bytes_eq-Decides v s).0 h ∙ sym ((bytes_eq-Decides w s).0 g))
same_text v w _ h g = cc

asked_kind : (k : Kind) (n : Option (List ℕ)) (d : Doc) → row_applies (Some k) n d ≡ true
    → is_of_kind k d ≡ true
asked_kind k None d h = h
asked_kind k (Some n) d h =
    and_left (is_of_kind k d) (is_text n (get (name_key k) d))
    (and_left (is_of_kind k d && is_text n (get (name_key k) d)) (may_have_body k d) h)

asked_name : (k : Kind) (n : List ℕ) (d : Doc) → row_applies (Some k) (Some n) d ≡ true
    → is_text n (get (name_key k) d) ≡ true
asked_name k n d h =
    and_right (is_of_kind k d) (is_text n (get (name_key k) d))
    (and_left (is_of_kind k d && is_text n (get (name_key k) d)) (may_have_body k d) h)

same_kind : (k l : Kind) (d : Doc) → is_of_kind k d ≡ true → is_of_kind l d ≡ true
    → one_kind k l ≡ true
same_kind Request Request d h g = refl
same_kind Response Response d h g = refl
same_kind Event Event d h g = refl
same_kind k l d h g = same_text (type_name k) (type_name l) (get (codes "type") d) h g

kinds_equal : (k l : Kind) → one_kind k l ≡ true → k ≡ l
kinds_equal Request Request h = refl
kinds_equal Response Response h = refl
kinds_equal Event Event h = refl
kinds_equal _ _ h = cc

same_name : (k l : Kind) (n m : Option (List ℕ)) (d : Doc) → k ≡ l → row_applies (Some k) n d ≡ true
    → row_applies (Some l) m d ≡ true → one_name n m ≡ true
same_name k l (Some n) (Some m) d e h g =
    same_text n m (get (name_key k) d) (asked_name k n d h)
    (ap (λ j. is_text m (get (name_key j) d)) e ∙ asked_name l m d g)
same_name k l _ _ d e h g = refl

asked_both : (k : Option Kind) (n : Option (List ℕ)) (l : Option Kind) (m : Option (List ℕ))
    (d : Doc) → row_applies k n d ≡ true → row_applies l m d ≡ true → both_asked k n l m ≡ true
asked_both (Some k) n (Some l) m d h g =
    let kinds = same_kind k l d (asked_kind k n d h) (asked_kind l m d g) in
    and_both (one_kind k l) (one_name n m) kinds (same_name k l n m d (kinds_equal k l kinds) h g)
asked_both _ n _ m d h g = refl

-- ---- the table

abbrev sorts_apart : Option Sort → Option Sort → Bool → Bool
sorts_apart (Some s) (Some t) b = same_sort s t || not b
sorts_apart _ _ b = true

-- two rows expect ids of the same kind, or do not meet in a message
abbrev apart : ProfileRow → ProfileRow → Bool
apart r q =
    sorts_apart (sort_of Client r.want) (sort_of Client q.want) (meet r.place q.place
    && both_asked r.kind r.name q.kind q.name)

abbrev all_apart : List ProfileRow → Bool
all_apart [] = true
all_apart (r ∷ rs) = list_all (apart r) rs && all_apart rs

profile_apart : all_apart profile ≡ true
unfolding profile first_rows later_rows
profile_apart = refl

-- the kind for a side's message that corresponds to this kind for a client's message
abbrev from_side : Side → Sort → Sort
from_side Client s = s
from_side Adapter ClientSeq = AdapterSeq
from_side Adapter AdapterSeq = ClientSeq
from_side Adapter s = s

abbrev SortFrom : Side → Want → Sort → Type 0
SortFrom side w s = (t : Sort) × (sort_of Client w ≡ Some t) × (s ≡ from_side side t)

sort_from : (side : Side) (w : Want) (s : Sort) → sort_of side w ≡ Some s → SortFrom side w s
sort_from Client w s h = (s, h, refl)
sort_from Adapter OwnSeq s h = (ClientSeq, refl, cc)
sort_from Adapter OtherSeq s h = (AdapterSeq, refl, cc)
sort_from Adapter w s h = (s, h, cc)

or_false : (a b : Bool) → (a || not b) ≡ true → b ≡ true → a ≡ true
or_false true b h g = refl
or_false false true h g = cc
or_false false false h g = cc

apart_sorts : (r q : ProfileRow) (side : Side) (d : Doc) (s t : Sort) → apart r q ≡ true
    → sort_of side r.want ≡ Some s → sort_of side q.want ≡ Some t
    → row_applies r.kind r.name d ≡ true → row_applies q.kind q.name d ≡ true
    → meet r.place q.place ≡ true → s ≡ t
apart_sorts r q side d s t h rs qt ra qa m =
    let a = sort_from side r.want s rs in
    let b = sort_from side q.want t qt in
    let both = meet r.place q.place && both_asked r.kind r.name q.kind q.name in
    let one : (same_sort a.0 b.0 || not both) ≡ true =
    sym (ap₂ (λ x y. sorts_apart x y both) a.1 b.1) ∙ h in
    let equal =
    same_sort_told a.0 b.0
    (or_false (same_sort a.0 b.0) both one
    (and_both (meet r.place q.place) (both_asked r.kind r.name q.kind q.name) m
    (asked_both r.kind r.name q.kind q.name d ra qa))) in
    a.2 ∙ ap (from_side side) equal ∙ sym b.2

agree_with_row : (r q : ProfileRow) (side : Side) (d : Doc) (s : Sort) (es : Pending)
    → apart r q ≡ true → sort_of side r.want ≡ Some s → row_applies r.kind r.name d ≡ true
    → (o : Option Sort) → sort_of side q.want ≡ o → (b : Bool) → row_applies q.kind q.name d ≡ b
    → AgreeWith s r.place es → AgreeWith s r.place (then_row o b q.place es)
agree_with_row r q side d s es h rs ra None qt b qa rest = rest
agree_with_row r q side d s es h rs ra (Some t) qt true qa rest =
    (λ m. apart_sorts r q side d s t h rs qt ra qa m, rest)
agree_with_row r q side d s es h rs ra (Some t) qt false qa rest = rest

agree_with_rows : (r : ProfileRow) (qs : List ProfileRow) (side : Side) (d : Doc) (s : Sort)
    → list_all (apart r) qs ≡ true → sort_of side r.want ≡ Some s → row_applies r.kind r.name d
    ≡ true
    → AgreeWith s r.place (pending qs side d)
agree_with_rows r [] side d s h rs ra = tt
agree_with_rows r (q ∷ qs) side d s h rs ra =
    agree_with_row r q side d s (pending qs side d) (and_left (apart r q) (list_all (apart r) qs) h)
    rs ra (sort_of side q.want) refl (row_applies q.kind q.name d) refl
    (agree_with_rows r qs side d s (and_right (apart r q) (list_all (apart r) qs) h) rs ra)

agree_row : (r : ProfileRow) (rs : List ProfileRow) (side : Side) (d : Doc)
    → list_all (apart r) rs ≡ true → (o : Option Sort) → sort_of side r.want ≡ o → (b : Bool)
    → row_applies r.kind r.name d ≡ b
    → Agree (pending rs side d) → Agree (then_row o b r.place (pending rs side d))
agree_row r rs side d h None wants b asked rest = rest
agree_row r rs side d h (Some s) wants true asked rest =
    (agree_with_rows r rs side d s h wants asked, rest)
agree_row r rs side d h (Some s) wants false asked rest = rest

agree_pending : (rs : List ProfileRow) (side : Side) (d : Doc) → all_apart rs ≡ true
    → Agree (pending rs side d)
agree_pending [] side d h = tt
agree_pending (r ∷ rs) side d h =
    agree_row r rs side d (and_left (list_all (apart r) rs) (all_apart rs) h) (sort_of side r.want)
    refl (row_applies r.kind r.name d) refl
    (agree_pending rs side d (and_right (list_all (apart r) rs) (all_apart rs) h))

-- the paths of these rows that expect different kinds never meet in one message
abbrev pub AllAgree : List ProfileRow → Type 0
AllAgree rows = (side : Side) (d : Doc) → Agree (pending rows side d)

pub profile_agree : AllAgree profile
profile_agree side d = agree_pending profile side d profile_apart

front_apart : (xs ys : List ProfileRow) → all_apart (xs ++ ys) ≡ true → all_apart xs ≡ true
front_apart [] ys h = refl
front_apart (r ∷ xs) ys h =
    let here = and_left (list_all (apart r) (xs ++ ys)) (all_apart (xs ++ ys)) h in
    let behind = and_right (list_all (apart r) (xs ++ ys)) (all_apart (xs ++ ys)) h in
    and_both (list_all (apart r) xs) (all_apart xs)
    (and_left (list_all (apart r) xs) (list_all (apart r) ys)
    (sym (list_all-append (apart r) xs ys) ∙ here))
    (front_apart xs ys behind)

first_apart : all_apart first_rows ≡ true
unfolding profile
first_apart = front_apart first_rows later_rows profile_apart

pub first_agree : AllAgree first_rows
first_agree side d = agree_pending first_rows side d first_apart
