-- A document without errors has an envelope after it is marked.
use Rattle.dap_tree.specs.Doc.{Doc, null, boolean, whole, text, list, object, id, Members}
use Rattle.dap_tree.specs.Doc.{no_members, member, get, get_member, put}
use Rattle.dap_tree.specs.Path.{Step, name, at}
use Rattle.dap_tree.specs.declared.side.Side.{Side}
use Rattle.dap_tree.specs.declared.side.Side.TheVariants.{Client, Adapter}
use Rattle.dap_tree.specs.declared.sort.Sort.{Sort}
use Rattle.dap_tree.specs.declared.sort.Sort.TheVariants.{ClientSeq, AdapterSeq}
use Rattle.dap_tree.proofs.Paths.{skips}
use Rattle.dap_tree.proofs.Booleans.{and_both}
use Rattle.std.proofs.Common.{◌≡◌, ℕ, zero, suc, ℤ, Bool, true, false, cond, ◌&&◌, ◌||◌, List, []}
use Rattle.std.proofs.Common.{◌∷◌, Option, Some, None, option_map, Ordering, Less, Equal, Greater}
use Rattle.std.proofs.Common.{nat_cmp, codes, refl, sym, ◌∙◌, ap, subst, bytes_eq, is_eq}
use Rattle.std.proofs.Common.{true≢false}
use Rattle.std.specs.Option.{is_some, option_map_or, option_or}
use Rattle.std.proofs.lemmas.Map.Text.{is_eq-slice_cmp}
use Rattle.std.proofs.lemmas.Slice.Eq.{bytes_eq-Decides}
use Rattle.std.specs.Cmp.Lexicographic.{slice_cmp}
use Rattle.std.specs.Ordering.{match_ordering}
use Rattle.dap_profile.specs.PlaceSteps.{named}
use Rattle.dap_profile.specs.Profile.{profile, first_rows, later_rows}
use Rattle.dap_profile.specs.ProfileRows.{ProfileRow}
use Rattle.dap_profile.specs.declared.profile.Kind.{Kind}
use Rattle.dap_profile.specs.declared.profile.Kind.TheVariants.{Request, Response, Event}
use Rattle.dap_profile.specs.declared.profile.Want.{Want}
use Rattle.dap_profile.specs.declared.profile.Want.TheVariants.{Bool as WantBool, Text, OwnSeq}
use Rattle.dap_profile.specs.declared.profile.Want.TheVariants.{OtherSeq}
use Rattle.dap_message.specs.Places.{is_object, fits_place}
use Rattle.dap_message.specs.Rows.{row_fault, first_fault, of_row, row_applies, is_of_kind}
use Rattle.dap_message.specs.Rows.{name_key}
use Rattle.dap_message.specs.Rows.{type_name, is_text, has_type, cause_against, broken_at}
use Rattle.dap_message.specs.Rows.{first_cause, is_null, is_id_number}
use Rattle.dap_message.specs.Faults.{broken_by_rows}
use Rattle.dap_message.specs.Faults.{fault, row_broken, has_kind}
use Rattle.dap_message.specs.Capabilities.{filled, with_capabilities, default_to, is_given}
use Rattle.dap_message.specs.Capabilities.{false_at, capabilities, carries_capabilities}
use Rattle.dap_message.specs.Marks.{mark_by_rows}
use Rattle.dap_message.specs.Marks.{made, made_by, marked, is_id_of, mark_rows, top, sort_of, mark}
use Rattle.dap_message.specs.Envelope.{has_envelope, is_named, text_value, boolean_value, id_number}
use Rattle.dap_message.specs.Envelope.{seq_of}
use Rattle.dap_message.specs.declared.broken_rows.Cause.{Cause}
use Rattle.dap_message.specs.declared.broken_rows.Cause.TheVariants.{WrongType}
use Rattle.dap_message.specs.declared.fault.MessageFault.TheVariants as MessageFault
use Rattle.dap_message.proofs.Edits.{by_bool, get-change_other}
use Rattle.dap_message.proofs.RowMarks.{one_step, text-top, at-mark}

-- ---- members that are not capabilities

pub apart : (k l : List ℕ) → bytes_eq k l ≡ false → k ≡ l → ⊥
apart k l h e = true≢false (sym ((bytes_eq-Decides k l).1 e) ∙ h)

put_at_other : (o : Ordering) (q k l : List ℕ) (d e : Doc) (ms rest : Members)
    → slice_cmp nat_cmp k l ≡ o → (q ≡ k → ⊥) → get_member q rest ≡ get_member q ms
    → get_member q (match_ordering o (member k d (member l e ms)) (member l d ms) (member l e rest))
    ≡ get_member q (member l e ms)
put_at_other Less q k l d e ms rest is other later = skips q k d (member l e ms) other
put_at_other Equal q k l d e ms rest is other later =
    let same : k ≡ l = (bytes_eq-Decides k l).0 (sym (is_eq-slice_cmp k l) ∙ ap is_eq is) in
    let no = λ (h : q ≡ l). other (h ∙ sym same) in
    skips q l d ms no ∙ sym (skips q l e ms no)
put_at_other Greater q k l d e ms rest is other later =
    ap (λ r. match_ordering (slice_cmp nat_cmp q l) r (Some e) r) later

pub get_member-put_other : (q k : List ℕ) (d : Doc) (ms : Members) → (q ≡ k → ⊥)
    → get_member q (put k d ms) ≡ get_member q ms
get_member-put_other q k d no_members other = skips q k d no_members other
get_member-put_other q k d (member l e ms) other =
    put_at_other _ q k l d e ms (put k d ms) refl other (get_member-put_other q k d ms other)

pub given_other : (b : Bool) (q k : List ℕ) (d : Doc) (ms : Members) → (q ≡ k → ⊥)
    → get_member q (cond b ms (put k d ms)) ≡ get_member q ms
given_other true q k d ms other = refl
given_other false q k d ms other = get_member-put_other q k d ms other

get-default_other : (q k : List ℕ) (e d : Doc) → (q ≡ k → ⊥) → get q (default_to k e d) ≡ get q d
get-default_other q k e null other = refl
get-default_other q k e (boolean b) other = refl
get-default_other q k e (whole z) other = refl
get-default_other q k e (text s) other = refl
get-default_other q k e (list ds) other = refl
get-default_other q k e (object ms) other = given_other (is_given (get_member k ms)) q k e ms other
get-default_other q k e (id s z) other = refl

get-filled_if : (q : List ℕ) (b : Bool) (d : Doc) → (q ≡ codes "body" → ⊥)
    → get q (cond b (with_capabilities d) d) ≡ get q d
unfolding with_capabilities
get-filled_if q true d other =
    get-change_other q (codes "body") (false_at capabilities) _ other
    ∙ get-default_other q (codes "body") _ d other
get-filled_if q false d other = refl

pub get-filled : (q : List ℕ) (side : Side) (d : Doc) → bytes_eq q (codes "body") ≡ false
    → get q (filled side d) ≡ get q d
get-filled q side d h = get-filled_if q (carries_capabilities side d) d (apart q (codes "body") h)

-- ---- properties of a member that marks do not change

module _ {X : Type 0} (F : Option Doc → X) (F-top : (o : Option Doc)
    → F (option_map top o) ≡ F o) where
  pub seen-mark : (rs : List ProfileRow) (side : Side) (k : List ℕ) (d : Doc)
      → F (get k (mark_rows rs side d)) ≡ F (option_map (made rs side d (name k ∷ [])) (get k d))
  seen-mark rs side k d =
      sym (F-top (get k (mark_rows rs side d)))
      ∙ ap (λ o. F (option_map top o)) (sym (one_step k (mark_rows rs side d)))
      ∙ ap F (at-mark rs side d (name k ∷ []))
      ∙ F-top (option_map (made rs side d (name k ∷ [])) (at (name k ∷ []) d))
      ∙ ap (λ o. F (option_map (made rs side d (name k ∷ [])) o)) (one_step k d)

made_by-text : (r : ProfileRow) (side : Side) (d : Doc) (p : List Step) (s : List ℕ)
    → made_by r side d p (text s) ≡ text s
made_by-text r side d p s =
    go (sort_of side r.want) (row_applies r.kind r.name d && fits_place r.place p)
  where
    go : (o : Option Sort) (b : Bool)
        → option_map_or (λ t. cond b (marked t (text s)) (text s)) o (text s) ≡ text s
    go None b = refl
    go (Some t) true = refl
    go (Some t) false = refl

made-text : (rs : List ProfileRow) (side : Side) (d : Doc) (p : List Step) (s : List ℕ)
    → made rs side d p (text s) ≡ text s
made-text [] side d p s = refl
made-text (r ∷ rs) side d p s =
    ap (made rs side d p) (made_by-text r side d p s) ∙ made-text rs side d p s

made_by-boolean : (r : ProfileRow) (side : Side) (d : Doc) (p : List Step) (v : Bool)
    → made_by r side d p (boolean v) ≡ boolean v
made_by-boolean r side d p v =
    go (sort_of side r.want) (row_applies r.kind r.name d && fits_place r.place p)
  where
    go : (o : Option Sort) (b : Bool)
        → option_map_or (λ t. cond b (marked t (boolean v)) (boolean v)) o (boolean v) ≡ boolean v
    go None b = refl
    go (Some t) true = refl
    go (Some t) false = refl

made-boolean : (rs : List ProfileRow) (side : Side) (d : Doc) (p : List Step) (v : Bool)
    → made rs side d p (boolean v) ≡ boolean v
made-boolean [] side d p v = refl
made-boolean (r ∷ rs) side d p v =
    ap (made rs side d p) (made_by-boolean r side d p v) ∙ made-boolean rs side d p v

made_by-id : (r : ProfileRow) (side : Side) (d : Doc) (p : List Step) (s : Sort) (z : ℤ)
    → made_by r side d p (id s z) ≡ id s z
made_by-id r side d p s z =
    go (sort_of side r.want) (row_applies r.kind r.name d && fits_place r.place p)
  where
    go : (o : Option Sort) (b : Bool)
        → option_map_or (λ t. cond b (marked t (id s z)) (id s z)) o (id s z) ≡ id s z
    go None b = refl
    go (Some t) true = refl
    go (Some t) false = refl

pub made-id : (rs : List ProfileRow) (side : Side) (d : Doc) (p : List Step) (s : Sort) (z : ℤ)
    → made rs side d p (id s z) ≡ id s z
made-id [] side d p s z = refl
made-id (r ∷ rs) side d p s z =
    ap (made rs side d p) (made_by-id r side d p s z) ∙ made-id rs side d p s z

words-top : (o : Option Doc) → text_value (option_map top o) ≡ text_value o
words-top None = refl
words-top (Some null) = refl
words-top (Some (boolean b)) = refl
words-top (Some (whole z)) = refl
words-top (Some (text s)) = refl
words-top (Some (list ds)) = refl
words-top (Some (object ms)) = refl
words-top (Some (id s z)) = refl

flag-top : (o : Option Doc) → boolean_value (option_map top o) ≡ boolean_value o
flag-top None = refl
flag-top (Some null) = refl
flag-top (Some (boolean b)) = refl
flag-top (Some (whole z)) = refl
flag-top (Some (text s)) = refl
flag-top (Some (list ds)) = refl
flag-top (Some (object ms)) = refl
flag-top (Some (id s z)) = refl

number-top : (o : Option Doc) → id_number (option_map top o) ≡ id_number o
number-top None = refl
number-top (Some null) = refl
number-top (Some (boolean b)) = refl
number-top (Some (whole z)) = refl
number-top (Some (text s)) = refl
number-top (Some (list ds)) = refl
number-top (Some (object ms)) = refl
number-top (Some (id s z)) = refl

words-kept : (rs : List ProfileRow) (side : Side) (k s : List ℕ) (d : Doc) → get k d ≡ Some (text s)
    → text_value (get k (mark_rows rs side d)) ≡ Some s
words-kept rs side k s d h =
    seen-mark text_value words-top rs side k d
    ∙ ap (λ o. text_value (option_map (made rs side d (name k ∷ [])) o)) h
    ∙ ap (λ e. text_value (Some e)) (made-text rs side d (name k ∷ []) s)

flag-kept : (rs : List ProfileRow) (side : Side) (k : List ℕ) (b : Bool) (d : Doc)
    → get k d ≡ Some (boolean b) → boolean_value (get k (mark_rows rs side d)) ≡ Some b
flag-kept rs side k b d h =
    seen-mark boolean_value flag-top rs side k d
    ∙ ap (λ o. boolean_value (option_map (made rs side d (name k ∷ [])) o)) h
    ∙ ap (λ e. boolean_value (Some e)) (made-boolean rs side d (name k ∷ []) b)

-- ---- rows that are not violated

pub fault_free : {X : Type 0} (a b : Option X) → option_or a b ≡ None → (a ≡ None) × (b ≡ None)
fault_free None b h = (refl, h)
fault_free (Some x) b h = cc

pub free_cause : (n : ℕ) (o : Option Cause) → option_map (of_row n) o ≡ None → o ≡ None
free_cause n None h = refl
free_cause n (Some c) h = cc

pub one_cause : (o : Option Cause) → first_cause (o ∷ []) ≡ None → o ≡ None
one_cause None h = refl
one_cause (Some c) h = cc

abbrev pub Stands : Want → Option Doc → Type 0
Stands w o = (e : Doc) × (o ≡ Some e) × (has_type w e ≡ true)

has_it : (b c : Bool) → cond b None (cond (c && false) None (Some WrongType)) ≡ None → b ≡ true
has_it true c h = refl
has_it false true h = cc
has_it false false h = cc

judged_well : (w : Want) (o : Option Doc) → cause_against w true o ≡ None → Stands w o
judged_well w None h = cc
judged_well w (Some e) h = (e, refl, has_it (has_type w e) (is_null e) h)

pub row_free : (n : ℕ) (kd : Option Kind) (nm : Option (List ℕ)) (k : List ℕ) (w : Want) (d : Doc)
    → is_object d ≡ true → row_applies kd nm d ≡ true
    → row_fault
    (record { number = n; kind = kd; name = nm; place = named k ∷ []; want = w; needed = true })
    d ≡ None → Stands w (get k d)
row_free n kd nm k w d ob asked h =
    let a : option_map (of_row n) (broken_at (named k ∷ []) w true d) ≡ None = rw asked at h in
    let b : broken_at (named k ∷ []) w true d ≡ None =
    free_cause n (broken_at (named k ∷ []) w true d) a in
    let c : first_cause (cause_against w true (get k d) ∷ []) ≡ None = rw ob at b in
    judged_well w (get k d) (one_cause (cause_against w true (get k d)) c)

abbrev pub get_at : ℕ → List ProfileRow → Option ProfileRow
get_at i [] = None
get_at zero (r ∷ rs) = Some r
get_at (suc i) (r ∷ rs) = get_at i rs

pub some_is : {X : Type 0} (a b : X) → Some a ≡ Some b → a ≡ b
some_is a b h = cc

pub free_at : (i : ℕ) (rs : List ProfileRow) (r : ProfileRow) (d : Doc) → first_fault rs d ≡ None
    → get_at i rs ≡ Some r → row_fault r d ≡ None
free_at i [] r d h e = cc
free_at zero (q ∷ rs) r d h e =
    subst (λ x. row_fault x d
    ≡ None) (some_is q r e) (fault_free (row_fault q d) (first_fault rs d) h).0
free_at (suc i) (q ∷ rs) r d h e =
    free_at i rs r d (fault_free (row_fault q d) (first_fault rs d) h).1 e

-- ---- a number that becomes an id

by_option : {P : Type 0} (o : Option Sort) (b : Bool) (n : ℤ)
    → (option_map_or (λ t. cond b (marked t (whole n)) (whole n)) o (whole n) ≡ whole n → P)
    → ((t : Sort) → option_map_or (λ t. cond b (marked t (whole n)) (whole n)) o (whole n) ≡ id t n
    → P) → P
by_option None b n f g = f refl
by_option (Some t) false n f g = f refl
by_option (Some t) true n f g = by_bool (is_id_of t n) (λ h. g t (rw h refl)) (λ h. f (rw h refl))

abbrev IsThere : List ProfileRow → Side → Doc → List Step → Doc → Type 0
IsThere rs side d p x = is_some (id_number (Some (made rs side d p x))) ≡ true

there-id : (rs : List ProfileRow) (side : Side) (d : Doc) (p : List Step) (s : Sort) (z : ℤ)
    → IsThere rs side d p (id s z)
there-id rs side d p s z = ap (λ x. is_some (id_number (Some x))) (made-id rs side d p s z)

made-first : (r : ProfileRow) (side : Side) (d : Doc) (p : List Step) (s : Sort) (n : ℤ)
    → row_applies r.kind r.name d ≡ true → fits_place r.place p ≡ true
    → sort_of side r.want ≡ Some s → is_id_of s n ≡ true → made_by r side d p (whole n) ≡ id s n
made-first r side d p s n a f w i = rw (a, f, w, i) refl

made-there : (i : ℕ) (rs : List ProfileRow) (r : ProfileRow) (side : Side) (d : Doc) (p : List Step)
    (s : Sort) (n : ℤ) → get_at i rs ≡ Some r
    → row_applies r.kind r.name d ≡ true → fits_place r.place p ≡ true → sort_of side r.want
    ≡ Some s
    → is_id_of s n ≡ true → IsThere rs side d p (whole n)
made-there i [] r side d p s n e a f w j = cc
made-there zero (q ∷ rs) r side d p s n e a f w j =
    let first : made_by q side d p (whole n) ≡ id s n =
    ap (λ x. made_by x side d p (whole n)) (some_is q r e)
    ∙ made-first r side d p s n a f w j in
    ap (λ x. is_some (id_number (Some (made rs side d p x)))) first ∙ there-id rs side d p s n
made-there (suc i) (q ∷ rs) r side d p s n e a f w j =
    by_option (sort_of side q.want) (row_applies q.kind q.name d && fits_place q.place p) n
    (λ h. ap (λ x. is_some (id_number (Some (made rs side d p x)))) h
    ∙ made-there i rs r side d p s n e a f w j)
    (λ t h. ap (λ x. is_some (id_number (Some (made rs side d p x)))) h ∙ there-id rs side d p t n)

number-kept : (rs : List ProfileRow) (side : Side) (k : List ℕ) (n : ℤ) (d : Doc)
    → get k d ≡ Some (whole n) → IsThere rs side d (name k ∷ []) (whole n)
    → is_some (id_number (get k (mark_rows rs side d))) ≡ true
number-kept rs side k n d h j =
    ap is_some (seen-mark id_number number-top rs side k d)
    ∙ ap (λ o. is_some (id_number (option_map (made rs side d (name k ∷ [])) o))) h ∙ j

pub text_there : (w : List ℕ) (o : Option Doc) → is_text w o ≡ true
    → (s : List ℕ) × (o ≡ Some (text s))
text_there w None h = cc
text_there w (Some null) h = cc
text_there w (Some (boolean b)) h = cc
text_there w (Some (whole z)) h = cc
text_there w (Some (text s)) h = (s, refl)
text_there w (Some (list ds)) h = cc
text_there w (Some (object ms)) h = cc
text_there w (Some (id s z)) h = cc

text-kept : (rs : List ProfileRow) (side : Side) (w k : List ℕ) (d : Doc)
    → is_text w (get k d) ≡ true → is_text w (get k (mark_rows rs side d)) ≡ true
text-kept rs side w k d h =
    let s = text_there w (get k d) h in
    seen-mark (is_text w) (text-top w) rs side k d
    ∙ ap (λ o. is_text w (option_map (made rs side d (name k ∷ [])) o)) s.1
    ∙ ap (λ e. is_text w (Some e)) (made-text rs side d (name k ∷ []) s.0)
    ∙ ap (is_text w) (sym s.1) ∙ h

as_text : (e : Doc) → has_type Text e ≡ true → (s : List ℕ) × (e ≡ text s)
as_text null h = cc
as_text (boolean b) h = cc
as_text (whole z) h = cc
as_text (text s) h = (s, refl)
as_text (list ds) h = cc
as_text (object ms) h = cc
as_text (id s z) h = cc

as_flag : (e : Doc) → has_type WantBool e ≡ true → (b : Bool) × (e ≡ boolean b)
as_flag null h = cc
as_flag (boolean b) h = (b, refl)
as_flag (whole z) h = cc
as_flag (text s) h = cc
as_flag (list ds) h = cc
as_flag (object ms) h = cc
as_flag (id s z) h = cc

pub as_own : (e : Doc) → has_type OwnSeq e ≡ true
    → (n : ℤ) × (e ≡ whole n) × (is_id_number n ≡ true)
as_own null h = cc
as_own (boolean b) h = cc
as_own (whole z) h = (z, refl, h)
as_own (text s) h = cc
as_own (list ds) h = cc
as_own (object ms) h = cc
as_own (id s z) h = cc

pub as_other : (e : Doc) → has_type OtherSeq e ≡ true
    → (n : ℤ) × (e ≡ whole n) × (is_id_number n ≡ true)
as_other null h = cc
as_other (boolean b) h = cc
as_other (whole z) h = (z, refl, h)
as_other (text s) h = cc
as_other (list ds) h = cc
as_other (object ms) h = cc
as_other (id s z) h = cc

abbrev own : Side → Sort
own Client = ClientSeq
own Adapter = AdapterSeq

abbrev other : Side → Sort
other Client = AdapterSeq
other Adapter = ClientSeq

own_is : (side : Side) (n : ℤ) → is_id_number n ≡ true
    → (sort_of side OwnSeq ≡ Some (own side)) × (is_id_of (own side) n ≡ true)
own_is Client n h = (refl, h)
own_is Adapter n h = (refl, h)

other_is : (side : Side) (n : ℤ) → is_id_number n ≡ true
    → (sort_of side OtherSeq ≡ Some (other side)) × (is_id_of (other side) n ≡ true)
other_is Client n h = (refl, h)
other_is Adapter n h = (refl, h)

-- ---- all rows together

abbrev pub row_1 : ProfileRow
row_1 = record {
  number = 1;
  kind = None;
  name = None;
  place = named (codes "seq")
      ∷ [];
  want = OwnSeq;
  needed = true;
}

abbrev pub row_2 : ProfileRow
row_2 = record {
  number = 2;
  kind = Some Request;
  name = None;
  place = named (codes "command")
      ∷ [];
  want = Text;
  needed = true;
}

abbrev pub row_3 : ProfileRow
row_3 = record {
  number = 3;
  kind = Some Event;
  name = None;
  place = named (codes "event")
      ∷ [];
  want = Text;
  needed = true;
}

abbrev pub row_4 : ProfileRow
row_4 = record {
  number = 4;
  kind = Some Response;
  name = None;
  place = named (codes "request_seq")
      ∷ [];
  want = OtherSeq;
  needed = true;
}

abbrev row_5 : ProfileRow
row_5 = record {
  number = 5;
  kind = Some Response;
  name = None;
  place = named (codes "success")
      ∷ [];
  want = WantBool;
  needed = true;
}

abbrev row_6 : ProfileRow
row_6 = record {
  number = 6;
  kind = Some Response;
  name = None;
  place = named (codes "command")
      ∷ [];
  want = Text;
  needed = true;
}

seq_there : (side : Side) (d : Doc) → is_object d ≡ true → first_fault profile d ≡ None
    → is_some (seq_of (mark_rows profile side (filled side d))) ≡ true
unfolding profile first_rows later_rows
seq_there side d ob h =
    let s = row_free 1 None None (codes "seq") OwnSeq d ob refl (free_at 0 profile row_1 d h refl)
    in
    let n = as_own s.0 s.2 in
    let k = own_is side n.0 n.2 in
    number-kept profile side (codes "seq") n.0 (filled side d) (get-filled (codes "seq") side d refl
    ∙ s.1 ∙ ap Some n.1)
    (made-there 0 profile row_1 side (filled side d) (name (codes "seq") ∷ []) (own side) n.0 refl
    refl refl k.0 k.1)

abbrev After : Side → Doc → Doc
After side d = mark_rows profile side (filled side d)

pub kind_there : (side : Side) (d : Doc) (k : Kind) → is_of_kind k d ≡ true
    → is_of_kind k (After side d) ≡ true
kind_there side d k h =
    text-kept profile side (type_name k) (codes "type") (filled side d)
    (ap (is_text (type_name k)) (get-filled (codes "type") side d refl) ∙ h)

words_there : (side : Side) (d : Doc) (n : ℕ) (kd : Kind) (k : List ℕ) → is_object d ≡ true
    → is_of_kind kd d ≡ true → bytes_eq k (codes "body") ≡ false
    → row_fault
    (record {
      number = n;
      kind = Some kd;
      name = None;
      place = named k
          ∷ [];
      want = Text;
      needed = true;
    }) d ≡ None
    → is_some (text_value (get k (After side d))) ≡ true
words_there side d n kd k ob is away free =
    let s = row_free n (Some kd) None k Text d ob is free in
    let t = as_text s.0 s.2 in
    ap is_some (words-kept profile side k t.0 (filled side d) (get-filled k side d away ∙ s.1
    ∙ ap Some t.1))

success_there : (side : Side) (d : Doc) → is_object d ≡ true → is_of_kind Response d ≡ true
    → first_fault profile d ≡ None
    → is_some (boolean_value (get (codes "success") (After side d))) ≡ true
unfolding profile first_rows later_rows
success_there side d ob is h =
    let s = row_free 5 (Some Response) None (codes "success") WantBool d ob is
    (free_at 4 profile row_5 d h refl) in
    let b = as_flag s.0 s.2 in
    ap is_some (flag-kept profile side (codes "success") b.0 (filled side d)
    (get-filled (codes "success") side d refl ∙ s.1 ∙ ap Some b.1))

request_seq_there : (side : Side) (d : Doc) → is_object d ≡ true → is_of_kind Response d ≡ true
    → first_fault profile d ≡ None
    → is_some (id_number (get (codes "request_seq") (After side d))) ≡ true
unfolding profile first_rows later_rows
request_seq_there side d ob is h =
    let s = row_free 4 (Some Response) None (codes "request_seq") OtherSeq d ob is
    (free_at 3 profile row_4 d h refl) in
    let n = as_other s.0 s.2 in
    let k = other_is side n.0 n.2 in
    let asked : is_of_kind Response (filled side d) ≡ true =
    ap (is_text (type_name Response)) (get-filled (codes "type") side d refl) ∙ is in
    number-kept profile side (codes "request_seq") n.0 (filled side d)
    (get-filled (codes "request_seq") side d refl ∙ s.1 ∙ ap Some n.1)
    (made-there 3 profile row_4 side (filled side d) (name (codes "request_seq") ∷ []) (other side)
    n.0 refl asked refl k.0 k.1)

or_1 : (a b c : Bool) → a ≡ true → (a || b || c) ≡ true
or_1 true true c h = refl
or_1 true false c h = refl
or_1 false b c h = cc

or_2 : (a b c : Bool) → b ≡ true → (a || b || c) ≡ true
or_2 true true c h = refl
or_2 false true c h = refl
or_2 a false c h = cc

or_3 : (a b c : Bool) → c ≡ true → (a || b || c) ≡ true
or_3 true b true h = refl
or_3 false true true h = refl
or_3 false false true h = refl
or_3 a b false h = cc

pub which : {P : Type 0} (a b c : Bool) → (a || b || c) ≡ true → (a ≡ true → P) → (b ≡ true → P)
    → (c ≡ true → P) → P
which true b c h f g k = f refl
which false true c h f g k = g refl
which false false true h f g k = k refl
which false false false h f g k = cc

pub fault_parts : {X : Type 0} (a b : Bool) (o : Option X) (x y : X)
    → cond a (cond b o (Some x)) (Some y) ≡ None → (a ≡ true) × (b ≡ true) × (o ≡ None)
fault_parts true true o x y h = (refl, refl, h)
fault_parts true false o x y h = cc
fault_parts false b o x y h = cc

pub rows_free : (d : Doc) → row_broken d ≡ None → first_fault profile d ≡ None
unfolding broken_by_rows
rows_free d h = h

enveloped : (side : Side) (d : Doc) → is_object d ≡ true → has_kind d ≡ true
    → first_fault profile d ≡ None → has_envelope (After side d) ≡ true
unfolding profile first_rows later_rows
enveloped side d ob known h =
    let e = After side d in
    let a = is_named Request e in
    let answered = is_some (id_number (get (codes "request_seq") e)) in
    let succeeded = is_some (boolean_value (get (codes "success") e)) in
    let b = is_named Response e && answered && succeeded in
    let c = is_named Event e in
    and_both (is_some (seq_of e)) (a || b || c) (seq_there side d ob h)
    (which (is_of_kind Request d) (is_of_kind Response d) (is_of_kind Event d) known
    (λ is. or_1 a b c
    (and_both (is_of_kind Request e) (is_some (text_value (get (name_key Request) e)))
    (kind_there side d Request is)
    (words_there side d 2 Request (codes "command") ob is refl
    (free_at 1 profile row_2 d h refl))))
    (λ is. or_2 a b c
    (and_both (is_named Response e && answered) succeeded
    (and_both (is_named Response e) answered
    (and_both (is_of_kind Response e) (is_some (text_value (get (name_key Response) e)))
    (kind_there side d Response is)
    (words_there side d 6 Response (codes "command") ob is refl
    (free_at 5 profile row_6 d h refl)))
    (request_seq_there side d ob is h))
    (success_there side d ob is h)))
    (λ is. or_3 a b c
    (and_both (is_of_kind Event e) (is_some (text_value (get (name_key Event) e)))
    (kind_there side d Event is)
    (words_there side d 3 Event (codes "event") ob is refl
    (free_at 2 profile row_3 d h refl)))))

pub enveloped-message : (side : Side) (d : Doc) → fault d ≡ None
    → has_envelope (mark side (filled side d)) ≡ true
unfolding mark_by_rows
enveloped-message side d h =
    let p = fault_parts (is_object d) (has_kind d) (row_broken d) MessageFault.UnknownType
    MessageFault.NotObject h in
    enveloped side d p.0 p.1 (rows_free d p.2)
