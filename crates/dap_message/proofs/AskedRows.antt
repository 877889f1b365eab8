-- The rows that apply to a message have the same effect as all rows, and are determined by its kind
-- and name.
use Rattle.dap_tree.specs.Doc.{Doc, null, boolean, whole, text, list, object, id, get}
use Rattle.dap_tree.specs.declared.side.Side.{Side}
use Rattle.dap_tree.specs.declared.sort.Sort.{Sort}
use Rattle.std.proofs.Common.{◌≡◌, ℕ, Bool, true, false, cond, ◌&&◌, ◌||◌, List, [], ◌∷◌, ◌++◌}
use Rattle.std.proofs.Common.{Option, Some, None, option_and_then, refl, sym, ◌∙◌, ap, ap₂}
use Rattle.std.proofs.Common.{bytes_eq, codes, is_some, true≢false, drop, length, ◌<◌, ◌+◌, get_or}
use Rattle.std.proofs.lemmas.List.{at_drop_more}
use Rattle.std.specs.List.{filter, flat_map}
use Rattle.std.specs.Option.{option_or, option_map_or}
use Rattle.dap_profile.specs.RowRanges.{same_kind, asks, rows_asked}
use Rattle.dap_profile.specs.Profile.{profile}
use Rattle.dap_profile.specs.ProfileRows.{ProfileRow}
use Rattle.dap_profile.specs.declared.profile.Kind.{Kind}
use Rattle.dap_profile.specs.declared.profile.Kind.TheVariants.{Request, Response, Event}
use Rattle.dap_message.specs.AskedRows.{asked_rows, kind_typed, kind_of_tree, name_of_tree}
use Rattle.dap_message.specs.AskedRows.{fault_by}
use Rattle.dap_message.specs.AskedRows.{first_by, mark_by, marks_by}
use Rattle.dap_message.specs.Capabilities.{carries_capabilities, filled}
use Rattle.dap_message.specs.Envelope.{text_value}
use Rattle.dap_message.specs.Faults.{broken_by_rows}
use Rattle.dap_message.specs.Faults.{fault, row_broken, has_kind}
use Rattle.dap_message.specs.Marks.{mark_by_rows}
use Rattle.dap_message.specs.Marks.{sort_of, marked, edit, mark_row, mark_rows, mark}
use Rattle.dap_message.specs.Message.{Refuses}
use Rattle.dap_message.specs.Places.{is_object}
use Rattle.dap_message.specs.Rows.{first_fault, row_applies, is_of_kind, is_text, type_name}
use Rattle.dap_message.specs.Rows.{name_key}
use Rattle.dap_message.specs.Rows.{may_have_body}
use Rattle.dap_message.specs.declared.fault.MessageFault.{MessageFault}
use Rattle.dap_message.specs.declared.fault.MessageFault.TheVariants.{NotObject, UnknownType}
use Rattle.dap_message.specs.declared.fault.MessageFault.TheVariants.{Missing, WrongType, Memory}
use Rattle.dap_message.proofs.SortsApart.{AskedAlike}
use Rattle.dap_message.proofs.BodyRows.{other_word, asked-outside}
use Rattle.dap_message.proofs.Envelopes.{get-filled}
use Rattle.dap_message.proofs.FilledFits.{object-if}
use Rattle.dap_message.proofs.RowMarks.{asked-mark_row}

-- ---- errors and marks by the rows that apply

first-asked : (rs : List ProfileRow) (d : Doc)
    → first_fault rs d ≡ first_by (filter (λ r. row_applies r.kind r.name d) rs) d
first-asked [] d = refl
first-asked (r ∷ rs) d =
    ap (option_or (cond (row_applies r.kind r.name d) (fault_by r d) None)) (first-asked rs d)
    ∙ go (row_applies r.kind r.name d) (filter (λ r. row_applies r.kind r.name d) rs)
  where
    go : (b : Bool) (rest : List ProfileRow)
        → option_or (cond b (fault_by r d) None) (first_by rest d)
        ≡ first_by (cond b (r ∷ rest) rest) d
    go true rest = refl
    go false rest = refl

pub broken-asked : (d : Doc) → row_broken d ≡ first_by (asked_rows d) d
unfolding broken_by_rows asked_rows
broken-asked d = first-asked profile d

marks-asked : (rs : List ProfileRow) (side : Side) (d e : Doc) → AskedAlike d e
    → mark_rows rs side e ≡ marks_by (filter (λ r. row_applies r.kind r.name d) rs) side e
marks-asked [] side d e h = refl
marks-asked (r ∷ rs) side d e h =
    let rest = filter (λ (r : ProfileRow). row_applies r.kind r.name d) rs in
    marks-asked rs side d (mark_row r side e) (λ k n. asked-mark_row r side k n e ∙ h k n)
    ∙ ap (λ b. marks_by rest side
    (option_map_or (λ s. cond b (edit r.place (marked s) e) e) (sort_of side r.want) e))
    (h r.kind r.name)
    ∙ ap (marks_by rest side) (within (sort_of side r.want) (row_applies r.kind r.name d))
    ∙ go (row_applies r.kind r.name d) rest
  where
    within : (o : Option Sort) (b : Bool)
        → option_map_or (λ s. cond b (edit r.place (marked s) e) e) o e
        ≡ cond b (option_map_or (λ s. edit r.place (marked s) e) o e) e
    within None true = refl
    within None false = refl
    within (Some s) b = refl

    go : (b : Bool) (rest : List ProfileRow)
        → marks_by rest side (cond b (mark_by r side e) e)
        ≡ marks_by (cond b (r ∷ rest) rest) side e
    go true rest = refl
    go false rest = refl

pub mark-asked : (side : Side) (d : Doc) → mark side d ≡ marks_by (asked_rows d) side d
unfolding mark_by_rows asked_rows
mark-asked side d = marks-asked profile side d d (λ k n. refl)

-- ---- the kind and the name determine the rows

text-value : (w : List ℕ) (o : Option Doc)
    → is_text w o ≡ option_map_or (bytes_eq w) (text_value o) false
text-value w None = refl
text-value w (Some null) = refl
text-value w (Some (boolean b)) = refl
text-value w (Some (whole z)) = refl
text-value w (Some (text s)) = refl
text-value w (Some (list ds)) = refl
text-value w (Some (object ms)) = refl
text-value w (Some (id s z)) = refl

abbrev reported : Bool → Bool → Bool → Option Kind
reported a b c = cond a (Some Request) (cond b (Some Response) (cond c (Some Event) None))

reported-first : (a b c : Bool) → a ≡ option_map_or (same_kind Request) (reported a b c) false
reported-first true b c = refl
reported-first false true c = refl
reported-first false false true = refl
reported-first false false false = refl

reported-second : (a b c : Bool) → (a ≡ true → b ≡ false)
    → b ≡ option_map_or (same_kind Response) (reported a b c) false
reported-second true b c h = h refl
reported-second false true c h = refl
reported-second false false true h = refl
reported-second false false false h = refl

reported-third : (a b c : Bool) → (a ≡ true → c ≡ false) → (b ≡ true → c ≡ false)
    → c ≡ option_map_or (same_kind Event) (reported a b c) false
reported-third true b c h g = h refl
reported-third false true c h g = g refl
reported-third false false true h g = refl
reported-third false false false h g = refl

-- a document has at most one kind
kind-typed : (k : Kind) (s : List ℕ)
    → bytes_eq (type_name k) s ≡ option_map_or (same_kind k) (kind_typed s) false
kind-typed Request s =
    reported-first (bytes_eq (type_name Request) s) (bytes_eq (type_name Response) s)
    (bytes_eq (type_name Event) s)
kind-typed Response s =
    reported-second (bytes_eq (type_name Request) s) (bytes_eq (type_name Response) s)
    (bytes_eq (type_name Event) s)
    (other_word (type_name Response) (type_name Request) (Some (text s)) refl)
kind-typed Event s =
    reported-third (bytes_eq (type_name Request) s) (bytes_eq (type_name Response) s)
    (bytes_eq (type_name Event) s)
    (other_word (type_name Event) (type_name Request) (Some (text s)) refl)
    (other_word (type_name Event) (type_name Response) (Some (text s)) refl)

pub kind-reported : (k : Kind) (d : Doc)
    → is_of_kind k d ≡ option_map_or (same_kind k) (kind_of_tree d) false
kind-reported k d =
    text-value (type_name k) (get (codes "type") d) ∙ go (text_value (get (codes "type") d))
  where
    go : (o : Option (List ℕ))
        → option_map_or (bytes_eq (type_name k)) o false
        ≡ option_map_or (same_kind k) (option_and_then kind_typed o) false
    go None = refl
    go (Some s) = kind-typed k s

-- the name that decides which rows apply, if the document has a kind
abbrev pub any_name : Option Kind → Doc → Option (List ℕ)
any_name k d = option_map_or (λ j. name_of_tree j d) k None

asked-reported : (r : ProfileRow) (d : Doc)
    → row_applies r.kind r.name d ≡ asks (kind_of_tree d) (any_name (kind_of_tree d) d) r
asked-reported r d = go r.kind r.name
  where
    -- the value is this string, and there may be a body
    worded : (w : List ℕ) (o : Option Doc) (b : Bool)
        → (is_text w o && b) ≡ option_map_or (bytes_eq w) (cond b (text_value o) None) false
    worded w o true = both (is_text w o) ∙ text-value w o
      where
        both : (a : Bool) → (a && true) ≡ a
        both true = refl
        both false = refl
    worded w o false = both (is_text w o)
      where
        both : (a : Bool) → (a && false) ≡ false
        both true = refl
        both false = refl

    kinded : (k : Kind) (o : Option Kind) (n : Bool) (m : Kind → Bool) → n ≡ m k
        → (option_map_or (same_kind k) o false && n)
        ≡ (option_map_or (same_kind k) o false && option_map_or m o false)
    kinded k None n m h = refl
    kinded Request (Some Request) n m h = h
    kinded Response (Some Response) n m h = h
    kinded Event (Some Event) n m h = h
    kinded Request (Some Response) n m h = refl
    kinded Request (Some Event) n m h = refl
    kinded Response (Some Request) n m h = refl
    kinded Response (Some Event) n m h = refl
    kinded Event (Some Request) n m h = refl
    kinded Event (Some Response) n m h = refl

    pulled : (w : List ℕ) (o : Option Kind)
        → option_map_or (λ j. option_map_or (bytes_eq w) (name_of_tree j d) false) o false
        ≡ option_map_or (bytes_eq w) (any_name o d) false
    pulled w None = refl
    pulled w (Some j) = refl

    grouped : (a b c : Bool) → ((a && b) && c) ≡ (a && (b && c))
    grouped true b c = refl
    grouped false b c = refl

    always : (a : Bool) → a ≡ (a && true)
    always true = refl
    always false = refl

    go : (k : Option Kind) (n : Option (List ℕ)) → row_applies k n d
        ≡ option_map_or (λ j. option_map_or (same_kind j) (kind_of_tree d) false
        && option_map_or (λ m. option_map_or (bytes_eq m) (any_name (kind_of_tree d) d) false) n
        true) k true
    go None n = refl
    go (Some k) None = kind-reported k d
        ∙ always (option_map_or (same_kind k) (kind_of_tree d) false)
    go (Some k) (Some w) =
        grouped (is_of_kind k d) (is_text w (get (name_key k) d)) (may_have_body k d)
        ∙ ap (λ b. b && (is_text w (get (name_key k) d) && may_have_body k d)) (kind-reported k d)
        ∙ kinded k (kind_of_tree d) (is_text w (get (name_key k) d) && may_have_body k d)
        (λ j. option_map_or (bytes_eq w) (name_of_tree j d) false)
        (worded w (get (name_key k) d) (may_have_body k d))
        ∙ ap (λ b. option_map_or (same_kind k) (kind_of_tree d) false && b)
        (pulled w (kind_of_tree d))

filter-same : (f g : ProfileRow → Bool) (rs : List ProfileRow) → ((r : ProfileRow) → f r ≡ g r)
    → filter f rs ≡ filter g rs
filter-same f g [] h = refl
filter-same f g (r ∷ rs) h = ap₂ (λ b xs. cond b (r ∷ xs) xs) (h r) (filter-same f g rs h)

pub asked-rows : (d : Doc) → asked_rows d
    ≡ rows_asked (kind_of_tree d) (any_name (kind_of_tree d) d)
unfolding asked_rows rows_asked
asked-rows d =
    filter-same (λ r. row_applies r.kind r.name d)
    (asks (kind_of_tree d) (any_name (kind_of_tree d) d))
    profile (λ r. asked-reported r d)

-- ---- range by range

first_by-append : (xs ys : List ProfileRow) (d : Doc)
    → first_by (xs ++ ys) d ≡ option_or (first_by xs d) (first_by ys d)
first_by-append [] ys d = refl
first_by-append (r ∷ xs) ys d =
    ap (option_or (fault_by r d)) (first_by-append xs ys d) ∙ go (fault_by r d)
  where
    go : (o : Option MessageFault)
        → option_or o (option_or (first_by xs d) (first_by ys d))
        ≡ option_or (option_or o (first_by xs d)) (first_by ys d)
    go None = refl
    go (Some f) = refl

first-drop : {X : Type 0} (f : X → List ProfileRow) (xs : List X) (i : ℕ) (x : X) (d : Doc)
    → i < length xs
    → first_by (flat_map f (drop i xs)) d
    ≡ option_or (first_by (f (get_or xs i x)) d) (first_by (flat_map f (drop (i + 1) xs)) d)
first-drop f xs i x d lt =
    at_drop_more (λ ys. first_by (flat_map f ys) d) xs i x lt
    ∙ first_by-append (f (get_or xs i x)) (flat_map f (drop (i + 1) xs)) d

-- the error of the first remaining range is the error; if it has no error, the other ranges decide
pub first-reported : {X : Type 0} (f : X
    → List ProfileRow) (xs : List X) (i : ℕ) (x : X) (d : Doc) (o : Option MessageFault)
    → i < length xs
    → o ≡ first_by (f (get_or xs i x)) d → is_some o ≡ true
    → first_by (flat_map f (drop i xs)) d ≡ o
first-reported f xs i x d o lt e h =
    first-drop f xs i x d lt
    ∙ ap (λ p. option_or p (first_by (flat_map f (drop (i + 1) xs)) d)) (sym e)
    ∙ go o (first_by (flat_map f (drop (i + 1) xs)) d) h
  where
    go : (o r : Option MessageFault) → is_some o ≡ true → option_or o r ≡ o
    go None r h = absurd (true≢false (sym h))
    go (Some f) r h = refl

pub first-rest : {X : Type 0} (f : X
    → List ProfileRow) (xs : List X) (i : ℕ) (x : X) (d : Doc) (o : Option MessageFault)
    → i < length xs
    → o ≡ first_by (f (get_or xs i x)) d → is_some o ≡ false
    → first_by (flat_map f (drop i xs)) d ≡ first_by (flat_map f (drop (i + 1) xs)) d
first-rest f xs i x d o lt e h =
    first-drop f xs i x d lt
    ∙ ap (λ p. option_or p (first_by (flat_map f (drop (i + 1) xs)) d)) (sym e)
    ∙ go o (first_by (flat_map f (drop (i + 1) xs)) d) h
  where
    go : (o r : Option MessageFault) → is_some o ≡ false → option_or o r ≡ r
    go None r h = refl
    go (Some f) r h = absurd (true≢false h)

marks_by-append : (xs ys : List ProfileRow) (side : Side) (d : Doc)
    → marks_by (xs ++ ys) side d ≡ marks_by ys side (marks_by xs side d)
marks_by-append [] ys side d = refl
marks_by-append (r ∷ xs) ys side d = marks_by-append xs ys side (mark_by r side d)

pub marks-drop : {X : Type 0} (f : X
    → List ProfileRow) (xs : List X) (i : ℕ) (x : X) (side : Side) (d : Doc) → i < length xs
    → marks_by (flat_map f (drop i xs)) side d
    ≡ marks_by (flat_map f (drop (i + 1) xs)) side (marks_by (f (get_or xs i x)) side d)
marks-drop f xs i x side d lt =
    at_drop_more (λ ys. marks_by (flat_map f ys) side d) xs i x lt
    ∙ marks_by-append (f (get_or xs i x)) (flat_map f (drop (i + 1) xs)) side d

-- ---- the error of a document

kind-any : (d : Doc) → has_kind d ≡ is_some (kind_of_tree d)
kind-any d =
    ap₂ (λ a b. a || b) (ap₂ (λ a b. a || b) (kind-reported Request d) (kind-reported Response d))
    (kind-reported Event d) ∙ go (kind_of_tree d)
  where
    go : (o : Option Kind)
        → ((option_map_or (same_kind Request) o false || option_map_or (same_kind Response) o false)
        || option_map_or (same_kind Event) o false) ≡ is_some o
    go None = refl
    go (Some Request) = refl
    go (Some Response) = refl
    go (Some Event) = refl

pub fault-kindless : (d : Doc) → is_object d ≡ true → kind_of_tree d ≡ None
    → fault d ≡ Some UnknownType
fault-kindless d h k =
    ap₂ (λ a b. cond a (cond b (row_broken d) (Some UnknownType)) (Some NotObject)) h (kind-any d
    ∙ ap is_some k)

pub fault-asked : (d : Doc) (k : Kind) → is_object d ≡ true → kind_of_tree d ≡ Some k
    → fault d ≡ first_by (asked_rows d) d
fault-asked d k h e =
    ap₂ (λ a b. cond a (cond b (row_broken d) (Some UnknownType)) (Some NotObject)) h (kind-any d
    ∙ ap is_some e) ∙ broken-asked d

pub refuses : (d : Doc) (f : MessageFault) → fault d ≡ Some f → Refuses d f
refuses d NotObject h = h
refuses d UnknownType h = h
refuses d (Missing n) h = h
refuses d (WrongType n) h = h
refuses d Memory h = tt

-- ---- filling in capabilities

pub asked-filled : (side : Side) (d : Doc) → asked_rows (filled side d) ≡ asked_rows d
unfolding asked_rows
asked-filled side d =
    filter-same (λ r. row_applies r.kind r.name (filled side d)) (λ r. row_applies r.kind r.name d)
    profile
    (λ r. asked-outside r.kind r.name d (filled side d)
    (object-if (carries_capabilities side d) d, λ k h. get-filled k side d h))
