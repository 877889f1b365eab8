-- The rows that filling in capabilities can affect, and that it does not violate them.
use Rattle.dap_tree.specs.Doc.{Doc, null, boolean, whole, text, list, object, id, Members}
use Rattle.dap_tree.specs.Doc.{no_members, get, get_member, put}
use Rattle.dap_tree.proofs.Booleans.{and_left, and_right}
use Rattle.std.proofs.Common.{◌≡◌, ℕ, suc, Bool, true, false, cond, not, ◌&&◌, ◌||◌, List, [], ◌∷◌}
use Rattle.std.proofs.Common.{◌++◌, map, take, drop, Option, Some, None, option_map, codes, refl}
use Rattle.std.proofs.Common.{sym, ◌∙◌, ap, ap₂, bytes_eq, true≢false}
use Rattle.std.specs.Option.{option_map_or, option_or}
use Rattle.std.proofs.lemmas.Slice.Eq.{bytes_eq-Decides}
use Rattle.dap_profile.specs.PlaceSteps.{PlaceStep, named, each}
use Rattle.dap_profile.specs.Profile.{first_rows, later_rows}
use Rattle.dap_profile.specs.ProfileRows.{ProfileRow}
use Rattle.dap_profile.specs.declared.profile.Kind.{Kind}
use Rattle.dap_profile.specs.declared.profile.Kind.TheVariants.{Request, Response, Event}
use Rattle.dap_profile.specs.declared.profile.Want.TheVariants.{Bool as WantBool, Object}
use Rattle.dap_message.specs.Places.{is_object, parts_at}
use Rattle.dap_message.specs.Rows.{row_applies, is_text, is_true, row_fault, first_fault, of_row}
use Rattle.dap_message.specs.Rows.{broken_at, cause_against, first_cause}
use Rattle.dap_message.specs.declared.broken_rows.Cause.{Cause}
use Rattle.dap_message.specs.declared.fault.MessageFault.{MessageFault}
use Rattle.dap_message.specs.Capabilities.{default_to, default_member, is_given, false_members}
use Rattle.dap_message.specs.Capabilities.{capabilities}
use Rattle.dap_message.proofs.Edits.{by_bool}
use Rattle.dap_message.proofs.Envelopes.{given_other, apart, fault_free, free_cause, one_cause}
use Rattle.dap_message.proofs.FilledOnce.{get_member-put}

-- ---- rows whose paths do not lead into the body

abbrev pub elsewhere : List PlaceStep → Bool
elsewhere (named k ∷ ps) = not (bytes_eq k (codes "body"))
elsewhere _ = false

-- a row that does not apply to a successful response to `initialize`
abbrev pub of_others : Option Kind → Option (List ℕ) → Bool
of_others (Some Request) (Some n) = true
of_others (Some Event) (Some n) = true
of_others (Some Response) (Some n) = not (bytes_eq n (codes "initialize"))
of_others _ _ = false

abbrev pub calm : ProfileRow → Bool
calm r = elsewhere r.place || of_others r.kind r.name

abbrev pub all_calm : List ProfileRow → Bool
all_calm [] = true
all_calm (r ∷ rs) = calm r && all_calm rs

-- d and e are equal except for the body
abbrev pub AlikeOutside : Doc → Doc → Type 0
AlikeOutside d e = (is_object e ≡ is_object d)
    × ((k : List ℕ) → bytes_eq k (codes "body") ≡ false → get k e ≡ get k d)

negated : (b : Bool) → not b ≡ true → b ≡ false
negated true h = cc
negated false h = refl

found-elsewhere : (ps : List PlaceStep) (d e : Doc) → AlikeOutside d e → elsewhere ps ≡ true
    → parts_at ps e ≡ parts_at ps d
found-elsewhere [] d e a h = cc
found-elsewhere (each ∷ ps) d e a h = cc
found-elsewhere (named k ∷ []) d e a h =
    rw (a.0, a.1 k (negated (bytes_eq k (codes "body")) h)) refl
found-elsewhere (named k ∷ p ∷ ps) d e a h =
    ap (λ o. option_map_or (parts_at (p ∷ ps)) o []) (a.1 k (negated (bytes_eq k (codes "body")) h))

pub asked-outside : (k : Option Kind) (n : Option (List ℕ)) (d e : Doc) → AlikeOutside d e
    → row_applies k n e ≡ row_applies k n d
asked-outside None n d e a = refl
asked-outside (Some Request) None d e a = ap (is_text (codes "request")) (a.1 (codes "type") refl)
asked-outside (Some Response) None d e a = ap (is_text (codes "response")) (a.1 (codes "type") refl)
asked-outside (Some Event) None d e a = ap (is_text (codes "event")) (a.1 (codes "type") refl)
asked-outside (Some Request) (Some n) d e a =
    ap₂ (λ x y. (x && y) && true) (ap (is_text (codes "request")) (a.1 (codes "type") refl))
    (ap (is_text n) (a.1 (codes "command") refl))
asked-outside (Some Response) (Some n) d e a =
    ap₂ (λ x y. x && y)
    (ap₂ (λ x y. x && y) (ap (is_text (codes "response")) (a.1 (codes "type") refl))
    (ap (is_text n) (a.1 (codes "command") refl))) (ap is_true (a.1 (codes "success") refl))
asked-outside (Some Event) (Some n) d e a =
    ap₂ (λ x y. (x && y) && true) (ap (is_text (codes "event")) (a.1 (codes "type") refl))
    (ap (is_text n) (a.1 (codes "event") refl))

fault-elsewhere : (r : ProfileRow) (d e : Doc) → AlikeOutside d e → elsewhere r.place ≡ true
    → row_fault r e ≡ row_fault r d
fault-elsewhere r d e a h =
    ap₂ (λ b f. cond b
    (option_map (of_row r.number) (first_cause (map (cause_against r.want r.needed) f))) None)
    (asked-outside r.kind r.name d e a) (found-elsewhere r.place d e a h)

-- ---- rows that do not apply

pub other_word : (v w : List ℕ) (o : Option Doc) → bytes_eq v w ≡ false → is_text w o ≡ true
    → is_text v o ≡ false
other_word v w None n h = refl
other_word v w (Some null) n h = refl
other_word v w (Some (boolean b)) n h = refl
other_word v w (Some (whole z)) n h = refl
other_word v w (Some (text s)) n h =
    by_bool (bytes_eq v s)
    (λ e. absurd
    (true≢false
    (sym ((bytes_eq-Decides v w).1 ((bytes_eq-Decides v s).0 e
    ∙ sym ((bytes_eq-Decides w s).0 h))) ∙ n)))
    (λ e. e)
other_word v w (Some (list ds)) n h = refl
other_word v w (Some (object ms)) n h = refl
other_word v w (Some (id s z)) n h = refl

no_first : (a b c : Bool) → a ≡ false → ((a && b) && c) ≡ false
no_first true b c h = cc
no_first false b c h = refl

no_second : (a b c : Bool) → b ≡ false → ((a && b) && c) ≡ false
no_second true true c h = cc
no_second true false c h = refl
no_second false b c h = refl

abbrev pub Tells : Doc → Type 0
Tells d = row_applies (Some Response) (Some (codes "initialize")) d ≡ true

response : (d : Doc) → Tells d → is_text (codes "response") (get (codes "type") d) ≡ true
response d t =
    and_left (is_text (codes "response") (get (codes "type") d))
    (is_text (codes "initialize") (get (codes "command") d))
    (and_left _ (is_true (get (codes "success") d)) t)

initialize : (d : Doc) → Tells d → is_text (codes "initialize") (get (codes "command") d) ≡ true
initialize d t =
    and_right (is_text (codes "response") (get (codes "type") d))
    (is_text (codes "initialize") (get (codes "command") d))
    (and_left _ (is_true (get (codes "success") d)) t)

not_asked : (k : Option Kind) (n : Option (List ℕ)) (d : Doc) → Tells d → of_others k n ≡ true
    → row_applies k n d ≡ false
not_asked None n d t h = cc
not_asked (Some Request) None d t h = cc
not_asked (Some Response) None d t h = cc
not_asked (Some Event) None d t h = cc
not_asked (Some Request) (Some n) d t h =
    no_first _ (is_text n (get (codes "command") d)) true
    (other_word (codes "request") (codes "response") (get (codes "type") d) refl (response d t))
not_asked (Some Response) (Some n) d t h =
    no_second (is_text (codes "response") (get (codes "type") d)) _
    (is_true (get (codes "success") d))
    (other_word n (codes "initialize") (get (codes "command") d)
    (negated (bytes_eq n (codes "initialize")) h) (initialize d t))
not_asked (Some Event) (Some n) d t h =
    no_first _ (is_text n (get (codes "event") d)) true
    (other_word (codes "event") (codes "response") (get (codes "type") d) refl (response d t))

second : (a b : Bool) → (a || b) ≡ true → a ≡ false → b ≡ true
second true b h n = cc
second false b h n = h

unasked : (b : Bool) (o : Option MessageFault) → b ≡ false → cond b o None ≡ None
unasked true o h = cc
unasked false o h = refl

calm_row : (r : ProfileRow) (d e : Doc) → AlikeOutside d e → Tells d → calm r ≡ true
    → row_fault r d ≡ None → row_fault r e ≡ None
calm_row r d e a t c h =
    by_bool (elsewhere r.place)
    (λ x. fault-elsewhere r d e a x ∙ h)
    (λ x. unasked (row_applies r.kind r.name e)
    (option_map (of_row r.number) (broken_at r.place r.want r.needed e))
    (asked-outside r.kind r.name d e a
    ∙ not_asked r.kind r.name d t (second (elsewhere r.place) (of_others r.kind r.name) c x)))

pub both_free : {X : Type 0} (a b : Option X) → a ≡ None → b ≡ None → option_or a b ≡ None
both_free None b h k = k
both_free (Some x) b h k = cc

pub calm_rows : (rs : List ProfileRow) (d e : Doc) → AlikeOutside d e → Tells d → all_calm rs ≡ true
    → first_fault rs d ≡ None → first_fault rs e ≡ None
calm_rows [] d e a t c h = refl
calm_rows (r ∷ rs) d e a t c h =
    let p = fault_free (row_fault r d) (first_fault rs d) h in
    both_free (row_fault r e) (first_fault rs e)
    (calm_row r d e a t (and_left (calm r) (all_calm rs) c) p.0)
    (calm_rows rs d e a t (and_right (calm r) (all_calm rs) c) p.1)

pub first-append : (xs ys : List ProfileRow) (d : Doc)
    → first_fault (xs ++ ys) d ≡ option_or (first_fault xs d) (first_fault ys d)
first-append [] ys d = refl
first-append (r ∷ rs) ys d =
    ap (option_or (row_fault r d)) (first-append rs ys d)
    ∙ assoc (row_fault r d) (first_fault rs d) (first_fault ys d)
  where
    assoc : (a b c : Option MessageFault)
        → option_or a (option_or b c) ≡ option_or (option_or a b) c
    assoc None b c = refl
    assoc (Some x) b c = refl

-- ---- the body and its capabilities

abbrev pub GoodBool : Option Doc → Type 0
GoodBool o = cause_against WantBool false o ≡ None

-- the rows of the capabilities are not violated by a body
abbrev pub GoodAt : Option Doc → List ℕ → Type 0
GoodAt o c =
    first_cause (map (cause_against WantBool false) (option_map_or (parts_at (named c ∷ [])) o []))
    ≡ None

pub body_case : (o : Option Doc) → cause_against Object false o ≡ None →
    (ns : Members) × (cond (is_given o) o (Some (object no_members)) ≡ Some (object ns))
    × ((c : List ℕ) → GoodAt o c → GoodBool (get_member c ns))
body_case None h = (no_members, refl, λ c g. refl)
body_case (Some null) h = (no_members, refl, λ c g. refl)
body_case (Some (boolean b)) h = cc
body_case (Some (whole z)) h = cc
body_case (Some (text s)) h = cc
body_case (Some (list ds)) h = cc
body_case (Some (object ms)) h =
    (ms, refl, λ c g. one_cause (cause_against WantBool false (get_member c ms)) g)
body_case (Some (id s z)) h = cc

pub get-default : (k : List ℕ) (e d : Doc) → is_object d ≡ true
    → get k (default_to k e d) ≡ cond (is_given (get k d)) (get k d) (Some e)
get-default k e null h = cc
get-default k e (boolean b) h = cc
get-default k e (whole z) h = cc
get-default k e (text s) h = cc
get-default k e (list ds) h = cc
get-default k e (object ms) h = go (is_given (get_member k ms))
  where
    go : (b : Bool) → get_member k (cond b ms (put k e ms)) ≡ cond b (get_member k ms) (Some e)
    go true = refl
    go false = get_member-put k e ms
get-default k e (id s z) h = cc

good_default : (c k : List ℕ) (ms : Members) → GoodBool (get_member c ms)
    → GoodBool (get_member c (default_member k (boolean false) ms))
good_default c k ms g =
    by_bool (bytes_eq c k)
    (λ e. let same : c ≡ k = (bytes_eq-Decides c k).0 e in
    ap (λ x. cause_against WantBool false (get_member x (default_member k (boolean false) ms))) same
    ∙ go (is_given (get_member k ms))
    (ap (λ x. cause_against WantBool false (get_member x ms)) (sym same) ∙ g))
    (λ e. ap (cause_against WantBool false)
    (given_other (is_given (get_member k ms)) c k (boolean false) ms (apart c k e)) ∙ g)
  where
    go : (b : Bool) → GoodBool (get_member k ms)
        → GoodBool (get_member k (cond b ms (put k (boolean false) ms)))
    go true h = h
    go false h = ap (cause_against WantBool false) (get_member-put k (boolean false) ms)

good_false : (ks : List (List ℕ)) (c : List ℕ) (ms : Members) → GoodBool (get_member c ms)
    → GoodBool (get_member c (false_members ks ms))
good_false [] c ms g = g
good_false (k ∷ ks) c ms g =
    good_false ks c (default_member k (boolean false) ms) (good_default c k ms g)

abbrev pub row_50 : ProfileRow
row_50 = record {
  number = 50;
  kind = Some Response;
  name = Some (codes "initialize");
  place = named (codes "body") ∷ [];
  want = Object;
  needed = false;
}

abbrev pub capability_row : ℕ → List ℕ → ProfileRow
capability_row n k =
    record {
      number = n;
      kind = Some Response;
      name = Some (codes "initialize");
      place = named (codes "body") ∷ named k ∷ [];
      want = WantBool;
      needed = false;
    }

abbrev pub capability_rows : ℕ → List (List ℕ) → List ProfileRow
capability_rows n [] = []
capability_rows n (k ∷ ks) = capability_row n k ∷ capability_rows (suc n) ks

free_asked : (b : Bool) (n : ℕ) (o : Option Cause) → cond b (option_map (of_row n) o) None ≡ None
    → b ≡ true → o ≡ None
free_asked true n o h e = free_cause n o h
free_asked false n o h e = cc

free_cond : (b : Bool) (n : ℕ) (o : Option Cause) → o ≡ None
    → cond b (option_map (of_row n) o) None ≡ None
free_cond true n None h = refl
free_cond true n (Some c) h = cc
free_cond false n o h = refl

capability_free : (n : ℕ) (k : List ℕ) (d e : Doc) (ns : Members) → Tells d
    → get (codes "body") e ≡ Some (object (false_members capabilities ns))
    → ((c : List ℕ) → GoodAt (get (codes "body") d) c → GoodBool (get_member c ns))
    → row_fault (capability_row n k) d ≡ None → row_fault (capability_row n k) e ≡ None
capability_free n k d e ns t body good h =
    let o : broken_at (named (codes "body") ∷ named k ∷ []) WantBool false d ≡ None =
    free_asked (row_applies (Some Response) (Some (codes "initialize")) d) n _ h t in
    let g : GoodBool (get_member k (false_members capabilities ns)) =
    good_false capabilities k ns (good k o) in
    free_cond (row_applies (Some Response) (Some (codes "initialize")) e) n
    (broken_at (named (codes "body") ∷ named k ∷ []) WantBool false e)
    (ap (λ x. first_cause
    (map (cause_against WantBool false) (option_map_or (parts_at (named k ∷ [])) x []))) body
    ∙ ap (λ x. first_cause (x ∷ [])) g)

pub capabilities_free : (n : ℕ) (ks : List (List ℕ)) (d e : Doc) (ns : Members) → Tells d
    → get (codes "body") e ≡ Some (object (false_members capabilities ns))
    → ((c : List ℕ) → GoodAt (get (codes "body") d) c → GoodBool (get_member c ns))
    → first_fault (capability_rows n ks) d ≡ None → first_fault (capability_rows n ks) e ≡ None
capabilities_free n [] d e ns t body good h = refl
capabilities_free n (k ∷ ks) d e ns t body good h =
    let p = fault_free (row_fault (capability_row n k) d)
    (first_fault (capability_rows (suc n) ks) d) h in
    both_free (row_fault (capability_row n k) e) (first_fault (capability_rows (suc n) ks) e)
    (capability_free n k d e ns t body good p.0)
    (capabilities_free (suc n) ks d e ns t body good p.1)

pub body_free : (d e : Doc) (ns : Members) → is_object e ≡ true
    → get (codes "body") e ≡ Some (object ns) → row_fault row_50 e ≡ None
body_free d e ns ob body =
    free_cond (row_applies (Some Response) (Some (codes "initialize")) e) 50
    (broken_at (named (codes "body") ∷ []) Object false e) (rw (ob, body) refl)

pub body_was : (d : Doc) → Tells d → is_object d ≡ true → row_fault row_50 d ≡ None
    → cause_against Object false (get (codes "body") d) ≡ None
body_was d t ob h =
    let o : broken_at (named (codes "body") ∷ []) Object false d ≡ None =
    free_asked (row_applies (Some Response) (Some (codes "initialize")) d) 50 _ h t in
    let c : first_cause (cause_against Object false (get (codes "body") d) ∷ []) ≡ None =
    rw ob at o in
    one_cause (cause_against Object false (get (codes "body") d)) c

-- the first rows: rows whose paths do not lead into the body, the row of the body, and those of the
-- capabilities
abbrev pub before_body : List ProfileRow
before_body = take 49 first_rows

abbrev pub after_body : List ProfileRow
after_body = take 54 (drop 50 first_rows)

abbrev pub body_rows : List ProfileRow
body_rows = row_50 ∷ (after_body ++ capability_rows 105 capabilities)

pub first_is : first_rows ≡ before_body ++ body_rows
unfolding first_rows
first_is = refl

pub calm_before : all_calm before_body ≡ true
unfolding first_rows
calm_before = refl

pub calm_after : all_calm after_body ≡ true
unfolding first_rows
calm_after = refl

-- no later row applies to a successful response to `initialize`
pub calm_later : all_calm later_rows ≡ true
unfolding later_rows
calm_later = refl
