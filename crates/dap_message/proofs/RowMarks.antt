-- The edits of all rows yield the marked document.
use Rattle.dap_tree.specs.Doc.{Doc, null, boolean, whole, text, list, object, id, get}
use Rattle.dap_tree.specs.Path.{Step, name, at}
use Rattle.dap_tree.specs.declared.side.Side.{Side}
use Rattle.dap_tree.specs.declared.sort.Sort.{Sort}
use Rattle.std.proofs.Common.{◌≡◌, ℕ, ℤ, Bool, true, false, cond, ◌&&◌, List, [], ◌∷◌, Option, Some}
use Rattle.std.proofs.Common.{None, option_map, option_and_then, codes, refl, sym, ◌∙◌, ap, ap₂}
use Rattle.std.specs.Option.{option_map_or}
use Rattle.dap_profile.specs.PlaceSteps.{PlaceStep}
use Rattle.dap_profile.specs.Profile.{profile}
use Rattle.dap_profile.specs.ProfileRows.{ProfileRow}
use Rattle.dap_profile.specs.declared.profile.Kind.{Kind}
use Rattle.dap_profile.specs.declared.profile.Kind.TheVariants.{Request, Response, Event}
use Rattle.dap_message.specs.Places.{fits_place}
use Rattle.dap_message.specs.Rows.{row_applies, is_text, is_true, may_have_body, name_key}
use Rattle.dap_message.specs.Rows.{type_name}
use Rattle.dap_message.specs.Marks.{mark_by_rows}
use Rattle.dap_message.specs.Marks.{is_id_of, marked, top, edit, made, made_by, mark_rows, mark_row}
use Rattle.dap_message.specs.Marks.{sort_of, IsMarked, mark}
use Rattle.dap_message.proofs.Edits.{Alike, at-edit, by_bool}

-- ---- a row applies to a marked document if and only if it applies to the one before

pub text-top : (w : List ℕ) (o : Option Doc) → is_text w (option_map top o) ≡ is_text w o
text-top w None = refl
text-top w (Some null) = refl
text-top w (Some (boolean b)) = refl
text-top w (Some (whole z)) = refl
text-top w (Some (text s)) = refl
text-top w (Some (list ds)) = refl
text-top w (Some (object ms)) = refl
text-top w (Some (id s z)) = refl

yes-top : (o : Option Doc) → is_true (option_map top o) ≡ is_true o
yes-top None = refl
yes-top (Some null) = refl
yes-top (Some (boolean b)) = refl
yes-top (Some (whole z)) = refl
yes-top (Some (text s)) = refl
yes-top (Some (list ds)) = refl
yes-top (Some (object ms)) = refl
yes-top (Some (id s z)) = refl

text-as_id : (w : List ℕ) (s : Sort) (n : ℤ)
    → is_text w (Some (cond (is_id_of s n) (id s n) (whole n))) ≡ false
text-as_id w s n = by_bool (is_id_of s n) (λ h. rw h refl) (λ h. rw h refl)

yes-as_id : (s : Sort) (n : ℤ) → is_true (Some (cond (is_id_of s n) (id s n) (whole n))) ≡ false
yes-as_id s n = by_bool (is_id_of s n) (λ h. rw h refl) (λ h. rw h refl)

pub text-marked : (w : List ℕ) (s : Sort) (b : Bool) (o : Option Doc)
    → is_text w (cond b (option_map (marked s) o) o) ≡ is_text w o
text-marked w s false o = refl
text-marked w s true None = refl
text-marked w s true (Some null) = refl
text-marked w s true (Some (boolean b)) = refl
text-marked w s true (Some (whole n)) = text-as_id w s n
text-marked w s true (Some (text t)) = refl
text-marked w s true (Some (list ds)) = refl
text-marked w s true (Some (object ms)) = refl
text-marked w s true (Some (id r n)) = refl

yes-marked : (s : Sort) (b : Bool) (o : Option Doc)
    → is_true (cond b (option_map (marked s) o) o) ≡ is_true o
yes-marked s false o = refl
yes-marked s true None = refl
yes-marked s true (Some null) = refl
yes-marked s true (Some (boolean b)) = refl
yes-marked s true (Some (whole n)) = yes-as_id s n
yes-marked s true (Some (text t)) = refl
yes-marked s true (Some (list ds)) = refl
yes-marked s true (Some (object ms)) = refl
yes-marked s true (Some (id r n)) = refl

pub one_step : (k : List ℕ) (d : Doc) → at (name k ∷ []) d ≡ get k d
one_step k d = here (get k d)
  where
    here : (o : Option Doc) → option_and_then (at []) o ≡ o
    here None = refl
    here (Some e) = refl

pub child-edit : (ps : List PlaceStep) (s : Sort) (k : List ℕ) (d : Doc) →
    Alike (get k (edit ps (marked s) d))
    (cond (fits_place ps (name k ∷ [])) (option_map (marked s) (get k d)) (get k d))
child-edit ps s k d =
    ap (option_map top) (sym (one_step k (edit ps (marked s) d))) ∙ at-edit ps s d (name k ∷ [])
    ∙ ap (λ o. option_map top (cond (fits_place ps (name k ∷ [])) (option_map (marked s) o) o))
    (one_step k d)

text-edit : (ps : List PlaceStep) (s : Sort) (w k : List ℕ) (d : Doc)
    → is_text w (get k (edit ps (marked s) d)) ≡ is_text w (get k d)
text-edit ps s w k d =
    sym (text-top w (get k (edit ps (marked s) d))) ∙ ap (is_text w) (child-edit ps s k d)
    ∙ text-top w
    (cond (fits_place ps (name k ∷ [])) (option_map (marked s) (get k d)) (get k d))
    ∙ text-marked w s (fits_place ps (name k ∷ [])) (get k d)

yes-edit : (ps : List PlaceStep) (s : Sort) (k : List ℕ) (d : Doc)
    → is_true (get k (edit ps (marked s) d)) ≡ is_true (get k d)
yes-edit ps s k d =
    sym (yes-top (get k (edit ps (marked s) d))) ∙ ap is_true (child-edit ps s k d)
    ∙ yes-top (cond (fits_place ps (name k ∷ [])) (option_map (marked s) (get k d)) (get k d))
    ∙ yes-marked s (fits_place ps (name k ∷ [])) (get k d)

well-edit : (ps : List PlaceStep) (s : Sort) (k : Kind) (d : Doc)
    → may_have_body k (edit ps (marked s) d) ≡ may_have_body k d
well-edit ps s Request d = refl
well-edit ps s Response d = yes-edit ps s (codes "success") d
well-edit ps s Event d = refl

asked-edit : (ps : List PlaceStep) (s : Sort) (k : Option Kind) (n : Option (List ℕ)) (d : Doc)
    → row_applies k n (edit ps (marked s) d) ≡ row_applies k n d
asked-edit ps s None n d = refl
asked-edit ps s (Some k) None d = text-edit ps s (type_name k) (codes "type") d
asked-edit ps s (Some k) (Some n) d =
    ap₂ (λ a b. a && b)
    (ap₂ (λ a b. a && b) (text-edit ps s (type_name k) (codes "type") d)
    (text-edit ps s n (name_key k) d)) (well-edit ps s k d)

asked_one : (s : Sort) (ps : List PlaceStep) (b : Bool) (k : Option Kind) (n : Option (List ℕ))
    (d : Doc) → row_applies k n (cond b (edit ps (marked s) d) d) ≡ row_applies k n d
asked_one s ps true k n d = asked-edit ps s k n d
asked_one s ps false k n d = refl

pub asked-mark_row : (r : ProfileRow) (side : Side) (k : Option Kind) (n : Option (List ℕ))
    (d : Doc) → row_applies k n (mark_row r side d) ≡ row_applies k n d
asked-mark_row r side k n d = go (sort_of side r.want)
  where
    go : (o : Option Sort)
        → row_applies k n
        (option_map_or (λ s. cond (row_applies r.kind r.name d) (edit r.place (marked s) d) d) o d)
        ≡ row_applies k n d
    go None = refl
    go (Some s) = asked_one s r.place (row_applies r.kind r.name d) k n d

-- ---- path by path

top-as_id : (s : Sort) (n : ℤ)
    → top (cond (is_id_of s n) (id s n) (whole n)) ≡ cond (is_id_of s n) (id s n) (whole n)
top-as_id s n = by_bool (is_id_of s n) (λ h. rw h refl) (λ h. rw h refl)

top-marked : (s : Sort) (x : Doc) → top (marked s x) ≡ marked s (top x)
top-marked s null = refl
top-marked s (boolean b) = refl
top-marked s (whole n) = top-as_id s n
top-marked s (text t) = refl
top-marked s (list ds) = refl
top-marked s (object ms) = refl
top-marked s (id r n) = refl

top-one : (b : Bool) (s : Sort) (x : Doc)
    → top (cond b (marked s x) x) ≡ cond b (marked s (top x)) (top x)
top-one true s x = top-marked s x
top-one false s x = refl

top-made_by : (r : ProfileRow) (side : Side) (d : Doc) (p : List Step) (x : Doc)
    → top (made_by r side d p x) ≡ made_by r side d p (top x)
top-made_by r side d p x = go (sort_of side r.want)
  where
    go : (o : Option Sort)
        → top (option_map_or
        (λ s. cond (row_applies r.kind r.name d && fits_place r.place p) (marked s x) x) o x)
        ≡ option_map_or
        (λ s. cond (row_applies r.kind r.name d && fits_place r.place p) (marked s (top x))
        (top x)) o (top x)
    go None = refl
    go (Some s) = top-one (row_applies r.kind r.name d && fits_place r.place p) s x

top-made : (rs : List ProfileRow) (side : Side) (d : Doc) (p : List Step) (x : Doc)
    → top (made rs side d p x) ≡ made rs side d p (top x)
top-made [] side d p x = refl
top-made (r ∷ rs) side d p x =
    top-made rs side d p (made_by r side d p x) ∙ ap (made rs side d p) (top-made_by r side d p x)

option_top : (f : Doc → Doc) → ((x : Doc) → top (f x) ≡ f (top x)) → (o : Option Doc)
    → option_map top (option_map f o) ≡ option_map f (option_map top o)
option_top f h None = refl
option_top f h (Some x) = ap Some (h x)

made_alike : (f : Doc → Doc) → ((x : Doc) → top (f x) ≡ f (top x)) → (a b : Option Doc) → Alike a b
    → Alike (option_map f a) (option_map f b)
made_alike f h a b e = option_top f h a ∙ ap (option_map f) e ∙ sym (option_top f h b)

-- the same rows apply to both documents
made-asked : (rs : List ProfileRow) (side : Side) (d e : Doc)
    → ((k : Option Kind) (n : Option (List ℕ)) → row_applies k n e ≡ row_applies k n d)
    → (p : List Step) (x : Doc) → made rs side e p x ≡ made rs side d p x
made-asked [] side d e h p x = refl
made-asked (r ∷ rs) side d e h p x =
    made-asked rs side d e h p (made_by r side e p x)
    ∙ ap (λ b. made rs side d p
    (option_map_or (λ s. cond (b && fits_place r.place p) (marked s x) x) (sort_of side r.want)
    x)) (h r.kind r.name)

option_itself : (o : Option Doc) → o ≡ option_map (λ x. x) o
option_itself None = refl
option_itself (Some x) = refl

option_same : (f g : Doc → Doc) → ((x : Doc) → f x ≡ g x) → (o : Option Doc)
    → option_map f o ≡ option_map g o
option_same f g h None = refl
option_same f g h (Some x) = ap Some (h x)

-- one row as an edit
at-mark_row : (r : ProfileRow) (side : Side) (d : Doc) (p : List Step)
    → Alike (at p (mark_row r side d)) (option_map (made_by r side d p) (at p d))
at-mark_row r side d p = go (sort_of side r.want) (row_applies r.kind r.name d)
  where
    either : (s : Sort) (b : Bool) (o : Option Doc)
        → cond b (option_map (marked s) o) o ≡ option_map (λ x. cond b (marked s x) x) o
    either s true None = refl
    either s false None = refl
    either s true (Some x) = refl
    either s false (Some x) = refl

    go : (o : Option Sort) (b : Bool)
        → Alike (at p (option_map_or (λ s. cond b (edit r.place (marked s) d) d) o d))
        (option_map (λ x. option_map_or (λ s. cond (b && fits_place r.place p) (marked s x) x) o x)
        (at p d))
    go None b = ap (option_map top) (option_itself (at p d))
    go (Some s) true =
        at-edit r.place s d p ∙ ap (option_map top) (either s (fits_place r.place p) (at p d))
    go (Some s) false = ap (option_map top) (option_itself (at p d))

joined : (f g : Doc → Doc) (o : Option Doc)
    → option_map f (option_map g o) ≡ option_map (λ x. f (g x)) o
joined f g None = refl
joined f g (Some x) = refl

pub at-mark : (rs : List ProfileRow) (side : Side) (d : Doc) (p : List Step)
    → Alike (at p (mark_rows rs side d)) (option_map (made rs side d p) (at p d))
at-mark [] side d p = ap (option_map top) (option_itself (at p d))
at-mark (r ∷ rs) side d p =
    let e = mark_row r side d in
    at-mark rs side e p
    ∙ ap (option_map top)
    (option_same (made rs side e p) (made rs side d p)
    (made-asked rs side d e (λ k n. asked-mark_row r side k n d) p) (at p e))
    ∙ made_alike (made rs side d p) (top-made rs side d p) (at p e) _ (at-mark_row r side d p)
    ∙ ap (option_map top) (joined (made rs side d p) (made_by r side d p) (at p d))

pub mark_rows_is_marked : (rs : List ProfileRow) (side : Side) (d : Doc)
    → IsMarked rs side d (mark_rows rs side d)
unfolding IsMarked
mark_rows_is_marked rs side d p = at-mark rs side d p

pub mark_is_marked : (side : Side) (d : Doc) → IsMarked profile side d (mark side d)
unfolding mark_by_rows
mark_is_marked side d = mark_rows_is_marked profile side d
