-- Violations at a row's path, in terms of the paths of a document and of the list of values.
use Rattle.dap_tree.specs.Doc.{Doc, null, boolean, whole, text, list, object, id, Items, no_items}
use Rattle.dap_tree.specs.Doc.{item, get, get_member}
use Rattle.dap_tree.specs.Path.{Step, name, place, get_item, StepPrecedes, IsBefore}
use Rattle.dap_tree.proofs.Booleans.{and_left, and_right, and_both}
use Rattle.std.proofs.Common.{◌≡◌, ◌⊎◌, inl, inr, ⊎_elim, ℕ, zero, suc, ◌<◌, Bool, true, false}
use Rattle.std.proofs.Common.{List, [], ◌∷◌, ◌++◌, map, flat_map, Option, Some, None}
use Rattle.std.proofs.Common.{option_and_then, Ordering, Less, Equal, Greater, nat_cmp, bytes_eq}
use Rattle.std.proofs.Common.{is_eq, refl, sym, ◌∙◌, ap, arith}
use Rattle.std.proofs.lemmas.Slice.Eq.{bytes_eq-Decides}
use Rattle.std.specs.Cmp.Lexicographic.{slice_cmp}
use Rattle.std.specs.Option.{option_or, option_map_or}
use Rattle.std.specs.Ordering.{is_lt}
use Rattle.dap_profile.specs.PlaceSteps.{PlaceStep, named, each}
use Rattle.dap_profile.specs.declared.profile.Want.{Want}
use Rattle.dap_message.specs.FaultsByPath.{shown}
use Rattle.dap_message.specs.Places.{fits_place, elements, parts_at}
use Rattle.dap_message.specs.Rows.{cause_against, first_cause}
use Rattle.dap_message.specs.declared.broken_rows.Cause.{Cause}
use Rattle.dap_message.proofs.Envelopes.{fault_free, some_is}
use Rattle.dap_message.proofs.NameOrder.{itself}

-- the first path that matches a row's path and has a violation
pub record FirstAt (w : Want) (b : Bool) (ps : List PlaceStep) (d : Doc) (c : Cause) : Type 0 where
  pub path : List Step
  pub fits : fits_place ps path ≡ true
  pub found : Option Doc
  pub shows : shown path d ≡ Some found
  pub cause : cause_against w b found ≡ Some c
  pub first : (q : List Step) (o : Option Doc) (e : Cause) → IsBefore q path
      → fits_place ps q ≡ true → shown q d ≡ Some o → cause_against w b o ≡ Some e → ⊥

-- no path that matches the row's path has a violation
abbrev pub NoneAt : Want → Bool → List PlaceStep → Doc → Type 0
NoneAt w b ps d = (q : List Step) (o : Option Doc) (e : Cause) → fits_place ps q ≡ true
    → shown q d ≡ Some o → cause_against w b o ≡ Some e → ⊥

-- ---- causes

abbrev pub judged : Want → Bool → List (Option Doc) → Option Cause
judged w b os = first_cause (map (cause_against w b) os)

pub no_cause : {X : Type 0} (o : Option X) (c : X) → o ≡ None → o ≡ Some c → ⊥
no_cause o c h g = let never : None ≡ Some c = sym h ∙ g in cc

one : (o : Option Cause) → option_or o None ≡ o
one None = refl
one (Some c) = refl

or_assoc : (a b c : Option Cause) → option_or a (option_or b c) ≡ option_or (option_or a b) c
or_assoc None b c = refl
or_assoc (Some a) b c = refl

judged-append : (w : Want) (b : Bool) (xs ys : List (Option Doc))
    → judged w b (xs ++ ys) ≡ option_or (judged w b xs) (judged w b ys)
judged-append w b [] ys = refl
judged-append w b (x ∷ xs) ys =
    ap (option_or (cause_against w b x)) (judged-append w b xs ys)
    ∙ or_assoc (cause_against w b x) (judged w b xs) (judged w b ys)

-- ---- paths

same_name : (k l : List ℕ) → bytes_eq k l ≡ true → k ≡ l
same_name k l h = (bytes_eq-Decides k l).0 h

not_both : (o : Ordering) → is_lt o ≡ true → is_eq o ≡ true → ⊥
not_both Less h g = cc
not_both Equal h g = cc
not_both Greater h g = cc

not_below : (k l : List ℕ) → bytes_eq k l ≡ true → is_lt (slice_cmp nat_cmp l k) ≡ true → ⊥
not_below k l h lt =
    not_both (slice_cmp nat_cmp k k)
    (ap (λ n. is_lt (slice_cmp nat_cmp n k)) (same_name k l h) ∙ lt) (itself k)

none_before : (q : List Step) → IsBefore q [] → ⊥
none_before [] h = h
none_before (s ∷ q) h = h

shown-named : (k : List ℕ) (q : List Step) (d e : Doc) (p : PlaceStep) (ps : List PlaceStep)
    → fits_place (p ∷ ps) q ≡ true → get k d ≡ Some e → shown (name k ∷ q) d ≡ shown q e
shown-named k [] d e (named l) ps f g = cc
shown-named k [] d e each ps f g = cc
shown-named k (s ∷ q) d e p ps f g = ap (option_and_then (shown (s ∷ q))) g

shown-none : (k : List ℕ) (q : List Step) (d : Doc) (p : PlaceStep) (ps : List PlaceStep)
    (o : Option Doc) → fits_place (p ∷ ps) q ≡ true → get k d ≡ None
    → shown (name k ∷ q) d ≡ Some o → ⊥
shown-none k [] d (named l) ps o f g h = cc
shown-none k [] d each ps o f g h = cc
shown-none k (s ∷ q) d p ps o f g h =
    no_cause (shown (name k ∷ s ∷ q) d) o (ap (option_and_then (shown (s ∷ q))) g) h

-- ---- if no value is a violation, no path has one

last_free : (w : Want) (b : Bool) (k l : List ℕ) (d : Doc) (o : Option Doc) (e : Cause)
    → judged w b (parts_at (named k ∷ []) d) ≡ None → bytes_eq k l ≡ true
    → shown (name l ∷ []) d ≡ Some o → cause_against w b o ≡ Some e → ⊥
last_free w b k l null o e h f s j = cc
last_free w b k l (boolean c) o e h f s j = cc
last_free w b k l (whole z) o e h f s j = cc
last_free w b k l (text t) o e h f s j = cc
last_free w b k l (list ds) o e h f s j = cc
last_free w b k l (object ms) o e h f s j =
    no_cause (cause_against w b o) e
    (ap (cause_against w b)
    (sym (some_is (get_member l ms) o s) ∙ ap (λ n. get_member n ms) (sym (same_name k l f)))
    ∙ (fault_free (cause_against w b (get_member k ms)) None h).0) j
last_free w b k l (id t z) o e h f s j = cc

next_free : (w : Want) (b : Bool) (k l : List ℕ) (p : PlaceStep) (ps : List PlaceStep)
    → ((e : Doc) → judged w b (parts_at (p ∷ ps) e) ≡ None → NoneAt w b (p ∷ ps) e)
    → (d : Doc) (r : Option Doc) → get k d ≡ r
    → judged w b (option_map_or (parts_at (p ∷ ps)) r []) ≡ None
    → (q : List Step) (o : Option Doc) (c : Cause) → bytes_eq k l ≡ true
    → fits_place (p ∷ ps) q ≡ true → shown (name l ∷ q) d ≡ Some o
    → cause_against w b o ≡ Some c → ⊥
next_free w b k l p ps below d None g h q o c f r s j =
    shown-none l q d p ps o r (ap (λ n. get n d) (sym (same_name k l f)) ∙ g) s
next_free w b k l p ps below d (Some e) g h q o c f r s j =
    below e h q o c r
    (sym (shown-named l q d e p ps r (ap (λ n. get n d) (sym (same_name k l f)) ∙ g)) ∙ s) j

items_free : (w : Want) (b : Bool) (ps : List PlaceStep) (ds : Items) (i : ℕ) (e : Doc)
    → judged w b (flat_map (parts_at ps) (elements ds)) ≡ None → get_item i ds ≡ Some e
    → judged w b (parts_at ps e) ≡ None
items_free w b ps no_items i e h g = cc
items_free w b ps (item d ds) zero e h g =
    ap (λ x. judged w b (parts_at ps x)) (sym (some_is d e g))
    ∙ (fault_free (judged w b (parts_at ps d)) _
    (sym (judged-append w b (parts_at ps d) (flat_map (parts_at ps) (elements ds))) ∙ h)).0
items_free w b ps (item d ds) (suc i) e h g =
    items_free w b ps ds i e
    (fault_free (judged w b (parts_at ps d)) _
    (sym (judged-append w b (parts_at ps d) (flat_map (parts_at ps) (elements ds))) ∙ h)).1 g

item_free : (w : Want) (b : Bool) (ps : List PlaceStep)
    → ((e : Doc) → judged w b (parts_at ps e) ≡ None → NoneAt w b ps e)
    → (r : Option Doc) → ((e : Doc) → r ≡ Some e → judged w b (parts_at ps e) ≡ None)
    → (q : List Step) (o : Option Doc) (c : Cause) → fits_place ps q ≡ true
    → option_and_then (shown q) r ≡ Some o → cause_against w b o ≡ Some c → ⊥
item_free w b ps below None h q o c f s j = cc
item_free w b ps below (Some e) h q o c f s j = below e (h e refl) q o c f s j

each_free : (w : Want) (b : Bool) (ps : List PlaceStep)
    → ((e : Doc) → judged w b (parts_at ps e) ≡ None → NoneAt w b ps e)
    → (d : Doc) → judged w b (parts_at (each ∷ ps) d) ≡ None
    → (i : ℕ) (q : List Step) (o : Option Doc) (c : Cause) → fits_place ps q ≡ true
    → shown (place i ∷ q) d ≡ Some o → cause_against w b o ≡ Some c → ⊥
each_free w b ps below null h i q o c f s j = cc
each_free w b ps below (boolean x) h i q o c f s j = cc
each_free w b ps below (whole z) h i q o c f s j = cc
each_free w b ps below (text t) h i q o c f s j = cc
each_free w b ps below (list ds) h i q o c f s j =
    item_free w b ps below (get_item i ds) (λ e g. items_free w b ps ds i e h g) q o c f s j
each_free w b ps below (object ms) h i q o c f s j = cc
each_free w b ps below (id t z) h i q o c f s j = cc

pub none_at : (w : Want) (b : Bool) (ps : List PlaceStep) (d : Doc)
    → judged w b (parts_at ps d) ≡ None → NoneAt w b ps d
none_at w b [] d h [] o c f s j =
    no_cause (cause_against w b o) c
    (ap (cause_against w b) (sym (some_is (Some d) o s))
    ∙ (fault_free (cause_against w b (Some d)) None h).0) j
none_at w b [] d h (t ∷ q) o c f s j = cc
none_at w b (named k ∷ []) d h [] o c f s j = cc
none_at w b (named k ∷ []) d h (name l ∷ []) o c f s j =
    last_free w b k l d o c h (and_left (bytes_eq k l) true f) s j
none_at w b (named k ∷ []) d h (name l ∷ t ∷ q) o c f s j =
    let never : false ≡ true = and_right (bytes_eq k l) false f in cc
none_at w b (named k ∷ []) d h (place i ∷ q) o c f s j = cc
none_at w b (named k ∷ p ∷ ps) d h [] o c f s j = cc
none_at w b (named k ∷ p ∷ ps) d h (name l ∷ q) o c f s j =
    next_free w b k l p ps (λ e g. none_at w b (p ∷ ps) e g) d (get k d) refl h q o c
    (and_left (bytes_eq k l) (fits_place (p ∷ ps) q) f)
    (and_right (bytes_eq k l) (fits_place (p ∷ ps) q) f) s j
none_at w b (named k ∷ p ∷ ps) d h (place i ∷ q) o c f s j = cc
none_at w b (each ∷ ps) d h [] o c f s j = cc
none_at w b (each ∷ ps) d h (name l ∷ q) o c f s j = cc
none_at w b (each ∷ ps) d h (place i ∷ q) o c f s j =
    each_free w b ps (λ e g. none_at w b ps e g) d h i q o c f s j

-- ---- if a value is a violation, some path has one

last_first : (k : List ℕ) (q : List Step) → IsBefore q (name k ∷ [])
    → fits_place (named k ∷ []) q ≡ true → ⊥
last_first k [] before f = before
last_first k (name l ∷ q) before f =
    ⊎_elim
    (λ (lt : StepPrecedes (name l) (name k)). not_below k l
    (and_left (bytes_eq k l) (fits_place [] q) f) lt)
    (λ (later : (name l ≡ name k) × IsBefore q []). none_before q later.1) before
last_first k (place i ∷ q) before f = cc

last_at : (w : Want) (b : Bool) (k : List ℕ) (d : Doc) (c : Cause)
    → judged w b (parts_at (named k ∷ []) d) ≡ Some c → FirstAt w b (named k ∷ []) d c
last_at w b k null c h = cc
last_at w b k (boolean x) c h = cc
last_at w b k (whole z) c h = cc
last_at w b k (text t) c h = cc
last_at w b k (list ds) c h = cc
last_at w b k (object ms) c h = record {
  path = name k ∷ [];
  fits = and_both (bytes_eq k k) true ((bytes_eq-Decides k k).1 refl) refl;
  found = get_member k ms;
  shows = refl;
  cause = sym (one (cause_against w b (get_member k ms))) ∙ h;
  first = λ q o e before f s j. last_first k q before f;
}
last_at w b k (id t z) c h = cc

next_first : (k : List ℕ) (p : PlaceStep) (ps : List PlaceStep) (d e : Doc) (path q : List Step)
    (o : Option Doc) → get k d ≡ Some e → IsBefore q (name k ∷ path)
    → fits_place (named k ∷ p ∷ ps) q ≡ true → shown q d ≡ Some o
    → (r : List Step) × IsBefore r path × (fits_place (p ∷ ps) r ≡ true) × (shown r e ≡ Some o)
next_first k p ps d e path [] o g before f s = absurd before
next_first k p ps d e path (name l ∷ q) o g before f s =
    let here : bytes_eq k l ≡ true = and_left (bytes_eq k l) (fits_place (p ∷ ps) q) f in
    let later : fits_place (p ∷ ps) q ≡ true =
    and_right (bytes_eq k l) (fits_place (p ∷ ps) q) f in
    let there : get l d ≡ Some e = ap (λ n. get n d) (sym (same_name k l here)) ∙ g in
    ⊎_elim (λ (lt : StepPrecedes (name l) (name k)). absurd (not_below k l here lt))
    (λ (below : (name l ≡ name k) × IsBefore q path). (
      q,
      below.1,
      later,
      sym (shown-named l q d e p ps later there) ∙ s,
    )) before
next_first k p ps d e path (place i ∷ q) o g before f s = cc

next_at : (w : Want) (b : Bool) (k : List ℕ) (p : PlaceStep) (ps : List PlaceStep)
    → ((e : Doc) (c : Cause) → judged w b (parts_at (p ∷ ps) e) ≡ Some c
    → FirstAt w b (p ∷ ps) e c)
    → (d : Doc) (r : Option Doc) (c : Cause) → get k d ≡ r
    → judged w b (option_map_or (parts_at (p ∷ ps)) r []) ≡ Some c
    → FirstAt w b (named k ∷ p ∷ ps) d c
next_at w b k p ps below d None c g h = cc
next_at w b k p ps below d (Some e) c g h =
    let there = below e c h in
    record {
      path = name k ∷ there.path;
      fits = and_both (bytes_eq k k) (fits_place (p ∷ ps) there.path)
          ((bytes_eq-Decides k k).1 refl) there.fits;
      found = there.found;
      shows = shown-named k there.path d e p ps there.fits g ∙ there.shows;
      cause = there.cause;
      first = λ q o x before f s j.
          let r = next_first k p ps d e there.path q o g before f s in
          there.first r.0 o x r.1 r.2 r.3 j;
    }

-- the first element of an array with a violation
record FirstItem (w : Want) (b : Bool) (ps : List PlaceStep) (ds : Items) (c : Cause) : Type 0 where
  index : ℕ
  element : Doc
  is : get_item index ds ≡ Some element
  broken : judged w b (parts_at ps element) ≡ Some c
  before : (i : ℕ) (e : Doc) → i < index → get_item i ds ≡ Some e
      → judged w b (parts_at ps e) ≡ None

before_more : (w : Want) (b : Bool) (ps : List PlaceStep) (d : Doc) (ds : Items) (n : ℕ)
    → judged w b (parts_at ps d) ≡ None
    → ((i : ℕ) (e : Doc) → i < n → get_item i ds ≡ Some e → judged w b (parts_at ps e) ≡ None)
    → (i : ℕ) (e : Doc) → i < suc n → get_item i (item d ds) ≡ Some e
    → judged w b (parts_at ps e) ≡ None
before_more w b ps d ds n h later zero e lt g =
    ap (λ x. judged w b (parts_at ps x)) (sym (some_is d e g)) ∙ h
before_more w b ps d ds n h later (suc i) e lt g = later i e (omega arith) g

more_items : (w : Want) (b : Bool) (ps : List PlaceStep) (d : Doc) (ds : Items) (c : Cause)
    (o r : Option Cause) → judged w b (parts_at ps d) ≡ o → option_or o r ≡ Some c
    → (r ≡ Some c → FirstItem w b ps ds c) → FirstItem w b ps (item d ds) c
more_items w b ps d ds c None r is h below =
    let there = below h in
    record {
      index = suc there.index;
      element = there.element;
      is = there.is;
      broken = there.broken;
      before = before_more w b ps d ds there.index is there.before;
    }
more_items w b ps d ds c (Some x) r is h below = record {
  index = 0;
  element = d;
  is = refl;
  broken = is ∙ h;
  before = λ i e lt g. absurd (omega arith);
}

first_item : (w : Want) (b : Bool) (ps : List PlaceStep) (ds : Items) (c : Cause)
    → judged w b (flat_map (parts_at ps) (elements ds)) ≡ Some c → FirstItem w b ps ds c
first_item w b ps no_items c h = cc
first_item w b ps (item d ds) c h =
    more_items w b ps d ds c (judged w b (parts_at ps d))
    (judged w b (flat_map (parts_at ps) (elements ds))) refl
    (sym (judged-append w b (parts_at ps d) (flat_map (parts_at ps) (elements ds))) ∙ h)
    (λ g. first_item w b ps ds c g)

place_is : (i j : ℕ) → place i ≡ place j → i ≡ j
place_is i j h = cc

each_first : (w : Want) (b : Bool) (ps : List PlaceStep) (ds : Items) (c : Cause)
    (there : FirstItem w b ps ds c) (at : FirstAt w b ps there.element c) (q : List Step)
    (o : Option Doc) (x : Cause) → IsBefore q (place there.index ∷ at.path)
    → fits_place (each ∷ ps) q ≡ true → shown q (list ds) ≡ Some o
    → cause_against w b o ≡ Some x → ⊥
each_first w b ps ds c there at [] o x before f s j = before
each_first w b ps ds c there at (name l ∷ q) o x before f s j = cc
each_first w b ps ds c there at (place i ∷ q) o x before f s j =
    ⊎_elim
    (λ (lt : i < there.index). item_free w b ps (λ e g. none_at w b ps e g) (get_item i ds)
    (λ e g. there.before i e lt g) q o x f s j)
    (λ (later : (place i ≡ place there.index) × IsBefore q at.path). at.first q o x later.1 f
    (sym (ap (option_and_then (shown q))
    (ap (λ n. get_item n ds) (place_is i there.index later.0) ∙ there.is)) ∙ s) j)
    before

each_at : (w : Want) (b : Bool) (ps : List PlaceStep)
    → ((e : Doc) (c : Cause) → judged w b (parts_at ps e) ≡ Some c → FirstAt w b ps e c)
    → (d : Doc) (c : Cause) → judged w b (parts_at (each ∷ ps) d) ≡ Some c
    → FirstAt w b (each ∷ ps) d c
each_at w b ps below null c h = cc
each_at w b ps below (boolean x) c h = cc
each_at w b ps below (whole z) c h = cc
each_at w b ps below (text t) c h = cc
each_at w b ps below (list ds) c h =
    let there = first_item w b ps ds c h in
    let at = below there.element c there.broken in
    record {
      path = place there.index ∷ at.path;
      fits = at.fits;
      found = at.found;
      shows = ap (option_and_then (shown at.path)) there.is ∙ at.shows;
      cause = at.cause;
      first = each_first w b ps ds c there at;
    }
each_at w b ps below (object ms) c h = cc
each_at w b ps below (id t z) c h = cc

pub first_at : (w : Want) (b : Bool) (ps : List PlaceStep) (d : Doc) (c : Cause)
    → judged w b (parts_at ps d) ≡ Some c → FirstAt w b ps d c
first_at w b [] d c h = record {
  path = [];
  fits = refl;
  found = Some d;
  shows = refl;
  cause = sym (one (cause_against w b (Some d))) ∙ h;
  first = λ q o e before f s j. none_before q before;
}
first_at w b (named k ∷ []) d c h = last_at w b k d c h
first_at w b (named k ∷ p ∷ ps) d c h =
    next_at w b k p ps (λ e x g. first_at w b (p ∷ ps) e x g) d (get k d) c refl h
first_at w b (each ∷ ps) d c h = each_at w b ps (λ e x g. first_at w b ps e x g) d c h

-- ---- there is exactly one first path

pub three : (i j : ℕ) → (i < j ⊎ j < i) ⊎ (i ≡ j)
three zero zero = inr refl
three zero (suc j) = inl (inl (omega arith))
three (suc i) zero = inl (inr (omega arith))
three (suc i) (suc j) =
    ⊎_elim
    (λ (apart : i < j ⊎ j < i). ⊎_elim (λ (lt : i < j). inl (inl (omega arith)))
    (λ (lt : j < i). inl (inr (omega arith))) apart)
    (λ (same : i ≡ j). inr (ap suc same)) (three i j)

abbrev Ordered : List Step → List Step → Type 0
Ordered p q = (IsBefore p q ⊎ IsBefore q p) ⊎ (p ≡ q)

behind : (s t : Step) (p q : List Step) → s ≡ t → Ordered p q → Ordered (s ∷ p) (t ∷ q)
behind s t p q same order =
    ⊎_elim
    (λ (apart : IsBefore p q ⊎ IsBefore q p). ⊎_elim
    (λ (lt : IsBefore p q). inl (inl (inr (same, lt))))
    (λ (lt : IsBefore q p). inl (inr (inr (sym same, lt)))) apart)
    (λ (e : p ≡ q). inr (ap (λ x. x ∷ p) same ∙ ap (λ r. t ∷ r) e)) order

in_order : (ps : List PlaceStep) (p q : List Step) → fits_place ps p ≡ true
    → fits_place ps q ≡ true → Ordered p q
in_order [] [] [] f g = inr refl
in_order (named k ∷ ps) (name l ∷ p) (name m ∷ q) f g =
    behind (name l) (name m) p q
    (ap name (sym (same_name k l (and_left (bytes_eq k l) (fits_place ps p) f))
    ∙ same_name k m (and_left (bytes_eq k m) (fits_place ps q) g)))
    (in_order ps p q (and_right (bytes_eq k l) (fits_place ps p) f)
    (and_right (bytes_eq k m) (fits_place ps q) g))
in_order (each ∷ ps) (place i ∷ p) (place j ∷ q) f g =
    ⊎_elim
    (λ (apart : i < j ⊎ j < i). ⊎_elim (λ (lt : i < j). inl (inl (inl lt)))
    (λ (lt : j < i). inl (inr (inl lt))) apart)
    (λ (same : i ≡ j). behind (place i) (place j) p q (ap place same) (in_order ps p q f g))
    (three i j)
in_order _ _ _ f g = cc

pub one_cause_first : (w : Want) (b : Bool) (ps : List PlaceStep) (d : Doc) (c e : Cause)
    → FirstAt w b ps d c → FirstAt w b ps d e → c ≡ e
one_cause_first w b ps d c e x y =
    ⊎_elim
    (λ (apart : IsBefore x.path y.path ⊎ IsBefore y.path x.path). ⊎_elim
    (λ (lt : IsBefore x.path y.path). absurd
    (y.first x.path x.found c lt x.fits x.shows x.cause))
    (λ (lt : IsBefore y.path x.path). absurd
    (x.first y.path y.found e lt y.fits y.shows y.cause)) apart)
    (λ (same : x.path ≡ y.path). some_is c e
    (sym x.cause
    ∙ ap (cause_against w b)
    (some_is x.found y.found (sym x.shows ∙ ap (λ p. shown p d) same ∙ y.shows))
    ∙ y.cause))
    (in_order ps x.path y.path x.fits y.fits)
