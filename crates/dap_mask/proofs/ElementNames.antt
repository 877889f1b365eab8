-- A change leaves the names by which a place selects elements, unless its place is that of a name.
use Rattle.std.proofs.Common.{◌≡◌, ◌⊎◌, inl, inr, ℕ, Bool, true, false, cond, ◌&&◌, List, []}
use Rattle.std.proofs.Common.{◌∷◌, Option, Some, None, option_map, option_and_then, codes, refl}
use Rattle.std.proofs.Common.{sym, ap, ap₂, ◌∙◌, bytes_eq, true≢false, length, ◌≤◌, arith}
use Rattle.std.proofs.lemmas.Option.{none-some}
use Rattle.std.proofs.lemmas.Slice.Eq.{bytes_eq-Decides}
use Rattle.std.proofs.lemmas.Bool.{and_right as and_none}
use Rattle.dap_tree.specs.Doc.{Doc, get, change_child, change_items}
use Rattle.dap_tree.specs.Path.{Step, name, place, at, step}
use Rattle.dap_tree.proofs.Booleans.{or_left, or_right}
use Rattle.dap_tree.proofs.Paths.{get-change, get-change_other, item-change, get-change_items}
use Rattle.dap_message.specs.Marks.{top}
use Rattle.dap_message.specs.Rows.{is_text}
use Rattle.dap_message.proofs.Edits.{by_bool, top-change, top-items}
use Rattle.dap_message.proofs.RowMarks.{text-top}
use Rattle.dap_mask.specs.Masked.{is_below}
use Rattle.dap_mask.specs.RuleSteps.{RuleStep, named, elements, plain_place, is_called, has_names}
use Rattle.dap_mask.specs.RuleSteps.{change_called, change_at_place}
use Rattle.dap_mask.specs.Rules.{blank, of_verb, takes_parts, share_name, leads_to_name, has_text}
use Rattle.dap_mask.specs.Rules.{is_name_in}
use Rattle.dap_mask.specs.declared.rules.Verb.{Verb, TheVariants.{Blank, Digits, Hex, Long, Uuid}}
use Rattle.dap_mask.proofs.Edited.{step-verb, place-change}
use Rattle.dap_mask.proofs.Matches.{called_alike}

-- the value after a change
abbrev pub edited : Verb → List RuleStep → Option Doc → Option Doc
edited v rs o = option_map (change_at_place rs (of_verb v)) o

-- the value at the path is blank, and the place does not lead above it
pub record IsBlankAt (qs : List RuleStep) (o : Option Doc) (p : List Step) : Type 0 where
  pub value : Doc
  pub is : option_and_then (at p) o ≡ Some (blank value)
  pub ends : is_below (plain_place qs) p ≡ false

abbrev pub SameNames : Verb → List RuleStep → List RuleStep → Option Doc → List Step → Type 0
SameNames v rs qs o p =
    (has_names qs (edited v rs o) p ≡ has_names qs o p) ⊎ IsBlankAt qs (edited v rs o) p

pub and_first : (a b : Bool) → b ≡ true → (a && b) ≡ false → a ≡ false
and_first true b e h = absurd (true≢false (sym e ∙ h))
and_first false b e h = refl

pub and_other : (a b : Bool) → a ≡ true → (a && b) ≡ false → b ≡ false
and_other true b e h = h
and_other false b e h = cc

-- ---- the name of one element

blank_of : (v : Verb) (d : Doc) → takes_parts v ≡ true → of_verb v d ≡ blank d
blank_of Blank d h = refl
blank_of Digits d h = cc
blank_of Hex d h = cc
blank_of Long d h = cc
blank_of Uuid d h = cc

same_part : (v : Verb) (st : Step) (d : Doc) → takes_parts v ≡ false
    → step st (of_verb v d) ≡ step st d
same_part v st d h = step-verb v st d ∙ ap (λ b. cond b None (step st d)) h

no_part : (v : Verb) (st : Step) (p : List Step) (d y : Doc) → takes_parts v ≡ true
    → at (st ∷ p) (of_verb v d) ≡ Some y → ⊥
no_part v st p d y h is =
    none-some y (sym (ap (option_and_then (at p)) (step-verb v st d
    ∙ ap (λ b. cond b None (step st d)) h)) ∙ is)

deep-top : (v : Verb) (r : RuleStep) (rs : List RuleStep) (o : Option Doc)
    → option_map top (edited v (r ∷ rs) o) ≡ option_map top o
deep-top v r rs None = refl
deep-top v (named k) rs (Some d) = ap Some (top-change k (change_at_place rs (of_verb v)) d)
deep-top v (elements n) rs (Some d) =
    ap Some (top-items (change_called n (change_at_place rs (of_verb v))) d)

-- the element is called as before, or it is blank and the path ends at it
abbrev Called : List ℕ → Verb → List RuleStep → Doc → List Step → Type 0
Called w v rs d p =
    (is_called (Some w) (edited v rs (Some d)) ≡ is_called (Some w) (Some d))
    ⊎ ((p ≡ []) × (change_at_place rs (of_verb v) d ≡ blank d))

other_name : (w k : List ℕ) (f : Doc → Doc) (d : Doc) → bytes_eq (codes "name") k ≡ false
    → is_text w (get (codes "name") (change_child k f d)) ≡ is_text w (get (codes "name") d)
other_name w k f d h =
    ap (is_text w) (get-change_other k f d (codes "name")
    (λ e. true≢false (sym ((bytes_eq-Decides (codes "name") k).1 e) ∙ h)))

inner_name : (w k : List ℕ) (v : Verb) (r : RuleStep) (rs : List RuleStep) (d : Doc)
    → codes "name" ≡ k → is_called (Some w) (edited v (named k ∷ r ∷ rs) (Some d))
    ≡ is_called (Some w) (Some d)
inner_name w k v r rs d same =
    let f = change_at_place (r ∷ rs) (of_verb v) in
    let o = get (codes "name") d in
    ap (λ q. is_text w (get q (change_child k f d))) same
    ∙ ap (is_text w) (get-change k f d)
    ∙ ap (λ q. is_text w (option_map f (get q d))) (sym same)
    ∙ sym (text-top w (option_map f o)) ∙ ap (is_text w) (deep-top v r rs o) ∙ text-top w o

-- a change below an element leaves its name, unless it is at the name
deep_called : (n m : Option (List ℕ)) (v : Verb) (r : RuleStep) (rs : List RuleStep) (d : Doc)
    → (has_text (elements m) && leads_to_name (elements n) (r ∷ rs)) ≡ false
    → is_called m (edited v (r ∷ rs) (Some d)) ≡ is_called m (Some d)
deep_called n None v r rs d h = refl
deep_called n (Some w) v (named k) [] d h = other_name w k (of_verb v) d h
deep_called n (Some w) v (named k) (r ∷ rs) d h = by_bool (bytes_eq (codes "name") k)
    (λ e. inner_name w k v r rs d ((bytes_eq-Decides (codes "name") k).0 e))
    (λ e. other_name w k (change_at_place (r ∷ rs) (of_verb v)) d e)
deep_called n (Some w) v (elements m) rs d h = ap (is_text w)
    (get-change_items (change_called m (change_at_place rs (of_verb v))) d (codes "name"))

called : (n : Option (List ℕ)) (w : List ℕ) (v : Verb) (rs : List RuleStep) (d : Doc)
    (p : List Step) (y : Doc) → leads_to_name (elements n) rs ≡ false
    → at p (change_at_place rs (of_verb v) d) ≡ Some y → Called w v rs d p
called n w v [] d [] y h is = by_bool (takes_parts v)
    (λ t. inr (refl, blank_of v d t))
    (λ f. inl (ap (is_text w) (same_part v (name (codes "name")) d f)))
called n w v [] d (st ∷ p) y h is = by_bool (takes_parts v)
    (λ t. absurd (no_part v st p d y t is))
    (λ f. inl (ap (is_text w) (same_part v (name (codes "name")) d f)))
called n w v (r ∷ rs) d p y h is = inl (deep_called n (Some w) v r rs d h)

-- ---- the names along a path

names_step : (qs : List RuleStep) (st : Step) (p : List Step) (e d : Doc) → step st e ≡ step st d
    → has_names qs (Some e) (st ∷ p) ≡ has_names qs (Some d) (st ∷ p)
names_step [] st p e d h = refl
names_step (named k ∷ qs) (name l) p e d h =
    ap (λ o. cond (bytes_eq k l) (has_names qs o p) true) h
names_step (named k ∷ qs) (place i) p e d h = refl
names_step (elements n ∷ qs) (name l) p e d h = refl
names_step (elements n ∷ qs) (place i) p e d h = ap (λ o. is_called n o && has_names qs o p) h

below_end : (ps : List RuleStep) → is_below (plain_place ps) [] ≡ false
below_end [] = refl
below_end (named k ∷ ps) = refl
below_end (elements n ∷ ps) = refl

-- what further steps keep at each value
abbrev Keeps : Verb → List RuleStep → List RuleStep → List Step → Doc → Type 0
Keeps v rs qs p y = (o : Option Doc) → option_and_then (at p) (edited v rs o) ≡ Some y
    → SameNames v rs qs o p

moved_member : (k l : List ℕ) (f : Doc → Doc) (d : Doc) → k ≡ l
    → get l (change_child k f d) ≡ option_map f (get l d)
moved_member k l f d same =
    ap (λ q. get q (change_child k f d)) (sym same) ∙ get-change k f d
    ∙ ap (λ q. option_map f (get q d)) same

member_same : (v : Verb) (k j l : List ℕ) (rs qs : List RuleStep) (d : Doc) (p : List Step)
    (y : Doc) → k ≡ l → at (name l ∷ p) (change_at_place (named k ∷ rs) (of_verb v) d) ≡ Some y
    → Keeps v rs qs p y → SameNames v (named k ∷ rs) (named j ∷ qs) (Some d) (name l ∷ p)
member_same v k j l rs qs d p y same is keeps =
    let moved = moved_member k l (change_at_place rs (of_verb v)) d same in
    elim (keeps (get l d) (sym (ap (option_and_then (at p)) moved) ∙ is)) [
      | inl s ↦ inl (ap (λ o. cond (bytes_eq j l) (has_names qs o p) true) moved
          ∙ ap (λ b. cond (bytes_eq j l) b true) s)
      | inr b ↦ inr (record {
        value = b.value;
        is = ap (option_and_then (at p)) moved ∙ b.is;
        ends = and_none (bytes_eq j l) (is_below (plain_place qs) p) b.ends;
      })
    ]

off : (b x y : Bool) → b ≡ false → cond b x true ≡ cond b y true
off true x y h = cc
off false x y h = refl

member_kept : (v : Verb) (k j l : List ℕ) (rs qs : List RuleStep) (d : Doc) (p : List Step)
    (y : Doc) → is_name_in (named k ∷ rs) (named j ∷ qs) ≡ false
    → at (name l ∷ p) (change_at_place (named k ∷ rs) (of_verb v) d) ≡ Some y
    → (is_name_in rs qs ≡ false → Keeps v rs qs p y)
    → SameNames v (named k ∷ rs) (named j ∷ qs) (Some d) (name l ∷ p)
member_kept v k j l rs qs d p y h is keeps = by_bool (bytes_eq j l)
    (λ a. by_bool (bytes_eq k l)
    (λ b.
    let one = (bytes_eq-Decides j l).0 a in
    let two = (bytes_eq-Decides k l).0 b in
    member_same v k j l rs qs d p y two is
    (keeps (and_other (bytes_eq k j) (is_name_in rs qs)
    ((bytes_eq-Decides k j).1 (two ∙ sym one)) h)))
    (λ b. inl (names_step (named j ∷ qs) (name l) p (change_child k f d) d
    (get-change_other k f d l (λ e. true≢false (sym ((bytes_eq-Decides k l).1 (sym e)) ∙ b))))))
    (λ a. inl (off (bytes_eq j l) (has_names qs (get l (change_child k f d)) p)
    (has_names qs (get l d) p) a))
  where
    f : Doc → Doc
    f = change_at_place rs (of_verb v)

-- the same for an element, which the step selects or not
abbrev SameElement : (Doc → Doc) → Option (List ℕ) → List RuleStep → Option Doc → List Step
    → Type 0
SameElement g m qs o p =
    ((is_called m (option_map g o) && has_names qs (option_map g o) p)
    ≡ (is_called m o && has_names qs o p)) ⊎ IsBlankAt qs (option_map g o) p

blank_called : (v : Verb) (rs qs : List RuleStep) (d : Doc) (p : List Step) → p ≡ []
    → change_at_place rs (of_verb v) d ≡ blank d → IsBlankAt qs (edited v rs (Some d)) p
blank_called v rs qs d p at_end is = record {
  value = d;
  is = ap (λ q. at q (change_at_place rs (of_verb v) d)) at_end ∙ ap Some is;
  ends = ap (is_below (plain_place qs)) at_end ∙ below_end qs;
}

-- both steps may select the element
chosen : (v : Verb) (n m : Option (List ℕ)) (rs qs : List RuleStep) (d : Doc) (p : List Step)
    (y : Doc) → (has_text (elements m) && leads_to_name (elements n) rs) ≡ false
    → at p (change_at_place rs (of_verb v) d) ≡ Some y → SameNames v rs qs (Some d) p
    → SameElement (change_at_place rs (of_verb v)) m qs (Some d) p
chosen v n m rs qs d p y h is (inr b) = inr b
chosen v n None rs qs d p y h is (inl s) = inl s
chosen v n (Some w) rs qs d p y h is (inl s) =
    elim (called n w v rs d p y h is) [
      | inl c ↦ inl (ap₂ (λ a b. a && b) c s)
      | inr c ↦ inr (blank_called v rs qs d p c.0 c.1)
    ]

-- only the first step selects the element
other_chosen : (v : Verb) (n m : Option (List ℕ)) (rs qs : List RuleStep) (d : Doc) (p : List Step)
    (y : Doc) → (has_text (elements m) && leads_to_name (elements n) rs) ≡ false
    → at p (change_at_place rs (of_verb v) d) ≡ Some y → is_called m (Some d) ≡ false
    → SameElement (change_at_place rs (of_verb v)) m qs (Some d) p
other_chosen v n None rs qs d p y h is away = absurd (true≢false away)
other_chosen v n (Some w) rs qs d p y h is away =
    let f = change_at_place rs (of_verb v) in
    elim (called n w v rs d p y h is) [
      | inl c ↦ inl (ap (λ b. b && has_names qs (Some (f d)) p) (c ∙ away)
          ∙ sym (ap (λ b. b && has_names qs (Some d) p) away))
      | inr c ↦ inr (blank_called v rs qs d p c.0 c.1)
    ]

not_called : (n m : Option (List ℕ)) (o : Option Doc) → share_name n m ≡ false
    → is_called n o ≡ true → is_called m o ≡ false
not_called n m o apart is = by_bool (is_called m o)
    (λ t. absurd (true≢false (sym (called_alike n m o is t) ∙ apart)))
    (λ f. f)

element_kept : (v : Verb) (n m : Option (List ℕ)) (rs qs : List RuleStep) (p : List Step) (y : Doc)
    → is_name_in (elements n ∷ rs) (elements m ∷ qs) ≡ false
    → (is_name_in rs qs ≡ false → Keeps v rs qs p y) → (o : Option Doc)
    → option_and_then (at p) (option_map (change_called n (change_at_place rs (of_verb v))) o)
    ≡ Some y → SameElement (change_called n (change_at_place rs (of_verb v))) m qs o p
element_kept v n m rs qs p y h keeps None is = inl refl
element_kept v n m rs qs p y h keeps (Some d) is = go (is_called n (Some d)) refl is
  where
    f : Doc → Doc
    f = change_at_place rs (of_verb v)

    here : (has_text (elements m) && leads_to_name (elements n) rs) ≡ false
    here = or_left (has_text (elements m) && leads_to_name (elements n) rs)
        (share_name n m && is_name_in rs qs) h

    later : share_name n m ≡ true → is_name_in rs qs ≡ false
    later e = and_other (share_name n m) (is_name_in rs qs) e
        (or_right (has_text (elements m) && leads_to_name (elements n) rs)
        (share_name n m && is_name_in rs qs) h)

    go : (b : Bool) → is_called n (Some d) ≡ b → at p (cond b (f d) d) ≡ Some y
        → ((is_called m (Some (cond b (f d) d)) && has_names qs (Some (cond b (f d) d)) p)
        ≡ (is_called m (Some d) && has_names qs (Some d) p))
        ⊎ IsBlankAt qs (Some (cond b (f d) d)) p
    go true c k = by_bool (share_name n m)
        (λ e. chosen v n m rs qs d p y here k (keeps (later e) (Some d) k))
        (λ e. other_chosen v n m rs qs d p y here k (not_called n m (Some d) e c))
    go false c k = inl refl

elements_same : (v : Verb) (n m : Option (List ℕ)) (rs qs : List RuleStep) (i : ℕ) (d : Doc)
    (p : List Step)
    → SameElement (change_called n (change_at_place rs (of_verb v))) m qs (step (place i) d) p
    → SameNames v (elements n ∷ rs) (elements m ∷ qs) (Some d) (place i ∷ p)
elements_same v n m rs qs i d p h =
    elim h [
      | inl s ↦ inl (ap (λ o. is_called m o && has_names qs o p) moved ∙ s)
      | inr b ↦ inr (record {
        value = b.value;
        is = ap (option_and_then (at p)) moved ∙ b.is;
        ends = b.ends;
      })
    ]
  where
    g : Doc → Doc
    g = change_called n (change_at_place rs (of_verb v))

    moved : step (place i) (change_items g d) ≡ option_map g (step (place i) d)
    moved = item-change g d i

-- a change at the first place, after which there is a value at the path, leaves the names of the
-- second one
pub same_names : (v : Verb) (rs qs : List RuleStep) (o : Option Doc) (p : List Step) (y : Doc)
    → is_name_in rs qs ≡ false → option_and_then (at p) (edited v rs o) ≡ Some y
    → SameNames v rs qs o p
same_names v rs qs None p y h is = inl refl
same_names v rs [] (Some d) p y h is = inl refl
same_names v rs (named j ∷ qs) (Some d) [] y h is = inl refl
same_names v rs (elements m ∷ qs) (Some d) [] y h is = inl refl
same_names v [] (q ∷ qs) (Some d) (st ∷ p) y h is = by_bool (takes_parts v)
    (λ t. absurd (no_part v st p d y t is))
    (λ f. inl (names_step (q ∷ qs) st p (of_verb v d) d (same_part v st d f)))
same_names v (named k ∷ rs) (q ∷ qs) (Some d) (place i ∷ p) y h is =
    inl (names_step (q ∷ qs) (place i) p (change_at_place (named k ∷ rs) (of_verb v) d) d
    (place-change k (change_at_place rs (of_verb v)) i d))
same_names v (named k ∷ rs) (elements m ∷ qs) (Some d) (name l ∷ p) y h is = inl refl
same_names v (named k ∷ rs) (named j ∷ qs) (Some d) (name l ∷ p) y h is =
    member_kept v k j l rs qs d p y h is (λ e o k. same_names v rs qs o p y e k)
same_names v (elements n ∷ rs) (q ∷ qs) (Some d) (name l ∷ p) y h is =
    inl (names_step (q ∷ qs) (name l) p (change_at_place (elements n ∷ rs) (of_verb v) d) d
    (get-change_items (change_called n (change_at_place rs (of_verb v))) d l))
same_names v (elements n ∷ rs) (named j ∷ qs) (Some d) (place i ∷ p) y h is = inl refl
same_names v (elements n ∷ rs) (elements m ∷ qs) (Some d) (place i ∷ p) y h is =
    elements_same v n m rs qs i d p
    (element_kept v n m rs qs p y h (λ e o k. same_names v rs qs o p y e k) (step (place i) d)
    (sym (ap (option_and_then (at p))
    (item-change (change_called n (change_at_place rs (of_verb v))) d i)) ∙ is))

-- ---- a change no less deep than a place that ends at a member

-- the last step, if there is one, leads to a member
abbrev pub ends_in_member : List RuleStep → Bool
ends_in_member [] = true
ends_in_member (named k ∷ qs) = ends_in_member qs
ends_in_member (elements n ∷ []) = false
ends_in_member (elements n ∷ q ∷ qs) = ends_in_member (q ∷ qs)

-- the names along the path stay, at each value
abbrev LeavesNames : Verb → List RuleStep → List RuleStep → List Step → Type 0
LeavesNames v rs qs p = (o : Option Doc) → has_names qs (edited v rs o) p ≡ has_names qs o p

deep_member : (v : Verb) (k j l : List ℕ) (rs qs : List RuleStep) (d : Doc) (p : List Step)
    → is_name_in (named k ∷ rs) (named j ∷ qs) ≡ false
    → (is_name_in rs qs ≡ false → LeavesNames v rs qs p)
    → has_names (named j ∷ qs) (edited v (named k ∷ rs) (Some d)) (name l ∷ p)
    ≡ has_names (named j ∷ qs) (Some d) (name l ∷ p)
deep_member v k j l rs qs d p h keeps = by_bool (bytes_eq j l)
    (λ a. by_bool (bytes_eq k l)
    (λ b.
    let one = (bytes_eq-Decides j l).0 a in
    let two = (bytes_eq-Decides k l).0 b in
    ap (λ o. cond (bytes_eq j l) (has_names qs o p) true) (moved_member k l f d two)
    ∙ ap (λ c. cond (bytes_eq j l) c true) (keeps (and_other (bytes_eq k j) (is_name_in rs qs)
    ((bytes_eq-Decides k j).1 (two ∙ sym one)) h) (get l d)))
    (λ b. names_step (named j ∷ qs) (name l) p (change_child k f d) d
    (get-change_other k f d l (λ e. true≢false (sym ((bytes_eq-Decides k l).1 (sym e)) ∙ b)))))
    (λ a. off (bytes_eq j l) (has_names qs (get l (change_child k f d)) p)
    (has_names qs (get l d) p) a)
  where
    f : Doc → Doc
    f = change_at_place rs (of_verb v)

deep_element : (v : Verb) (n m : Option (List ℕ)) (r : RuleStep) (rs qs : List RuleStep)
    (p : List Step) → is_name_in (elements n ∷ r ∷ rs) (elements m ∷ qs) ≡ false
    → (is_name_in (r ∷ rs) qs ≡ false → LeavesNames v (r ∷ rs) qs p) → (o : Option Doc)
    → (is_called m (option_map (change_called n (change_at_place (r ∷ rs) (of_verb v))) o)
    && has_names qs (option_map (change_called n (change_at_place (r ∷ rs) (of_verb v))) o) p)
    ≡ (is_called m o && has_names qs o p)
deep_element v n m r rs qs p h keeps None = refl
deep_element v n m r rs qs p h keeps (Some d) = go (is_called n (Some d)) refl
  where
    f : Doc → Doc
    f = change_at_place (r ∷ rs) (of_verb v)

    here : is_called m (Some (f d)) ≡ is_called m (Some d)
    here = deep_called n m v r rs d
        (or_left (has_text (elements m) && leads_to_name (elements n) (r ∷ rs))
        (share_name n m && is_name_in (r ∷ rs) qs) h)

    later : share_name n m ≡ true → is_name_in (r ∷ rs) qs ≡ false
    later e = and_other (share_name n m) (is_name_in (r ∷ rs) qs) e
        (or_right (has_text (elements m) && leads_to_name (elements n) (r ∷ rs))
        (share_name n m && is_name_in (r ∷ rs) qs) h)

    go : (b : Bool) → is_called n (Some d) ≡ b
        → (is_called m (Some (cond b (f d) d)) && has_names qs (Some (cond b (f d) d)) p)
        ≡ (is_called m (Some d) && has_names qs (Some d) p)
    go false c = refl
    go true c = by_bool (share_name n m)
        (λ e. ap₂ (λ a b. a && b) here (keeps (later e) (Some d)))
        (λ e.
        let away = not_called n m (Some d) e c in
        ap (λ b. b && has_names qs (Some (f d)) p) (here ∙ away)
        ∙ sym (ap (λ b. b && has_names qs (Some d) p) away))

-- such a change leaves the names of the place, even if there is no value after it
pub deep_names : (v : Verb) (rs qs : List RuleStep) (o : Option Doc) (p : List Step)
    → length qs ≤ length rs → ends_in_member qs ≡ true → is_name_in rs qs ≡ false
    → has_names qs (edited v rs o) p ≡ has_names qs o p
deep_names v rs qs None p l e h = refl
deep_names v rs [] (Some d) p l e h = refl
deep_names v [] (q ∷ qs) (Some d) p l e h = absurd (omega (arith, l))
deep_names v (r ∷ rs) (named j ∷ qs) (Some d) [] l e h = refl
deep_names v (r ∷ rs) (elements m ∷ qs) (Some d) [] l e h = refl
deep_names v (named k ∷ rs) (q ∷ qs) (Some d) (place i ∷ p) l e h =
    names_step (q ∷ qs) (place i) p (change_at_place (named k ∷ rs) (of_verb v) d) d
    (place-change k (change_at_place rs (of_verb v)) i d)
deep_names v (named k ∷ rs) (elements m ∷ qs) (Some d) (name x ∷ p) l e h = refl
deep_names v (named k ∷ rs) (named j ∷ qs) (Some d) (name x ∷ p) l e h =
    deep_member v k j x rs qs d p h (λ g o. deep_names v rs qs o p (omega (arith, l)) e g)
deep_names v (elements n ∷ rs) (q ∷ qs) (Some d) (name x ∷ p) l e h =
    names_step (q ∷ qs) (name x) p (change_at_place (elements n ∷ rs) (of_verb v) d) d
    (get-change_items (change_called n (change_at_place rs (of_verb v))) d x)
deep_names v (elements n ∷ rs) (named j ∷ qs) (Some d) (place i ∷ p) l e h = refl
deep_names v (elements n ∷ rs) (elements m ∷ []) (Some d) (place i ∷ p) l e h = cc
deep_names v (elements n ∷ []) (elements m ∷ q ∷ qs) (Some d) (place i ∷ p) l e h =
    absurd (omega (arith, l))
deep_names v (elements n ∷ r ∷ rs) (elements m ∷ q ∷ qs) (Some d) (place i ∷ p) l e h =
    ap (λ o. is_called m o && has_names (q ∷ qs) o p)
    (item-change (change_called n (change_at_place (r ∷ rs) (of_verb v))) d i)
    ∙ deep_element v n m r rs (q ∷ qs) p h
    (λ g o. deep_names v (r ∷ rs) (q ∷ qs) o p (omega (arith, l)) e g) (step (place i) d)
