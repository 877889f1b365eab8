-- Paths of a flat document checked against a row.
use Rattle.std.proofs.Common.{◌≡◌, ℕ, ◌+◌, ◌<◌, List, [], ◌∷◌, ◌++◌, map, length, get_or, Bool}
use Rattle.std.proofs.Common.{true}
use Rattle.std.proofs.Common.{false, Option, Some, None, refl, sym, ap, ◌∙◌, option_map, subst}
use Rattle.std.proofs.Common.{is_some, append_assoc, arith}
use Rattle.std.specs.List.{flat_map}
use Rattle.std.specs.Option.{option_or}
use Rattle.dap_tree.specs.Doc.{Doc, null, boolean, whole, text, list, object, id, Items, no_items}
use Rattle.dap_tree.specs.Doc.{item, get, change_child}
use Rattle.dap_profile.specs.PlaceSteps.{PlaceStep, named, each}
use Rattle.dap_profile.specs.declared.profile.Want.{Want}
use Rattle.dap_message.specs.Places.{is_object, parts_at, elements}
use Rattle.dap_message.specs.Rows.{cause_against, first_cause, broken_at, of_row}
use Rattle.dap_flat.specs.declared.node.Node.{Node}
use Rattle.dap_flat.specs.Finding.{Stand, Holds, Finds, Found, FindsChild}
use Rattle.dap_flat.specs.Pieces.{Piece, begin_list, end_list}
use Rattle.dap_flat.specs.Pieces.{piece_of, pieces, items_pieces}
use Rattle.dap_flat.specs.Placing.{size}
use Rattle.dap_flat.proofs.Found.{stands_first, behind_first, first_part, second_part, size_there}
use Rattle.dap_flat_message.specs.Judging.{top_of, is_list, reported, Judges, items_fault}
use Rattle.dap_flat_message.specs.Judging.{JudgesItems}
use Rattle.dap_flat_message.specs.Judging.{ItemsLeft, fault_told, JudgesTop}
use Rattle.dap_flat_message.specs.Places.{Locates, FindsTop}
use Rattle.dap_flat_message.specs.declared.members.Envelope.{Envelope}
use Rattle.dap_flat_message.specs.declared.rows.Broken.{Broken}
use Rattle.dap_flat_message.proofs.Tops.{top_there, cause-top, is_object-top, is_list-top}
use Rattle.dap_flat_message.proofs.Heads.{holds_whole}

-- ---- options

or_none : {X : Type 0} (a : Option X) → a ≡ option_or a None
or_none None = refl
or_none (Some x) = refl

or_assoc : {X : Type 0} (a b c : Option X)
    → option_or a (option_or b c) ≡ option_or (option_or a b) c
or_assoc None b c = refl
or_assoc (Some x) b c = refl

map_or : {X Y : Type 0} (f : X → Y) (a b : Option X)
    → option_map f (option_or a b) ≡ option_or (option_map f a) (option_map f b)
map_or f None b = refl
map_or f (Some x) b = refl

-- ---- the value at a node

pub value_judged : (ns : List Node) (at : ℕ) (x : Node) (w : Want) (needed : Bool) (n : ℕ) (d : Doc)
    → Holds ns at d
    → option_map (of_row n) (cause_against w needed (Some (top_of (piece_of (get_or ns at x)))))
    ≡ option_map (of_row n) (broken_at [] w needed d)
value_judged ns at x w needed n d h =
    ap (λ t. option_map (of_row n) (cause_against w needed (Some t)))
    (top_there ns at d (get_or ns at x) x h refl)
    ∙ ap (option_map (of_row n)) (cause-top w needed d ∙ or_none (cause_against w needed (Some d)))

object_there : (ns : List Node) (at : ℕ) (x : Node) (d : Doc) → Holds ns at d
    → is_object (top_of (piece_of (get_or ns at x))) ≡ is_object d
object_there ns at x d h =
    ap is_object (top_there ns at d (get_or ns at x) x h refl) ∙ is_object-top d

list_there : (ns : List Node) (at : ℕ) (x : Node) (d : Doc) → Holds ns at d
    → is_list (top_of (piece_of (get_or ns at x))) ≡ is_list d
list_there ns at x d h =
    ap is_list (top_there ns at d (get_or ns at x) x h refl) ∙ is_list-top d

-- ---- a member

pub found_there : (ns : List Node) (at i : ℕ) (k : List ℕ) (r : Option ℕ) (d : Doc)
    → FindsChild ns at k r → r ≡ Some i → Holds ns at d
    → Found ns at i (pieces d) (λ g. pieces (change_child k g d)) (get k d)
found_there ns at i k r d finds is h =
    subst (λ r. Finds ns at (pieces d) (λ g. pieces (change_child k g d)) r (get k d)) is
    (finds d h)

none_there : (ns : List Node) (at : ℕ) (k : List ℕ) (r : Option ℕ) (d : Doc)
    → FindsChild ns at k r → r ≡ None → Holds ns at d → get k d ≡ None
none_there ns at k r d finds is h =
    subst (λ r. Finds ns at (pieces d) (λ g. pieces (change_child k g d)) r (get k d)) is
    (finds d h)

member_at : (k : List ℕ) (w : Want) (needed : Bool) (n : ℕ) (d : Doc) (o : Option Doc)
    → is_object d ≡ true → get k d ≡ o
    → option_map (of_row n) (broken_at (named k ∷ []) w needed d)
    ≡ option_map (of_row n) (option_or (cause_against w needed o) None)
member_at k w needed n d o obj is = rw (obj, is) refl

no_member_at : (k : List ℕ) (w : Want) (needed : Bool) (n : ℕ) (d : Doc) → is_object d ≡ false
    → option_map (of_row n) (broken_at (named k ∷ []) w needed d) ≡ None
no_member_at k w needed n d obj = rw obj refl

pub member_judged : (ns : List Node) (at i : ℕ) (x : Node) (k : List ℕ) (w : Want) (needed : Bool)
    (c : Option Broken) (r : Option ℕ) → FindsChild ns at k r → r ≡ Some i
    → is_object (top_of (piece_of (get_or ns at x))) ≡ true → Judges ns i [] w needed c
    → Judges ns at (named k ∷ []) w needed c
member_judged ns at i x k w needed c r finds is obj judged n d h =
    let f = found_there ns at i k r d finds is h in
    judged n f.part f.holds
    ∙ sym (member_at k w needed n d (Some f.part) (sym (object_there ns at x d h) ∙ obj) f.is)

pub absent_judged : (ns : List Node) (at : ℕ) (x : Node) (k : List ℕ) (w : Want) (needed : Bool)
    (c : Option Broken) (r : Option ℕ) → FindsChild ns at k r → r ≡ None
    → is_object (top_of (piece_of (get_or ns at x))) ≡ true
    → ((n : ℕ) → reported n c ≡ option_map (of_row n) (cause_against w needed None))
    → Judges ns at (named k ∷ []) w needed c
absent_judged ns at x k w needed c r finds is obj judged n d h =
    let none = none_there ns at k r d finds is h in
    judged n ∙ ap (option_map (of_row n)) (or_none (cause_against w needed None))
    ∙ sym (member_at k w needed n d None (sym (object_there ns at x d h) ∙ obj) none)

pub no_object_judged : (ns : List Node) (at : ℕ) (x : Node) (k : List ℕ) (w : Want) (needed : Bool)
    → is_object (top_of (piece_of (get_or ns at x))) ≡ false
    → Judges ns at (named k ∷ []) w needed None
no_object_judged ns at x k w needed obj n d h =
    sym (no_member_at k w needed n d (sym (object_there ns at x d h) ∙ obj))

-- ---- below a member

inside_at : (k : List ℕ) (p : PlaceStep) (ps : List PlaceStep) (w : Want) (needed : Bool) (n : ℕ)
    (d e : Doc) → get k d ≡ Some e
    → option_map (of_row n) (broken_at (named k ∷ p ∷ ps) w needed d)
    ≡ option_map (of_row n) (broken_at (p ∷ ps) w needed e)
inside_at k p ps w needed n d e is = rw is refl

inside_none : (k : List ℕ) (p : PlaceStep) (ps : List PlaceStep) (w : Want) (needed : Bool) (n : ℕ)
    (d : Doc) → get k d ≡ None
    → option_map (of_row n) (broken_at (named k ∷ p ∷ ps) w needed d) ≡ None
inside_none k p ps w needed n d is = rw is refl

pub through : (ns : List Node) (at i : ℕ) (k : List ℕ) (p : PlaceStep) (ps : List PlaceStep)
    (w : Want) (needed : Bool) (c : Option Broken) (r : Option ℕ) → FindsChild ns at k r
    → r ≡ Some i → Judges ns i (p ∷ ps) w needed c → Judges ns at (named k ∷ p ∷ ps) w needed c
through ns at i k p ps w needed c r finds is judged n d h =
    let f = found_there ns at i k r d finds is h in
    judged n f.part f.holds ∙ sym (inside_at k p ps w needed n d f.part f.is)

pub nothing_inside : (ns : List Node) (at : ℕ) (k : List ℕ) (p : PlaceStep) (ps : List PlaceStep)
    (w : Want) (needed : Bool) (r : Option ℕ) → FindsChild ns at k r → r ≡ None
    → Judges ns at (named k ∷ p ∷ ps) w needed None
nothing_inside ns at k p ps w needed r finds is n d h =
    sym (inside_none k p ps w needed n d (none_there ns at k r d finds is h))

-- ---- a member at the top

found_top : (ns : List Node) (e : Envelope) (i : ℕ) (k : List ℕ) (r : Option ℕ) (d : Doc)
    → FindsTop ns e k r → r ≡ Some i → Locates ns e d
    → Found ns 0 i (pieces d) (λ g. pieces (change_child k g d)) (get k d)
found_top ns e i k r d finds is l =
    subst (λ r. Finds ns 0 (pieces d) (λ g. pieces (change_child k g d)) r (get k d)) is (finds d l)

none_top : (ns : List Node) (e : Envelope) (k : List ℕ) (r : Option ℕ) (d : Doc)
    → FindsTop ns e k r → r ≡ None → Locates ns e d → get k d ≡ None
none_top ns e k r d finds is l =
    subst (λ r. Finds ns 0 (pieces d) (λ g. pieces (change_child k g d)) r (get k d)) is (finds d l)

object_top : (ns : List Node) (e : Envelope) (x : Node) (d : Doc) → Locates ns e d
    → is_object (top_of (piece_of (get_or ns 0 x))) ≡ is_object d
object_top ns e x d l = object_there ns 0 x d (holds_whole ns d l.shows)

pub top_judged : (ns : List Node) (e : Envelope) (i : ℕ) (x : Node) (k : List ℕ) (w : Want)
    (needed : Bool) (c : Option Broken) (r : Option ℕ) → FindsTop ns e k r → r ≡ Some i
    → is_object (top_of (piece_of (get_or ns 0 x))) ≡ true → Judges ns i [] w needed c
    → JudgesTop ns e (named k ∷ []) w needed c
top_judged ns e i x k w needed c r finds is obj judged n d l =
    let f = found_top ns e i k r d finds is l in
    judged n f.part f.holds
    ∙ sym (member_at k w needed n d (Some f.part) (sym (object_top ns e x d l) ∙ obj) f.is)

pub absent_top : (ns : List Node) (e : Envelope) (x : Node) (k : List ℕ) (w : Want) (needed : Bool)
    (c : Option Broken) (r : Option ℕ) → FindsTop ns e k r → r ≡ None
    → is_object (top_of (piece_of (get_or ns 0 x))) ≡ true
    → ((n : ℕ) → reported n c ≡ option_map (of_row n) (cause_against w needed None))
    → JudgesTop ns e (named k ∷ []) w needed c
absent_top ns e x k w needed c r finds is obj judged n d l =
    let none = none_top ns e k r d finds is l in
    judged n ∙ ap (option_map (of_row n)) (or_none (cause_against w needed None))
    ∙ sym (member_at k w needed n d None (sym (object_top ns e x d l) ∙ obj) none)

pub no_object_top : (ns : List Node) (e : Envelope) (x : Node) (k : List ℕ) (w : Want)
    (needed : Bool) → is_object (top_of (piece_of (get_or ns 0 x))) ≡ false
    → JudgesTop ns e (named k ∷ []) w needed None
no_object_top ns e x k w needed obj n d l =
    sym (no_member_at k w needed n d (sym (object_top ns e x d l) ∙ obj))

pub through_top : (ns : List Node) (e : Envelope) (i : ℕ) (k : List ℕ) (p : PlaceStep)
    (ps : List PlaceStep) (w : Want) (needed : Bool) (c : Option Broken) (r : Option ℕ)
    → FindsTop ns e k r → r ≡ Some i → Judges ns i (p ∷ ps) w needed c
    → JudgesTop ns e (named k ∷ p ∷ ps) w needed c
through_top ns e i k p ps w needed c r finds is judged n d l =
    let f = found_top ns e i k r d finds is l in
    judged n f.part f.holds ∙ sym (inside_at k p ps w needed n d f.part f.is)

pub nothing_top : (ns : List Node) (e : Envelope) (k : List ℕ) (p : PlaceStep)
    (ps : List PlaceStep) (w : Want) (needed : Bool) (r : Option ℕ) → FindsTop ns e k r
    → r ≡ None → JudgesTop ns e (named k ∷ p ∷ ps) w needed None
nothing_top ns e k p ps w needed r finds is n d l =
    sym (inside_none k p ps w needed n d (none_top ns e k r d finds is l))

-- ---- items

causes_then : (w : Want) (needed : Bool) (xs ys : List (Option Doc))
    → first_cause (map (cause_against w needed) (xs ++ ys))
    ≡ option_or (first_cause (map (cause_against w needed) xs))
    (first_cause (map (cause_against w needed) ys))
causes_then w needed [] ys = refl
causes_then w needed (x ∷ xs) ys =
    ap (option_or (cause_against w needed x)) (causes_then w needed xs ys)
    ∙ or_assoc (cause_against w needed x) (first_cause (map (cause_against w needed) xs))
    (first_cause (map (cause_against w needed) ys))

item_then : (n : ℕ) (ps : List PlaceStep) (w : Want) (needed : Bool) (e : Doc) (rest : Items)
    → items_fault n ps w needed (item e rest)
    ≡ option_or (option_map (of_row n) (broken_at ps w needed e)) (items_fault n ps w needed rest)
item_then n ps w needed e rest =
    ap (option_map (of_row n))
    (causes_then w needed (parts_at ps e) (flat_map (parts_at ps) (elements rest)))
    ∙ map_or (of_row n) (broken_at ps w needed e)
    (first_cause (map (cause_against w needed) (flat_map (parts_at ps) (elements rest))))

-- no value starts with the end of a list
pub no_value_ends : (ns : List Node) (p : ℕ) (d : Doc) (qs : List Piece) (x : Node)
    → Stand ns p (pieces d ++ qs) → piece_of (get_or ns p x) ≡ end_list → ⊥
no_value_ends ns p null qs x s e = let first = stands_first ns p _ x _ _ s refl in cc
no_value_ends ns p (boolean b) qs x s e = let first = stands_first ns p _ x _ _ s refl in cc
no_value_ends ns p (whole z) qs x s e = let first = stands_first ns p _ x _ _ s refl in cc
no_value_ends ns p (text t) qs x s e = let first = stands_first ns p _ x _ _ s refl in cc
no_value_ends ns p (list ds) qs x s e = let first = stands_first ns p _ x _ _ s refl in cc
no_value_ends ns p (object ms) qs x s e = let first = stands_first ns p _ x _ _ s refl in cc
no_value_ends ns p (id t z) qs x s e = let first = stands_first ns p _ x _ _ s refl in cc

pub value_then : (ns : List Node) (p : ℕ) (e : Doc) (rest : Items)
    → Stand ns p (items_pieces (item e rest) ++ end_list ∷ [])
    → Stand ns p (pieces e ++ (items_pieces rest ++ end_list ∷ []))
value_then ns p e rest s =
    subst (Stand ns p) (append_assoc (pieces e) (items_pieces rest) (end_list ∷ [])) s

pub all_items_left : (ns : List Node) (from : ℕ) (ps : List PlaceStep) (w : Want) (needed : Bool)
    (ds : Items) → Stand ns from (items_pieces ds ++ end_list ∷ [])
    → ItemsLeft ns from ps w needed ds
all_items_left ns from ps w needed ds s = record { left = ds; holds = s; alike = λ n. refl }

ended : (ns : List Node) (p : ℕ) (x : Node) (ps : List PlaceStep) (w : Want) (needed : Bool) (n : ℕ)
    (left : Items) → Stand ns p (items_pieces left ++ end_list ∷ [])
    → piece_of (get_or ns p x) ≡ end_list → items_fault n ps w needed left ≡ None
ended ns p x ps w needed n no_items s end = refl
ended ns p x ps w needed n (item e rest) s end =
    absurd (no_value_ends ns p e (items_pieces rest ++ end_list ∷ []) x
    (value_then ns p e rest s) end)

pub items_ended : (ns : List Node) (p : ℕ) (x : Node) (ps : List PlaceStep) (w : Want)
    (needed : Bool) (n : ℕ) (ds : Items) → ItemsLeft ns p ps w needed ds
    → piece_of (get_or ns p x) ≡ end_list → reported n None ≡ items_fault n ps w needed ds
items_ended ns p x ps w needed n ds l end =
    sym (l.alike n ∙ ended ns p x ps w needed n l.left l.holds end)

none_or : {X Y : Type 0} (f : X → Y) (c : Option X) (o a b : Option Y) → is_some c ≡ false
    → option_map f c ≡ o → a ≡ option_or o b → a ≡ b
none_or f None o a b hasnt is all = all ∙ ap (λ o. option_or o b) (sym is)
none_or f (Some x) o a b hasnt is all = absurd (cc)

some_or : {X Y : Type 0} (f : X → Y) (c : Option X) (o a b : Option Y) → is_some c ≡ true
    → option_map f c ≡ o → a ≡ option_or o b → option_map f c ≡ a
some_or f None o a b has is all = absurd (cc)
some_or f (Some x) o a b has is all = sym (all ∙ ap (λ o. option_or o b) (sym is))

passed : (ns : List Node) (p end : ℕ) (x : Node) (ps : List PlaceStep) (w : Want) (needed : Bool)
    (c : Option Broken) (ds left : Items) → Stand ns p (items_pieces left ++ end_list ∷ [])
    → ((n : ℕ) → items_fault n ps w needed ds ≡ items_fault n ps w needed left)
    → (piece_of (get_or ns p x) ≡ end_list → ⊥) → p < length ns
    → end ≡ p + size (piece_of (get_or ns p x)) → Judges ns p ps w needed c → is_some c ≡ false
    → ItemsLeft ns end ps w needed ds
passed ns p end x ps w needed c ds no_items s alike not_end within wide judged hasnt =
    absurd (not_end (stands_first ns p (get_or ns p x) x end_list [] s refl))
passed ns p end x ps w needed c ds (item e rest) s alike not_end within wide judged hasnt =
    let value = value_then ns p e rest s in
    let holds = first_part ns p (pieces e) (items_pieces rest ++ end_list ∷ []) value in
    let width = size_there ns p x e (items_pieces rest ++ end_list ∷ []) value within in
    let end_is : p + length (pieces e) ≡ end = omega (arith, wide, width) in
    record {
      left = rest;
      holds = subst (λ i. Stand ns i (items_pieces rest ++ end_list ∷ [])) end_is
          (second_part ns p (pieces e) (items_pieces rest ++ end_list ∷ []) value);
      alike = λ n. alike n
          ∙ none_or (fault_told n) c
          (option_map (of_row n) (broken_at ps w needed e))
          (items_fault n ps w needed (item e rest)) (items_fault n ps w needed rest) hasnt
          (judged n e holds) (item_then n ps w needed e rest);
    }

pub item_passed : (ns : List Node) (p end : ℕ) (x : Node) (ps : List PlaceStep) (w : Want)
    (needed : Bool) (c : Option Broken) (ds : Items) → ItemsLeft ns p ps w needed ds
    → (piece_of (get_or ns p x) ≡ end_list → ⊥) → p < length ns
    → end ≡ p + size (piece_of (get_or ns p x)) → Judges ns p ps w needed c → is_some c ≡ false
    → ItemsLeft ns end ps w needed ds
item_passed ns p end x ps w needed c ds l not_end within wide judged hasnt =
    passed ns p end x ps w needed c ds l.left l.holds l.alike not_end within wide judged hasnt

breaks : (ns : List Node) (p : ℕ) (x : Node) (ps : List PlaceStep) (w : Want) (needed : Bool)
    (c : Option Broken) (n : ℕ) (ds left : Items) → Stand ns p (items_pieces left ++ end_list ∷ [])
    → items_fault n ps w needed ds ≡ items_fault n ps w needed left
    → (piece_of (get_or ns p x) ≡ end_list → ⊥) → Judges ns p ps w needed c → is_some c ≡ true
    → reported n c ≡ items_fault n ps w needed ds
breaks ns p x ps w needed c n ds no_items s alike not_end judged has =
    absurd (not_end (stands_first ns p (get_or ns p x) x end_list [] s refl))
breaks ns p x ps w needed c n ds (item e rest) s alike not_end judged has =
    let value = value_then ns p e rest s in
    let holds = first_part ns p (pieces e) (items_pieces rest ++ end_list ∷ []) value in
    some_or (fault_told n) c
    (option_map (of_row n) (broken_at ps w needed e)) (items_fault n ps w needed (item e rest))
    (items_fault n ps w needed rest) has (judged n e holds) (item_then n ps w needed e rest)
    ∙ sym alike

pub item_breaks : (ns : List Node) (p : ℕ) (x : Node) (ps : List PlaceStep) (w : Want)
    (needed : Bool) (c : Option Broken) (n : ℕ) (ds : Items) → ItemsLeft ns p ps w needed ds
    → (piece_of (get_or ns p x) ≡ end_list → ⊥) → Judges ns p ps w needed c → is_some c ≡ true
    → reported n c ≡ items_fault n ps w needed ds
item_breaks ns p x ps w needed c n ds l not_end judged has =
    breaks ns p x ps w needed c n ds l.left l.holds (l.alike n) not_end judged has

-- ---- a list

pub list_inside : (ns : List Node) (at : ℕ) (d : Doc) → Holds ns at d → is_list d ≡ true
    → (ds : Items) × (d ≡ list ds) × Stand ns (at + 1) (items_pieces ds ++ end_list ∷ [])
list_inside ns at null h is = absurd (cc)
list_inside ns at (boolean b) h is = absurd (cc)
list_inside ns at (whole z) h is = absurd (cc)
list_inside ns at (text s) h is = absurd (cc)
list_inside ns at (list ds) h is =
    (ds, refl, behind_first ns at (begin_list (length (items_pieces ds))) _ h)
list_inside ns at (object ms) h is = absurd (cc)
list_inside ns at (id s z) h is = absurd (cc)

no_list : (ps : List PlaceStep) (w : Want) (needed : Bool) (n : ℕ) (d : Doc) → is_list d ≡ false
    → option_map (of_row n) (broken_at (each ∷ ps) w needed d) ≡ None
no_list ps w needed n null is = refl
no_list ps w needed n (boolean b) is = refl
no_list ps w needed n (whole z) is = refl
no_list ps w needed n (text s) is = refl
no_list ps w needed n (list ds) is = absurd (cc)
no_list ps w needed n (object ms) is = refl
no_list ps w needed n (id s z) is = refl

pub list_judged : (ns : List Node) (at : ℕ) (x : Node) (ps : List PlaceStep) (w : Want)
    (needed : Bool) (c : Option Broken) → is_list (top_of (piece_of (get_or ns at x))) ≡ true
    → JudgesItems ns (at + 1) ps w needed c → Judges ns at (each ∷ ps) w needed c
list_judged ns at x ps w needed c is judged n d h =
    let inside = list_inside ns at d h (sym (list_there ns at x d h) ∙ is) in
    subst (λ e. reported n c ≡ option_map (of_row n) (broken_at (each ∷ ps) w needed e))
    (sym inside.1)
    (judged n inside.0 inside.2)

pub no_list_judged : (ns : List Node) (at : ℕ) (x : Node) (ps : List PlaceStep) (w : Want)
    (needed : Bool) → is_list (top_of (piece_of (get_or ns at x))) ≡ false
    → Judges ns at (each ∷ ps) w needed None
no_list_judged ns at x ps w needed is n d h =
    sym (no_list ps w needed n d (sym (list_there ns at x d h) ∙ is))
