-- Changes of flat documents in their place.
use Rattle.std.proofs.Common.{◌≡◌, ◌∙◌, ℕ, zero, suc, ◌+◌, ◌<◌, Bool, true, false, cond, List, []}
use Rattle.std.proofs.Common.{◌∷◌, ◌++◌, map, length, drop, set, get_or, Option, Some, None, refl}
use Rattle.std.proofs.Common.{sym, ap, subst, arith, append-nil, length-append}
use Rattle.std.proofs.lemmas.List.{length-map, at_drop_more}
use Rattle.std.specs.List.{slice_get}
use Rattle.dap_tree.specs.Doc.{Doc, null, boolean, whole, text, list, object, id, no_items, item}
use Rattle.dap_tree.specs.Doc.{no_members, member}
use Rattle.dap_flat.specs.declared.node.Node.{Node}
use Rattle.dap_flat.specs.Finding.{Holds, Stand}
use Rattle.dap_flat.specs.Pieces.{Piece, begin_list, begin_object, piece_of, pieces, items_pieces}
use Rattle.dap_flat.specs.Pieces.{members_pieces, Represents}
use Rattle.dap_flat.proofs.Found.{stands_first}
use Rattle.dap_flat_message.specs.Marking.{Edits, Replaced}
use Rattle.dap_flat_message.proofs.Replacing.{one_replaced, replaced_then, same_again, stands_now}
use Rattle.dap_mask.specs.FlatMasking.{AreChanged, IsTold, blanked, changed_at, changed_by}
use Rattle.dap_mask.specs.FlatMasking.{changed_piece, with_text, squeezed}
use Rattle.dap_mask.specs.Rules.{Rule, blank, change_text, of_verb}
use Rattle.dap_mask.specs.Index.{asks_for}
use Rattle.dap_mask.specs.RuleSteps.{is_called, change_at_place, change_called}
use Rattle.dap_mask.specs.declared.rules.Verb.{Verb, TheVariants.{Blank, Digits, Hex, Long, Uuid}}

-- ---- one node

text_there : (ns : List Node) (at : ℕ) (n x : Node) (f : List ℕ → List ℕ) (d : Doc)
    → Holds ns at d → Some (with_text f (piece_of (get_or ns at x))) ≡ Some (piece_of n)
    → Replaced ns (set ns at n) at (pieces d) (pieces (change_text f d))
text_there ns at n x f d h e = of d h
  where
    put : (p : Piece) → piece_of (get_or ns at x) ≡ p → piece_of n ≡ with_text f p
    put p is = let now : piece_of n ≡ with_text f (piece_of (get_or ns at x)) = cc in
        now ∙ ap (with_text f) is

    of : (d : Doc) → Holds ns at d
        → Replaced ns (set ns at n) at (pieces d) (pieces (change_text f d))
    of null h = one_replaced ns at n x _ _ _ h (put _)
    of (boolean b) h = one_replaced ns at n x _ _ _ h (put _)
    of (whole z) h = one_replaced ns at n x _ _ _ h (put _)
    of (text s) h = one_replaced ns at n x _ _ _ h (put _)
    of (list ds) h = one_replaced ns at n x _ _ _ h (put _)
    of (object ms) h = one_replaced ns at n x _ _ _ h (put _)
    of (id s z) h = one_replaced ns at n x _ _ _ h (put _)

some_piece : (d : Doc) → 0 < length (pieces d)
some_piece null = omega arith
some_piece (boolean b) = omega arith
some_piece (whole z) = omega arith
some_piece (text s) = omega arith
some_piece (list ds) = omega arith
some_piece (object ms) = omega arith
some_piece (id s z) = omega arith

blank_there : (ns : List Node) (at : ℕ) (n x : Node) (d : Doc) → Holds ns at d
    → blanked (piece_of (get_or ns at x)) ≡ Some (piece_of n)
    → Replaced ns (set ns at n) at (pieces d) (pieces (blank d))
blank_there ns at n x d h e = of d h
  where
    put : (p q : Piece) → blanked p ≡ Some q → piece_of (get_or ns at x) ≡ p → piece_of n ≡ q
    put p q blanks is =
        let same : Some (piece_of n) ≡ Some q = sym e ∙ ap blanked is ∙ blanks in cc

    never : (p : Piece) (ps : List Piece) → Stand ns at (p ∷ ps) → blanked p ≡ None → ⊥
    never p ps s none =
        let first : piece_of (get_or ns at x) ≡ p =
        stands_first ns at (get_or ns at x) x p ps s refl in
        let same : Some (piece_of n) ≡ None = sym e ∙ ap blanked first ∙ none in cc

    full_list : (m : ℕ) → 0 < m → blanked (begin_list m) ≡ None
    full_list zero some = absurd (omega (arith, some))
    full_list (suc m) some = refl

    of : (d : Doc) → Holds ns at d → Replaced ns (set ns at n) at (pieces d) (pieces (blank d))
    of null h = one_replaced ns at n x _ _ _ h (put _ _ refl)
    of (boolean b) h = one_replaced ns at n x _ _ _ h (put _ _ refl)
    of (whole z) h = one_replaced ns at n x _ _ _ h (put _ _ refl)
    of (text s) h = one_replaced ns at n x _ _ _ h (put _ _ refl)
    of (list no_items) h = one_replaced ns at n x _ _ _ h (put _ _ refl)
    of (list (item d ds)) h =
        absurd (never (begin_list (length (pieces d ++ items_pieces ds))) _ h
        (full_list (length (pieces d ++ items_pieces ds))
        (omega (arith, some_piece d, length-append (pieces d) (items_pieces ds)))))
    of (object no_members) h = one_replaced ns at n x _ _ _ h (put _ _ refl)
    of (object (member k d ms)) h =
        absurd (never (begin_object (length (members_pieces (member k d ms)))) _ h refl)
    of (id s z) h = one_replaced ns at n x _ _ _ h (put _ _ refl)

pub changed_there : (ns : List Node) (at : ℕ) (n x : Node) (v : Verb) (d : Doc) → Holds ns at d
    → changed_piece v (piece_of (get_or ns at x)) ≡ Some (piece_of n)
    → Replaced ns (set ns at n) at (pieces d) (pieces (of_verb v d))
changed_there ns at n x Blank d h e = blank_there ns at n x d h e
changed_there ns at n x Digits d h e = text_there ns at n x (squeezed Digits) d h e
changed_there ns at n x Hex d h e = text_there ns at n x (squeezed Hex) d h e
changed_there ns at n x Long d h e = text_there ns at n x (squeezed Long) d h e
changed_there ns at n x Uuid d h e = text_there ns at n x (squeezed Uuid) d h e

-- ---- an element by its name

pub called : (ns new : List Node) (at : ℕ) (n : Option (List ℕ)) (f : Doc → Doc) (b : Bool)
    → IsTold ns at (λ d. is_called n (Some d)) b → b ≡ true → Edits ns new at f
    → Edits ns new at (change_called n f)
called ns new at n f b told is edits d h =
    subst (λ e. Replaced ns new at (pieces d) (pieces e))
    (ap (λ c. cond c (f d) d) (sym is ∙ told d h)) (edits d h)

pub not_called : (ns : List Node) (at : ℕ) (n : Option (List ℕ)) (f : Doc → Doc) (b : Bool)
    → IsTold ns at (λ d. is_called n (Some d)) b → b ≡ false → Edits ns ns at (change_called n f)
not_called ns at n f b told is d h =
    subst (λ e. Replaced ns ns at (pieces d) (pieces e))
    (ap (λ c. cond c (f d) d) (sym is ∙ told d h)) (same_again ns at (pieces d) h)

-- ---- rules, one after the other

pub none_changed : (t : Option (List ℕ)) (rs : List Rule) (is : List ℕ) (ns : List Node)
    → AreChanged t rs is is ns ns
none_changed t rs is ns d h = (d, same_again ns 0 (pieces d) h, refl)

pub one_changed : (t : Option (List ℕ)) (rs : List Rule) (is : List ℕ) (i x : ℕ)
    (old now new : List Node) → i < length is → AreChanged t rs (drop i is) is old now
    → Edits now new 0 (changed_by t (slice_get rs (get_or is i x)))
    → AreChanged t rs (drop (i + 1) is) is old new
one_changed t rs is i x old now new within changed edits d h =
    let m = changed d h in
    let f = changed_by t (slice_get rs (get_or is i x)) in (
      f m.0,
      replaced_then old now new 0 (pieces d) (pieces m.0) (pieces (f m.0)) m.1
          (edits m.0 (stands_now old now 0 (pieces d) (pieces m.0) m.1)),
      sym (at_drop_more (λ js. changed_at t rs js m.0) is i x within) ∙ m.2,
    )

pub all_changed : (t : Option (List ℕ)) (rs : List Rule) (left is : List ℕ) (old now : List Node)
    → left ≡ [] → AreChanged t rs left is old now → Edits old now 0 (changed_at t rs is)
all_changed t rs left is old now none changed d h =
    let m = changed d h in
    subst (λ e. Replaced old now 0 (pieces d) (pieces e))
    (ap (λ js. changed_at t rs js m.0) (sym none) ∙ m.2) m.1

-- a rule for messages of the category, and a rule for others
pub rule_asked : (t : Option (List ℕ)) (r : Rule) (old new : List Node) (b : Bool)
    → b ≡ asks_for r.category t → b ≡ true
    → Edits old new 0 (change_at_place r.place (of_verb r.verb))
    → Edits old new 0 (changed_by t (Some r))
rule_asked t r old new b is asked edits d h =
    subst (λ e. Replaced old new 0 (pieces d) (pieces e))
    (ap (λ c. cond c (change_at_place r.place (of_verb r.verb) d) d) (sym asked ∙ is))
    (edits d h)

pub rule_not_asked : (t : Option (List ℕ)) (r : Rule) (ns : List Node) (b : Bool)
    → b ≡ asks_for r.category t → b ≡ false → Edits ns ns 0 (changed_by t (Some r))
rule_not_asked t r ns b is other d h =
    subst (λ e. Replaced ns ns 0 (pieces d) (pieces e))
    (ap (λ c. cond c (change_at_place r.place (of_verb r.verb) d) d) (sym other ∙ is))
    (same_again ns 0 (pieces d) h)

-- ---- a whole document

all_inside : (front inside behind : List Node) → 0 ≡ length front
    → length (front ++ (inside ++ behind)) ≡ length inside → front ++ (inside ++ behind) ≡ inside
all_inside [] inside [] here long = append-nil inside
all_inside [] inside (y ∷ ys) here long =
    absurd (omega (arith, long, length-append inside (y ∷ ys)))
all_inside (x ∷ xs) inside behind here long = absurd (omega (arith, here))

pub shown_whole : (old new : List Node) (d e : Doc) → Represents old d → length new ≡ length old
    → Replaced old new 0 (pieces d) (pieces e) → Represents new e
shown_whole old new d e shows same r =
    let long : length new ≡ length r.put =
    same ∙ sym (length-map old piece_of) ∙ ap length shows ∙ sym r.long ∙ sym (ap length r.shows)
    ∙ length-map r.put piece_of in
    ap (map piece_of)
    (r.is ∙ all_inside r.front r.put r.behind r.here (sym (ap length r.is) ∙ long)) ∙ r.shows
