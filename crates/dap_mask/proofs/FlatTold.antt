-- The members of a flat message by which rules apply.
use Rattle.std.proofs.Common.{◌≡◌, ◌∙◌, ℕ, Bool, cond, ◌&&◌, ◌||◌, List, [], ◌∷◌}
use Rattle.std.proofs.Common.{Option, Some, None, bytes_eq, codes, refl, sym, ap, ap₂, subst}
use Rattle.std.proofs.lemmas.Slice.Eq.{bytes_eq-Decides}
use Rattle.std.specs.List.{list_any}
use Rattle.dap_tree.specs.Doc.{Doc, null, boolean, whole, text, list, object, id, get, change_child}
use Rattle.dap_tree.specs.Path.{at}
use Rattle.dap_message.proofs.Edits.{by_bool}
use Rattle.dap_message.specs.Envelope.{text_value}
use Rattle.dap_message.specs.Rows.{is_text, type_name}
use Rattle.dap_profile.specs.Profile.{kind_named}
use Rattle.dap_profile.specs.declared.profile.Kind.TheVariants.{Request, Response, Event}
use Rattle.dap_flat.specs.declared.node.Node.{Node}
use Rattle.dap_flat.specs.Finding.{Finds, FindsChild, Found}
use Rattle.dap_flat.specs.Pieces.{pieces}
use Rattle.dap_mask.specs.Categories.{CategoryRule, drops, is_dropped_by}
use Rattle.dap_mask.specs.FlatMasking.{asks_for_event, IsTold}
use Rattle.dap_mask.specs.Index.{asks_for, told_kind, told_name}
use Rattle.dap_mask.specs.Rules.{category_path, has_name, is_event_of}
use Rattle.dap_mask.proofs.Indexed.{name_asked, text_asked}

-- ---- the value of a member

pub child_told : {X : Type 0} (ns : List Node) (at i : ℕ) (k : List ℕ) (found : Option ℕ)
    (of : Option Doc → X) (x : X) → FindsChild ns at k found → found ≡ Some i
    → IsTold ns i (λ e. of (Some e)) x → IsTold ns at (λ d. of (get k d)) x
child_told ns at i k found of x finds is told d holds =
    let h : Found ns at i (pieces d) (λ g. pieces (change_child k g d)) (get k d) =
    subst (λ r. Finds ns at (pieces d) (λ g. pieces (change_child k g d)) r (get k d)) is
    (finds d holds) in
    told h.part h.holds ∙ ap of (sym h.is)

pub no_child_told : {X : Type 0} (ns : List Node) (at : ℕ) (k : List ℕ) (found : Option ℕ)
    (of : Option Doc → X) → FindsChild ns at k found → found ≡ None
    → IsTold ns at (λ d. of (get k d)) (of None)
no_child_told ns at k found of finds is d holds =
    let none : get k d ≡ None =
    subst (λ r. Finds ns at (pieces d) (λ g. pieces (change_child k g d)) r (get k d)) is
    (finds d holds) in
    ap of (sym none)

-- ---- the kind

same_both : (xs ys : List ℕ) → bytes_eq xs ys ≡ bytes_eq ys xs
same_both xs ys =
    by_bool (bytes_eq xs ys) (λ yes. equal ((bytes_eq-Decides xs ys).0 yes))
    (λ no. by_bool (bytes_eq ys xs) (λ yes. equal (sym ((bytes_eq-Decides ys xs).0 yes)))
    (λ also. no ∙ sym also))
  where
    equal : xs ≡ ys → bytes_eq xs ys ≡ bytes_eq ys xs
    equal e = ap₂ bytes_eq e (sym e)

pub kind_told : (s : List ℕ) (d : Doc) → Some s ≡ text_value (get (codes "type") d)
    → kind_named s ≡ told_kind d
kind_told s d = of (get (codes "type") d)
  where
    of : (o : Option Doc) → Some s ≡ text_value o
        → kind_named s ≡ cond (is_text (type_name Request) o) (Some Request)
        (cond (is_text (type_name Response) o) (Some Response)
        (cond (is_text (type_name Event) o) (Some Event) None))
    of None h = cc
    of (Some null) h = cc
    of (Some (boolean b)) h = cc
    of (Some (whole z)) h = cc
    of (Some (text t)) h =
        let e : s ≡ t = cc in
        ap kind_named e
        ∙ ap₂ (λ b o. cond b (Some Request) o) (same_both t (type_name Request))
        (ap₂ (λ b o. cond b (Some Response) o) (same_both t (type_name Response))
        (ap (λ b. cond b (Some Event) None) (same_both t (type_name Event))))
    of (Some (list ds)) h = cc
    of (Some (object ms)) h = cc
    of (Some (id i z)) h = cc

pub no_kind_told : (d : Doc) → None ≡ text_value (get (codes "type") d) → None ≡ told_kind d
no_kind_told d = of (get (codes "type") d)
  where
    of : (o : Option Doc) → None ≡ text_value o
        → None ≡ cond (is_text (type_name Request) o) (Some Request)
        (cond (is_text (type_name Response) o) (Some Response)
        (cond (is_text (type_name Event) o) (Some Event) None))
    of None h = refl
    of (Some null) h = refl
    of (Some (boolean b)) h = refl
    of (Some (whole z)) h = refl
    of (Some (text t)) h = cc
    of (Some (list ds)) h = refl
    of (Some (object ms)) h = refl
    of (Some (id i z)) h = refl

-- ---- events that are dropped

any_same : {X : Type 0} (p q : X → Bool) (xs : List X) → ((x : X) → p x ≡ q x)
    → list_any p xs ≡ list_any q xs
any_same p q [] h = refl
any_same p q (x ∷ xs) h = ap₂ (λ a b. a || b) (h x) (any_same p q xs h)

pub event_told : (names : List (Option (List ℕ))) (cs : List CategoryRule) (n t : Option (List ℕ))
    (d : Doc) → n ≡ told_name Event d → t ≡ text_value (at category_path d)
    → (list_any (λ m. asks_for m n) names || list_any (asks_for_event n t) cs)
    ≡ (is_event_of names d || is_dropped_by cs d)
event_told names cs n t d named told =
    ap₂ (λ a b. a || b)
    (any_same (λ m. asks_for m n) (λ m. has_name Event m d) names (λ m. of_name m))
    (any_same (asks_for_event n t) (λ c. drops c d) cs
    (λ c. ap₂ (λ a b. a && b) (of_name c.name)
    (ap (asks_for (Some c.category)) told ∙ sym (text_asked c.category (at category_path d)))))
  where
    of_name : (m : Option (List ℕ)) → asks_for m n ≡ has_name Event m d
    of_name m = ap (asks_for m) named ∙ sym (name_asked Event m d)
