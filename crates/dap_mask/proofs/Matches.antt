-- Two places that lead to one path, and two rules for one message.
use Rattle.std.proofs.Common.{◌≡◌, ℕ, Bool, true, false, ◌&&◌, List, [], ◌∷◌, Option, Some, None}
use Rattle.std.proofs.Common.{codes, option_and_then, refl, sym, ◌∙◌, subst, bytes_eq, cond}
use Rattle.std.proofs.lemmas.Slice.Eq.{bytes_eq-Decides}
use Rattle.dap_tree.specs.Doc.{Doc, null, boolean, whole, text, list, object, id, get}
use Rattle.dap_tree.specs.Path.{Step, name, place, step, at}
use Rattle.dap_tree.proofs.Booleans.{and_left, and_right, and_both}
use Rattle.dap_profile.specs.PlaceSteps.{PlaceStep, named as member, each}
use Rattle.dap_message.specs.Places.{fits_place}
use Rattle.dap_message.specs.Rows.{is_text, is_of_kind, name_key, type_name}
use Rattle.dap_profile.specs.declared.profile.Kind.{Kind, TheVariants.{Request, Response, Event}}
use Rattle.dap_mask.specs.RuleSteps.{RuleStep, named, elements, plain_place, is_called, has_names}
use Rattle.dap_mask.specs.Rules.{Rule, has_name, rule_applies, same_place, same_kind, share_name}
use Rattle.dap_mask.specs.Rules.{share_place, share_category, has_head, has_category}
use Rattle.dap_mask.specs.Rules.{category_path}

pub fits_same : (ps qs : List PlaceStep) (p : List Step) → fits_place ps p ≡ true → fits_place qs p
    ≡ true → same_place ps qs ≡ true
fits_same [] [] p h k = refl
fits_same [] (member j ∷ qs) [] h k = cc
fits_same [] (each ∷ qs) [] h k = cc
fits_same [] qs (st ∷ p) h k = cc
fits_same (member i ∷ ps) qs [] h k = cc
fits_same (each ∷ ps) qs [] h k = cc
fits_same (member i ∷ ps) [] (st ∷ p) h k = cc
fits_same (each ∷ ps) [] (st ∷ p) h k = cc
fits_same (member i ∷ ps) (member j ∷ qs) (name l ∷ p) h k =
    let one : i ≡ l = (bytes_eq-Decides i l).0 (and_left (bytes_eq i l) (fits_place ps p) h) in
    let two : j ≡ l = (bytes_eq-Decides j l).0 (and_left (bytes_eq j l) (fits_place qs p) k) in
    and_both _ _ ((bytes_eq-Decides i j).1 (one ∙ sym two))
    (fits_same ps qs p (and_right (bytes_eq i l) (fits_place ps p) h)
    (and_right (bytes_eq j l) (fits_place qs p) k))
fits_same (member i ∷ ps) (each ∷ qs) (name l ∷ p) h k = cc
fits_same (member i ∷ ps) (q ∷ qs) (place n ∷ p) h k = cc
fits_same (each ∷ ps) (q ∷ qs) (name l ∷ p) h k = cc
fits_same (each ∷ ps) (member j ∷ qs) (place n ∷ p) h k = cc
fits_same (each ∷ ps) (each ∷ qs) (place n ∷ p) h k = fits_same ps qs p h k

text_alike : (n m : List ℕ) (o : Option Doc) → is_text n o ≡ true → is_text m o ≡ true
    → bytes_eq n m ≡ true
text_alike n m None h k = cc
text_alike n m (Some null) h k = cc
text_alike n m (Some (boolean b)) h k = cc
text_alike n m (Some (whole z)) h k = cc
text_alike n m (Some (text s)) h k = (bytes_eq-Decides n m).1 ((bytes_eq-Decides n s).0 h
    ∙ sym ((bytes_eq-Decides m s).0 k))
text_alike n m (Some (list ds)) h k = cc
text_alike n m (Some (object ms)) h k = cc
text_alike n m (Some (id s z)) h k = cc

pub kind_alike : (k l : Kind) (d : Doc) → is_of_kind k d ≡ true → is_of_kind l d ≡ true
    → (same_kind k l ≡ true) × (k ≡ l)
kind_alike k l d h g = go k l (text_alike (type_name k) (type_name l) (get (codes "type") d) h g)
  where
    go : (k l : Kind) → bytes_eq (type_name k) (type_name l) ≡ true → (same_kind k l ≡ true)
        × (k ≡ l)
    go Request Request e = (refl, refl)
    go Request Response e = cc
    go Request Event e = cc
    go Response Request e = cc
    go Response Response e = (refl, refl)
    go Response Event e = cc
    go Event Request e = cc
    go Event Response e = cc
    go Event Event e = (refl, refl)

pub name_alike : (k : Kind) (n m : Option (List ℕ)) (d : Doc) → has_name k n d ≡ true
    → has_name k m d ≡ true → share_name n m ≡ true
name_alike k None None d h g = refl
name_alike k None (Some m) d h g = refl
name_alike k (Some n) None d h g = refl
name_alike k (Some n) (Some m) d h g = text_alike n m (get (name_key k) d) h g

-- two rules of whose kinds and names one document is may apply to the same message
pub heads_meet : (r t : Rule) (d : Doc) → has_head r d ≡ true → has_head t d ≡ true
    → (same_kind r.kind t.kind && share_name r.name t.name) ≡ true
heads_meet r t d rs ts =
    let kinds = kind_alike r.kind t.kind d (and_left (is_of_kind r.kind d)
    (has_name r.kind r.name d) rs) (and_left (is_of_kind t.kind d) (has_name t.kind t.name d)
    ts) in
    let named_t : has_name r.kind t.name d ≡ true =
    subst (λ k. has_name k t.name d ≡ true) (sym kinds.1) (and_right (is_of_kind t.kind d)
    (has_name t.kind t.name d) ts) in
    and_both _ _ kinds.0 (name_alike r.kind r.name t.name d (and_right (is_of_kind r.kind d)
    (has_name r.kind r.name d) rs) named_t)

pub head_of : (r : Rule) (d : Doc) → rule_applies r d ≡ true → has_head r d ≡ true
head_of r d h = and_left (has_head r d) (has_category r.category d) h

-- two rules that apply to one document may apply to the same message
pub both_apply : (r t : Rule) (d : Doc) → rule_applies r d ≡ true → rule_applies t d ≡ true
    → (same_kind r.kind t.kind && share_name r.name t.name) ≡ true
both_apply r t d rs ts = heads_meet r t d (head_of r d rs) (head_of t d ts)

category_alike : (c e : Option (List ℕ)) (d : Doc) → has_category c d ≡ true
    → has_category e d ≡ true → share_category c e ≡ true
category_alike None None d h k = refl
category_alike None (Some e) d h k = refl
category_alike (Some c) None d h k = refl
category_alike (Some c) (Some e) d h k = text_alike c e (at category_path d) h k

-- and to the same event, by their categories
pub both_select : (r t : Rule) (d : Doc) → rule_applies r d ≡ true → rule_applies t d ≡ true
    → (same_kind r.kind t.kind && (share_name r.name t.name
    && share_category r.category t.category)) ≡ true
both_select r t d rs ts =
    let message = both_apply r t d rs ts in
    and_both _ _ (and_left (same_kind r.kind t.kind) (share_name r.name t.name) message)
    (and_both _ _ (and_right (same_kind r.kind t.kind) (share_name r.name t.name) message)
    (category_alike r.category t.category d
    (and_right (has_head r d) (has_category r.category d) rs)
    (and_right (has_head t d) (has_category t.category d) ts)))

pub called_alike : (n m : Option (List ℕ)) (o : Option Doc) → is_called n o ≡ true
    → is_called m o ≡ true → share_name n m ≡ true
called_alike None m o h k = go m
  where
    go : (m : Option (List ℕ)) → share_name None m ≡ true
    go None = refl
    go (Some w) = refl
called_alike (Some n) None o h k = refl
called_alike (Some n) (Some m) o h k =
    text_alike n m (option_and_then (get (codes "name")) o) h k

on_member : (b x : Bool) → b ≡ true → cond b x true ≡ true → x ≡ true
on_member true x e h = h
on_member false x e h = cc

-- two places at one path of a document may lead to one value
pub fits_share : (rs ts : List RuleStep) (o : Option Doc) (p : List Step)
    → fits_place (plain_place rs) p ≡ true → fits_place (plain_place ts) p ≡ true
    → has_names rs o p ≡ true → has_names ts o p ≡ true → share_place rs ts ≡ true
fits_share [] [] o p f g h k = refl
fits_share [] (named j ∷ ts) o [] f g h k = cc
fits_share [] (elements m ∷ ts) o [] f g h k = cc
fits_share [] (t ∷ ts) o (st ∷ p) f g h k = cc
fits_share (named i ∷ rs) ts o [] f g h k = cc
fits_share (elements n ∷ rs) ts o [] f g h k = cc
fits_share (r ∷ rs) [] o (st ∷ p) f g h k = cc
fits_share (named i ∷ rs) (named j ∷ ts) o (name l ∷ p) f g h k =
    let one = and_left (bytes_eq i l) (fits_place (plain_place rs) p) f in
    let two = and_left (bytes_eq j l) (fits_place (plain_place ts) p) g in
    let next = option_and_then (step (name l)) o in
    and_both _ _ ((bytes_eq-Decides i j).1 ((bytes_eq-Decides i l).0 one
    ∙ sym ((bytes_eq-Decides j l).0 two)))
    (fits_share rs ts next p (and_right (bytes_eq i l) (fits_place (plain_place rs) p) f)
    (and_right (bytes_eq j l) (fits_place (plain_place ts) p) g)
    (on_member (bytes_eq i l) (has_names rs next p) one h)
    (on_member (bytes_eq j l) (has_names ts next p) two k))
fits_share (named i ∷ rs) (elements m ∷ ts) o (name l ∷ p) f g h k = cc
fits_share (named i ∷ rs) (t ∷ ts) o (place x ∷ p) f g h k = cc
fits_share (elements n ∷ rs) (t ∷ ts) o (name l ∷ p) f g h k = cc
fits_share (elements n ∷ rs) (named j ∷ ts) o (place x ∷ p) f g h k = cc
fits_share (elements n ∷ rs) (elements m ∷ ts) o (place x ∷ p) f g h k =
    let next = option_and_then (step (place x)) o in
    and_both _ _ (called_alike n m next (and_left (is_called n next) (has_names rs next p) h)
    (and_left (is_called m next) (has_names ts next p) k))
    (fits_share rs ts next p f g (and_right (is_called n next) (has_names rs next p) h)
    (and_right (is_called m next) (has_names ts next p) k))
