-- The halves of rules that name a message, by their keys.
use Rattle.std.proofs.Common.{◌≡◌, ℕ, Bool, true, false, cond, List, [], ◌∷◌, ◌++◌, Option, Some}
use Rattle.std.proofs.Common.{None, refl, sym, ap, ap₂, ◌∙◌, bytes_eq}
use Rattle.std.specs.Prelude.{◌&&◌, ◌||◌}
use Rattle.std.specs.List.{list_any}
use Rattle.std.specs.Ordering.{is_eq, on}
use Rattle.std.specs.BTreeSet.{BTreeSet, contains}
use Rattle.std.proofs.lemmas.List.Folds.{list_any-append}
use Rattle.std.proofs.lemmas.Map.Text.{is_eq-slice_cmp}
use Rattle.std.proofs.lemmas.Slice.Eq.{bytes_eq-Decides}
use Rattle.dap_profile.specs.declared.profile.Kind.{Kind}
use Rattle.dap_profile.specs.declared.profile.Kind.TheVariants.{Request, Response, Event}
use Rattle.dap_message.specs.Message.{Sent}
use Rattle.dap_message.specs.SwapRules.{Half, SwapRule}
use Rattle.dap_session.specs.Messages.{kind_of, name_of, same_kind}
use Rattle.dap_order.specs.Free.{fits_half, names_both}
use Rattle.dap_order.specs.Keys.{Key, key_of}
use Rattle.dap_order.specs.Partners.{half_key, key_cmp, is_half, is_partner, ArePartners}
use Rattle.dap_order.specs.declared.keys.Key.{Key as ReadKey}

-- ---- one more key

or_cond : (a o : Bool) → cond a true o ≡ (a || o)
or_cond true o = refl
or_cond false o = refl

pub added : (r k : ReadKey) (h : Half) (f o n : Bool)
    → n ≡ cond (is_eq (key_cmp (key_of r) (key_of k))) true o
    → key_of r ≡ half_key h.kind h.name → f ≡ true → n ≡ ((f && is_half h (key_of k)) || o)
added r k h f o n update is fits =
    update ∙ ap (λ (z : Key). cond (is_eq (key_cmp z (key_of k))) true o) is
    ∙ or_cond (is_half h (key_of k)) o
    ∙ ap (λ b. (b && is_half h (key_of k)) || o) (sym fits)

pub not_added : (f p o : Bool) → f ≡ false → o ≡ ((f && p) || o)
not_added f p o e = rw e refl

-- ---- one more rule

shuffled : (a b o : Bool) → (b || (a || o)) ≡ (o || ((a || b) || false))
shuffled true true true = refl
shuffled true true false = refl
shuffled true false true = refl
shuffled true false false = refl
shuffled false true true = refl
shuffled false true false = refl
shuffled false false true = refl
shuffled false false false = refl

pub one_more_rule : (m : Sent) (k : Key) (rules : List SwapRule) (r : SwapRule)
    (old between new : Bool)
    → old ≡ list_any (is_partner m k) rules
    → between ≡ ((fits_half r.one m && is_half r.another k) || old)
    → new ≡ ((fits_half r.another m && is_half r.one k) || between)
    → new ≡ list_any (is_partner m k) (rules ++ r ∷ [])
one_more_rule m k rules r old between new so_far one another =
    let a = fits_half r.one m && is_half r.another k in
    let b = fits_half r.another m && is_half r.one k in
    another ∙ ap (λ z. b || z) one ∙ ap (λ z. b || (a || z)) so_far
    ∙ shuffled a b (list_any (is_partner m k) rules)
    ∙ sym (list_any-append (is_partner m k) rules (r ∷ []))

-- ---- the keys of a message

same_bytes : (s t : List ℕ) → bytes_eq s t ≡ bytes_eq t s
same_bytes s t = by (bytes_eq s t) (bytes_eq t s) refl refl
  where
    by : (a b : Bool) → bytes_eq s t ≡ a → bytes_eq t s ≡ b → bytes_eq s t ≡ bytes_eq t s
    by true b e f = e ∙ sym ((bytes_eq-Decides t s).1 (sym ((bytes_eq-Decides s t).0 e)))
    by false true e f = (bytes_eq-Decides s t).1 (sym ((bytes_eq-Decides t s).0 f)) ∙ sym f
    by false false e f = e ∙ sym f

same_name : (s t : List ℕ) → is_eq (key_cmp (half_key Request (Some s)) (half_key Request (Some t)))
    ≡ bytes_eq t s
same_name s t = is_eq-slice_cmp s t ∙ same_bytes s t

-- the half has this kind, and no name or this one
abbrev fits : Kind → Option (List ℕ) → Kind → List ℕ → Bool
fits k None l t = same_kind k l && true
fits k (Some s) l t = same_kind k l && bytes_eq t s

abbrev is_one : Kind → Option (List ℕ) → Kind → List ℕ → Bool
is_one k n l t = is_eq (key_cmp (half_key k n) (half_key l None))
    || is_eq (key_cmp (half_key k n) (half_key l (Some t)))

one_of_two : (k l : Kind) (n : Option (List ℕ)) (t : List ℕ) → is_one k n l t ≡ fits k n l t
one_of_two Request Request None t = refl
one_of_two Request Response None t = refl
one_of_two Request Event None t = refl
one_of_two Response Request None t = refl
one_of_two Response Response None t = refl
one_of_two Response Event None t = refl
one_of_two Event Request None t = refl
one_of_two Event Response None t = refl
one_of_two Event Event None t = refl
one_of_two Request Request (Some s) t = same_name s t
one_of_two Request Response (Some s) t = refl
one_of_two Request Event (Some s) t = refl
one_of_two Response Request (Some s) t = refl
one_of_two Response Response (Some s) t = same_name s t
one_of_two Response Event (Some s) t = refl
one_of_two Event Request (Some s) t = refl
one_of_two Event Response (Some s) t = refl
one_of_two Event Event (Some s) t = same_name s t

named : (h : Half) (m : Sent) → (is_half h (half_key (kind_of m) None)
    || is_half h (half_key (kind_of m) (Some (name_of m)))) ≡ fits_half h m
named h m = one_of_two h.kind (kind_of m) h.name (name_of m) ∙ go h.name
  where
    go : (n : Option (List ℕ)) → fits h.kind n (kind_of m) (name_of m)
        ≡ fits_half (record { kind = h.kind; name = n }) m
    go None = refl
    go (Some s) = refl

-- ---- the rules that name two messages

-- the rule names x by one half, and the key of its other half is one of two
crossed : (a b p q r s : Bool) → (((a && p) || (b && q)) || ((a && r) || (b && s)))
    ≡ ((a && (p || r)) || (b && (q || s)))
crossed true true true q r s = refl
crossed true true false true true s = refl
crossed true true false true false s = refl
crossed true true false false true s = refl
crossed true true false false false s = refl
crossed true false true q r s = refl
crossed true false false q true s = refl
crossed true false false q false s = refl
crossed false true p true r s = refl
crossed false true p false r s = refl
crossed false false p q r s = refl

turned : (a b c d : Bool) → ((a && b) || (c && d)) ≡ ((a && b) || (d && c))
turned true true c d = refl
turned true false true true = refl
turned true false true false = refl
turned true false false true = refl
turned true false false false = refl
turned false b true true = refl
turned false b true false = refl
turned false b false true = refl
turned false b false false = refl

either : (f g h : SwapRule → Bool) (rules : List SwapRule)
    → ((r : SwapRule) → (f r || g r) ≡ h r)
    → (list_any f rules || list_any g rules) ≡ list_any h rules
either f g h [] e = refl
either f g h (r ∷ rules) e =
    mixed (f r) (list_any f rules) (g r) (list_any g rules)
    ∙ ap₂ (λ a b. a || b) (e r) (either f g h rules e)
  where
    mixed : (a b c d : Bool) → ((a || b) || (c || d)) ≡ ((a || c) || (b || d))
    mixed true b c d = refl
    mixed false true true d = refl
    mixed false true false d = refl
    mixed false false true d = refl
    mixed false false false d = refl

named_by_two : (x y : Sent) (rules : List SwapRule)
    → (list_any (is_partner x (half_key (kind_of y) None)) rules
    || list_any (is_partner x (half_key (kind_of y) (Some (name_of y)))) rules)
    ≡ list_any (λ r. names_both r x y) rules
named_by_two x y rules =
    let any = half_key (kind_of y) None in
    let own = half_key (kind_of y) (Some (name_of y)) in
    either (is_partner x any) (is_partner x own) (λ r. names_both r x y) rules
    (λ r. crossed (fits_half r.one x) (fits_half r.another x) (is_half r.another any)
    (is_half r.one any) (is_half r.another own) (is_half r.one own)
    ∙ ap₂ (λ a b. (fits_half r.one x && a) || (fits_half r.another x && b))
    (named r.another y) (named r.one y)
    ∙ turned (fits_half r.one x) (fits_half r.another y) (fits_half r.another x)
    (fits_half r.one y))

pub named_by_first : (x y : Sent) (rules : List SwapRule)
    → list_any (is_partner x (half_key (kind_of y) None)) rules ≡ true
    → list_any (λ r. names_both r x y) rules ≡ true
named_by_first x y rules first =
    let own = half_key (kind_of y) (Some (name_of y)) in
    sym (named_by_two x y rules) ∙ ap (λ a. a || list_any (is_partner x own) rules) first

pub named_by_second : (x y : Sent) (rules : List SwapRule)
    → list_any (is_partner x (half_key (kind_of y) None)) rules ≡ false
    → list_any (is_partner x (half_key (kind_of y) (Some (name_of y)))) rules
    ≡ list_any (λ r. names_both r x y) rules
named_by_second x y rules none =
    let own = half_key (kind_of y) (Some (name_of y)) in
    sym (ap (λ a. a || list_any (is_partner x own) rules) none) ∙ named_by_two x y rules

pub has_key : (set : BTreeSet ReadKey) (rules : List SwapRule) (x : Sent) (k : ReadKey) (key : Key)
    (found : Bool) → found ≡ contains (on key_of key_cmp) set k → ArePartners rules x set
    → key_of k ≡ key → found ≡ list_any (is_partner x key) rules
has_key set rules x k key found e are is =
    e ∙ are k ∙ ap (λ z. list_any (is_partner x z) rules) is
