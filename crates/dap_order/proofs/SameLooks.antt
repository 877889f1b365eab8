-- Messages with the same look may be swapped with the same other messages.
use Rattle.std.proofs.Common.{◌≡◌, ℕ, Bool, true, false, cond, not, ◌&&◌, inl, inr}
use Rattle.std.proofs.Common.{List, [], ◌∷◌, Option, Some, None, refl, sym, ap, ◌∙◌, arith}
use Rattle.std.specs.Prelude.{◌||◌}
use Rattle.std.specs.List.{list_any}
use Rattle.std.specs.Str.{bytes_eq}
use Rattle.std.proofs.lemmas.Bool.{cases_Bool, or_parts, and_right, cond-true}
use Rattle.dap_profile.specs.declared.profile.Kind.{Kind}
use Rattle.dap_profile.specs.declared.profile.Kind.TheVariants.{Request, Response, Event}
use Rattle.dap_message.specs.Message.{Sent}
use Rattle.dap_session.specs.Messages.{kind_of, name_of, same_kind, is_output, is_initialized}
use Rattle.dap_session.specs.Messages.{is_configuration_done, is_disconnect_success}
use Rattle.dap_message.specs.SwapRules.{Half, SwapRule}
use Rattle.dap_order.specs.Free.{fits_name, fits_half, names_both, begins, is_client_request}
use Rattle.dap_order.specs.Free.{is_fixed, may_swap, of_one_class, answers, depends, free}
use Rattle.dap_order.specs.Keys.{Key, has_name, is_mentioned, with_bit, kind_code}
use Rattle.dap_order.specs.Keys.{session_code, look_key}
use Rattle.dap_order.specs.Waits.{are_tied}
use Rattle.dap_order.proofs.Conversations.{one_class_back}

-- ---- numbers whose digits are tests

digit : (c d : ℕ) (a b : Bool) → with_bit c a ≡ with_bit d b → (c ≡ d) × (a ≡ b)
digit c d true true e = (omega (arith, e), refl)
digit c d true false e = absurd (omega (arith, e))
digit c d false true e = absurd (omega (arith, e))
digit c d false false e = (omega (arith, e), refl)

one_kind : (k l : Kind) → kind_code k ≡ kind_code l → k ≡ l
one_kind Request Request h = refl
one_kind Request Response h = absurd (omega (arith, h))
one_kind Request Event h = absurd (omega (arith, h))
one_kind Response Request h = absurd (omega (arith, h))
one_kind Response Response h = refl
one_kind Response Event h = absurd (omega (arith, h))
one_kind Event Request h = absurd (omega (arith, h))
one_kind Event Response h = absurd (omega (arith, h))
one_kind Event Event h = refl

-- The session rules see no difference between the two messages.
record AreAlike (x y : Sent) : Type 0 where
  kind : kind_of x ≡ kind_of y
  begin : begins x ≡ begins y
  output : is_output x ≡ is_output y
  initialized : is_initialized x ≡ is_initialized y
  configured : is_configuration_done x ≡ is_configuration_done y
  farewell : is_disconnect_success x ≡ is_disconnect_success y
  request : is_client_request x ≡ is_client_request y

alike : (x y : Sent) → session_code x ≡ session_code y → AreAlike x y
alike x y e =
    let f = digit _ _ (is_client_request x) (is_client_request y) e in
    let g = digit _ _ (is_disconnect_success x) (is_disconnect_success y) f.0 in
    let h = digit _ _ (is_configuration_done x) (is_configuration_done y) g.0 in
    let i = digit _ _ (is_initialized x) (is_initialized y) h.0 in
    let j = digit _ _ (is_output x) (is_output y) i.0 in
    let k = digit _ _ (begins x) (begins y) j.0 in
    record {
      kind = one_kind (kind_of x) (kind_of y) k.0;
      begin = k.1;
      output = j.1;
      initialized = i.1;
      configured = h.1;
      farewell = g.1;
      request = f.1;
    }

-- ---- the session rules

abbrev fixed_by : Bool → Bool → Bool → Bool → Bool → Bool → Bool
fixed_by b o i c f q = (b && not o) || ((i && c) || (f && q))

fixed_alike : (x x' y y' : Sent) → AreAlike x x' → AreAlike y y'
    → is_fixed x y ≡ is_fixed x' y'
fixed_alike x x' y y' h g =
    ap (λ b. fixed_by b (is_output y) (is_initialized x) (is_configuration_done y)
    (is_disconnect_success x)
    (is_client_request y)) h.begin
    ∙ ap (λ b. fixed_by (begins x') b (is_initialized x) (is_configuration_done y)
    (is_disconnect_success x)
    (is_client_request y)) g.output
    ∙ ap (λ b. fixed_by (begins x') (is_output y') b (is_configuration_done y)
    (is_disconnect_success x)
    (is_client_request y)) h.initialized
    ∙ ap (λ b. fixed_by (begins x') (is_output y') (is_initialized x') b (is_disconnect_success x)
    (is_client_request y)) g.configured
    ∙ ap (λ b. fixed_by (begins x') (is_output y') (is_initialized x') (is_configuration_done y') b
    (is_client_request y)) h.farewell
    ∙ ap (fixed_by (begins x') (is_output y') (is_initialized x') (is_configuration_done y')
    (is_disconnect_success x')) g.request

-- ---- the user's rules

-- Each name in the rules is that of both messages, or of neither.
abbrev HaveNamesAlike : List SwapRule → Sent → Sent → Type 0
HaveNamesAlike [] x y = Unit {0}
HaveNamesAlike (r ∷ rs) x y =
    (has_name r.one.name x ≡ has_name r.one.name y)
    × (has_name r.another.name x ≡ has_name r.another.name y) × HaveNamesAlike rs x y

one_name : (o : Option (List ℕ)) (x y : Sent) → name_of x ≡ name_of y → has_name o x ≡ has_name o y
one_name None x y e = refl
one_name (Some name) x y e = ap (λ n. bytes_eq n name) e

names_from_name : (rules : List SwapRule) (x y : Sent) → name_of x ≡ name_of y
    → HaveNamesAlike rules x y
names_from_name [] x y e = tt
names_from_name (r ∷ rs) x y e =
    (one_name r.one.name x y e, one_name r.another.name x y e, names_from_name rs x y e)

names_from_none : (rules : List SwapRule) (x y : Sent) → is_mentioned rules x ≡ false
    → is_mentioned rules y ≡ false → HaveNamesAlike rules x y
names_from_none [] x y h g = tt
names_from_none (r ∷ rs) x y h g =
    let a = or_parts (has_name r.one.name x || has_name r.another.name x) (is_mentioned rs x) h in
    let b = or_parts (has_name r.one.name y || has_name r.another.name y) (is_mentioned rs y) g in
    let c = or_parts (has_name r.one.name x) (has_name r.another.name x) a.0 in
    let d = or_parts (has_name r.one.name y) (has_name r.another.name y) b.0 in
    (c.0 ∙ sym d.0, c.1 ∙ sym d.1, names_from_none rs x y a.1 b.1)

names_alike : (rules : List SwapRule) (x y : Sent) → is_mentioned rules x ≡ is_mentioned rules y
    → cond (is_mentioned rules x) (name_of x) [] ≡ cond (is_mentioned rules y) (name_of y) []
    → HaveNamesAlike rules x y
names_alike rules x y e f = elim (cases_Bool (is_mentioned rules x)) [
  | inl t ↦ names_from_name rules x y (sym (cond-true (is_mentioned rules x) (name_of x) [] t) ∙ f
      ∙ cond-true (is_mentioned rules y) (name_of y) [] (sym e ∙ t))
  | inr n ↦ names_from_none rules x y n (sym e ∙ n)
]

fits_alike : (h : Half) (x y : Sent) → kind_of x ≡ kind_of y
    → has_name h.name x ≡ has_name h.name y → fits_half h x ≡ fits_half h y
fits_alike h x y e f =
    ap (λ k. same_kind h.kind k && fits_name h.name x) e
    ∙ ap (λ b. same_kind h.kind (kind_of y) && b) (name_fits h.name f)
  where
    name_fits : (o : Option (List ℕ)) → has_name o x ≡ has_name o y → fits_name o x ≡ fits_name o y
    name_fits None g = refl
    name_fits (Some name) g = g

abbrev named_by : Bool → Bool → Bool → Bool → Bool
named_by a b c d = (a && b) || (c && d)

both_alike : (r : SwapRule) (x x' y y' : Sent) → fits_half r.one x ≡ fits_half r.one x'
    → fits_half r.another y ≡ fits_half r.another y' → fits_half r.one y ≡ fits_half r.one y'
    → fits_half r.another x ≡ fits_half r.another x' → names_both r x y ≡ names_both r x' y'
both_alike r x x' y y' e f g h =
    ap (λ b. named_by b (fits_half r.another y) (fits_half r.one y) (fits_half r.another x)) e
    ∙ ap (λ b. named_by (fits_half r.one x') b (fits_half r.one y) (fits_half r.another x)) f
    ∙ ap (λ b. named_by (fits_half r.one x') (fits_half r.another y') b (fits_half r.another x)) g
    ∙ ap (named_by (fits_half r.one x') (fits_half r.another y') (fits_half r.one y')) h

any_alike : (rules : List SwapRule) (x x' y y' : Sent) → kind_of x ≡ kind_of x'
    → kind_of y ≡ kind_of y' → HaveNamesAlike rules x x' → HaveNamesAlike rules y y'
    → list_any (λ r. names_both r x y) rules ≡ list_any (λ r. names_both r x' y') rules
any_alike [] x x' y y' e f h g = refl
any_alike (r ∷ rs) x x' y y' e f h g =
    ap (λ b. b || list_any (λ s. names_both s x y) rs)
    (both_alike r x x' y y' (fits_alike r.one x x' e h.0) (fits_alike r.another y y' f g.1)
    (fits_alike r.one y y' f g.0) (fits_alike r.another x x' e h.1))
    ∙ ap (λ b. names_both r x' y' || b) (any_alike rs x x' y y' e f h.2 g.2)

-- ---- looks

-- Two messages may be swapped if and only if two messages with their looks may.
pub swap_alike : (rules : List SwapRule) (x x' y y' : Sent) → look_key rules x ≡ look_key rules x'
    → look_key rules y ≡ look_key rules y' → may_swap rules x y ≡ may_swap rules x' y'
swap_alike rules x x' y y' e f =
    let d = digit _ _ (is_mentioned rules x) (is_mentioned rules x') (ap (λ (k : Key). k.code) e) in
    let g = digit _ _ (is_mentioned rules y) (is_mentioned rules y') (ap (λ (k : Key). k.code) f) in
    let a = alike x x' d.0 in
    let b = alike y y' g.0 in
    ap (λ n. n && (not (is_fixed x y) && not (is_fixed y x)))
    (any_alike rules x x' y y' a.kind b.kind
    (names_alike rules x x' d.1 (ap (λ (k : Key). k.name) e))
    (names_alike rules y y' g.1 (ap (λ (k : Key). k.name) f)))
    ∙ ap (λ n. list_any (λ r. names_both r x' y') rules && (not n && not (is_fixed y x)))
    (fixed_alike x x' y y' a b)
    ∙ ap (λ n. list_any (λ r. names_both r x' y') rules && (not (is_fixed x' y') && not n))
    (fixed_alike y y' x x' b a)

-- ---- free messages

parts : (n c a b f g : Bool)
    → n && (not (c || (a || f)) && not (c || (b || g)))
    ≡ (n && (not f && not g)) && not (c || (a || b))
parts false c a b f g = refl
parts true true a b f g = sym (and_right (not f && not g) false refl)
parts true false true b f g = sym (and_right (not f && not g) false refl)
parts true false false true f g =
    and_right (not f) false refl ∙ sym (and_right (not f && not g) false refl)
parts true false false false true g = refl
parts true false false false false true = refl
parts true false false false false false = refl

class_both_ways : (x y : Sent) → of_one_class y x ≡ of_one_class x y
class_both_ways x y = elim (cases_Bool (of_one_class x y)) [
  | inl t ↦ one_class_back x y t ∙ sym t
  | inr f ↦ elim (cases_Bool (of_one_class y x)) [
    | inl t ↦ absurd (let h = one_class_back y x t in cc)
    | inr g ↦ g ∙ sym f
  ]
]

-- Messages are free if and only if their looks allow a swap and they are not tied.
pub free_parts : (rules : List SwapRule) (x y : Sent)
    → free rules x y ≡ may_swap rules x y && not (are_tied x y)
unfolding free
free_parts rules x y =
    ap (λ c. list_any (λ r. names_both r x y) rules
    && (not (depends x y) && not (c || (answers y x || is_fixed y x)))) (class_both_ways x y)
    ∙ parts (list_any (λ r. names_both r x y) rules) (of_one_class x y) (answers x y) (answers y x)
    (is_fixed x y) (is_fixed y x)
