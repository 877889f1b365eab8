-- The test `free` decides `IsFree`.
use Rattle.std.proofs.Common.{◌≡◌, ℕ, ℤ, true, inl, inr, List, [], ◌∷◌}
use Rattle.std.proofs.Common.{suc, zero, length, ◌<◌}
use Rattle.std.proofs.Common.{Option, Some, None, refl, sym, ap, ◌∙◌, subst, arith, codes}
use Rattle.std.specs.Prelude.{Contains, slice_index_or}
use Rattle.std.specs.Bool.{Decides}
use Rattle.std.specs.List.{list_any}
use Rattle.std.specs.Option.{option_cmp}
use Rattle.std.specs.Cmp.Lexicographic.{slice_cmp}
use Rattle.std.specs.Ordering.{is_eq, ordering_then, nat_cmp, int_cmp}
use Rattle.std.proofs.lemmas.Bool.{and_parts, or_cases, or_left, or_right}
use Rattle.std.proofs.lemmas.Bool.Decides.{Decides-and, Decides-or, Decides-not, Decides-int_eq}
use Rattle.std.specs.Cmp.Lexicographic.{options_total}
use Rattle.std.proofs.lemmas.Cmp.{ranked, by_ranked, tied_itself, nat_cmp_total, int_cmp_total}
use Rattle.std.proofs.lemmas.Cmp.{nat_list_cmp_total}
use Rattle.dap_tree.specs.declared.side.Side.TheVariants.{Client, Adapter}
use Rattle.dap_profile.specs.declared.profile.Kind.{Kind}
use Rattle.dap_profile.specs.declared.profile.Kind.TheVariants.{Request, Response, Event}
use Rattle.dap_message.specs.Message.{Sent}
use Rattle.dap_session.specs.Messages.{side_of, kind_of, seq_of, other, is_response_to}
use Rattle.dap_session.specs.Positions.{IsResponseOf}
use Rattle.dap_session.proofs.Positions as word
use Rattle.dap_session.proofs.Sides.{other_other}
use Rattle.dap_message.specs.SwapRules.{Half, SwapRule}
use Rattle.dap_order.specs.Free.{Class, of_client, to_number, with_name, class_of}
use Rattle.dap_order.specs.Free.{kind_rank, class_rank, class_number, class_name, class_cmp}
use Rattle.dap_order.specs.Free.{same_class, fits_name, fits_half, names_both, depends, free}
use Rattle.dap_order.specs.Words.{FitsName, FitsHalf, NamesBoth, Depends, IsFree}
use Rattle.dap_order.proofs.ClassOrder.{class_total}
use Rattle.dap_order.proofs.RenamedOrder.{equal_then}

-- ---- classes

pub one_nat : (a b : ℕ) → is_eq (nat_cmp a b) ≡ true → a ≡ b
one_nat a b h =
    by_ranked _ _ _ (nat_cmp a b) (ranked a b (nat_cmp a b) refl) (λ o l. absurd (cc))
    (λ o e. e) (λ o l. absurd (cc))

pub one_list : (a b : List ℕ) → is_eq (slice_cmp nat_cmp a b) ≡ true → a ≡ b
one_list [] [] h = refl
one_list [] (y ∷ b) h = absurd (cc)
one_list (x ∷ a) [] h = absurd (cc)
one_list (x ∷ a) (y ∷ b) h =
    let w = and_parts (is_eq (nat_cmp x y)) (is_eq (slice_cmp nat_cmp a b))
    (sym (equal_then (nat_cmp x y) (slice_cmp nat_cmp a b)) ∙ h) in
    ap (λ z. z ∷ a) (one_nat x y w.0) ∙ ap (λ t. y ∷ t) (one_list a b w.1)

pub one_option : (a b : Option ℤ) → is_eq (option_cmp int_cmp a b) ≡ true → a ≡ b
one_option None None h = refl
one_option None (Some y) h = absurd (cc)
one_option (Some x) None h = absurd (cc)
one_option (Some x) (Some y) h = ap (λ z. Some z) ((Decides-int_eq x y).0 h)

pub nat_itself : (a : ℕ) → is_eq (nat_cmp a a) ≡ true
nat_itself a = ap is_eq (tied_itself nat_cmp_total a)

pub option_itself : (a : Option ℤ) → is_eq (option_cmp int_cmp a a) ≡ true
option_itself a = ap is_eq (tied_itself (options_total int_cmp_total) a)

pub list_itself : (a : List ℕ) → is_eq (slice_cmp nat_cmp a a) ≡ true
list_itself a = ap is_eq (tied_itself nat_list_cmp_total a)

one_kind : (k l : Kind) → kind_rank k ≡ kind_rank l → k ≡ l
one_kind Request Request h = refl
one_kind Request Response h = absurd (omega (arith, h))
one_kind Request Event h = absurd (omega (arith, h))
one_kind Response Request h = absurd (omega (arith, h))
one_kind Response Response h = refl
one_kind Response Event h = absurd (omega (arith, h))
one_kind Event Request h = absurd (omega (arith, h))
one_kind Event Response h = absurd (omega (arith, h))
one_kind Event Event h = refl

other_rank : (k : Kind) → (kind_rank k ≡ 4 → ⊥) × (kind_rank k ≡ 0 → ⊥)
other_rank Request = (λ h. omega (arith, h), λ h. omega (arith, h))
other_rank Response = (λ h. omega (arith, h), λ h. omega (arith, h))
other_rank Event = (λ h. omega (arith, h), λ h. omega (arith, h))

pub one_class : (a b : Class) → class_rank a ≡ class_rank b → class_number a ≡ class_number b
    → class_name a ≡ class_name b → a ≡ b
one_class of_client of_client r n m = refl
one_class of_client (to_number o) r n m = absurd (omega (arith, r))
one_class of_client (with_name k w) r n m = absurd ((other_rank k).0 (sym r))
one_class (to_number o) of_client r n m = absurd (omega (arith, r))
one_class (to_number o) (to_number p) r n m = ap to_number n
one_class (to_number o) (with_name k w) r n m = absurd ((other_rank k).1 (sym r))
one_class (with_name k w) of_client r n m = absurd ((other_rank k).0 r)
one_class (with_name k w) (to_number o) r n m = absurd ((other_rank k).1 r)
one_class (with_name k w) (with_name l v) r n m =
    ap (λ (j : Kind). with_name j w) (one_kind k l r) ∙ ap (λ (u : List ℕ). with_name l u) m

pub one_class-Decides : (a b : Class) → Decides (same_class a b) (a ≡ b)
one_class-Decides a b = (
  λ h.
      let w = and_parts (is_eq (nat_cmp (class_rank a) (class_rank b)))
      (is_eq (ordering_then (option_cmp int_cmp (class_number a) (class_number b))
      (slice_cmp nat_cmp (class_name a) (class_name b))))
      (sym (equal_then (nat_cmp (class_rank a) (class_rank b))
      (ordering_then (option_cmp int_cmp (class_number a) (class_number b))
      (slice_cmp nat_cmp (class_name a) (class_name b)))) ∙ h) in
      let v = and_parts (is_eq (option_cmp int_cmp (class_number a) (class_number b)))
      (is_eq (slice_cmp nat_cmp (class_name a) (class_name b)))
      (sym (equal_then (option_cmp int_cmp (class_number a) (class_number b))
      (slice_cmp nat_cmp (class_name a) (class_name b))) ∙ w.1) in
      one_class a b (one_nat (class_rank a) (class_rank b) w.0)
      (one_option (class_number a) (class_number b) v.0)
      (one_list (class_name a) (class_name b) v.1),
  λ e. ap (λ (c : Class). is_eq (class_cmp a c)) (sym e) ∙ ap is_eq (tied_itself class_total a),
)

-- ---- the rules

name_fits : (o : Option (List ℕ)) (m : Sent) → Decides (fits_name o m) (FitsName o m)
name_fits None m = (λ h. tt, λ h. refl)
name_fits (Some name) m = word.named name m

half_fits : (h : Half) (m : Sent) → Decides (fits_half h m) (FitsHalf h m)
half_fits h m =
    Decides-and _ _ (word.same_kind-Decides h.kind (kind_of m)) (name_fits h.name m)

both_named : (r : SwapRule) (x y : Sent) → Decides (names_both r x y) (NamesBoth r x y)
both_named r x y =
    Decides-or _ _ (Decides-and _ _ (half_fits r.one x) (half_fits r.another y))
    (Decides-and _ _ (half_fits r.one y) (half_fits r.another x))

-- ---- dependence

response_of : (x y : Sent)
    → Decides (is_response_to (side_of y) (seq_of y) x)
    (IsResponseOf (other (side_of y)) (seq_of y) x)
response_of x y =
    subst (λ s. Decides (is_response_to s (seq_of y) x)
    (IsResponseOf (other (side_of y)) (seq_of y) x))
    (other_other (side_of y)) (word.response_of (other (side_of y)) (seq_of y) x)

dependence : (x y : Sent) → Decides (depends x y) (Depends x y)
dependence x y =
    Decides-or _ _ (one_class-Decides (class_of x) (class_of y))
    (Decides-or _ _ (Decides-and _ _ (word.request y) (response_of x y))
    (Decides-or _ _
    (Decides-and _ _
    (Decides-or _ _ (word.client_initialize x)
    (Decides-and _ _ (Decides-and _ _ (word.from Adapter x) (word.response x))
    (word.named (codes "initialize") x)))
    (Decides-not _ (word.output y)))
    (Decides-or _ _ (Decides-and _ _ (word.initialized x) (word.configuration_done y))
    (Decides-and _ _ (word.farewell x) (Decides-and _ _ (word.from Client y) (word.request y))))))

-- ---- freeness

some_rule : (rules : List SwapRule) (x y : Sent) → list_any (λ r. names_both r x y) rules ≡ true
    → (r : SwapRule) × Contains rules r × NamesBoth r x y
some_rule [] x y h = absurd (cc)
some_rule (r ∷ rs) x y h =
    elim (or_cases (names_both r x y) (list_any (λ s. names_both s x y) rs) h) [
      | inl e ↦ (r, (0, omega arith, refl), (both_named r x y).0 e)
      | inr e ↦ let w = some_rule rs x y e in
          (w.0, (suc w.1.0, omega (arith, w.1.1), w.1.2), w.2)
    ]

rule_there : (rules : List SwapRule) (x y : Sent) (r : SwapRule) (k : ℕ) → k < length rules
    → slice_index_or rules k r ≡ r → names_both r x y ≡ true
    → list_any (λ s. names_both s x y) rules ≡ true
rule_there [] x y r k low at h = absurd (omega arith)
rule_there (s ∷ rs) x y r zero low at h =
    or_left (names_both s x y) _ (ap (λ (t : SwapRule). names_both t x y) at ∙ h)
rule_there (s ∷ rs) x y r (suc k) low at h =
    or_right (names_both s x y) _ (rule_there rs x y r k (omega arith) at h)

named : (rules : List SwapRule) (x y : Sent)
    → Decides (list_any (λ r. names_both r x y) rules)
    ((r : SwapRule) × Contains rules r × NamesBoth r x y)
named rules x y = (
  some_rule rules x y,
  λ w. rule_there rules x y w.0 w.1.0 w.1.1 w.1.2 ((both_named w.0 x y).1 w.2),
)

pub free_in_words : (rules : List SwapRule) (x y : Sent)
    → Decides (free rules x y) (IsFree rules x y)
unfolding free
free_in_words rules x y =
    Decides-and _ _ (named rules x y)
    (Decides-and _ _ (Decides-not _ (dependence x y)) (Decides-not _ (dependence y x)))
