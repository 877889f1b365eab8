-- Ordering commutes with a one-to-one renaming.
use Rattle.std.proofs.Common.{◌≡◌, ℕ, ℤ, Bool, true, false, cond, not, ◌&&◌, List, [], ◌∷◌, ◌++◌}
use Rattle.std.proofs.Common.{Option, Some, None, ◌⊎◌, inl, inr, sym, ap, ◌∙◌, refl, subst, map}
use Rattle.std.proofs.Common.{append_assoc}
use Rattle.std.specs.Prelude.{◌||◌}
use Rattle.std.specs.List.{All, AllZip, list_any, filter}
use Rattle.std.specs.Option.{option_cmp}
use Rattle.std.specs.Cmp.Lexicographic.{slice_cmp}
use Rattle.std.specs.declared.cmp.Ordering.{Ordering}
use Rattle.std.specs.declared.cmp.Ordering.TheVariants.{Less, Equal, Greater}
use Rattle.std.specs.Ordering.{is_eq, ordering_then, nat_cmp, int_cmp, int_eq}
use Rattle.std.proofs.lemmas.Bool.{and_parts, and_from, cases_Bool, cond-true, cond-false}
use Rattle.std.proofs.lemmas.Bool.{not-false, or_cases, or_left, or_right}
use Rattle.std.proofs.lemmas.List.Elements.{All-head, All-tail}
use Rattle.dap_tree.specs.declared.side.Side.{Side}
use Rattle.dap_tree.specs.declared.side.Side.TheVariants.{Client, Adapter}
use Rattle.dap_tree.specs.declared.sort.Sort.{Sort}
use Rattle.dap_tree.specs.declared.sort.Sort.TheVariants.{ClientSeq}
use Rattle.dap_profile.specs.declared.profile.Kind.{Kind}
use Rattle.dap_message.specs.Message.{Sent}
use Rattle.dap_session.specs.declared.rule.Rule.TheVariants.{NoRequest}
use Rattle.dap_session.specs.Messages.{side_of, kind_of, name_of, seq_of, request_seq_of, other}
use Rattle.dap_session.specs.Messages.{same_kind, is_request, is_response, is_from, is_request_of}
use Rattle.dap_session.specs.Messages.{is_client_initialize}
use Rattle.dap_session.specs.RenamedLists.{seq_sort, IsNumbered, DiffersInIds, DifferInIds}
use Rattle.dap_session.specs.RenamedLists.{IsOneToOne}
use Rattle.dap_session.specs.Rules.{first_broken, KeepsRules}
use Rattle.dap_session.proofs.Sides.{from_side, from_other}
use Rattle.dap_session.proofs.RuleTests.{response_output, after_and}
use Rattle.dap_session.proofs.RenamedMessages.{NumbersTied, Alike, alike}
use Rattle.dap_session.proofs.RenamingKeepsRules.{and_same, or_same, int_same, request_same}
use Rattle.dap_session.proofs.RenamingKeepsRules.{response_same, from_same, named_same}
use Rattle.dap_session.proofs.RenamingKeepsRules.{client_initialize_same, configuration_done_same}
use Rattle.dap_session.proofs.RenamingKeepsRules.{initialized_same, farewell_same, output_same}
use Rattle.dap_session.proofs.RenamingKeepsRules.{response_to_both}
use Rattle.dap_order.specs.Labels.{Labels, label_after}
use Rattle.dap_order.specs.Classes.{numbers}
use Rattle.dap_order.specs.Alike.{EachAfter}
use Rattle.dap_order.specs.AlikeAnswers.{HaveAlikeClasses, IsPlainOrAnswer}
use Rattle.dap_order.specs.Labels.{Labelled}
use Rattle.dap_order.proofs.AlikeAnswers.{order_of_answers_alike}
use Rattle.dap_message.specs.SwapRules.{SwapRule, Half}
use Rattle.dap_order.specs.Free.{Class, of_client, to_number, with_name, class_of}
use Rattle.dap_order.specs.Free.{class_rank, class_number, class_name, same_class}
use Rattle.dap_order.specs.Free.{less_class, fits_name, fits_half, names_both, of_one_class}
use Rattle.dap_order.specs.Free.{answers}
use Rattle.dap_order.specs.Free.{is_initialize_response, initializes, allows_configuration}
use Rattle.dap_order.specs.Free.{depends, free}
use Rattle.dap_order.specs.MessageOrder.{message_classes, message_answers, ordered}
use Rattle.dap_order.proofs.Independence.{client_class, answers_request}
use Rattle.dap_order.proofs.Histories.{fine_from, at_some}

-- ---- classes

pub equal_then : (o p : Ordering) → is_eq (ordering_then o p) ≡ (is_eq o && is_eq p)
equal_then Less p = refl
equal_then Equal p = refl
equal_then Greater p = refl

abbrev class_with : Bool → Bool → Option ℤ → Kind → List ℕ → Class
class_with b r o k name = cond b of_client (cond r (to_number o) (with_name k name))

-- ---- requests of responses

-- If a message of the list passes the test, a message that passes it has a label.
some_label : {L : Type 0} (s : Labels Sent L) (p : Sent → Bool) (ahead ms : List Sent)
    → list_any p ms ≡ true
    → map (λ y. y.label) (filter (λ y. p y.item) (label_after s ahead ms)) ≡ [] → ⊥
some_label s p ahead [] h e = absurd (cc)
some_label {L = L} s p ahead (m ∷ ms) h e =
    let own : Labelled Sent L = record { item = m; label = s.label_of ahead m } in
    let rest = filter (λ (y : Labelled Sent L). p y.item) (label_after s (ahead ++ m ∷ []) ms) in
    elim (cases_Bool (p m)) [
      | inl t ↦ (
          let w = sym (ap (map (λ (y : Labelled Sent L). y.label))
          (cond-true (p m) (own ∷ rest) rest t)) ∙ e in absurd (cc)
          )
      | inr n ↦ some_label s p (ahead ++ m ∷ []) ms (later (p m) (list_any p ms) n h)
          (sym (ap (map (λ (y : Labelled Sent L). y.label))
          (cond-false (p m) (own ∷ rest) rest n)) ∙ e)
    ]
  where
    later : (a b : Bool) → a ≡ false → (a || b) ≡ true → b ≡ true
    later true b n h = absurd (cc)
    later false b n h = h

any_more : (p q : Sent → Bool) → ((m : Sent) → p m ≡ true → q m ≡ true) → (ms : List Sent)
    → list_any p ms ≡ true → list_any q ms ≡ true
any_more p q each [] h = h
any_more p q each (m ∷ ms) h =
    elim (or_cases (p m) (list_any p ms) h) [
      | inl a ↦ or_left (q m) (list_any q ms) (each m a)
      | inr b ↦ or_right (q m) (list_any q ms) (any_more p q each ms b)
    ]

-- The message is not a response of the adapter.
abbrev pub IsPlain : Sent → Type 0
IsPlain m = (is_from Client m ≡ true) ⊎ (is_response m ≡ false)

request_of : (m q : Sent) (n : ℤ) → is_from Client m ≡ false → is_response m ≡ true
    → request_seq_of m ≡ Some n → is_request_of (other (side_of m)) n q ≡ true
    → is_from Client q && answers m q ≡ true
request_of m q n side r e h =
    let a = and_parts (is_request q && is_from (other (side_of m)) q) (int_eq n (seq_of q)) h in
    let b = and_parts (is_request q) (is_from (other (side_of m)) q) a.0 in
    let from : is_from (other Adapter) q ≡ true =
    subst (λ (s : Side). is_from (other s) q ≡ true)
    (sym (from_side Adapter m (from_other Client m side))) b.1 in
    and_from (is_from Client q) (answers m q) from (answers_request m q n r e h)

has_answer : (rules : List SwapRule) (before : List Sent) (m : Sent)
    → first_broken before m ≡ None → IsPlainOrAnswer (message_answers rules) IsPlain before m
has_answer rules before m none =
    elim (cases_Bool (is_from Client m)) [
      | inl client ↦ inl (inl client)
      | inr adapter ↦ elim (cases_Bool (is_response m)) [
        | inr plain ↦ inl (inr plain)
        | inl r ↦ (
            let found = not-false _
            (after_and (is_response m) _ r
            (fine_from before m none (response_output m r) NoRequest)) in
            let w = at_some (request_seq_of m)
            (λ n. list_any (λ q. is_request_of (other (side_of m)) n q) before) found in
            inr (some_label (numbers (message_classes rules))
            (λ q. is_from Client q && answers m q) [] before
            (any_more (λ q. is_request_of (other (side_of m)) w.0 q)
            (λ q. is_from Client q && answers m q)
            (λ q h. request_of m q w.0 adapter r w.1 h) before w.2))
            )
      ]
    ]

have_answers : (rules : List SwapRule) (before ms : List Sent) → KeepsRules (before ++ ms)
    → EachAfter (IsPlainOrAnswer (message_answers rules) IsPlain) before ms
have_answers rules before [] keeps = tt
have_answers rules before (m ∷ ms) keeps = (
  has_answer rules before m (keeps before ms m refl),
  have_answers rules (before ++ m ∷ []) ms
      (subst KeepsRules (sym (append_assoc before (m ∷ []) ms)) keeps),
)

module _ (R : Sort → ℤ → ℤ → Type 0) (one : IsOneToOne R) where
  abbrev AlikeClass : Class → Class → Type 0
  AlikeClass a c = (class_rank a ≡ class_rank c)
      × NumbersTied R ClientSeq (class_number a) (class_number c)
      × (class_name a ≡ class_name c)

  equal_numbers : (o p q r : Option ℤ) → NumbersTied R ClientSeq o q → NumbersTied R ClientSeq p r
      → is_eq (option_cmp int_cmp o p) ≡ is_eq (option_cmp int_cmp q r)
  equal_numbers None None None None h k = refl
  equal_numbers None (Some y) None (Some v) h k = refl
  equal_numbers (Some x) None (Some u) None h k = refl
  equal_numbers (Some x) (Some y) (Some u) (Some v) h k = int_same R one Client x y u v h k
  equal_numbers None p (Some u) r h k = absurd h
  equal_numbers (Some x) p None r h k = absurd h
  equal_numbers o None q (Some v) h k = absurd k
  equal_numbers o (Some y) q None h k = absurd k

  same_alike : (a b c d : Class) → AlikeClass a c → AlikeClass b d
      → same_class a b ≡ same_class c d
  same_alike a b c d h k =
      let rank : is_eq (nat_cmp (class_rank a) (class_rank b))
      ≡ is_eq (nat_cmp (class_rank c) (class_rank d)) =
      ap (λ r. is_eq (nat_cmp r (class_rank b))) h.0
      ∙ ap (λ r. is_eq (nat_cmp (class_rank c) r)) k.0 in
      let name : is_eq (slice_cmp nat_cmp (class_name a) (class_name b))
      ≡ is_eq (slice_cmp nat_cmp (class_name c) (class_name d)) =
      ap (λ (r : List ℕ). is_eq (slice_cmp nat_cmp r (class_name b))) h.2
      ∙ ap (λ (r : List ℕ). is_eq (slice_cmp nat_cmp (class_name c) r)) k.2 in
      let number = equal_numbers (class_number a) (class_number b) (class_number c)
      (class_number d) h.1 k.1 in
      equal_then (nat_cmp (class_rank a) (class_rank b))
      (ordering_then (option_cmp int_cmp (class_number a) (class_number b))
      (slice_cmp nat_cmp (class_name a) (class_name b)))
      ∙ and_same _ _ _ _ rank
      (equal_then (option_cmp int_cmp (class_number a) (class_number b))
      (slice_cmp nat_cmp (class_name a) (class_name b))
      ∙ and_same _ _ _ _ number name
      ∙ sym (equal_then (option_cmp int_cmp (class_number c) (class_number d))
      (slice_cmp nat_cmp (class_name c) (class_name d))))
      ∙ sym (equal_then (nat_cmp (class_rank c) (class_rank d))
      (ordering_then (option_cmp int_cmp (class_number c) (class_number d))
      (slice_cmp nat_cmp (class_name c) (class_name d))))

  with_alike : (b r : Bool) (o p : Option ℤ) (k : Kind) (name : List ℕ)
      → (b ≡ false → NumbersTied R ClientSeq o p)
      → AlikeClass (class_with b r o k name) (class_with b r p k name)
  with_alike true r o p k name h = (refl, tt, refl)
  with_alike false true o p k name h = (refl, h refl, refl)
  with_alike false false o p k name h = (refl, tt, refl)

  class_alike : (m n : Sent) → Alike R m n → AlikeClass (class_of m) (class_of n)
  class_alike m n t =
      let e : class_with (is_from Client m) (is_response m) (request_seq_of n) (kind_of m)
      (name_of m) ≡ class_of n =
      ap (λ b. class_with b (is_response m) (request_seq_of n) (kind_of m) (name_of m))
      (from_same R one Client m n t)
      ∙ ap (λ b. class_with (is_from Client n) b (request_seq_of n) (kind_of m) (name_of m))
      (response_same R one m n t)
      ∙ ap (λ (k : Kind). class_with (is_from Client n) (is_response n) (request_seq_of n) k
      (name_of m)) t.kind
      ∙ ap (λ (w : List ℕ). class_with (is_from Client n) (is_response n) (request_seq_of n)
      (kind_of n) w) t.name in
      subst (AlikeClass (class_of m)) e
      (with_alike (is_from Client m) (is_response m) (request_seq_of m) (request_seq_of n)
      (kind_of m) (name_of m)
      (λ h. subst (λ (s : Side). NumbersTied R (seq_sort (other s)) (request_seq_of m)
      (request_seq_of n)) (sym (from_side Adapter m (from_other Client m h))) t.request_seq))

  client_class_alike : (m n : Sent) → Alike R m n → is_from Client m ≡ true
      → class_of m ≡ class_of n
  client_class_alike m n t h =
      client_class m h ∙ sym (client_class n (sym (from_same R one Client m n t) ∙ h))

  named_class : (m : Sent) → is_response m ≡ false
      → class_of m ≡ cond (is_from Client m) of_client (with_name (kind_of m) (name_of m))
  named_class m h =
      ap (λ c. cond (is_from Client m) of_client c)
      (cond-false (is_response m) (to_number (request_seq_of m))
      (with_name (kind_of m) (name_of m)) h)

  plain_class_alike : (m n : Sent) → Alike R m n → IsPlain m → class_of m ≡ class_of n
  plain_class_alike m n t (inl h) = client_class_alike m n t h
  plain_class_alike m n t (inr h) =
      named_class m h
      ∙ ap (λ b. cond b of_client (with_name (kind_of m) (name_of m)))
      (from_same R one Client m n t)
      ∙ ap (λ (k : Kind). cond (is_from Client n) of_client (with_name k (name_of m))) t.kind
      ∙ ap (λ (w : List ℕ). cond (is_from Client n) of_client (with_name (kind_of n) w)) t.name
      ∙ sym (named_class n (sym (response_same R one m n t) ∙ h))

  -- ---- freeness

  fits_name_alike : (o : Option (List ℕ)) (m n : Sent) → Alike R m n
      → fits_name o m ≡ fits_name o n
  fits_name_alike None m n t = refl
  fits_name_alike (Some name) m n t = named_same R one name m n t

  fits_alike : (h : Half) (m n : Sent) → Alike R m n → fits_half h m ≡ fits_half h n
  fits_alike h m n t =
      and_same _ _ _ _ (ap (same_kind h.kind) t.kind) (fits_name_alike h.name m n t)

  names_alike : (rules : List SwapRule) (x y u v : Sent) → Alike R x u → Alike R y v
      → list_any (λ r. names_both r x y) rules ≡ list_any (λ r. names_both r u v) rules
  names_alike [] x y u v s t = refl
  names_alike (r ∷ rs) x y u v s t =
      or_same (names_both r x y) (names_both r u v) _ _
      (or_same (fits_half r.one x && fits_half r.another y)
      (fits_half r.one u && fits_half r.another v) _ _
      (and_same _ _ _ _ (fits_alike r.one x u s) (fits_alike r.another y v t))
      (and_same _ _ _ _ (fits_alike r.one y v t) (fits_alike r.another x u s)))
      (names_alike rs x y u v s t)

  initialize_response_alike : (m n : Sent) → Alike R m n
      → is_initialize_response m ≡ is_initialize_response n
  initialize_response_alike m n t =
      and_same _ _ _ _
      (and_same _ _ _ _ (from_same R one Adapter m n t) (response_same R one m n t))
      (named_same R one _ m n t)

  depends_alike : (x y u v : Sent) → Alike R x u → Alike R y v → depends x y ≡ depends u v
  depends_alike x y u v s t =
      or_same (of_one_class x y) (of_one_class u v) _ _
      (same_alike (class_of x) (class_of y) (class_of u) (class_of v) (class_alike x u s)
      (class_alike y v t))
      (or_same (answers x y) (answers u v) _ _
      (and_same _ _ _ _ (request_same R one y v t)
      (response_to_both R one (side_of y) (side_of v) (seq_of y) (seq_of v) x u t.side t.seq s))
      (or_same (initializes x y) (initializes u v) _ _
      (and_same _ _ _ _
      (or_same (is_client_initialize x) (is_client_initialize u) _ _
      (client_initialize_same R one x u s) (initialize_response_alike x u s))
      (ap not (output_same R one y v t)))
      (or_same (allows_configuration x y) (allows_configuration u v) _ _
      (and_same _ _ _ _ (initialized_same R one x u s) (configuration_done_same R one y v t))
      (and_same _ _ _ _ (farewell_same R one x u s)
      (and_same _ _ _ _ (from_same R one Client y v t) (request_same R one y v t))))))

  pub free_alike : (rules : List SwapRule) (x y u v : Sent) → Alike R x u → Alike R y v
      → free rules x y ≡ free rules u v
  unfolding free
  free_alike rules x y u v s t =
      and_same _ _ _ _ (names_alike rules x y u v s t)
      (and_same _ _ _ _ (ap not (depends_alike x y u v s t)) (ap not (depends_alike y x v u t s)))

  -- ---- the order

  -- n is the message m, renamed.
  abbrev pub Renamed : Sent → Sent → Type 0
  Renamed m n = IsNumbered m × DiffersInIds R m n

  pub known : (m n : Sent) → Renamed m n → Alike R m n
  known m n h = alike R m n h.0 h.1

  have : (rules : List SwapRule)
      → HaveAlikeClasses (message_answers rules) (message_answers rules) Renamed AlikeClass
      (λ a c. a ≡ c) IsPlain
  have rules = record {
    same_free = λ x y u v s t. free_alike rules x y u v (known x u s) (known y v t);
    same_answered_by = λ x y u v s t.
        and_same _ _ _ _ (from_same R one Client x u (known x u s))
        (and_same _ _ _ _ (request_same R one x u (known x u s))
        (response_to_both R one (side_of x) (side_of u) (seq_of x) (seq_of u) y v
        (known x u s).side (known x u s).seq (known y v t)));
    class = λ x u s. class_alike x u (known x u s);
    same_same = same_alike;
    same_less = λ a b c d e f.
        ap (λ (k : Class). less_class k b) e ∙ ap (λ (k : Class). less_class c k) f;
    answered_in_order = λ x y u s h.
        client_class_alike x u (known x u s) (and_parts (is_from Client x) (answers y x) h).0;
    plain_in_order = λ x u s h. plain_class_alike x u (known x u s) h;
  }

  pub all_renamed : (ms ns : List Sent) → All IsNumbered ms → DifferInIds R ms ns
      → AllZip Renamed ms ns
  all_renamed [] [] is h = tt
  all_renamed [] (n ∷ ns) is h = absurd h
  all_renamed (m ∷ ms) [] is h = absurd h
  all_renamed (m ∷ ms) (n ∷ ns) is h =
      ((All-head IsNumbered m ms is, h.0), all_renamed ms ns (All-tail IsNumbered m ms is) h.1)

  pub all_differ : (ms ns : List Sent) → AllZip Renamed ms ns → DifferInIds R ms ns
  all_differ [] [] h = tt
  all_differ [] (n ∷ ns) h = absurd h
  all_differ (m ∷ ms) [] h = absurd h
  all_differ (m ∷ ms) (n ∷ ns) h = (h.0.1, all_differ ms ns h.1)

  pub ordered_renamed : (rules : List SwapRule) (ms ns : List Sent) → All IsNumbered ms
      → KeepsRules ms → DifferInIds R ms ns → DifferInIds R (ordered rules ms) (ordered rules ns)
  unfolding ordered
  ordered_renamed rules ms ns is keeps h =
      all_differ (ordered rules ms) (ordered rules ns)
      (order_of_answers_alike (message_answers rules) (message_answers rules) Renamed AlikeClass
      (λ a c. a ≡ c) IsPlain (have rules) ms ns (all_renamed ms ns is h)
      (have_answers rules [] ms keeps))
