-- Lists of messages with the same history, to the extent that the rules depend on it.
use Rattle.std.proofs.Common.{◌≡◌, ℤ, Bool, true, false, cond, not, ◌&&◌, List, [], ◌∷◌, ◌++◌}
use Rattle.std.proofs.Common.{Option, Some, None, inl, inr, sym, ap, ◌∙◌, refl, subst}
use Rattle.std.specs.Prelude.{◌||◌, ◌⊎◌}
use Rattle.std.specs.Str.{bytes_eq}
use Rattle.std.specs.List.{list_any}
use Rattle.std.proofs.lemmas.Bool.{and_from, and_parts, not-true, or_cases, or_left, or_right}
use Rattle.std.proofs.lemmas.Bool.{not_from_false, cases_Bool, both_ways}
use Rattle.std.proofs.lemmas.Bool.{false_from_ne_true}
use Rattle.std.proofs.lemmas.List.Folds.{list_any-append}
use Rattle.dap_tree.specs.declared.side.Side.TheVariants.{Client, Adapter}
use Rattle.dap_message.specs.Message.{Sent}
use Rattle.dap_session.specs.declared.rule.Rule.{Rule}
use Rattle.dap_session.specs.declared.rule.Rule.TheVariants.{EventFromClient, NotInitialized}
use Rattle.dap_session.specs.declared.rule.Rule.TheVariants.{StillInitializing, InitializeTwice}
use Rattle.dap_session.specs.declared.rule.Rule.TheVariants.{AfterDisconnect, SeqUsed}
use Rattle.dap_session.specs.declared.rule.Rule.TheVariants.{ConfiguredEarly, ConfiguredTwice}
use Rattle.dap_session.specs.declared.rule.Rule.TheVariants.{NoRequest, AnsweredTwice, OtherCommand}
use Rattle.dap_session.specs.Messages.{side_of, name_of, seq_of, request_seq_of, other, is_request}
use Rattle.dap_session.specs.Messages.{is_response, is_from, is_request_of, is_response_to}
use Rattle.dap_session.specs.Messages.{is_initialize, is_client_initialize, is_configuration_done}
use Rattle.dap_session.specs.Messages.{is_initialized, is_disconnect_success, is_output}
use Rattle.dap_session.specs.Rules.{at_number, is_answered, is_initializing, is_broken, rules}
use Rattle.dap_session.specs.Rules.{first_of, first_broken}
use Rattle.dap_session.proofs.RuleTests.{none_each}
use Rattle.dap_order.proofs.Independence.{Apart, turned, no_answer_next_to}

-- ---- tests of messages in a list

or_three : (a b c : Bool) → (a || (b || c)) ≡ (b || (a || c))
or_three true true c = refl
or_three true false c = refl
or_three false true c = refl
or_three false false c = refl

pub any_swapped : (p : Sent → Bool) (front back : List Sent) (x y : Sent)
    → list_any p (front ++ x ∷ y ∷ back) ≡ list_any p (front ++ y ∷ x ∷ back)
any_swapped p [] back x y = or_three (p x) (p y) (list_any p back)
any_swapped p (f ∷ front) back x y = ap (λ b. p f || b) (any_swapped p front back x y)

pub any_before : (p : Sent → Bool) (front : List Sent) (x : Sent) → list_any p front ≡ true
    → list_any p (front ++ x ∷ []) ≡ true
any_before p front x h =
    list_any-append p front (x ∷ []) ∙ or_left (list_any p front) (list_any p (x ∷ [])) h

pub any_last : (p : Sent → Bool) (front : List Sent) (x : Sent) → p x ≡ true
    → list_any p (front ++ x ∷ []) ≡ true
any_last p front x h =
    list_any-append p front (x ∷ [])
    ∙ or_right (list_any p front) (list_any p (x ∷ [])) (or_left (p x) false h)

last_alone : (b : Bool) → (b || false) ≡ true → b ≡ true
last_alone true h = refl
last_alone false h = h

pub any_cases : (p : Sent → Bool) (front : List Sent) (x : Sent)
    → list_any p (front ++ x ∷ []) ≡ true → (list_any p front ≡ true) ⊎ (p x ≡ true)
any_cases p front x h =
    elim (or_cases (list_any p front) (list_any p (x ∷ []))
    (sym (list_any-append p front (x ∷ [])) ∙ h)) [
      | inl a ↦ inl a
      | inr b ↦ inr (last_alone (p x) b)
    ]

-- ---- a number

pub at_some : (o : Option ℤ) (p : ℤ → Bool) → at_number o p ≡ true
    → (n : ℤ) × (o ≡ Some n) × (p n ≡ true)
at_some None p h = absurd (cc)
at_some (Some n) p h = (n, refl, h)

pub at_from : (o : Option ℤ) (p : ℤ → Bool) (n : ℤ) → o ≡ Some n → p n ≡ true
    → at_number o p ≡ true
at_from o p n e h = ap (λ (k : Option ℤ). at_number k p) e ∙ h

pub at_more : (o : Option ℤ) (p q : ℤ → Bool) → ((n : ℤ) → p n ≡ true → q n ≡ true)
    → at_number o p ≡ true → at_number o q ≡ true
at_more None p q each h = h
at_more (Some n) p q each h = each n h

same_at : (o : Option ℤ) (p q : ℤ → Bool) → ((n : ℤ) → p n ≡ q n)
    → at_number o p ≡ at_number o q
same_at None p q each = refl
same_at (Some n) p q each = each n

-- ---- the unanswered `initialize` request

guarded : (a b c : Bool) → (a ≡ true → b ≡ false) → a && not (b || c) ≡ a && not c
guarded true b c h = ap (λ t. not (t || c)) (h refl)
guarded false b c h = refl

pub initializing_swapped : (front back : List Sent) (x y : Sent) → Apart x y
    → is_initializing (front ++ x ∷ y ∷ back) ≡ is_initializing (front ++ y ∷ x ∷ back)
initializing_swapped [] back x y a =
    ap (λ b. b || ((is_client_initialize y && not (is_answered Client (seq_of y) back))
    || is_initializing back))
    (guarded (is_client_initialize x) (is_response_to Client (seq_of x) y)
    (is_answered Client (seq_of x) back) (λ h. no_answer_next_to x y (seq_of x) a h))
    ∙ or_three (is_client_initialize x && not (is_answered Client (seq_of x) back))
    (is_client_initialize y && not (is_answered Client (seq_of y) back)) (is_initializing back)
    ∙ ap (λ b. b || ((is_client_initialize x && not (is_answered Client (seq_of x) back))
    || is_initializing back))
    (sym (guarded (is_client_initialize y) (is_response_to Client (seq_of y) x)
    (is_answered Client (seq_of y) back)
    (λ h. no_answer_next_to y x (seq_of y) (turned x y a) h)))
initializing_swapped (f ∷ front) back x y a =
    ap (λ b. (is_client_initialize f && not b) || is_initializing (front ++ x ∷ y ∷ back))
    (any_swapped (λ r. is_response_to Client (seq_of f) r) front back x y)
    ∙ ap (λ b. (is_client_initialize f
    && not (is_answered Client (seq_of f) (front ++ y ∷ x ∷ back))) || b)
    (initializing_swapped front back x y a)

-- x answers an `initialize` request of the client in the list.
pub record Ends (front : List Sent) (x : Sent) : Type 0 where
  pub asked : Sent
  pub initialize : is_client_initialize asked ≡ true
  pub outcome : is_response_to Client (seq_of asked) x ≡ true
  pub there : (p : Sent → Bool) → p asked ≡ true → list_any p front ≡ true

pub initializing_kept : (front : List Sent) (x : Sent) → is_initializing front ≡ true
    → (is_initializing (front ++ x ∷ []) ≡ true) ⊎ Ends front x
initializing_kept [] x h = absurd (cc)
initializing_kept (f ∷ front) x h =
    elim (or_cases (is_client_initialize f && not (is_answered Client (seq_of f) front))
    (is_initializing front) h) [
      | inl e ↦ (
          let w = and_parts (is_client_initialize f)
          (not (is_answered Client (seq_of f) front)) e in
          elim (cases_Bool (is_response_to Client (seq_of f) x)) [
            | inl r ↦ inr (record {
              asked = f;
              initialize = w.0;
              outcome = r;
              there = λ p g. or_left (p f) (list_any p front) g;
            })
            | inr n ↦ inl (or_left
                (is_client_initialize f && not (is_answered Client (seq_of f) (front ++ x ∷ [])))
                (is_initializing (front ++ x ∷ []))
                (and_from (is_client_initialize f)
                (not (is_answered Client (seq_of f) (front ++ x ∷ []))) w.0
                (not_from_false (is_answered Client (seq_of f) (front ++ x ∷ []))
                (false_from_ne_true _ (λ t.
                elim (any_cases (λ r. is_response_to Client (seq_of f) r) front x t) [
                  | inl a ↦ both_ways _ (not-true _ w.1) a
                  | inr b ↦ both_ways _ n b
                ])))))
          ]
          )
      | inr e ↦ elim (initializing_kept front x e) [
        | inl k ↦ inl (or_right
            (is_client_initialize f && not (is_answered Client (seq_of f) (front ++ x ∷ [])))
            (is_initializing (front ++ x ∷ [])) k)
        | inr k ↦ inr (record {
          asked = k.asked;
          initialize = k.initialize;
          outcome = k.outcome;
          there = λ p g. or_right (p f) (list_any p front) (k.there p g);
        })
      ]
    ]

first_asked : (b : Bool) → ((b && not false) || false) ≡ true → b ≡ true
first_asked true h = refl
first_asked false h = absurd (cc)

pub initializing_new : (front : List Sent) (y : Sent) → is_initializing (front ++ y ∷ []) ≡ true
    → (is_initializing front ≡ true) ⊎ (is_client_initialize y ≡ true)
initializing_new [] y h = inr (first_asked (is_client_initialize y) h)
initializing_new (f ∷ front) y h =
    elim (or_cases
    (is_client_initialize f && not (is_answered Client (seq_of f) (front ++ y ∷ [])))
    (is_initializing (front ++ y ∷ [])) h) [
      | inl e ↦ (
          let w = and_parts (is_client_initialize f)
          (not (is_answered Client (seq_of f) (front ++ y ∷ []))) e in
          inl (or_left (is_client_initialize f && not (is_answered Client (seq_of f) front))
          (is_initializing front)
          (and_from (is_client_initialize f) (not (is_answered Client (seq_of f) front)) w.0
          (not_from_false (is_answered Client (seq_of f) front)
          (false_from_ne_true _ (λ t. both_ways _ (not-true _ w.1)
          (any_before (λ r. is_response_to Client (seq_of f) r) front y t))))))
          )
      | inr e ↦ elim (initializing_new front y e) [
        | inl k ↦ inl (or_right
            (is_client_initialize f && not (is_answered Client (seq_of f) front))
            (is_initializing front) k)
        | inr k ↦ inr k
      ]
    ]

-- ---- histories

-- The rules cannot distinguish the two lists.
pub record SameHistory (ms ns : List Sent) : Type 0 where
  pub any : (p : Sent → Bool) → list_any p ms ≡ list_any p ns
  pub initializing : is_initializing ms ≡ is_initializing ns

pub swapped_history : (front back : List Sent) (x y : Sent) → Apart x y
    → SameHistory (front ++ x ∷ y ∷ back) (front ++ y ∷ x ∷ back)
swapped_history front back x y a = record {
  any = λ p. any_swapped p front back x y;
  initializing = initializing_swapped front back x y a;
}

pub same_broken : (r : Rule) (ms ns : List Sent) (m : Sent) → SameHistory ms ns
    → is_broken r ms m ≡ is_broken r ns m
same_broken EventFromClient ms ns m s = refl
same_broken NotInitialized ms ns m s =
    ap (λ b. not (is_client_initialize m) && not b) (s.any is_client_initialize)
same_broken StillInitializing ms ns m s =
    ap (λ b. b && not (is_from Adapter m && is_response m)) s.initializing
same_broken InitializeTwice ms ns m s =
    ap (λ b. is_initialize m && b) (s.any is_client_initialize)
same_broken AfterDisconnect ms ns m s =
    ap (λ b. is_from Client m && is_request m && b) (s.any is_disconnect_success)
same_broken SeqUsed ms ns m s =
    ap (λ b. is_request m && b) (s.any (λ q. is_request_of (side_of m) (seq_of m) q))
same_broken ConfiguredEarly ms ns m s =
    ap (λ b. is_configuration_done m && not b) (s.any is_initialized)
same_broken ConfiguredTwice ms ns m s =
    ap (λ b. is_configuration_done m && b) (s.any is_configuration_done)
same_broken NoRequest ms ns m s =
    ap (λ b. is_response m && not b)
    (same_at (request_seq_of m)
    (λ n. list_any (λ q. is_request_of (other (side_of m)) n q) ms)
    (λ n. list_any (λ q. is_request_of (other (side_of m)) n q) ns)
    (λ n. s.any (λ q. is_request_of (other (side_of m)) n q)))
same_broken AnsweredTwice ms ns m s =
    ap (λ b. is_response m && b)
    (same_at (request_seq_of m) (λ n. is_answered (other (side_of m)) n ms)
    (λ n. is_answered (other (side_of m)) n ns)
    (λ n. s.any (λ r. is_response_to (other (side_of m)) n r)))
same_broken OtherCommand ms ns m s =
    ap (λ b. is_response m && b)
    (same_at (request_seq_of m)
    (λ n. list_any (λ q. is_request_of (other (side_of m)) n q
    && not (bytes_eq (name_of q) (name_of m))) ms)
    (λ n. list_any (λ q. is_request_of (other (side_of m)) n q
    && not (bytes_eq (name_of q) (name_of m))) ns)
    (λ n. s.any (λ q. is_request_of (other (side_of m)) n q
    && not (bytes_eq (name_of q) (name_of m)))))

-- ---- no rule is violated

-- The message violates no rule after these messages, unless it is an `output` event.
abbrev pub Fine : List Sent → Sent → Type 0
Fine ms m = is_output m ≡ false → (r : Rule) → is_broken r ms m ≡ false

pub fine_from : (ms : List Sent) (m : Sent) → first_broken ms m ≡ None → Fine ms m
unfolding first_broken
fine_from ms m h quiet =
    none_each (λ r. is_broken r ms m)
    (subst (λ b. cond b None (first_of (λ r. is_broken r ms m) rules) ≡ None) quiet h)

first_none : (test : Rule → Bool) (rs : List Rule) → ((r : Rule) → test r ≡ false)
    → first_of test rs ≡ None
first_none test [] each = refl
first_none test (r ∷ rs) each =
    ap (λ b. cond b (Some r) (first_of test rs)) (each r) ∙ first_none test rs each

none_with : (ms : List Sent) (m : Sent) (b : Bool) → is_output m ≡ b → Fine ms m
    → cond b None (first_of (λ r. is_broken r ms m) rules) ≡ None
none_with ms m true e fine = refl
none_with ms m false e fine = first_none (λ r. is_broken r ms m) rules (fine e)

pub none_from : (ms : List Sent) (m : Sent) → Fine ms m → first_broken ms m ≡ None
unfolding first_broken
none_from ms m fine = none_with ms m (is_output m) refl fine

pub same_fine : (ms ns : List Sent) (m : Sent) → SameHistory ms ns → Fine ms m → Fine ns m
same_fine ms ns m s fine quiet r = sym (same_broken r ms ns m s) ∙ fine quiet r
