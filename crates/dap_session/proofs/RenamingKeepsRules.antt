-- A one-to-one renaming changes no result of the rules.
use Rattle.dap_tree.specs.Side.{same_side}
use Rattle.dap_tree.specs.declared.side.Side.{Side}
use Rattle.dap_tree.specs.declared.side.Side.TheVariants.{Client, Adapter}
use Rattle.dap_tree.specs.declared.sort.Sort.{Sort}
use Rattle.std.proofs.Common.{◌≡◌, ℕ, ℤ, Bool, true, false, cond, not, ◌&&◌, ◌||◌, List, [], ◌∷◌}
use Rattle.std.proofs.Common.{◌++◌, Option, Some, None, codes, sym, ap, ◌∙◌, refl, subst, arith}
use Rattle.std.specs.Str.{bytes_eq}
use Rattle.std.specs.List.{All, AllZip, list_any, count_by}
use Rattle.std.specs.Ordering.{int_eq}
use Rattle.std.proofs.lemmas.Bool.{and_parts}
use Rattle.std.proofs.lemmas.Bool.Decides.{Decides-int_eq, Decides-like, same_from_decides}
use Rattle.dap_profile.specs.declared.profile.Kind.TheVariants.{Request, Response, Event}
use Rattle.dap_message.specs.Message.{Sent}
use Rattle.dap_session.specs.declared.rule.Rule.{Rule}
use Rattle.dap_session.specs.declared.rule.Rule.TheVariants.{EventFromClient, NotInitialized}
use Rattle.dap_session.specs.declared.rule.Rule.TheVariants.{StillInitializing, InitializeTwice}
use Rattle.dap_session.specs.declared.rule.Rule.TheVariants.{AfterDisconnect, SeqUsed}
use Rattle.dap_session.specs.declared.rule.Rule.TheVariants.{ConfiguredEarly, ConfiguredTwice}
use Rattle.dap_session.specs.declared.rule.Rule.TheVariants.{NoRequest, AnsweredTwice, OtherCommand}
use Rattle.dap_session.specs.Messages.{side_of, name_of, seq_of, request_seq_of, other}
use Rattle.dap_session.specs.Messages.{same_kind, is_number, is_yes, is_request, is_response}
use Rattle.dap_session.specs.Messages.{is_event, is_from, is_named, is_request_of, is_response_to}
use Rattle.dap_session.specs.Messages.{is_initialize, is_client_initialize, is_configuration_done}
use Rattle.dap_session.specs.Messages.{is_initialized, is_disconnect_success, is_output}
use Rattle.dap_session.specs.RenamedLists.{seq_sort, IsNumbered, DifferInIds, IsOneToOne}
use Rattle.dap_session.specs.Rules.{at_number, is_answered, is_initializing, is_broken, rules}
use Rattle.dap_session.specs.Rules.{first_of, first_broken, open_requests, KeepsRules}
use Rattle.dap_session.proofs.RenamedMessages.{NumbersTied, Alike, all_alike}
use Rattle.dap_session.proofs.KeptAfter.{tally, count-cons}
use Rattle.dap_session.proofs.Sides.{from_side, other_other}
use Rattle.dap_session.proofs.SessionSteps.{first_same}

pub and_same : (a b c d : Bool) → a ≡ b → c ≡ d → (a && c) ≡ (b && d)
and_same a b c d e f = ap (λ x. x && c) e ∙ ap (λ y. b && y) f

pub or_same : (a b c d : Bool) → a ≡ b → c ≡ d → (a || c) ≡ (b || d)
or_same a b c d e f = ap (λ x. x || c) e ∙ ap (λ y. b || y) f

-- the second parts need to be equal only if the first parts hold
and_if : (a b c d : Bool) → a ≡ b → (a ≡ true → c ≡ d) → (a && c) ≡ (b && d)
and_if true true c d e f = f refl
and_if true false c d e f = absurd (cc)
and_if false true c d e f = absurd (cc)
and_if false false c d e f = refl

-- ---- the parts of a list of pairs

module _ {X : Type 0} (P : X → X → Type 0) where
  pub last_pair : (xs ys : List X) (x y : X) → AllZip P (xs ++ x ∷ []) (ys ++ y ∷ [])
      → AllZip P xs ys × P x y
  last_pair [] [] x y h = (tt, h.0)
  last_pair [] (b ∷ []) x y h = absurd h.1
  last_pair [] (b ∷ c ∷ ys) x y h = absurd h.1
  last_pair (a ∷ []) [] x y h = absurd h.1
  last_pair (a ∷ c ∷ xs) [] x y h = absurd h.1
  last_pair (a ∷ xs) (b ∷ ys) x y h = let w = last_pair xs ys x y h.1 in ((h.0, w.0), w.1)

  -- what corresponds to a part of the second list
  pub across : (xs before after : List X) (y : X) → AllZip P xs (before ++ y ∷ after)
      → (front : List X) × (back : List X) × (x : X) × (xs ≡ front ++ x ∷ back)
      × AllZip P front before × P x y
  across [] [] after y h = absurd h
  across [] (b ∷ before) after y h = absurd h
  across (a ∷ xs) [] after y h = ([], xs, a, refl, tt, h.0)
  across (a ∷ xs) (b ∷ before) after y h =
      let w = across xs before after y h.1 in
      (a ∷ w.0, w.1, w.2, ap (λ t. a ∷ t) w.3, (h.0, w.4), w.5)

  pub turned : (xs ys : List X) → AllZip P xs ys → AllZip (λ y x. P x y) ys xs
  turned [] [] h = tt
  turned [] (y ∷ ys) h = absurd h
  turned (x ∷ xs) [] h = absurd h
  turned (x ∷ xs) (y ∷ ys) h = (h.0, turned xs ys h.1)

-- ---- the rules

module _ (R : Sort → ℤ → ℤ → Type 0) (one : IsOneToOne R) where
  pub int_same : (side : Side) (x y u v : ℤ) → R (seq_sort side) x u → R (seq_sort side) y v
      → int_eq x y ≡ int_eq u v
  int_same side x y u v h k =
      let w = one side x y u v h k in
      same_from_decides (int_eq x y) (int_eq u v) (Decides-int_eq x y)
      (Decides-like (int_eq u v) w.1 w.0 (Decides-int_eq u v))

  pub number_is_same : (side : Side) (o p : Option ℤ) (x y : ℤ) → NumbersTied R (seq_sort side) o p
      → R (seq_sort side) x y → is_number o x ≡ is_number p y
  number_is_same side None None x y h k = refl
  number_is_same side None (Some v) x y h k = absurd h
  number_is_same side (Some u) None x y h k = absurd h
  number_is_same side (Some u) (Some v) x y h k = int_same side u x v y h k

  number_same : (s : Sort) (o o' : Option ℤ) (p q : ℤ → Bool) → NumbersTied R s o o'
      → ((x y : ℤ) → R s x y → p x ≡ q y) → at_number o p ≡ at_number o' q
  number_same s None None p q h same = refl
  number_same s None (Some v) p q h same = absurd h
  number_same s (Some u) None p q h same = absurd h
  number_same s (Some u) (Some v) p q h same = same u v h

  any_same : (p q : Sent → Bool) → ((a b : Sent) → Alike R a b → p a ≡ q b) → (ms ns : List Sent)
      → AllZip (Alike R) ms ns → list_any p ms ≡ list_any q ns
  any_same p q same [] [] h = refl
  any_same p q same [] (n ∷ ns) h = absurd h
  any_same p q same (m ∷ ms) [] h = absurd h
  any_same p q same (m ∷ ms) (n ∷ ns) h =
      or_same (p m) (q n) (list_any p ms) (list_any q ns) (same m n h.0)
      (any_same p q same ms ns h.1)

  count_alike : (p q : Sent → Bool) → ((a b : Sent) → Alike R a b → p a ≡ q b) → (ms ns : List Sent)
      → AllZip (Alike R) ms ns → count_by p ms ≡ count_by q ns
  count_alike p q same [] [] h = refl
  count_alike p q same [] (n ∷ ns) h = absurd h
  count_alike p q same (m ∷ ms) [] h = absurd h
  count_alike p q same (m ∷ ms) (n ∷ ns) h =
      omega (
        arith,
        count-cons p m ms,
        count-cons q n ns,
        ap tally (same m n h.0),
        count_alike p q same ms ns h.1,
      )

  -- ---- one message

  pub request_same : (a b : Sent) → Alike R a b → is_request a ≡ is_request b
  request_same a b t = ap (same_kind Request) t.kind

  pub response_same : (a b : Sent) → Alike R a b → is_response a ≡ is_response b
  response_same a b t = ap (same_kind Response) t.kind

  pub event_same : (a b : Sent) → Alike R a b → is_event a ≡ is_event b
  event_same a b t = ap (same_kind Event) t.kind

  pub from_same : (side : Side) (a b : Sent) → Alike R a b → is_from side a ≡ is_from side b
  from_same side a b t = ap (same_side side) t.side

  pub named_same : (name : List ℕ) (a b : Sent) → Alike R a b → is_named name a ≡ is_named name b
  named_same name a b t = ap (λ w. bytes_eq w name) t.name

  initialize_same : (a b : Sent) → Alike R a b → is_initialize a ≡ is_initialize b
  initialize_same a b t =
      and_same _ _ _ _ (request_same a b t) (named_same (codes "initialize") a b t)

  pub client_initialize_same : (a b : Sent) → Alike R a b
      → is_client_initialize a ≡ is_client_initialize b
  client_initialize_same a b t = and_same _ _ _ _ (from_same Client a b t) (initialize_same a b t)

  pub configuration_done_same : (a b : Sent) → Alike R a b
      → is_configuration_done a ≡ is_configuration_done b
  configuration_done_same a b t =
      and_same _ _ _ _ (and_same _ _ _ _ (from_same Client a b t) (request_same a b t))
      (named_same (codes "configurationDone") a b t)

  pub initialized_same : (a b : Sent) → Alike R a b → is_initialized a ≡ is_initialized b
  initialized_same a b t =
      and_same _ _ _ _ (event_same a b t) (named_same (codes "initialized") a b t)

  pub farewell_same : (a b : Sent) → Alike R a b → is_disconnect_success a ≡ is_disconnect_success b
  farewell_same a b t =
      and_same _ _ _ _
      (and_same _ _ _ _ (and_same _ _ _ _ (from_same Adapter a b t) (response_same a b t))
      (named_same (codes "disconnect") a b t)) (ap is_yes t.success)

  pub output_same : (a b : Sent) → Alike R a b → is_output a ≡ is_output b
  output_same a b t =
      and_same _ _ _ _ (and_same _ _ _ _ (from_same Adapter a b t) (event_same a b t))
      (named_same (codes "output") a b t)

  -- ---- a message and a number

  request_of_same : (side : Side) (x y : ℤ) (a b : Sent) → R (seq_sort side) x y → Alike R a b
      → is_request_of side x a ≡ is_request_of side y b
  request_of_same side x y a b h t =
      and_if (is_request a && is_from side a) (is_request b && is_from side b) (int_eq x (seq_of a))
      (int_eq y (seq_of b))
      (and_same _ _ _ _ (request_same a b t) (from_same side a b t))
      (λ e. int_same side x (seq_of a) y (seq_of b) h
      (subst (λ s. R (seq_sort s) (seq_of a) (seq_of b))
      (sym (from_side side a (and_parts (is_request a) _ e).1)) t.seq))

  response_to_same : (side : Side) (x y : ℤ) (a b : Sent) → R (seq_sort side) x y → Alike R a b
      → is_response_to side x a ≡ is_response_to side y b
  response_to_same side x y a b h t =
      and_if (is_response a && is_from (other side) a) (is_response b && is_from (other side) b)
      (is_number (request_seq_of a) x) (is_number (request_seq_of b) y)
      (and_same _ _ _ _ (response_same a b t) (from_same (other side) a b t))
      (λ e.
      let there : other (side_of a) ≡ side =
      ap other (sym (from_side (other side) a (and_parts (is_response a) _ e).1))
      ∙ other_other side in
      number_is_same side (request_seq_of a) (request_seq_of b) x y
      (subst (λ s. NumbersTied R (seq_sort s) (request_seq_of a) (request_seq_of b)) there
      t.request_seq) h)

  -- the side may also be that of another message
  request_of_both : (side across : Side) (x y : ℤ) (a b : Sent) → side ≡ across
      → R (seq_sort side) x y → Alike R a b → is_request_of side x a ≡ is_request_of across y b
  request_of_both side across x y a b e h t =
      subst (λ s. is_request_of side x a ≡ is_request_of s y b) e (request_of_same side x y a b h t)

  pub response_to_both : (side across : Side) (x y : ℤ) (a b : Sent) → side ≡ across
      → R (seq_sort side) x y → Alike R a b → is_response_to side x a ≡ is_response_to across y b
  response_to_both side across x y a b e h t =
      subst (λ s. is_response_to side x a
      ≡ is_response_to s y b) e (response_to_same side x y a b h t)

  -- ---- a list

  answered_same : (side across : Side) (x y : ℤ) (ms ns : List Sent) → side ≡ across
      → R (seq_sort side) x y → AllZip (Alike R) ms ns
      → is_answered side x ms ≡ is_answered across y ns
  answered_same side across x y ms ns e h s =
      any_same (λ r. is_response_to side x r) (λ r. is_response_to across y r)
      (λ a b t. response_to_both side across x y a b e h t) ms ns s

  initializing_same : (ms ns : List Sent) → AllZip (Alike R) ms ns
      → is_initializing ms ≡ is_initializing ns
  initializing_same [] [] h = refl
  initializing_same [] (n ∷ ns) h = absurd h
  initializing_same (m ∷ ms) [] h = absurd h
  initializing_same (m ∷ ms) (n ∷ ns) h =
      or_same _ _ _ _
      (and_if (is_client_initialize m) (is_client_initialize n)
      (not (is_answered Client (seq_of m) ms)) (not (is_answered Client (seq_of n) ns))
      (client_initialize_same m n h.0)
      (λ e.
      let client : Client ≡ side_of m = from_side Client m (and_parts _ (is_initialize m) e).0 in
      ap not (answered_same Client Client (seq_of m) (seq_of n) ms ns refl
      (subst (λ s. R (seq_sort s) (seq_of m) (seq_of n)) (sym client) h.0.seq) h.1)))
      (initializing_same ms ns h.1)

  broken_same : (rule : Rule) (ms ns : List Sent) (m n : Sent) → AllZip (Alike R) ms ns
      → Alike R m n → is_broken rule ms m ≡ is_broken rule ns n
  broken_same EventFromClient ms ns m n s t =
      and_same _ _ _ _ (from_same Client m n t) (event_same m n t)
  broken_same NotInitialized ms ns m n s t =
      and_same _ _ _ _ (ap not (client_initialize_same m n t))
      (ap not (any_same is_client_initialize is_client_initialize client_initialize_same ms ns s))
  broken_same StillInitializing ms ns m n s t =
      and_same _ _ _ _ (initializing_same ms ns s)
      (ap not (and_same _ _ _ _ (from_same Adapter m n t) (response_same m n t)))
  broken_same InitializeTwice ms ns m n s t =
      and_same _ _ _ _ (initialize_same m n t)
      (any_same is_client_initialize is_client_initialize client_initialize_same ms ns s)
  broken_same AfterDisconnect ms ns m n s t =
      and_same _ _ _ _ (and_same _ _ _ _ (from_same Client m n t) (request_same m n t))
      (any_same is_disconnect_success is_disconnect_success farewell_same ms ns s)
  broken_same SeqUsed ms ns m n s t =
      and_same _ _ _ _ (request_same m n t)
      (any_same (λ q. is_request_of (side_of m) (seq_of m) q)
      (λ q. is_request_of (side_of n) (seq_of n) q)
      (λ a b u. request_of_both (side_of m) (side_of n) (seq_of m) (seq_of n) a b t.side t.seq
      u) ms ns s)
  broken_same ConfiguredEarly ms ns m n s t =
      and_same _ _ _ _ (configuration_done_same m n t)
      (ap not (any_same is_initialized is_initialized initialized_same ms ns s))
  broken_same ConfiguredTwice ms ns m n s t =
      and_same _ _ _ _ (configuration_done_same m n t)
      (any_same is_configuration_done is_configuration_done configuration_done_same ms ns s)
  broken_same NoRequest ms ns m n s t =
      and_same _ _ _ _ (response_same m n t)
      (ap not (number_same (seq_sort (other (side_of m))) (request_seq_of m) (request_seq_of n)
      (λ x. list_any (λ q. is_request_of (other (side_of m)) x q) ms)
      (λ y. list_any (λ q. is_request_of (other (side_of n)) y q) ns) t.request_seq
      (λ x y h. any_same (λ q. is_request_of (other (side_of m)) x q)
      (λ q. is_request_of (other (side_of n)) y q)
      (λ a b u. request_of_both (other (side_of m)) (other (side_of n)) x y a b
      (ap other t.side) h u) ms ns s)))
  broken_same AnsweredTwice ms ns m n s t =
      and_same _ _ _ _ (response_same m n t)
      (number_same (seq_sort (other (side_of m))) (request_seq_of m) (request_seq_of n)
      (λ x. is_answered (other (side_of m)) x ms) (λ y. is_answered (other (side_of n)) y ns)
      t.request_seq
      (λ x y h. answered_same (other (side_of m)) (other (side_of n)) x y ms ns (ap other t.side) h
      s))
  broken_same OtherCommand ms ns m n s t =
      and_same _ _ _ _ (response_same m n t)
      (number_same (seq_sort (other (side_of m))) (request_seq_of m) (request_seq_of n)
      (λ x. list_any (λ q. is_request_of (other (side_of m)) x q
      && not (bytes_eq (name_of q) (name_of m))) ms)
      (λ y. list_any (λ q. is_request_of (other (side_of n)) y q
      && not (bytes_eq (name_of q) (name_of n))) ns) t.request_seq
      (λ x y h. any_same (λ q. is_request_of (other (side_of m)) x q
      && not (bytes_eq (name_of q) (name_of m))) (λ q. is_request_of (other (side_of n)) y q
      && not (bytes_eq (name_of q) (name_of n)))
      (λ a b u. and_same _ _ _ _
      (request_of_both (other (side_of m)) (other (side_of n)) x y a b (ap other t.side) h u)
      (ap (λ w. not (bytes_eq w (name_of m))) u.name
      ∙ ap (λ w. not (bytes_eq (name_of b) w)) t.name)) ms ns s))

  first_alike : (ms ns : List Sent) (m n : Sent) → AllZip (Alike R) ms ns → Alike R m n
      → first_broken ms m ≡ first_broken ns n
  unfolding first_broken
  first_alike ms ns m n s t =
      ap (λ b. cond b None (first_of (λ r. is_broken r ms m) rules)) (output_same m n t)
      ∙ ap (λ o. cond (is_output n) None o)
      (first_same (λ r. is_broken r ms m) (λ r. is_broken r ns n)
      (λ r. broken_same r ms ns m n s t) rules)

  -- the first rule that the last message breaks is that of the last renamed message
  pub first_renamed : (ms ns : List Sent) (m n : Sent) → All IsNumbered (ms ++ m ∷ [])
      → DifferInIds R (ms ++ m ∷ []) (ns ++ n ∷ []) → first_broken ms m ≡ first_broken ns n
  first_renamed ms ns m n is h =
      let w = last_pair (Alike R) ms ns m n (all_alike R (ms ++ m ∷ []) (ns ++ n ∷ []) is h) in
      first_alike ms ns m n w.0 w.1

  -- the same number of requests has no response
  pub open_renamed : (side : Side) (ms ns : List Sent) → All IsNumbered ms → DifferInIds R ms ns
      → open_requests side ms ≡ open_requests side ns
  unfolding open_requests
  open_renamed side ms ns is h =
      let s = all_alike R ms ns is h in
      count_alike (λ q. is_request q && is_from side q && not (is_answered side (seq_of q) ms))
      (λ q. is_request q && is_from side q && not (is_answered side (seq_of q) ns))
      (λ a b t.
      and_if (is_request a && is_from side a) (is_request b && is_from side b)
      (not (is_answered side (seq_of a) ms)) (not (is_answered side (seq_of b) ns))
      (and_same _ _ _ _ (request_same a b t) (from_same side a b t))
      (λ e.
      let there : side ≡ side_of a = from_side side a (and_parts (is_request a) _ e).1 in
      ap not (answered_same side side (seq_of a) (seq_of b) ms ns refl
      (subst (λ x. R (seq_sort x) (seq_of a) (seq_of b)) (sym there) t.seq) s)))
      ms ns s

  keeps_there : (ms ns : List Sent) → AllZip (Alike R) ms ns → KeepsRules ms → KeepsRules ns
  keeps_there ms ns s keeps before after n e =
      let w = across (Alike R) ms before after n (subst (λ t. AllZip (Alike R) ms t) e s) in
      sym (first_alike w.0 before w.2 n w.4 w.5) ∙ keeps w.0 w.1 w.2 w.3

  keeps_back : (ms ns : List Sent) → AllZip (Alike R) ms ns → KeepsRules ns → KeepsRules ms
  keeps_back ms ns s keeps before after m e =
      let turn = turned (Alike R) ms ns s in
      let w = across (λ n x. Alike R x n) ns before after m
      (subst (λ t. AllZip (λ n x. Alike R x n) ns t) e turn) in
      let back = turned (λ n x. Alike R x n) w.0 before w.4 in
      first_alike before w.0 m w.2 back w.5 ∙ keeps w.0 w.1 w.2 w.3

  -- the renamed list obeys the rules if the list does
  pub keeps_renamed : (ms ns : List Sent) → All IsNumbered ms → DifferInIds R ms ns
      → (KeepsRules ms → KeepsRules ns) × (KeepsRules ns → KeepsRules ms)
  keeps_renamed ms ns is h = let s =
      all_alike R ms ns is h in (keeps_there ms ns s, keeps_back ms ns s)
