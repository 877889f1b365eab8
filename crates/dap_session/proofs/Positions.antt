-- The test of each rule decides its statement over positions.
use Rattle.std.proofs.Common.{◌≡◌, ℕ, zero, suc, ◌<◌, ℤ, Bool, true, false, cond, not, ◌&&◌, List}
use Rattle.std.proofs.Common.{[], ◌∷◌, ◌++◌, length, Option, Some, None, codes, inl, inr, sym, ap}
use Rattle.std.proofs.Common.{◌∙◌, refl, subst, arith}
use Rattle.std.specs.Bool.{Decides}
use Rattle.std.specs.Option.{MatchOption}
use Rattle.std.specs.Str.{bytes_eq}
use Rattle.std.specs.List.{slice_get, list_any}
use Rattle.std.proofs.lemmas.Bool.Decides.{Decides-and, Decides-not, Decides-int_eq}
use Rattle.std.proofs.lemmas.Bool.Decides.{not_from_Decides}
use Rattle.std.proofs.lemmas.Bool.{and_from, and_parts, both_ways, false_from_ne_true, not-true}
use Rattle.std.proofs.lemmas.Bool.{not_from_false, or_cases, or_left, or_right}
use Rattle.std.proofs.lemmas.Option.{same_Some}
use Rattle.std.proofs.lemmas.Slice.Eq.{bytes_eq-Decides}
use Rattle.dap_tree.specs.declared.side.Side.{Side}
use Rattle.dap_tree.specs.declared.side.Side.TheVariants.{Client, Adapter}
use Rattle.dap_tree.proofs.Sides.{same_side_decides}
use Rattle.dap_profile.specs.declared.profile.Kind.{Kind}
use Rattle.dap_profile.specs.declared.profile.Kind.TheVariants.{Request, Response, Event}
use Rattle.dap_message.specs.Message.{Sent}
use Rattle.dap_session.specs.declared.rule.Rule.{Rule}
use Rattle.dap_session.specs.declared.rule.Rule.TheVariants.{EventFromClient, NotInitialized}
use Rattle.dap_session.specs.declared.rule.Rule.TheVariants.{StillInitializing, InitializeTwice}
use Rattle.dap_session.specs.declared.rule.Rule.TheVariants.{AfterDisconnect, SeqUsed}
use Rattle.dap_session.specs.declared.rule.Rule.TheVariants.{ConfiguredEarly, ConfiguredTwice}
use Rattle.dap_session.specs.declared.rule.Rule.TheVariants.{NoRequest, AnsweredTwice, OtherCommand}
use Rattle.dap_session.specs.Messages.{side_of, kind_of, name_of, seq_of, request_seq_of}
use Rattle.dap_session.specs.Messages.{success_of, other, same_kind, is_number, is_yes, is_request}
use Rattle.dap_session.specs.Messages.{is_response, is_event, is_from, is_named, is_request_of}
use Rattle.dap_session.specs.Messages.{is_response_to, is_initialize, is_client_initialize}
use Rattle.dap_session.specs.Messages.{is_configuration_done, is_initialized, is_disconnect_success}
use Rattle.dap_session.specs.Messages.{is_output}
use Rattle.dap_session.specs.Rules.{at_number, is_answered, is_initializing, is_broken, rules}
use Rattle.dap_session.specs.Rules.{first_of, first_broken}
use Rattle.dap_session.specs.Positions.{IsFrom, IsRequest, IsResponse, IsEvent, IsNamed}
use Rattle.dap_session.specs.Positions.{IsInitialize, IsClientInitialize, IsConfigurationDone}
use Rattle.dap_session.specs.Positions.{IsInitialized, IsDisconnectSuccess, IsRequestOf}
use Rattle.dap_session.specs.Positions.{IsResponseOf, At}
use Rattle.dap_session.specs.Positions.{Earlier, NoneBetween, IsInitializingAt, BreaksAt, IsOutput}
use Rattle.dap_session.specs.Positions.{BreaksNone, BreaksFirst}
use Rattle.dap_session.proofs.Sides.{other_other}

-- ---- one message

pub same_kind-Decides : (s r : Kind) → Decides (same_kind s r) (s ≡ r)
same_kind-Decides Request Request = (λ h. refl, λ h. refl)
same_kind-Decides Request Response = (λ h. absurd (cc), λ h. absurd (cc))
same_kind-Decides Request Event = (λ h. absurd (cc), λ h. absurd (cc))
same_kind-Decides Response Request = (λ h. absurd (cc), λ h. absurd (cc))
same_kind-Decides Response Response = (λ h. refl, λ h. refl)
same_kind-Decides Response Event = (λ h. absurd (cc), λ h. absurd (cc))
same_kind-Decides Event Request = (λ h. absurd (cc), λ h. absurd (cc))
same_kind-Decides Event Response = (λ h. absurd (cc), λ h. absurd (cc))
same_kind-Decides Event Event = (λ h. refl, λ h. refl)

pub from : (side : Side) (m : Sent) → Decides (is_from side m) (IsFrom side m)
from side m = same_side_decides side (side_of m)

pub request : (m : Sent) → Decides (is_request m) (IsRequest m)
request m = same_kind-Decides Request (kind_of m)

pub response : (m : Sent) → Decides (is_response m) (IsResponse m)
response m = same_kind-Decides Response (kind_of m)

event : (m : Sent) → Decides (is_event m) (IsEvent m)
event m = same_kind-Decides Event (kind_of m)

pub named : (name : List ℕ) (m : Sent) → Decides (is_named name m) (IsNamed name m)
named name m = bytes_eq-Decides (name_of m) name

initialize : (m : Sent) → Decides (is_initialize m) (IsInitialize m)
initialize m = Decides-and _ _ (request m) (named (codes "initialize") m)

pub client_initialize : (m : Sent) → Decides (is_client_initialize m) (IsClientInitialize m)
client_initialize m = Decides-and _ _ (from Client m) (initialize m)

pub configuration_done : (m : Sent) → Decides (is_configuration_done m) (IsConfigurationDone m)
configuration_done m =
    Decides-and _ _ (Decides-and _ _ (from Client m) (request m))
    (named (codes "configurationDone") m)

pub initialized : (m : Sent) → Decides (is_initialized m) (IsInitialized m)
initialized m = Decides-and _ _ (event m) (named (codes "initialized") m)

yes_is : (o : Option Bool) → Decides (is_yes o) (o ≡ Some true)
yes_is None = (λ h. absurd (cc), λ h. absurd (cc))
yes_is (Some true) = (λ h. refl, λ h. refl)
yes_is (Some false) = (λ h. absurd (cc), λ h. cc)

pub farewell : (m : Sent) → Decides (is_disconnect_success m) (IsDisconnectSuccess m)
farewell m =
    Decides-and _ _
    (Decides-and _ _ (Decides-and _ _ (from Adapter m) (response m)) (named (codes "disconnect") m))
    (yes_is (success_of m))

request_of : (side : Side) (n : ℤ) (m : Sent)
    → Decides (is_request_of side n m) (IsRequestOf side n m)
request_of side n m =
    Decides-and _ _ (Decides-and _ _ (request m) (from side m)) (Decides-int_eq n (seq_of m))

number_is : (o : Option ℤ) (n : ℤ) → Decides (is_number o n) (o ≡ Some n)
number_is None n = (λ h. absurd (cc), λ h. absurd (cc))
number_is (Some k) n =
    (λ h. ap (λ x. Some x) ((Decides-int_eq k n).0 h), λ h. (Decides-int_eq k n).1 cc)

response_to : (side : Side) (n : ℤ) (m : Sent)
    → Decides (is_response_to side n m) (IsResponseOf (other side) n m)
response_to side n m =
    Decides-and _ _ (Decides-and _ _ (response m) (from (other side) m))
    (number_is (request_seq_of m) n)

-- ---- positions

any_there : (p : Sent → Bool) (P : Sent → Type 0) → ((q : Sent) → Decides (p q) (P q))
    → (before rest : List Sent) → list_any p before ≡ true
    → Earlier P (before ++ rest) (length before)
any_there p P each [] rest h = absurd (cc)
any_there p P each (x ∷ before) rest h =
    elim (or_cases (p x) (list_any p before) h) [
      | inl e ↦ (0, x, omega arith, refl, (each x).0 e)
      | inr e ↦ let w =
          any_there p P each before rest e in (suc w.0, w.1, omega (arith, w.2), w.3, w.4)
    ]

there_any : (p : Sent → Bool) (P : Sent → Type 0) → ((q : Sent) → Decides (p q) (P q))
    → (before rest : List Sent) (j : ℕ) (q : Sent) → j < length before → At (before ++ rest) j q
    → P q → list_any p before ≡ true
there_any p P each [] rest j q h at is = absurd (omega arith)
there_any p P each (x ∷ before) rest zero q h at is = let same : x ≡ q =
    cc in or_left (p x) _ (ap p same ∙ (each q).1 is)
there_any p P each (x ∷ before) rest (suc j) q h at is =
    or_right (p x) _ (there_any p P each before rest j q (omega arith) at is)

earlier : (p : Sent → Bool) (P : Sent → Type 0) → ((q : Sent) → Decides (p q) (P q))
    → (before rest : List Sent)
    → Decides (list_any p before) (Earlier P (before ++ rest) (length before))
earlier p P each before rest =
    (any_there p P each before rest, λ w. there_any p P each before rest w.0 w.1 w.2 w.3 w.4)

of_number : (o : Option ℤ) (p : ℤ → Bool) (P : ℤ → Type 0) → ((n : ℤ) → Decides (p n) (P n))
    → Decides (at_number o p) ((n : ℤ) × (o ≡ Some n) × P n)
of_number None p P each = (λ h. absurd (cc), λ w. let e = w.1 in absurd (cc))
of_number (Some k) p P each = (
  λ h. (k, refl, (each k).0 h),
  λ w. let same : k
      ≡ w.0 = same_Some k w.0 w.1 in ap p same ∙ (each w.0).1 w.2,
)

-- ---- the `initialize` request that has no response yet

not_there : (n : ℤ) (x : Sent) (before rest : List Sent) (i : ℕ) (r : Sent) → 0 < i
    → i < length (x ∷ before) → At (x ∷ before ++ rest) i r → IsResponseOf Adapter n r
    → not (is_answered Client n before) ≡ true → ⊥
not_there n x before rest zero r low high at is silent = absurd (omega arith)
not_there n x before rest (suc i) r low high at is silent =
    both_ways _ (not-true _ silent)
    (there_any (λ m. is_response_to Client n m) (IsResponseOf Adapter n) (response_to Client n)
    before rest i r (omega arith) at is)

not_later : (n : ℤ) (x : Sent) (ms : List Sent) (j k : ℕ)
    → NoneBetween (IsResponseOf Adapter n) ms j k → (i : ℕ) (r : Sent) → suc j < i → i < suc k
    → At (x ∷ ms) i r → IsResponseOf Adapter n r → ⊥
not_later n x ms j k none zero r low high at is = absurd (omega arith)
not_later n x ms j k none (suc i) r low high at is = none i r (omega arith) (omega arith) at is

initializing_there : (before rest : List Sent) → is_initializing before ≡ true
    → IsInitializingAt (before ++ rest) (length before)
initializing_there [] rest h = absurd (cc)
initializing_there (x ∷ before) rest h =
    elim (or_cases (is_client_initialize x && not (is_answered Client (seq_of x) before))
    (is_initializing before) h) [
      | inl e ↦ (
        0,
        x,
        omega arith,
        refl,
        (client_initialize x).0 (and_parts _ _ e).0,
        λ i r low high at is. not_there (seq_of x) x before rest i r low high at is
            (and_parts (is_client_initialize x) _ e).1,
      )
      | inr e ↦
          let w = initializing_there before rest e in (
            suc w.0,
            w.1,
            omega (arith, w.2),
            w.3,
            w.4,
            λ i r low high at is. not_later (seq_of w.1) x (before ++ rest) w.0 (length before)
                w.5 i r low high at is,
          )
    ]

there_initializing : (before rest : List Sent) (j : ℕ) (q : Sent) → j < length before
    → At (before ++ rest) j q → IsClientInitialize q
    → NoneBetween (IsResponseOf Adapter (seq_of q)) (before ++ rest) j (length before)
    → is_initializing before ≡ true
there_initializing [] rest j q h at is none = absurd (omega arith)
there_initializing (x ∷ before) rest zero q h at is none =
    let same : q ≡ x = cc in
    let asked : is_client_initialize x ≡ true =
    ap is_client_initialize (sym same) ∙ (client_initialize q).1 is in
    let open_one : not (is_answered Client (seq_of q) before) ≡ true =
    not_from_false _
    (false_from_ne_true _
    (λ e. let w = any_there (λ m. is_response_to Client (seq_of q) m)
    (IsResponseOf Adapter (seq_of q)) (response_to Client (seq_of q)) before rest e in none
    (suc w.0) w.1 (omega arith) (omega (arith, w.2)) w.3 w.4)) in
    or_left _ _
    (and_from _ _ asked
    (ap (λ (m : Sent). not (is_answered Client (seq_of m) before)) (sym same) ∙ open_one))
there_initializing (x ∷ before) rest (suc j) q h at is none =
    or_right (is_client_initialize x && not (is_answered Client (seq_of x) before)) _
    (there_initializing before rest j q (omega arith) at is
    (λ i r low high a g. none (suc i) r (omega arith) (omega arith) a g))

initializing : (before rest : List Sent)
    → Decides (is_initializing before) (IsInitializingAt (before ++ rest) (length before))
initializing before rest =
    (initializing_there before rest, λ w. there_initializing before rest w.0 w.1 w.2 w.3 w.4 w.5)

-- ---- the rules

pub response_of : (side : Side) (n : ℤ) (m : Sent)
    → Decides (is_response_to (other side) n m) (IsResponseOf side n m)
response_of side n m =
    subst (λ (s : Side). Decides (is_response_to (other side) n m) (IsResponseOf s n m))
    (other_other side) (response_to (other side) n m)

pub by_position : (rule : Rule) (before after : List Sent) (m : Sent)
    → Decides (is_broken rule before m) (BreaksAt rule (before ++ m ∷ after) (length before) m)
by_position EventFromClient before after m = Decides-and _ _ (from Client m) (event m)
by_position NotInitialized before after m =
    Decides-and _ _ (Decides-not _ (client_initialize m))
    (Decides-not _
    (earlier is_client_initialize IsClientInitialize client_initialize before (m ∷ after)))
by_position StillInitializing before after m =
    Decides-and _ _ (initializing before (m ∷ after))
    (Decides-not _ (Decides-and _ _ (from Adapter m) (response m)))
by_position InitializeTwice before after m =
    Decides-and _ _ (initialize m)
    (earlier is_client_initialize IsClientInitialize client_initialize before (m ∷ after))
by_position AfterDisconnect before after m =
    Decides-and _ _ (Decides-and _ _ (from Client m) (request m))
    (earlier is_disconnect_success IsDisconnectSuccess farewell before (m ∷ after))
by_position SeqUsed before after m =
    Decides-and _ _ (request m)
    (earlier (λ q. is_request_of (side_of m) (seq_of m) q) (IsRequestOf (side_of m) (seq_of m))
    (request_of (side_of m) (seq_of m)) before (m ∷ after))
by_position ConfiguredEarly before after m =
    Decides-and _ _ (configuration_done m)
    (Decides-not _ (earlier is_initialized IsInitialized initialized before (m ∷ after)))
by_position ConfiguredTwice before after m =
    Decides-and _ _ (configuration_done m)
    (earlier is_configuration_done IsConfigurationDone configuration_done before (m ∷ after))
by_position NoRequest before after m =
    Decides-and _ _ (response m)
    (Decides-not _
    (of_number (request_seq_of m)
    (λ n. list_any (λ q. is_request_of (other (side_of m)) n q) before)
    (λ n. Earlier (IsRequestOf (other (side_of m)) n) (before ++ m ∷ after) (length before))
    (λ n. earlier (λ q. is_request_of (other (side_of m)) n q) (IsRequestOf (other (side_of m)) n)
    (request_of (other (side_of m)) n) before (m ∷ after))))
by_position AnsweredTwice before after m =
    Decides-and _ _ (response m)
    (of_number (request_seq_of m) (λ n. is_answered (other (side_of m)) n before)
    (λ n. Earlier (IsResponseOf (side_of m) n) (before ++ m ∷ after) (length before))
    (λ n. earlier (λ r. is_response_to (other (side_of m)) n r) (IsResponseOf (side_of m) n)
    (response_of (side_of m) n) before (m ∷ after)))
by_position OtherCommand before after m =
    Decides-and _ _ (response m)
    (of_number (request_seq_of m)
    (λ n. list_any (λ q. is_request_of (other (side_of m)) n q
    && not (bytes_eq (name_of q) (name_of m))) before)
    (λ n. Earlier (λ q. IsRequestOf (other (side_of m)) n q
    × ¬ (name_of q ≡ name_of m)) (before ++ m ∷ after) (length before))
    (λ n. earlier (λ q. is_request_of (other (side_of m)) n q
    && not (bytes_eq (name_of q) (name_of m))) (λ q. IsRequestOf (other (side_of m)) n q
    × ¬ (name_of q ≡ name_of m))
    (λ q. Decides-and _ _ (request_of (other (side_of m)) n q)
    (Decides-not _ (bytes_eq-Decides (name_of q) (name_of m)))) before (m ∷ after)))

-- ---- the first of them

pub output : (m : Sent) → Decides (is_output m) (IsOutput m)
output m = Decides-and _ _ (Decides-and _ _ (from Adapter m) (event m)) (named (codes "output") m)

-- by positions of the list
abbrev pub TellsFirst : (Rule → Bool) → List Rule → Option Rule → Type 0
TellsFirst test rs o = MatchOption o ((j : ℕ) (r : Rule) → slice_get rs j ≡ Some r → test r ≡ false)
    (λ r. (i : ℕ) × (slice_get rs i ≡ Some r) × (test r ≡ true)
    × ((j : ℕ) (s : Rule) → j < i → slice_get rs j ≡ Some s → test s ≡ false))

false_at : (test : Rule → Bool) (r : Rule) (rs : List Rule) → test r ≡ false
    → ((j : ℕ) (s : Rule) → slice_get rs j ≡ Some s → test s ≡ false) → (j : ℕ) (s : Rule)
    → slice_get (r ∷ rs) j ≡ Some s → test s ≡ false
false_at test r rs h g zero s at = let same : r ≡ s = cc in ap test (sym same) ∙ h
false_at test r rs h g (suc j) s at = g j s at

false_below : (test : Rule → Bool) (r : Rule) (rs : List Rule) (i : ℕ) → test r ≡ false
    → ((j : ℕ) (s : Rule) → j < i → slice_get rs j ≡ Some s → test s ≡ false) → (j : ℕ) (s : Rule)
    → j < suc i → slice_get (r ∷ rs) j ≡ Some s → test s ≡ false
false_below test r rs i h g zero s low at = let same : r ≡ s = cc in ap test (sym same) ∙ h
false_below test r rs i h g (suc j) s low at = g j s (omega arith) at

later : (test : Rule → Bool) (r : Rule) (rs : List Rule) (o : Option Rule) → test r ≡ false
    → TellsFirst test rs o → TellsFirst test (r ∷ rs) o
later test r rs None h reported = false_at test r rs h reported
later test r rs (Some x) h reported =
    (suc reported.0, reported.1, reported.2, false_below test r rs reported.0 h reported.3)

tells_step : (test : Rule → Bool) (r : Rule) (rs : List Rule) (b : Bool) → test r ≡ b
    → TellsFirst test rs (first_of test rs)
    → TellsFirst test (r ∷ rs) (cond b (Some r) (first_of test rs))
tells_step test r rs true h reported = (0, refl, h, λ j s low at. absurd (omega arith))
tells_step test r rs false h reported = later test r rs (first_of test rs) h reported

tells_first : (test : Rule → Bool) (rs : List Rule) → TellsFirst test rs (first_of test rs)
tells_first test [] = λ j r at. absurd (cc)
tells_first test (r ∷ rs) = tells_step test r rs (test r) refl (tells_first test rs)

place_of : (r : Rule) → (i : ℕ) × (slice_get rules i ≡ Some r)
place_of EventFromClient = (0, refl)
place_of NotInitialized = (1, refl)
place_of StillInitializing = (2, refl)
place_of InitializeTwice = (3, refl)
place_of AfterDisconnect = (4, refl)
place_of SeqUsed = (5, refl)
place_of ConfiguredEarly = (6, refl)
place_of ConfiguredTwice = (7, refl)
place_of NoRequest = (8, refl)
place_of AnsweredTwice = (9, refl)
place_of OtherCommand = (10, refl)

first_told : (before after : List Sent) (m : Sent) (o : Option Rule) → is_output m ≡ false
    → TellsFirst (λ r. is_broken r before m) rules o
    → MatchOption o (BreaksNone (before ++ m ∷ after) (length before) m)
    (λ rule. BreaksFirst rule (before ++ m ∷ after) (length before) m)
first_told before after m None quiet reported = λ out r. let w =
    place_of r in not_from_Decides (is_broken r before m) (by_position r before after m)
    (reported w.0 r w.1)
first_told before after m (Some r) quiet reported = (
  reported.0,
  reported.1,
  not_from_Decides (is_output m) (output m) quiet,
  (by_position r before after m).0 reported.2,
  λ j s low at. not_from_Decides (is_broken s before m) (by_position s before after m)
      (reported.3 j s low at),
)

first_with : (before after : List Sent) (m : Sent) (b : Bool) → is_output m ≡ b
    → MatchOption (cond b None (first_of (λ r. is_broken r before m) rules))
    (BreaksNone (before ++ m ∷ after) (length before) m)
    (λ rule. BreaksFirst rule (before ++ m ∷ after) (length before) m)
first_with before after m true h = λ out. absurd (out ((output m).0 h))
first_with before after m false h =
    first_told before after m (first_of (λ r. is_broken r before m) rules) h
    (tells_first (λ r. is_broken r before m) rules)

pub first_by_position : (before after : List Sent) (m : Sent)
    → MatchOption (first_broken before m) (BreaksNone (before ++ m ∷ after) (length before) m)
    (λ rule. BreaksFirst rule (before ++ m ∷ after) (length before) m)
unfolding first_broken
first_by_position before after m = first_with before after m (is_output m) refl
