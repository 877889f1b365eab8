-- Which messages may be swapped if they are neighbours: those that a user's rule names, and whose
-- order is not fixed by their class or by a session rule. Source: own.
use Rattle.std.specs.Prelude.{ℕ, ℤ, Bool, true, cond, not, ◌&&◌, ◌||◌, List, [], Option, Some, None}
use Rattle.std.specs.{Prelude.codes, List.list_any, Option.option_cmp, Cmp.Lexicographic.slice_cmp}
use Rattle.std.specs.declared.cmp.Ordering.{Ordering}
use Rattle.std.specs.Ordering.{nat_cmp, int_cmp, on, then_cmp, is_eq, is_lt}
use Rattle.dap_tree.specs.declared.side.Side.TheVariants.{Client, Adapter}
use Rattle.dap_profile.specs.declared.profile.Kind.{Kind}
use Rattle.dap_profile.specs.declared.profile.Kind.TheVariants.{Request, Response, Event}
use Rattle.dap_message.specs.{Message.Sent, SwapRules.{Half, SwapRule}}
use Rattle.dap_session.specs.Messages.{side_of, kind_of, name_of, seq_of, request_seq_of, same_kind}
use Rattle.dap_session.specs.Messages.{is_request, is_response, is_from, is_named, is_response_to}
use Rattle.dap_session.specs.Messages.{is_client_initialize, is_output, is_configuration_done}
use Rattle.dap_session.specs.Messages.{is_initialized, is_disconnect_success}

-- ---- messages that the rules name

-- The half has no name, or its name is that of the message.
abbrev pub fits_name : Option (List ℕ) → Sent → Bool
fits_name None m = true
fits_name (Some name) m = is_named name m

-- The half names the message.
abbrev pub fits_half : Half → Sent → Bool
fits_half h m = same_kind h.kind (kind_of m) && fits_name h.name m

-- One half names x and the other half names y.
abbrev pub names_both : SwapRule → Sent → Sent → Bool
names_both r x y =
    (fits_half r.one x && fits_half r.another y) || (fits_half r.one y && fits_half r.another x)

-- A rule names the message.
abbrev pub names : List SwapRule → Sent → Bool
names rules m = list_any (λ r. fits_half r.one m || fits_half r.another m) rules

-- ---- the classes of messages

-- Messages of the same class keep their order (own). All messages of the client form one class. The
-- adapter's responses to one request form a class, whatever their commands. Other messages of the
-- adapter are in the same class if they have the same kind and the same name.
pub data Class : Type 0 where
  of_client : Class
  to_number : Option ℤ → Class
  with_name : Kind → List ℕ → Class

abbrev pub class_of : Sent → Class
class_of m =
    cond (is_from Client m) of_client
    (cond (is_response m) (to_number (request_seq_of m)) (with_name (kind_of m) (name_of m)))

-- Responses of the adapter come first, then its events, its requests, and the client's messages. No
-- class of the form `with_name` has the kind `Response`.
abbrev pub kind_rank : Kind → ℕ
kind_rank Response = 3
kind_rank Event = 1
kind_rank Request = 2

abbrev pub class_rank : Class → ℕ
class_rank of_client = 4
class_rank (to_number n) = 0
class_rank (with_name k name) = kind_rank k

abbrev pub class_number : Class → Option ℤ
class_number of_client = None
class_number (to_number n) = n
class_number (with_name k name) = None

abbrev pub class_name : Class → List ℕ
class_name of_client = []
class_name (to_number n) = []
class_name (with_name k name) = name

-- By rank, then by number, then by name.
abbrev pub class_cmp : Class → Class → Ordering
class_cmp =
    then_cmp (on class_rank nat_cmp) (then_cmp (on class_number (option_cmp int_cmp))
    (on class_name (slice_cmp nat_cmp)))

abbrev pub same_class : Class → Class → Bool
same_class a b = is_eq (class_cmp a b)

abbrev pub less_class : Class → Class → Bool
less_class a b = is_lt (class_cmp a b)

-- ---- orders that no rule can change

-- The messages are in the same class.
abbrev pub of_one_class : Sent → Sent → Bool
of_one_class x y = same_class (class_of x) (class_of y)

-- x is a response to the request y (rules `NoRequest` and `OtherCommand`).
abbrev pub answers : Sent → Sent → Bool
answers x y = is_request y && is_response_to (side_of y) (seq_of y) x

-- The message is a response of the adapter to `initialize`.
abbrev pub is_initialize_response : Sent → Bool
is_initialize_response m = is_from Adapter m && is_response m && is_named (codes "initialize") m

-- The message is the client's `initialize` request or the adapter's response to `initialize`.
abbrev pub begins : Sent → Bool
begins m = is_client_initialize m || is_initialize_response m

-- x is the client's `initialize` request or the adapter's response to `initialize`, and y is not an
-- `output` event of the adapter (rules `NotInitialized` and `StillInitializing`).
abbrev pub initializes : Sent → Sent → Bool
initializes x y = begins x && not (is_output y)

-- x is an `initialized` event, and y is the client's `configurationDone` request (rule
-- `ConfiguredEarly`).
abbrev pub allows_configuration : Sent → Sent → Bool
allows_configuration x y = is_initialized x && is_configuration_done y

-- The message is a request of the client.
abbrev pub is_client_request : Sent → Bool
is_client_request m = is_from Client m && is_request m

-- x is a successful `disconnect` response, and y is a request of the client (rule
-- `AfterDisconnect`).
abbrev pub ends_requests : Sent → Sent → Bool
ends_requests x y = is_disconnect_success x && is_client_request y

-- A session rule fixes the order of x and y, whatever their ids are.
abbrev pub is_fixed : Sent → Sent → Bool
is_fixed x y = initializes x y || (allows_configuration x y || ends_requests x y)

-- The order of x and y is fixed: by their class, or by a session rule.
abbrev pub depends : Sent → Sent → Bool
depends x y = of_one_class x y || (answers x y || is_fixed x y)

-- A rule names both messages, and no session rule fixes their order, whatever their ids are.
abbrev pub may_swap : List SwapRule → Sent → Sent → Bool
may_swap rules x y =
    list_any (λ r. names_both r x y) rules && (not (is_fixed x y) && not (is_fixed y x))

-- The messages may be swapped if they are neighbours: a rule names both of them, and their order is
-- not fixed.
unfoldable pub free : List SwapRule → Sent → Sent → Bool
free rules x y = list_any (λ r. names_both r x y) rules && (not (depends x y) && not (depends y x))
