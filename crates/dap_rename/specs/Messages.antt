-- Lists of messages: their ids, when one list is a renaming of another, and the normal form.
use Rattle.std.specs.Prelude.{◌≡◌, ℕ, zero, suc, ◌+◌, ◌<◌, ◌≤◌, ℤ, Bool, true, ◌&&◌, eqb, List}
use Rattle.std.specs.Prelude.{[], ◌∷◌, ◌++◌}
use Rattle.std.specs.Prelude.{length, map}
use Rattle.std.specs.List.{AllByRecursion, flat_map}
use Rattle.dap_tree.specs.Ids.{ids, skeleton, with_ids}
use Rattle.dap_tree.specs.declared.sort.Sort.{Sort}
use Rattle.dap_tree.specs.declared.sort.Sort.TheVariants.{Frame, Reference}
use Rattle.dap_message.specs.Message.{Sent}
use Rattle.dap_message.specs.Numbers.{is_proper_number, is_proper}
use Rattle.dap_rename.specs.Numbering.{table, named, IsFresh}
use Rattle.dap_rename.specs.Renamings.{IsRenaming, AreRelated, pairs}
use Rattle.dap_rename.specs.Sorts.{all_sorts, same_sort}

-- ---- classes

-- A class of ids (own): a kind of id, and the number of restarts before it. Ids of different
-- classes are unrelated.
abbrev pub Class : Type 0
Class = Sort × ℕ

abbrev pub same_class : Class → Class → Bool
same_class c d = same_sort c.0 d.0 && eqb c.1 d.1

-- The class of an id of this kind after the given number of stops (own). Frame ids and variables
-- references are valid until the debuggee continues (DAP specification, "Lifetime of Objects
-- References"). All other ids have one class for the entire recording.
abbrev pub class_after : ℕ → Sort → Class
class_after stops Frame = (Frame, stops)
class_after stops Reference = (Reference, stops)
class_after stops s = (s, 0)

-- The number of stops that a message counts as, if classes never restart: 0 for every message
-- (own), so there is one class for each kind. In general, a function `stop` returns this number,
-- and the classes of frame ids and variables references restart after a stop.
abbrev pub no_stop : Sent → ℕ
no_stop m = 0

-- ---- ids

-- The occurrence of an id after the given number of stops.
abbrev pub occurrence : ℕ → Sort × ℤ → Class × ℤ
occurrence stops i = (class_after stops i.0, i.1)

-- A number of a class that may be an id. A variables reference of 0 is not an id (DAP
-- specification, Variable.variablesReference).
abbrev pub IsProperId : Class × ℤ → Type 0
IsProperId o = is_proper_number o.0.0 o.1 ≡ true

-- No id of the messages is a variables reference of 0.
abbrev pub AreProper : List Sent → Type 0
AreProper ms = AllByRecursion (λ m. is_proper m.doc ≡ true) ms

-- The message with 0 as the number of each id (own): two messages have the same skeleton if they
-- differ at most in the numbers of their ids.
abbrev pub message_skeleton : Sent → Sent
message_skeleton m = record { side = m.side; doc = skeleton m.doc }

-- The message with the i-th id set to the i-th number.
abbrev pub with_numbers : Sent → List ℤ → Sent
with_numbers m ns = record { side = m.side; doc = with_ids m.doc ns }

-- The canonical numbers of the ids of a message after these occurrences and the given number of
-- stops.
abbrev pub names_of : List (Class × ℤ) → ℕ → Sent → List ℤ
names_of before stops m =
    map (λ o. o.1) (named same_class before (map (occurrence stops) (ids m.doc)))

module _ (stop : Sent → ℕ) where
  -- The number of stops after the messages, if there were `stops` before them.
  abbrev pub stops_after : ℕ → List Sent → ℕ
  stops_after stops [] = stops
  stops_after stops (m ∷ ms) = stops_after (stops + stop m) ms

  -- All ids (own): in the order of the messages, and within a message in the order of its text.
  abbrev pub occurrences : ℕ → List Sent → List (Class × ℤ)
  occurrences stops [] = []
  occurrences stops (m ∷ ms) = map (occurrence stops) (ids m.doc) ++ occurrences (stops + stop m) ms

  -- The distinct numbers of a class in the messages, in the order of their first occurrence (own).
  abbrev pub numbers_of_class : Class → List Sent → List ℤ
  numbers_of_class c ms = table same_class c (occurrences 0 ms)

  -- No class has more distinct numbers than the limit of its kind (own).
  abbrev pub HasFewIds : (Sort → ℕ) → List Sent → Type 0
  HasFewIds limit ms = (c : Class) → length (numbers_of_class c ms) ≤ limit c.0

  -- Some class has more distinct numbers than the limit of its kind (own).
  pub record HasTooManyIds (limit : Sort → ℕ) (ms : List Sent) : Type 0 where
    pub of : Class
    pub many : limit of.0 < length (numbers_of_class of ms)

  -- ---- renamings

  -- The entries map the first list to the second (own). The messages are equal except for the
  -- numbers of their ids. For each id, an entry of its class maps its number in the first list to
  -- its number in the second.
  abbrev pub Carries : List (Class × ℤ × ℤ) → List Sent → List Sent → Type 0
  Carries r ms ns = (map message_skeleton ms ≡ map message_skeleton ns)
      × AreRelated r (occurrences 0 ms) (occurrences 0 ns)

  -- Some renaming maps the first list to the second (own).
  unfoldable pub AreSame : List Sent → List Sent → Type 0
  AreSame ms ns = (r : List (Class × ℤ × ℤ)) × IsRenaming IsProperId r × Carries r ms ns

  -- ---- the normal form

  -- The numbers are assigned by first appearance: each id occurred earlier in its class, or is one
  -- more than the count of distinct numbers before it (own).
  abbrev pub AreFresh : List Sent → Type 0
  AreFresh ms = IsFresh same_class (occurrences 0 ms)

  -- n is a normal form of ms: the same messages, with numbers assigned by first appearance (own).
  unfoldable pub IsNormal : List Sent → List Sent → Type 0
  IsNormal ms n = AreSame ms n × AreFresh n

  -- `new` is the message m with the canonical numbers of its ids after the messages ms (own).
  pub record IsRenamed (ms : List Sent) (m new : Sent) : Type 0 where
    pub skeleton : message_skeleton new ≡ message_skeleton m
    pub names : map (occurrence (stops_after 0 ms)) (ids new.doc)
        ≡ named same_class (occurrences 0 ms) (map (occurrence (stops_after 0 ms)) (ids m.doc))

  -- The messages with the canonical numbers of their ids, after these occurrences and the given
  -- number of stops.
  abbrev pub normal_from : List (Class × ℤ) → ℕ → List Sent → List Sent
  normal_from before stops [] = []
  normal_from before stops (m ∷ ms) =
      record { side = m.side; doc = with_ids m.doc (names_of before stops m) }
      ∷ normal_from (before ++ map (occurrence stops) (ids m.doc)) (stops + stop m) ms

  -- The messages with the canonical numbers of their ids (own).
  abbrev pub normal_of : List Sent → List Sent
  normal_of ms = normal_from [] 0 ms

-- ---- the classes in order

-- The first n classes of a kind.
abbrev pub first_classes : Sort → ℕ → List Class
first_classes s zero = []
first_classes s (suc n) = first_classes s n ++ (s, n) ∷ []

-- The classes of a kind after the given number of stops: the class before all stops, and one after
-- each stop, if the kind restarts.
abbrev pub classes_of_sort : ℕ → Sort → List Class
classes_of_sort stops s = first_classes s (suc (class_after stops s).1)

-- All classes after the given number of stops, ordered by kind, then by stop.
abbrev pub all_classes : ℕ → List Class
all_classes stops = flat_map (classes_of_sort stops) all_sorts

-- Class by class, pairs the i-th distinct number of the first list with the i-th of the second
-- (own).
abbrev pub equal_places : (Sent → ℕ) → List Sent → List Sent → List (Class × ℤ × ℤ)
equal_places stop ms ns =
    pairs same_class (all_classes (stops_after stop 0 ms)) (occurrences stop 0 ms)
    (occurrences stop 0 ns)
