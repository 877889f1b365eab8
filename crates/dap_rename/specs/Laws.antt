-- The theorems that the functions of `laws` state. They hold for any function `stop`, which decides
-- after which messages classes restart. This includes the mode `Whole`.
use Rattle.std.specs.Prelude.{◌≡◌, ℕ, suc, ◌<◌, ◌^◌, pos, ℤ, Bool, true, not, List, [], ◌∷◌, ◌++◌}
use Rattle.std.specs.Prelude.{length, map}
use Rattle.std.specs.List.{AllByRecursion, filter}
use Rattle.dap_tree.specs.Ids.{ids}
use Rattle.dap_tree.specs.declared.sort.Sort.{Sort}
use Rattle.dap_message.specs.Message.{Sent}
use Rattle.dap_message.specs.Numbers.{is_proper, has_small_ids}
use Rattle.dap_rename.specs.Numbering.{named}
use Rattle.dap_rename.specs.Renamings.{IsIn, IsRenaming}
use Rattle.dap_rename.specs.Messages.{Class, IsProperId, AreProper, same_class, message_skeleton}
use Rattle.dap_rename.specs.Messages.{occurrences, numbers_of_class, HasFewIds, Carries, AreSame}
use Rattle.dap_rename.specs.Messages.{AreFresh, IsNormal, IsRenamed, normal_of, no_stop}
use Rattle.dap_rename.specs.Messages.{equal_places}
use Rattle.dap_rename.specs.Modes.{stop_in}
use Rattle.dap_rename.specs.declared.mode.Mode.{Mode}

-- Messages that differ at most in the numbers of their ids count as equally many stops.
abbrev pub IsToldBySkeleton : (Sent → ℕ) → Type 0
IsToldBySkeleton stop = (m n : Sent) → message_skeleton m ≡ message_skeleton n → stop m ≡ stop n

-- This holds if no message counts as a stop.
abbrev pub WholeIffRenaming : Type 0
WholeIffRenaming = IsToldBySkeleton no_stop

-- This holds in every mode.
abbrev pub ModeIffRenaming : Type 0
ModeIffRenaming = (mode : Mode) → IsToldBySkeleton (stop_in mode)

-- ---- being the same

-- A list without a variables reference of 0 is the same as itself.
abbrev pub SameAsItself : Type 0
SameAsItself = (stop : Sent → ℕ) (ms : List Sent) → AreProper ms → AreSame stop ms ms

abbrev pub SameBothWays : Type 0
SameBothWays = (stop : Sent → ℕ) (ms ns : List Sent) → AreSame stop ms ns → AreSame stop ns ms

abbrev pub SameAlong : Type 0
SameAlong = (stop : Sent → ℕ) (ms ns ks : List Sent) → AreSame stop ms ns → AreSame stop ns ks
    → AreSame stop ms ks

-- Lists that are the same have no variables reference of 0.
abbrev pub SameIsProper : Type 0
SameIsProper = (stop : Sent → ℕ) (ms ns : List Sent) → AreSame stop ms ns
    → AreProper ms × AreProper ns

-- Prefixes of lists that are the same are the same, if they have equal length.
abbrev pub SameFronts : Type 0
SameFronts = (stop : Sent → ℕ) (ms more ns rest : List Sent) → length ms ≡ length ns
    → AreSame stop (ms ++ more) (ns ++ rest) → AreSame stop ms ns

-- Lists that are the same have equally many distinct numbers in each class.
abbrev pub SameCounts : Type 0
SameCounts = (stop : Sent → ℕ) (ms ns : List Sent) → AreSame stop ms ns → (c : Class)
    → length (numbers_of_class stop c ms) ≡ length (numbers_of_class stop c ns)

-- If a list has no more ids than the limits allow, neither does a prefix.
abbrev pub FrontHasFewIds : Type 0
FrontHasFewIds = (stop : Sent → ℕ) (limit : Sort → ℕ) (ms more : List Sent)
    → HasFewIds stop limit (ms ++ more) → HasFewIds stop limit ms

-- Lists that are the same in the mode `Whole` are the same in every mode.
abbrev pub SameInEachMode : Type 0
SameInEachMode = (mode : Mode) (ms ns : List Sent) → AreSame no_stop ms ns
    → AreSame (stop_in mode) ms ns

-- ---- additional ids

-- The ids whose kinds pass the test.
abbrev pub of_sorts : (Sort → Bool) → List (Sort × ℤ) → List (Sort × ℤ)
of_sorts p is = filter (λ i. p i.0) is

-- The messages o and q differ at most in the numbers of their ids. The ids whose kinds pass the
-- test are equal in both; the others are the ids of m and of n.
pub record IsMixed (p : Sort → Bool) (m n o q : Sent) : Type 0 where
  pub skeleton : message_skeleton o ≡ message_skeleton q
  pub equal : of_sorts p (ids o.doc) ≡ of_sorts p (ids q.doc)
  pub of_first : of_sorts (λ s. not (p s)) (ids o.doc) ≡ ids m.doc
  pub of_second : of_sorts (λ s. not (p s)) (ids q.doc) ≡ ids n.doc

-- The same message by message.
abbrev pub AreMixed : (Sort → Bool) → List Sent → List Sent → List Sent → List Sent → Type 0
AreMixed p [] [] [] [] = Unit {0}
AreMixed p (m ∷ ms) (n ∷ ns) (o ∷ os) (q ∷ qs) = IsMixed p m n o q × AreMixed p ms ns os qs
AreMixed p _ _ _ _ = ⊥

-- If two lists are the same, so are two lists with their ids and additional ids that are equal in
-- both.
abbrev pub SameByParts : Type 0
SameByParts = (p : Sort → Bool) (ms ns os qs : List Sent) → AreSame no_stop ms ns
    → AreMixed p ms ns os qs → AreProper os → AreProper qs → AreSame no_stop os qs

-- ---- the normal form

-- Fresh lists that are the same are equal.
abbrev pub FreshIsUnique : Type 0
FreshIsUnique = (stop : Sent → ℕ) (n k : List Sent) → AreSame stop n k → AreFresh stop n
    → AreFresh stop k → n ≡ k

-- Lists that are the same have the same normal form.
abbrev pub NormalIsUnique : Type 0
NormalIsUnique = (stop : Sent → ℕ) (ms ns n k : List Sent) → AreSame stop ms ns → IsNormal stop ms n
    → IsNormal stop ns k → n ≡ k

-- Lists with the same normal form are the same.
abbrev pub NormalIsComplete : Type 0
NormalIsComplete = (stop : Sent → ℕ) (ms ns n : List Sent) → IsNormal stop ms n → IsNormal stop ns n
    → AreSame stop ms ns

-- A list with the canonical numbers of its ids is a normal form.
abbrev pub NamedIsNormal : Type 0
NamedIsNormal = (stop : Sent → ℕ) (ms n : List Sent) → AreProper ms
    → map message_skeleton n ≡ map message_skeleton ms
    → occurrences stop 0 n ≡ named same_class [] (occurrences stop 0 ms) → IsNormal stop ms n

-- The messages with the canonical numbers of their ids are a normal form. Therefore every list
-- without a variables reference of 0 has one.
abbrev pub SomeNormal : Type 0
SomeNormal = (stop : Sent → ℕ) → IsToldBySkeleton stop → (ms : List Sent) → AreProper ms
    → IsNormal stop ms (normal_of stop ms)

-- A normal form is its own normal form.
abbrev pub NormalIsItsOwn : Type 0
NormalIsItsOwn = (stop : Sent → ℕ) (ms n : List Sent) → IsNormal stop ms n → IsNormal stop n n

-- The normal form of a list starts with a normal form of each prefix of the list.
abbrev pub NormalOfFront : Type 0
NormalOfFront = (stop : Sent → ℕ) → IsToldBySkeleton stop → (ms more n : List Sent)
    → IsNormal stop (ms ++ more) n →
    (front : List Sent) × (rest : List Sent) × (n ≡ front ++ rest) × IsNormal stop ms front

-- The normal form of a list with one more message is the normal form of the list, followed by that
-- message with its canonical numbers.
abbrev pub NormalOfNext : Type 0
NormalOfNext = (stop : Sent → ℕ) → IsToldBySkeleton stop → (ms n : List Sent) (m new : Sent)
    → is_proper m.doc ≡ true → IsNormal stop ms n → IsRenamed stop ms m new
    → IsNormal stop (ms ++ m ∷ []) (n ++ new ∷ [])

-- A canonical number is from 1 to the number of distinct numbers of its class.
abbrev pub NamesAreCounted : Type 0
NamesAreCounted = (stop : Sent → ℕ) (ms n : List Sent) → IsNormal stop ms n → (c : Class) (x : ℤ)
    → IsIn (c, x) (occurrences stop 0 n) →
    (k : ℕ) × (x ≡ pos (suc k)) × (k < length (numbers_of_class stop c ms))

-- Therefore canonical numbers are small if there are few ids.
abbrev pub NamesAreSmall : Type 0
NamesAreSmall = (stop : Sent → ℕ) (limit : Sort → ℕ) (ms n : List Sent)
    → ((s : Sort) → limit s < 2 ^ 31) → HasFewIds stop limit ms → IsNormal stop ms n
    → AllByRecursion (λ m. has_small_ids m.doc ≡ true) n

-- ---- renamings

-- Pairing the distinct numbers of two lists by position is a renaming, for any two lists without a
-- variables reference of 0.
abbrev pub EqualPlacesRename : Type 0
EqualPlacesRename = (stop : Sent → ℕ) (ms ns : List Sent) → AreProper ms → AreProper ns
    → IsRenaming IsProperId (equal_places stop ms ns)

-- This renaming maps the first list to the second, if they are the same.
abbrev pub EqualPlacesCarry : Type 0
EqualPlacesCarry = (stop : Sent → ℕ) (ms ns : List Sent) → AreSame stop ms ns
    → Carries stop (equal_places stop ms ns) ms ns
