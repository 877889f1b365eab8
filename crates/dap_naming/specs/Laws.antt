-- The laws that the functions of `laws` state.
use Rattle.std.specs.Prelude.{◌≡◌, ◌↔◌, true, List, ◌++◌, decimal, Contains}
use Rattle.dap_tree.specs.Doc.{Doc}
use Rattle.dap_tokens.specs.Naming.{Id, IsNumbering, Numbering, named_by, numbered}
use Rattle.dap_naming.specs.Numbers.{number, numbers, renumbered}
use Rattle.dap_naming.specs.Numbers.{AreRenamed, AreCountable}
use Rattle.dap_naming.specs.Documents.{Declared, ids_of, named_doc, skeleton_doc}
use Rattle.dap_naming.specs.Documents.{are_sound}
use Rattle.dap_naming.specs.Messages.{Message, all_sound, ids_of_all, named_each, named_all}
use Rattle.dap_naming.specs.Messages.{skeletons}

-- ---- numbers

-- Two lists of ids have equal numbers if and only if a one-to-one renaming turns one into the
-- other.
abbrev pub EqualNumbers : Type 0
EqualNumbers = (is js : List Id) → (numbers is ≡ numbers js) ↔ ∥ AreRenamed is js ∥₁

-- More ids do not change the number of an id.
abbrev pub NumbersStay : Type 0
NumbersStay = (is js : List Id) (i : Id) → Contains is i
    → number (is ++ js) i.0 i.1 ≡ number is i.0 i.1

-- The numbers of numbers are these numbers.
abbrev pub NumbersAreFresh : Type 0
NumbersAreFresh = (is : List Id) → AreCountable is → numbers (renumbered is) ≡ numbers is

-- ---- documents

-- Only the numbers of the ids of a document matter for its names.
abbrev pub OnlyOwnIdsMatter : Type 0
OnlyOwnIdsMatter = (rs : List Declared) (number other : Numbering) (d : Doc)
    → numbered number (ids_of rs d) ≡ numbered other (ids_of rs d)
    → named_doc rs number d ≡ named_doc rs other d

-- The ids of a named document are its numbers, in the same order.
abbrev pub NamesOfDocAreRead : Type 0
NamesOfDocAreRead = (rs : List Declared) (number : Numbering) (d : Doc) → are_sound rs ≡ true
    → IsNumbering number
    → ids_of rs (named_doc rs number d) ≡ named_by number (ids_of rs d)

-- Naming a named document replaces its numbers.
abbrev pub NamedDocTwice : Type 0
NamedDocTwice = (rs : List Declared) (number other : Numbering) (d : Doc) → are_sound rs ≡ true
    → IsNumbering number
    → named_doc rs other (named_doc rs number d)
    ≡ named_doc rs (λ label v. other label (decimal (number label v))) d

-- Two documents have the same named document if and only if they are the same except for their ids,
-- and their ids have equal labels and numbers.
abbrev pub EqualNamedDocs : Type 0
EqualNamedDocs = (rs : List Declared) (number other : Numbering) (d e : Doc)
    → are_sound rs ≡ true → IsNumbering number → IsNumbering other
    → (named_doc rs number d ≡ named_doc rs other e)
    ↔ ((skeleton_doc rs d ≡ skeleton_doc rs e)
    × (numbered number (ids_of rs d) ≡ numbered other (ids_of rs e)))

-- ---- lists of messages

-- Two lists have the same named list if and only if they are the same except for their ids, and a
-- one-to-one renaming turns the ids of one into those of the other.
abbrev pub EqualNamedLists : Type 0
EqualNamedLists = (ms ns : List Message) → all_sound ms ≡ true → all_sound ns ≡ true
    → AreCountable (ids_of_all ms) → AreCountable (ids_of_all ns)
    → (named_all ms ≡ named_all ns)
    ↔ ((skeletons ms ≡ skeletons ns) × ∥ AreRenamed (ids_of_all ms) (ids_of_all ns) ∥₁)

-- Naming a named list changes nothing.
abbrev pub NamedListStays : Type 0
NamedListStays = (ms : List Message) → all_sound ms ≡ true → AreCountable (ids_of_all ms)
    → named_all (named_all ms) ≡ named_all ms

-- More messages change no name: the messages after a prefix get the numbers of the whole list.
abbrev pub NamesOfPrefix : Type 0
NamesOfPrefix = (ms ns : List Message)
    → named_all (ms ++ ns) ≡ named_all ms ++ named_each (number (ids_of_all (ms ++ ns))) ns
