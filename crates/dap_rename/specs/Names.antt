-- The model of `Names`: the mode, the stops so far, the numbers of each class, and the messages
-- that it represents.
use Rattle.std.specs.Prelude.{◌≡◌, ℕ, ◌+◌, ℤ, Bool, cond, List, [], ◌∷◌, ◌++◌, length, map}
use Rattle.std.specs.Prelude.{slice_index_or}
use Rattle.dap_tree.specs.declared.sort.Sort.{Sort}
use Rattle.dap_tree.specs.declared.sort.Sort.TheVariants.{Frame, Reference}
use Rattle.dap_message.specs.Message.{Sent}
use Rattle.dap_rename.specs.Messages.{Class, stops_after, numbers_of_class, HasFewIds}
use Rattle.dap_rename.specs.Modes.{stop_in}
use Rattle.dap_rename.specs.Sorts.{EachSort}
use Rattle.dap_rename.specs.Tables.{table_of, lists, added_all}
use Rattle.dap_rename.specs.declared.mode.Mode.{Mode}
use Rattle.dap_rename.specs.declared.names.Names.{Names}
use Rattle.dap_rename.specs.declared.past.PastClasses.{PastClasses}
use Rattle.dap_rename.specs.declared.tables.Tables.{Tables}

-- All tables are empty.
abbrev pub AreEmpty : {T : Type 0} → (T → List ℤ) → Tables T → Type 0
AreEmpty numbers t = EachSort (λ s. numbers (table_of t s) ≡ [])

-- The mode, which decides when classes restart.
abbrev pub mode_of : {T : Type 0} → Names T → Mode
mode_of names = names.mode

-- The number of stops so far.
abbrev pub stops_of : {T : Type 0} → Names T → ℕ
stops_of names = length names.past.items

-- The maximum number of ids of a kind in one class.
abbrev pub limit_in : {T : Type 0} → (T → ℕ) → Names T → Sort → ℕ
limit_in limit names s = limit (table_of names.tables s)

-- ---- the numbers of a class

-- The numbers of the ended classes of a kind, in the order of their stops.
abbrev pub past_lists : List PastClasses → Sort → List (List ℤ)
past_lists past Frame = map (λ p. p.frames.items) past
past_lists past Reference = map (λ p. p.references.items) past
past_lists past s = []

-- The numbers of a class, from those of the ended classes and of the present class of its kind;
-- empty for a class that is not reached.
abbrev pub list_of_class : (Sort → List (List ℤ)) → (Sort → List ℤ) → Class → List ℤ
list_of_class past now c = slice_index_or (past c.0 ++ now c.0 ∷ []) c.1 []

-- The numbers of a class: the i-th one has the canonical number i.
abbrev pub numbers_at : {T : Type 0} → (T → List ℤ) → Names T → Class → List ℤ
numbers_at numbers names =
    list_of_class (past_lists names.past.items) (λ s. numbers (table_of names.tables s))

-- ---- the messages

-- Abstraction relation: the names represent the messages, where `stop` counts stops (own). They
-- have counted as many stops, and contain the distinct numbers of each class in the order of their
-- first occurrence. No class has more numbers than the limit of its kind.
module _ {T : Type 0} (stop : Sent → ℕ) (numbers : T → List ℤ) (limit : T → ℕ) where
  pub record RepresentsWith (names : Names T) (ms : List Sent) : Type 0 where
    pub stops : stops_of names ≡ stops_after stop 0 ms
    pub classes : (c : Class) → numbers_at numbers names c ≡ numbers_of_class stop c ms
    pub few : HasFewIds stop (limit_in limit names) ms

-- The same in the mode of the names.
abbrev pub Represents : {T : Type 0} → (T → List ℤ) → (T → ℕ) → Names T → List Sent → Type 0
Represents numbers limit names = RepresentsWith (stop_in (mode_of names)) numbers limit names

-- No class has a number.
abbrev pub HaveNoNumbers : {T : Type 0} → (T → List ℤ) → Names T → Type 0
HaveNoNumbers numbers names = (c : Class) → numbers_at numbers names c ≡ []

module _ {T : Type 0} (numbers : T → List ℤ) where
  -- The names are unchanged.
  pub record AreUnchanged (old new : Names T) : Type 0 where
    pub mode : mode_of new ≡ mode_of old
    pub stops : stops_of new ≡ stops_of old
    pub classes : (c : Class) → numbers_at numbers new c ≡ numbers_at numbers old c

  -- Both have the same mode and equally many stops, and each class has equally many numbers in
  -- both.
  pub record HaveEqualCounts (a b : Names T) : Type 0 where
    pub mode : mode_of a ≡ mode_of b
    pub stops : stops_of a ≡ stops_of b
    pub classes : (c : Class) → length (numbers_at numbers a c) ≡ length (numbers_at numbers b c)

  -- For private clauses: the canonical numbers of the ids were assigned, and if `again` is true,
  -- classes restarted after them.
  pub record AreNamed (old new : Names T) (is : List (Sort × ℤ)) (again : Bool) : Type 0 where
    pub stops : stops_of new ≡ stops_of old + cond again 1 0
    pub classes : (c : Class) → numbers_at numbers new c
        ≡ list_of_class (past_lists old.past.items)
        (table_of (added_all (lists numbers old.tables) is)) c

  -- For private clauses: the next class of frame ids and the next class of variables references
  -- started, without numbers. All other classes are unchanged.
  pub record BeginAgain (old new : Names T) : Type 0 where
    pub stops : stops_of new ≡ stops_of old + 1
    pub classes : (c : Class) → numbers_at numbers new c ≡ numbers_at numbers old c
