-- Grammars for incremental parsing. A grammar states which byte strings are complete (with a value
-- or with an error) and which are incomplete. Frames, records and trace pieces are instances.
use Rattle.std.specs.Prelude.{◌≡◌, ℕ, ◌⊎◌, List, [], ◌∷◌, ◌++◌, length, Result, Ok, Err}

-- A grammar. An *item* is a byte string that the grammar accepts, such as one frame.
pub record Grammar (Value Fault : Type 0) : Type 1 where
  -- `Ends bytes (Ok v)`: the bytes are one item with value v. `Ends bytes (Err f)`: their last byte
  -- proves error f.
  pub Ends : List ℕ → Result Value Fault → Type 0
  -- The bytes are incomplete: more bytes may turn them into an item.
  pub IsOpen : List ℕ → Type 0

module _ {Value Fault : Type 0} (g : Grammar Value Fault) where
  -- The bytes are one item with this value.
  abbrev pub IsItem : List ℕ → Value → Type 0
  IsItem bytes value = g.Ends bytes (Ok value)

  -- Some prefix of the bytes is an item or proves an error.
  pub record HasEnd (bytes : List ℕ) : Type 0 where
    pub front : List ℕ
    pub more : List ℕ
    pub result : Result Value Fault
    pub bytes_are : bytes ≡ front ++ more
    pub ends : g.Ends front result

  -- The grammar is prefix-free and total. At most one prefix ends, with one result (`one_end`). An
  -- extension of such a prefix is never incomplete (`end_not_open`). Bytes without such a prefix
  -- are incomplete (`some_end`).
  pub record IsGrammar : Type 0 where
    pub one_end : (front other rest more : List ℕ) (a b : Result Value Fault)
        → front ++ rest ≡ other ++ more → g.Ends front a → g.Ends other b
        → (front ≡ other) × (a ≡ b)
    pub end_not_open : (front more : List ℕ) (a : Result Value Fault) → g.Ends front a
        → g.IsOpen (front ++ more) → ⊥
    pub some_end : (bytes : List ℕ) → HasEnd bytes ⊎ g.IsOpen bytes

  -- The empty byte string is not an item.
  abbrev pub NoEmptyItem : Type 0
  NoEmptyItem = (value : Value) → IsItem [] value → ⊥

  -- The bytes start with an item.
  pub record HasItem (bytes : List ℕ) : Type 0 where
    pub item : List ℕ
    pub more : List ℕ
    pub value : Value
    pub bytes_are : bytes ≡ item ++ more
    pub is_item : IsItem item value

  -- Byte i of the bytes, counted from 1, proves this error.
  pub record FailsAt (bytes : List ℕ) (fault : Fault) (i : ℕ) : Type 0 where
    pub front : List ℕ
    pub more : List ℕ
    pub bytes_are : bytes ≡ front ++ more
    pub ends : g.Ends front (Err fault)
    pub place : i ≡ length front

  -- The bytes are the concatenation of items with these values.
  abbrev pub ParsesAs : List ℕ → List Value → Type 0
  ParsesAs bytes [] = bytes ≡ []
  ParsesAs bytes (value ∷ values) =
      (item : List ℕ) × (more : List ℕ) × IsItem item value × (bytes ≡ item ++ more)
      × ParsesAs more values

  -- The bytes are items with these values, followed by `rest`, which does not start with an item.
  pub record IsStream (bytes : List ℕ) (values : List Value) (rest : List ℕ) : Type 0 where
    pub front : List ℕ
    pub items : ParsesAs front values
    pub whole : bytes ≡ front ++ rest
    pub no_item : HasItem rest → ⊥
