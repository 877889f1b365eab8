-- Grammars made from other grammars: one item after another, mapped errors, a prefix and the byte
-- that ends it, a fixed number of bytes.
use Rattle.std.specs.Prelude.{◌≡◌, ℕ, ◌<◌, List, [], ◌∷◌, ◌++◌, length, Result, Ok, Err}
use Rattle.dap_frame.specs.Grammar.{Grammar, IsItem}

module _ {A B E F : Type 0} (g : Grammar A E) (h : A → Grammar B F) (of_first : E → F) where
  -- The first item has an error; or it is complete, and the second one, chosen by its value, ends
  -- after it.
  pub data EndsThen (bytes : List ℕ) (result : Result B F) : Type 0 where
    in_first : (fault : E) → g.Ends bytes (Err fault) → result ≡ Err (of_first fault)
        → EndsThen bytes result
    in_second : (front more : List ℕ) (a : A) → bytes ≡ front ++ more → IsItem g front a
        → (h a).Ends more result → EndsThen bytes result

  -- The first item is incomplete; or it is complete, and the bytes after it are incomplete for the
  -- second one.
  pub data IsOpenThen (bytes : List ℕ) : Type 0 where
    first_open : g.IsOpen bytes → IsOpenThen bytes
    second_open : (front more : List ℕ) (a : A) → bytes ≡ front ++ more → IsItem g front a
        → (h a).IsOpen more → IsOpenThen bytes

  -- an item of the first grammar, followed by one of the grammar that its value selects
  abbrev pub and_then : Grammar B F
  and_then = record { Ends = EndsThen; IsOpen = IsOpenThen }

module _ {A E F : Type 0} (of_fault : E → F) (g : Grammar A E) where
  -- The same ends, with each error mapped by `of_fault`.
  abbrev pub EndsAs : List ℕ → Result A F → Type 0
  EndsAs bytes (Ok value) = g.Ends bytes (Ok value)
  EndsAs bytes (Err reported) = (fault : E) × (reported ≡ of_fault fault) × g.Ends bytes (Err fault)

  -- the same items, with mapped errors
  abbrev pub map_fault : Grammar A F
  map_fault = record { Ends = EndsAs; IsOpen = g.IsOpen }

-- an admissible prefix, and the byte after it if that byte determines a value or proves an error
abbrev pub until : {A F : Type 0} → (List ℕ → Type 0) → (List ℕ → ℕ → Result A F → Type 0)
    → Grammar A F
until IsFront Says = record {
  Ends = λ bytes result. (front : List ℕ) × (byte : ℕ) × (bytes ≡ front ++ byte ∷ [])
      × IsFront front × Says front byte result;
  IsOpen = IsFront;
}

-- one byte, which determines a value or proves an error
abbrev pub one_byte : {A F : Type 0} → (ℕ → Result A F → Type 0) → Grammar A F
one_byte Says = until (λ front. front ≡ []) (λ front. Says)

-- exactly n bytes of any value, and their value
abbrev pub take_bytes : {A F : Type 0} → (List ℕ → A) → ℕ → Grammar A F
take_bytes value n = record {
  Ends = λ bytes result. (result ≡ Ok (value bytes)) × (length bytes ≡ n);
  IsOpen = λ bytes. length bytes < n;
}
