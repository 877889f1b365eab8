-- Byte strings start with at most one item, prove at most one error, or are incomplete. An error
-- keeps its position.
use Rattle.std.proofs.Common.{◌<◌, [], ◌∷◌, ◌≡◌, ℕ, suc, ◌+◌, ◌-◌, ◌≤◌, ◌⊎◌, inl, inr, List, ◌++◌}
use Rattle.std.proofs.Common.{length, take, drop, get_or, Result, Ok, Err, refl, sym, ap, ◌∙◌}
use Rattle.std.proofs.Common.{subst, arith}
use Rattle.std.proofs.lemmas.List.{append_assoc, append-nil, length-append, length-take-le, take_at}
use Rattle.std.proofs.lemmas.List.{take-append-le, take-append-drop}
use Rattle.std.proofs.lemmas.Bool.{cases_lt}
use Rattle.std.proofs.Math.Seq.{drop-cons}
use Rattle.dap_frame.specs.Grammar.{Grammar, IsItem, IsGrammar, NoEmptyItem, HasItem, FailsAt}
use Rattle.dap_frame.proofs.Fronts.{shorter_front}

-- the statement for every byte string
abbrev pub Outcome : {Value Fault : Type 0} → Grammar Value Fault → List ℕ → Type 0
Outcome {Value = Value} {Fault = Fault} g bytes = HasItem g bytes
    ⊎ (((fault : Fault) × (i : ℕ) × FailsAt g bytes fault i) ⊎ g.IsOpen bytes)

module _ {Value Fault : Type 0} {g : Grammar Value Fault} where
  pub shown_within : (bytes : List ℕ) (fault : Fault) (i : ℕ) → FailsAt g bytes fault i
      → i ≤ length bytes
  shown_within bytes fault i shows =
      omega (arith, shows.place, ap length shows.bytes_are, length-append shows.front shows.more)

  pub fault_stays : (bytes more : List ℕ) (fault : Fault) (i : ℕ) → FailsAt g bytes fault i
      → FailsAt g (bytes ++ more) fault i
  fault_stays bytes more fault i shows = record {
    front = shows.front;
    more = shows.more ++ more;
    bytes_are = ap (λ xs. xs ++ more) shows.bytes_are ∙ append_assoc shows.front shows.more more;
    ends = shows.ends;
    place = shows.place;
  }

  pub fault_early : (bytes more : List ℕ) (fault : Fault) (i : ℕ)
      → FailsAt g (bytes ++ more) fault i
      → i ≤ length bytes → FailsAt g bytes fault i
  fault_early bytes more fault i shows within =
      let front : take i bytes ≡ shows.front =
      sym (take-append-le i bytes more within) ∙ ap (take i) shows.bytes_are
      ∙ take_at shows.front shows.more i (sym shows.place) in
      record {
        front = shows.front;
        more = drop i bytes;
        bytes_are = sym (take-append-drop i bytes) ∙ ap (λ xs. xs ++ drop i bytes) front;
        ends = shows.ends;
        place = shows.place;
      }

  -- an item at the start of some bytes is also one at the start of more bytes
  pub item_of_more : (bytes more : List ℕ) → HasItem g bytes → HasItem g (bytes ++ more)
  item_of_more bytes more has = record {
    item = has.item;
    more = has.more ++ more;
    value = has.value;
    bytes_are = ap (λ xs. xs ++ more) has.bytes_are ∙ append_assoc has.item has.more more;
    is_item = has.is_item;
  }

-- The byte after incomplete bytes that proves an error, and the incomplete bytes before it.
pub record IsShownByByte {Value Fault : Type 0} (g : Grammar Value Fault) (bytes more : List ℕ)
    (fault : Fault) (i : ℕ) : Type 0 where
  pub front : List ℕ
  pub byte : ℕ
  pub behind : List ℕ
  pub split : more ≡ front ++ byte ∷ behind
  pub is_open : g.IsOpen (bytes ++ front)
  pub shows : FailsAt g ((bytes ++ front) ++ byte ∷ []) fault i

module _ {Value Fault : Type 0} {g : Grammar Value Fault} (is : IsGrammar g) where
  pub one_item : (f h y z : List ℕ) (v w : Value) → f ++ y ≡ h ++ z → IsItem g f v → IsItem g h w
      → (f ≡ h) × (v ≡ w)
  one_item f h y z v w e p q = let one = is.one_end f h y z (Ok v) (Ok w) e p q in (one.0, cc)

  pub one_fault : (bytes : List ℕ) (f h : Fault) (i j : ℕ) → FailsAt g bytes f i
      → FailsAt g bytes h j
      → (f ≡ h) × (i ≡ j)
  one_fault bytes f h i j p q =
      let one = is.one_end p.front q.front p.more q.more (Err f) (Err h) (sym p.bytes_are
      ∙ q.bytes_are) p.ends q.ends in
      (cc, p.place ∙ ap length one.0 ∙ sym q.place)

  pub item_not_faulty : (item more : List ℕ) (value : Value) (fault : Fault) (i : ℕ)
      → IsItem g item value → FailsAt g (item ++ more) fault i → ⊥
  item_not_faulty item more value fault i p q =
      let one = is.one_end item q.front more q.more (Ok value) (Err fault) q.bytes_are p q.ends in
      cc

  pub item_not_open : (item more : List ℕ) (value : Value) → IsItem g item value
      → g.IsOpen (item ++ more) → ⊥
  item_not_open item more value = is.end_not_open item more (Ok value)

  pub open_not_faulty : (bytes : List ℕ) (fault : Fault) (i : ℕ) → g.IsOpen bytes
      → FailsAt g bytes fault i → ⊥
  open_not_faulty bytes fault i is_open shows =
      is.end_not_open shows.front shows.more (Err fault) shows.ends
      (subst g.IsOpen shows.bytes_are is_open)

  by_end : (bytes front more : List ℕ) (result : Result Value Fault) → bytes ≡ front ++ more
      → g.Ends front result → Outcome g bytes
  by_end bytes front more (Ok value) e item =
      inl (record { item = front; more = more; value = value; bytes_are = e; is_item = item })
  by_end bytes front more (Err fault) e shown =
      inr (inl (
        fault,
        length front,
        record { front = front; more = more; bytes_are = e; ends = shown; place = refl },
      ))

  pub some_outcome : (bytes : List ℕ) → Outcome g bytes
  some_outcome bytes =
      elim (is.some_end bytes) [
        | inl has ↦ by_end bytes has.front has.more has.result has.bytes_are has.ends
        | inr is_open ↦ inr (inr is_open)
      ]

  -- an incomplete prefix of bytes that start with an item is shorter than the item
  pub open_shorter : (bytes rest item more : List ℕ) (value : Value) → g.IsOpen bytes
      → bytes ++ rest ≡ item ++ more → IsItem g item value → length bytes < length item
  open_shorter bytes rest item more value is_open same is_item =
      elim (cases_lt (length bytes) (length item)) [
        | inl less ↦ less
        | inr long ↦ absurd
            (item_not_open item (drop (length item) bytes) value is_item
            (subst g.IsOpen (shorter_front bytes item rest more same long) is_open))
      ]

  -- with one more byte, incomplete bytes are an item, prove an error, or are still incomplete
  pub one_more : (bytes : List ℕ) (byte : ℕ) → g.IsOpen bytes
      → let more : List ℕ = bytes ++ byte ∷ [] in
      ((value : Value) × IsItem g more value)
      ⊎ (((fault : Fault) × (i : ℕ) × FailsAt g more fault i) ⊎ g.IsOpen more)
  one_more bytes byte is_open =
      elim (some_outcome (bytes ++ byte ∷ [])) [
        | inl has ↦ inl
            (has.value, subst (λ xs. IsItem g xs has.value) (all has has.more refl) has.is_item)
        | inr other ↦ inr other
      ]
    where
      all : (has : HasItem g (bytes ++ byte ∷ [])) (more : List ℕ) → has.more ≡ more
          → has.item ≡ bytes ++ byte ∷ []
      all has [] none = sym (has.bytes_are ∙ ap (λ xs. has.item ++ xs) none ∙ append-nil has.item)
      all has (b ∷ more) some =
          let less = open_shorter bytes (byte ∷ []) has.item has.more has.value is_open
          has.bytes_are has.is_item in
          absurd (omega (
            arith,
            less,
            ap length has.bytes_are,
            length-append has.item has.more,
            length-append bytes (byte ∷ []),
            ap length some,
          ))

  -- neither incomplete bytes nor bytes that prove an error start with an item
  pub open_has_no_item : (rest : List ℕ) → g.IsOpen rest → HasItem g rest → ⊥
  open_has_no_item rest is_open has =
      item_not_open has.item has.more has.value has.is_item (subst g.IsOpen has.bytes_are is_open)

  pub faulty_has_no_item : (rest : List ℕ) (fault : Fault) (i : ℕ) → FailsAt g rest fault i
      → HasItem g rest → ⊥
  faulty_has_no_item rest fault i shows has =
      item_not_faulty has.item has.more has.value fault i has.is_item
      (subst (λ xs. FailsAt g xs fault i) has.bytes_are shows)

  -- an error is proved by a byte after the bytes that were incomplete, which is one of the bytes
  pub shown_later : (bytes more : List ℕ) (fault : Fault) (i : ℕ) → g.IsOpen bytes
      → FailsAt g (bytes ++ more) fault i → length bytes < i
  shown_later bytes more fault i is_open shows =
      elim (cases_lt (length bytes) i) [
        | inl later ↦ later
        | inr early ↦ absurd
            (open_not_faulty bytes fault i is_open (fault_early bytes more fault i shows early))
      ]

  -- the bytes before it were incomplete
  pub open_before : (bytes more : List ℕ) (fault : Fault) (i : ℕ) → length bytes < i
      → FailsAt g (bytes ++ more) fault i → g.IsOpen bytes
  open_before bytes more fault i later shows =
      elim (is.some_end bytes) [
        | inl has ↦
            (let same = is.one_end has.front shows.front (has.more ++ more) shows.more has.result
            (Err fault)
            (cc (append_assoc has.front has.more more, has.bytes_are, shows.bytes_are)) has.ends
            shows.ends in
            absurd (omega (
              arith,
              ap length same.0,
              shows.place,
              later,
              ap length has.bytes_are,
              length-append has.front has.more,
            )))
        | inr is_open ↦ is_open
      ]

  pub shown_by_byte : (bytes more : List ℕ) (fault : Fault) (i : ℕ) → g.IsOpen bytes
      → FailsAt g (bytes ++ more) fault i → IsShownByByte g bytes more fault i
  shown_by_byte bytes more fault i is_open shows =
      let later = shown_later bytes more fault i is_open shows in
      let n : ℕ = i - 1 - length bytes in
      let inside : n < length more =
      omega (arith, later, shown_within (bytes ++ more) fault i shows, length-append bytes more)
      in
      let front : List ℕ = bytes ++ take n more in
      let byte : ℕ = get_or more n 0 in
      let behind : List ℕ = drop (suc n) more in
      let split : more ≡ take n more ++ byte ∷ behind =
      sym (take-append-drop n more)
      ∙ ap (λ xs. take n more ++ xs) (drop-cons more n 0 inside) in
      let shown : FailsAt g (front ++ byte ∷ behind) fault i =
      subst (λ xs. FailsAt g xs fault i) (ap (λ xs. bytes ++ xs) split
      ∙ sym (append_assoc bytes (take n more) (byte ∷ behind))) shows in
      let at : i ≡ length front + 1 =
      omega (
        arith,
        later,
        length-append bytes (take n more),
        length-take-le n more (omega arith),
      ) in
      record {
        front = take n more;
        byte = byte;
        behind = behind;
        split = split;
        is_open = open_before front (byte ∷ behind) fault i (omega arith) shown;
        shows = fault_early (front ++ byte ∷ []) behind fault i
            (subst (λ xs. FailsAt g xs fault i) (sym (append_assoc front (byte ∷ []) behind)) shown)
            (omega (arith, at, length-append front (byte ∷ [])));
      }

  -- no item ends before the last byte of an item
  pub no_item_before : (bytes more : List ℕ) (byte : ℕ) (value : Value)
      → IsItem g (bytes ++ byte ∷ more) value → HasItem g bytes → ⊥
  no_item_before bytes more byte value item has =
      let same = is.one_end has.item (bytes ++ byte ∷ more) (has.more ++ byte ∷ more) []
      (Ok has.value) (Ok value)
      (cc (
        has.bytes_are,
        append_assoc has.item has.more (byte ∷ more),
        append-nil (bytes ++ byte ∷ more),
      )) has.is_item item in
      omega (
        arith,
        ap length same.0,
        ap length has.bytes_are,
        length-append has.item has.more,
        length-append bytes (byte ∷ more),
      )

-- The conditions for reading items: they have a grammar, and the empty byte string is incomplete.
-- Each item and each error then has at least one byte.
pub record IsReadable {Value Fault : Type 0} (g : Grammar Value Fault) : Type 0 where
  pub grammar : IsGrammar g
  pub open_none : g.IsOpen []

module _ {Value Fault : Type 0} {g : Grammar Value Fault} (is : IsReadable g) where
  pub not_empty : NoEmptyItem g
  not_empty value item = item_not_open is.grammar [] [] value item is.open_none

  pub shown_inside : (bytes : List ℕ) (fault : Fault) (i : ℕ) → FailsAt g bytes fault i
      → (0 < i) × (i ≤ length bytes)
  shown_inside bytes fault i shows =
      (shown_later is.grammar [] bytes fault i is.open_none shows, shown_within bytes fault i shows)
