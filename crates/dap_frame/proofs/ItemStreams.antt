-- Bytes are exactly one stream of items, and one more item makes a longer stream.
use Rattle.std.proofs.Common.{◌≡◌, ◌⊎◌, ℕ, zero, suc, ◌<◌, ◌≤◌, inl, inr, List, [], ◌∷◌, ◌++◌}
use Rattle.std.proofs.Common.{length, refl, sym, ap, ◌∙◌, subst, arith}
use Rattle.std.proofs.lemmas.List.{append_assoc, append-nil, append_cancel_left, length-append}
use Rattle.dap_frame.specs.Grammar.{Grammar, IsItem, IsGrammar, NoEmptyItem, HasItem, ParsesAs}
use Rattle.dap_frame.specs.Grammar.{IsStream, FailsAt}
use Rattle.dap_frame.proofs.Ends.{one_item, item_not_open, fault_stays, some_outcome}
use Rattle.dap_frame.proofs.Ends.{open_has_no_item, faulty_has_no_item}

module _ {Value Fault : Type 0} (g : Grammar Value Fault) where
  -- the concatenation of two lists of items
  pub items_append : (x y : List ℕ) (vs ws : List Value) → ParsesAs g x vs → ParsesAs g y ws
      → ParsesAs g (x ++ y) (vs ++ ws)
  items_append x y [] ws none more = subst (λ xs. ParsesAs g (xs ++ y) ws) (sym none) more
  items_append x y (v ∷ vs) ws (item, xs, is, e, all) more = (
    item,
    xs ++ y,
    is,
    ap (λ z. z ++ y) e
        ∙ append_assoc item xs y,
    items_append xs y vs ws all more,
  )

  pub one_item_alone : (item : List ℕ) (value : Value) → IsItem g item value
      → ParsesAs g item (value ∷ [])
  one_item_alone item value is = (item, [], is, sym (append-nil item), refl)

  -- an item followed by a stream
  item_and_stream : (bytes : List ℕ) (values : List Value) (rest : List ℕ) → (has : HasItem g bytes)
      → IsStream g has.more values rest
      → IsStream g bytes (has.value ∷ values) rest
  item_and_stream bytes values rest has stream = record {
    front = has.item ++ stream.front;
    items = (has.item, stream.front, has.is_item, refl, stream.items);
    whole = has.bytes_are ∙ ap (λ xs. has.item ++ xs) stream.whole
        ∙ sym (append_assoc has.item stream.front rest);
    no_item = stream.no_item;
  }

  -- if the bytes do not start with an item, all of them are the rest
  no_item_stream : (bytes : List ℕ) → (HasItem g bytes → ⊥)
      → (values : List Value) × (rest : List ℕ) × IsStream g bytes values rest
  no_item_stream bytes none =
      ([], bytes, record { front = []; items = refl; whole = refl; no_item = none })

-- The items at the start of some bytes continue other items there, which leave the rest `r`: after
-- the items `between`, the rest is `s`.
pub record GoesOn {Value Fault : Type 0} (g : Grammar Value Fault) (r s : List ℕ)
    (vs ws : List Value) : Type 0 where
  pub later : List Value
  pub between : List ℕ
  pub values_are : ws ≡ vs ++ later
  pub items : ParsesAs g between later
  pub rest_is : r ≡ between ++ s

module _ {Value Fault : Type 0} {g : Grammar Value Fault} (is : IsGrammar g) where
  -- for two lists of items at the start of the same bytes, one list continues the other
  pub two_lists : (x y r s : List ℕ) (vs ws : List Value) → ParsesAs g x vs → ParsesAs g y ws
      → x ++ r ≡ y ++ s → GoesOn g r s vs ws ⊎ GoesOn g s r ws vs
  two_lists x y r s [] ws p q e =
      inl (record {
        later = ws;
        between = y;
        values_are = refl;
        items = q;
        rest_is = ap (λ xs. xs ++ r) (sym p)
            ∙ e;
      })
  two_lists x y r s (v ∷ vs) [] p q e =
      inr (record {
        later = v
            ∷ vs;
        between = x;
        values_are = refl;
        items = p;
        rest_is =
            ap (λ xs. xs ++ s) (sym q) ∙ sym e;
      })
  two_lists x y r s (v ∷ vs) (w ∷ ws) (f, xs, is_f, p, all) (h, ys, is_h, q, every) e =
      let apart : f ++ (xs ++ r) ≡ h ++ (ys ++ s) = cc (append_assoc f xs r, append_assoc h ys s) in
      let one = one_item is f h (xs ++ r) (ys ++ s) v w apart is_f is_h in
      let same : v ≡ w = one.1 in
      elim (two_lists xs ys r s vs ws all every
      (append_cancel_left h (xs ++ r) (ys ++ s) (cc (apart, one.0)))) [
        | inl on ↦ inl
            (record {
              later = on.later;
              between = on.between;
              values_are = cc (on.values_are, same);
              items = on.items;
              rest_is = on.rest_is;
            })
        | inr on ↦ inr
            (record {
              later = on.later;
              between = on.between;
              values_are = cc (on.values_are, same);
              items = on.items;
              rest_is = on.rest_is;
            })
      ]

  -- a rest that does not start with an item is not continued
  no_later : (r s between : List ℕ) (vs ws later : List Value) → ws ≡ vs ++ later
      → ParsesAs g between later → r ≡ between ++ s → (HasItem g r → ⊥) → (vs ≡ ws) × (r ≡ s)
  no_later r s between vs ws [] values none rest no_item =
      (sym (values ∙ append-nil vs), rest ∙ ap (λ xs. xs ++ s) none)
  no_later r s between vs ws (v ∷ later) values (item, more, is_item, e, items) rest no_item =
      absurd (no_item
      (record {
        item = item;
        more = more
            ++ s;
        value = v;
        bytes_are = cc (append_assoc item more s);
        is_item = is_item;
      }))

  pub one_stream : (bytes : List ℕ) (vs ws : List Value) (r s : List ℕ) → IsStream g bytes vs r
      → IsStream g bytes ws s → (vs ≡ ws) × (r ≡ s)
  one_stream bytes vs ws r s p q =
      elim (two_lists p.front q.front r s vs ws p.items q.items (sym p.whole ∙ q.whole)) [
        | inl on ↦ no_later r s on.between vs ws on.later on.values_are on.items on.rest_is
            p.no_item
        | inr on ↦ (let same = no_later s r on.between ws vs on.later on.values_are on.items
            on.rest_is q.no_item in (sym same.0, sym same.1))
      ]

  -- bytes that start with items are not incomplete
  pub begun_not_open : (x y : List ℕ) (v : Value) (vs : List Value) → ParsesAs g x (v ∷ vs)
      → g.IsOpen (x ++ y) → ⊥
  begun_not_open x y v vs (item, more, is_item, e, items) is_open =
      item_not_open is item (more ++ y) v is_item
      (subst g.IsOpen (ap (λ xs. xs ++ y) e ∙ append_assoc item more y) is_open)

  -- items, and a rest that proves an error together with the bytes after it, are a stream, whatever
  -- bytes follow
  pub faulty_stream : (whole front rest piece left : List ℕ) (values : List Value) (fault : Fault)
      (i : ℕ) → ParsesAs g front values
      → whole ≡ front ++ (rest ++ (piece ++ left)) → FailsAt g (rest ++ piece) fault i
      → (behind : List ℕ) × IsStream g whole values behind × FailsAt g behind fault i
  faulty_stream whole front rest piece left values fault i items e shown =
      let behind : List ℕ = rest ++ (piece ++ left) in
      let shows : FailsAt g behind fault i =
      subst (λ xs. FailsAt g xs fault i) (append_assoc rest piece left)
      (fault_stays (rest ++ piece) left fault i shown) in (
        behind,
        record {
          front = front;
          items = items;
          whole = e;
          no_item = faulty_has_no_item is behind fault i shows;
        },
        shows,
      )

  module _ (not_empty : NoEmptyItem g) where
    some_byte : (item : List ℕ) (value : Value) → IsItem g item value → 0 < length item
    some_byte [] value is_item = absurd (not_empty value is_item)
    some_byte (b ∷ item) value is_item = omega arith

    shorter : (bytes : List ℕ) → (has : HasItem g bytes) → length has.more < length bytes
    shorter bytes has =
        omega (
          arith,
          some_byte has.item has.value has.is_item,
          ap length has.bytes_are,
          length-append has.item has.more,
        )

    pub nothing_has_no_item : HasItem g [] → ⊥
    nothing_has_no_item has = let less = shorter [] has in omega arith

    stream_of : (n : ℕ) (bytes : List ℕ) → length bytes ≤ n
        → (values : List Value) × (rest : List ℕ) × IsStream g bytes values rest
    stream_of zero bytes short =
        no_item_stream g bytes (λ has. let less = shorter bytes has in omega arith)
    stream_of (suc n) bytes short =
        elim (some_outcome is bytes) [
          | inl has ↦ (let behind = stream_of n has.more (omega (arith, shorter bytes has)) in (
            has.value ∷ behind.0,
            behind.1,
            item_and_stream g bytes behind.0 behind.1 has behind.2,
          ))
          | inr other ↦ elim other [
            | inl shown ↦ no_item_stream g bytes
                (faulty_has_no_item is bytes shown.0 shown.1 shown.2)
            | inr is_open ↦ no_item_stream g bytes (open_has_no_item is bytes is_open)
          ]
        ]

    pub some_stream : (bytes : List ℕ)
        → (values : List Value) × (rest : List ℕ) × IsStream g bytes values rest
    some_stream bytes = stream_of (length bytes) bytes (omega arith)

    -- bytes are items with at most one list of values
    pub one_list : (bytes : List ℕ) (vs ws : List Value) → ParsesAs g bytes vs → ParsesAs g bytes ws
        → vs ≡ ws
    one_list bytes vs ws p q =
        (one_stream bytes vs ws [] [] (all_items bytes vs p) (all_items bytes ws q)).0
      where
        all_items : (bytes : List ℕ) (vs : List Value) → ParsesAs g bytes vs
            → IsStream g bytes vs []
        all_items bytes vs items =
            record {
              front = bytes;
              items = items;
              whole = sym (append-nil bytes);
              no_item = nothing_has_no_item;
            }

    -- the number of items is at most the number of bytes
    pub few_items : (bytes : List ℕ) (values : List Value) → ParsesAs g bytes values
        → length values ≤ length bytes
    few_items bytes [] none = omega arith
    few_items bytes (value ∷ values) (item, more, is_item, e, items) =
        omega (
          arith,
          few_items more values items,
          some_byte item value is_item,
          ap length e,
          length-append item more,
        )

    -- more bytes contain at least as many items
    pub stream_more : (x y : List ℕ) (vs ws : List Value) (r s : List ℕ) → IsStream g x vs r
        → IsStream g (x ++ y) ws s
        → (us : List Value) × (ws ≡ vs ++ us)
    stream_more x y vs ws r s p longer =
        let tail = some_stream (r ++ y) in (
          tail.0,
          (one_stream (x ++ y) ws (vs ++ tail.0) s tail.1 longer (record {
            front = p.front ++ tail.2.front;
            items = items_append g p.front tail.2.front vs tail.0 p.items tail.2.items;
            whole = ap (λ xs. xs ++ y) p.whole ∙ append_assoc p.front r y
                ∙ ap (λ xs. p.front ++ xs) tail.2.whole
                ∙ sym (append_assoc p.front tail.2.front tail.1);
            no_item = tail.2.no_item;
          })).0,
        )
