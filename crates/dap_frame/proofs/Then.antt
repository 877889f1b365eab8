-- Combinations of grammars are grammars.
use Rattle.std.proofs.Common.{◌≡◌, ℕ, ◌<◌, ◌⊎◌, inl, inr, List, [], ◌∷◌, ◌++◌, length, take, drop}
use Rattle.std.proofs.Common.{Result, Ok, Err, refl, sym, ap, ◌∙◌, subst, arith}
use Rattle.std.proofs.lemmas.List.{append_assoc, append-nil, append_cancel_left, length-append}
use Rattle.std.proofs.lemmas.List.{length-take-le, take-append-drop, nil_from_length}
use Rattle.std.proofs.lemmas.Bool.{cases_lt}
use Rattle.dap_frame.specs.Grammar.{Grammar, IsItem, HasEnd, IsGrammar, FailsAt}
use Rattle.dap_frame.specs.Combinators.{in_first, in_second, first_open, second_open, and_then}
use Rattle.dap_frame.specs.Combinators.{EndsAs}
use Rattle.dap_frame.specs.Combinators.{map_fault, until, one_byte, take_bytes}
use Rattle.dap_frame.proofs.Ends.{IsReadable}
use Rattle.dap_frame.proofs.Fronts.{same_front, shorter_front}

module _ {A B E F : Type 0} {g : Grammar A E} {h : A → Grammar B F} (of_first : E
    → F) (is : IsGrammar g) (are : (a : A) → IsGrammar (h a)) where
  abbrev both : Grammar B F
  both = and_then g h of_first

  -- the same bytes do not start with both an item and an error
  apart : (f o y z : List ℕ) (a : A) (e : E) → f ++ y ≡ o ++ z → IsItem g f a → g.Ends o (Err e) → ⊥
  apart f o y z a e same p q = let one = is.one_end f o y z (Ok a) (Err e) same p q in cc

  -- the first item is unique, and so the second parts start at one position
  split : (f o m n : List ℕ) (a b : A) → f ++ m ≡ o ++ n → IsItem g f a → IsItem g o b
      → (f ≡ o) × (a ≡ b) × (m ≡ n)
  split f o m n a b same p q =
      let one = is.one_end f o m n (Ok a) (Ok b) same p q in
      (one.0, cc, append_cancel_left o m n (ap (λ xs. xs ++ m) (sym one.0) ∙ same))

  one_end : (f o y z : List ℕ) (r s : Result B F) → f ++ y ≡ o ++ z → both.Ends f r → both.Ends o s
      → (f ≡ o) × (r ≡ s)
  one_end f o y z r s e (in_first d p u) (in_first d' q v) =
      let one = is.one_end f o y z (Err d) (Err d') e p q in
      let same : d ≡ d' = cc in (one.0, u ∙ ap (λ x. Err (of_first x)) same ∙ sym v)
  one_end f o y z r s e (in_first d p u) (in_second o1 o2 b q1 q2 q3) =
      absurd (apart o1 f (o2 ++ z) y b d (cc (append_assoc o1 o2 z)) q2 p)
  one_end f o y z r s e (in_second f1 f2 a p1 p2 p3) (in_first d q v) =
      absurd (apart f1 o (f2 ++ y) z a d (cc (append_assoc f1 f2 y)) p2 q)
  one_end f o y z r s e (in_second f1 f2 a p1 p2 p3) (in_second o1 o2 b q1 q2 q3) =
      let one = split f1 o1 (f2 ++ y) (o2 ++ z) a b
      (cc (append_assoc f1 f2 y, append_assoc o1 o2 z)) p2 q2 in
      let more = (are a).one_end f2 o2 y z r s one.2 p3
      (subst (λ c. (h c).Ends o2 s) (sym one.1) q3) in
      (cc (one.0, more.0), more.1)

  end_not_open : (f y : List ℕ) (r : Result B F) → both.Ends f r → both.IsOpen (f ++ y) → ⊥
  end_not_open f y r (in_first d p u) (first_open q) = is.end_not_open f y (Err d) p q
  end_not_open f y r (in_first d p u) (second_open o1 o2 b e q1 q2) =
      apart o1 f o2 y b d (sym e) q1 p
  end_not_open f y r (in_second f1 f2 a p1 p2 p3) (first_open q) =
      is.end_not_open f1 (f2 ++ y) (Ok a) p2
      (subst g.IsOpen (ap (λ xs. xs ++ y) p1 ∙ append_assoc f1 f2 y) q)
  end_not_open f y r (in_second f1 f2 a p1 p2 p3) (second_open o1 o2 b e q1 q2) =
      let one = split f1 o1 (f2 ++ y) o2 a b (cc (append_assoc f1 f2 y)) p2 q1 in
      (are a).end_not_open f2 y r p3
      (subst (λ c. (h c).IsOpen (f2 ++ y)) (sym one.1) (subst (h b).IsOpen (sym one.2) q2))

  by_first : (bytes front more : List ℕ) (r : Result A E) → bytes ≡ front ++ more → g.Ends front r
      → HasEnd both bytes ⊎ both.IsOpen bytes
  by_first bytes front more (Err e) is_split p =
      inl (record {
        front = front;
        more = more;
        result = Err (of_first e);
        bytes_are = is_split;
        ends = in_first e p refl;
      })
  by_first bytes front more (Ok a) is_split p =
      elim ((are a).some_end more) [
        | inl has ↦ inl (record {
          front = front ++ has.front;
          more = has.more;
          result = has.result;
          bytes_are =
              is_split ∙ ap (λ xs. front ++ xs) has.bytes_are
              ∙ sym (append_assoc front has.front has.more);
          ends = in_second front has.front a refl p has.ends;
        })
        | inr is_open ↦ inr (second_open front more a is_split p is_open)
      ]

  pub and_then_grammar : IsGrammar both
  and_then_grammar = record {
    one_end = one_end;
    end_not_open = end_not_open;
    some_end = λ bytes. elim (is.some_end bytes) [
      | inl has ↦ by_first bytes has.front has.more has.result has.bytes_are has.ends
      | inr is_open ↦ inr (first_open is_open)
    ];
  }

-- an end, with its error mapped
abbrev reported : {A E F : Type 0} → (E → F) → Result A E → Result A F
reported of_fault (Ok value) = Ok value
reported of_fault (Err fault) = Err (of_fault fault)

module _ {A E F : Type 0} (of_fault : E → F) (g : Grammar A E) where
  ends_told : (bytes : List ℕ) (result : Result A E) → g.Ends bytes result
      → EndsAs of_fault g bytes (reported of_fault result)
  ends_told bytes (Ok value) p = p
  ends_told bytes (Err fault) p = (fault, refl, p)

  own_end : (bytes : List ℕ) (result : Result A F) → EndsAs of_fault g bytes result
      → (own : Result A E) × g.Ends bytes own × (result ≡ reported of_fault own)
  own_end bytes (Ok value) p = (Ok value, p, refl)
  own_end bytes (Err fault) (own, is, p) = (Err own, p, ap (λ f. Err f) is)

  -- Items that can be read can also be read with their errors mapped.
  pub faults_as_readable : IsReadable g → IsReadable (map_fault of_fault g)
  faults_as_readable is = record {
    grammar = record {
      one_end = λ f o y z r s e p q.
          let here = own_end f r p in
          let there = own_end o s q in
          let one = is.grammar.one_end f o y z here.0 there.0 e here.1 there.1 in
          (one.0, here.2 ∙ ap (reported of_fault) one.1 ∙ sym there.2);
      end_not_open = λ f y r p q. let own =
          own_end f r p in is.grammar.end_not_open f y own.0 own.1 q;
      some_end = λ bytes. elim (is.grammar.some_end bytes) [
        | inl has ↦ inl (record {
          front = has.front;
          more = has.more;
          result = reported of_fault has.result;
          bytes_are = has.bytes_are;
          ends = ends_told has.front has.result has.ends;
        })
        | inr is_open ↦ inr is_open
      ];
    };
    open_none = is.open_none;
  }

  pub shows_as : (bytes : List ℕ) (fault : E) (i : ℕ) → FailsAt g bytes fault i
      → FailsAt (map_fault of_fault g) bytes (of_fault fault) i
  shows_as bytes fault i shows =
      record {
        front = shows.front;
        more = shows.more;
        bytes_are = shows.bytes_are;
        ends = (fault, refl, shows.ends);
        place = shows.place;
      }

module _ {A F : Type 0} (IsFront : List ℕ → Type 0) (Says : List ℕ → ℕ → Result A F → Type 0) where
  -- The conditions for prefixes and the byte that ends one: each further byte gives a longer prefix
  -- or exactly one result.
  pub record GoesOn : Type 0 where
    pub none : IsFront []
    pub front : (front more : List ℕ) → IsFront (front ++ more) → IsFront front
    pub no_front : (front : List ℕ) (byte : ℕ) (a : Result A F) → Says front byte a
        → IsFront (front ++ byte ∷ []) → ⊥
    pub one : (front : List ℕ) (byte : ℕ) (a b : Result A F) → Says front byte a → Says front byte b
        → a ≡ b
    pub some : (front : List ℕ) (byte : ℕ) → IsFront front
        → IsFront (front ++ byte ∷ []) ⊎ ((a : Result A F) × Says front byte a)

  module _ (on : GoesOn) where
    abbrev ended : Grammar A F
    ended = until IsFront Says

    not_shorter : (t u y z : List ℕ) (b c : ℕ) (a : Result A F) → t ++ b ∷ y ≡ u ++ c ∷ z
        → Says t b a → IsFront u → length t < length u → ⊥
    not_shorter t u y z b c a e says is short =
        let begins =
        shorter_front u (t ++ b ∷ []) (c ∷ z) y (sym e ∙ sym (append_assoc t (b ∷ []) y))
        (omega (arith, short, length-append t (b ∷ []))) in
        on.no_front t b a says
        (on.front (t ++ b ∷ []) (drop (length (t ++ b ∷ [])) u) (subst IsFront begins is))

    same_until : (f o y z : List ℕ) (r s : Result A F) → f ++ y ≡ o ++ z → ended.Ends f r
        → ended.Ends o s → (f ≡ o) × (r ≡ s)
    same_until f o y z r s e (t, b, p, is_t, says) (u, c, q, is_u, reported) =
        let same : t ++ b ∷ y ≡ u ++ c ∷ z =
        cc (append_assoc t (b ∷ []) y, append_assoc u (c ∷ []) z) in
        elim (cases_lt (length t) (length u)) [
          | inl short ↦ absurd (not_shorter t u y z b c r same says is_u short)
          | inr long ↦ elim (cases_lt (length u) (length t)) [
            | inl short ↦ absurd (not_shorter u t z y c b s (sym same) reported is_t short)
            | inr as_long ↦ (let front : t
                ≡ u = same_front t u (b ∷ y) (c ∷ z) same (omega arith) in
                let last : b ∷ y ≡ c ∷ z =
                append_cancel_left u (b ∷ y) (c ∷ z) (ap (λ xs. xs ++ b ∷ y) (sym front) ∙ same)
                in
                let byte : b ≡ c = cc in (
                  cc,
                  on.one u c r s
                      (subst (λ x. Says x c r) front (subst (λ x. Says t x r) byte says)) reported,
                ))
          ]
        ]

    some_until : (front more : List ℕ) → IsFront front
        → HasEnd ended (front ++ more) ⊎ IsFront (front ++ more)
    some_until front [] is = inr (subst IsFront (sym (append-nil front)) is)
    some_until front (byte ∷ more) is =
        elim (on.some front byte is) [
          | inl longer ↦ subst (λ xs. HasEnd ended xs
              ⊎ IsFront xs) (append_assoc front (byte ∷ []) more)
              (some_until (front ++ byte ∷ []) more longer)
          | inr says ↦ inl (record {
            front = front ++ byte ∷ [];
            more = more;
            result = says.0;
            bytes_are = sym (append_assoc front (byte ∷ []) more);
            ends = (front, byte, refl, is, says.1);
          })
        ]

    pub until_grammar : IsGrammar ended
    until_grammar = record {
      one_end = same_until;
      end_not_open =
          λ f y a ends is. on.no_front ends.0 ends.1 a ends.4
          (on.front (ends.0 ++ ends.1 ∷ []) y (subst (λ xs. IsFront (xs ++ y)) ends.2 is));
      some_end = λ bytes. some_until [] bytes on.none;
    }

pub byte_grammar : {A F : Type 0} (Says : ℕ → Result A F → Type 0)
    → ((byte : ℕ) (a b : Result A F) → Says byte a → Says byte b → a ≡ b)
    → ((byte : ℕ) → (a : Result A F) × Says byte a) → IsGrammar (one_byte Says)
byte_grammar Says one some = until_grammar (λ front. front ≡ []) (λ front. Says) (record {
  none = refl;
  front = λ front more none. nil_from_length front
      (omega (arith, ap length none, length-append front more));
  no_front = λ front byte a says none. omega
      (arith, ap length none, length-append front (byte ∷ []));
  one = λ front. one;
  some = λ front byte none. inr (some byte);
})

pub so_many_grammar : {A F : Type 0} (value : List ℕ → A) (n : ℕ)
    → IsGrammar (take_bytes {F = F} value n)
so_many_grammar value n = record {
  one_end = λ f o y z r s e p q. let one =
      same_front f o y z e (p.1 ∙ sym q.1) in (one, p.0 ∙ ap (λ xs. Ok (value xs)) one ∙ sym q.0);
  end_not_open = λ f y r p q. omega (arith, p.1, length-append f y, q);
  some_end = λ bytes. elim (cases_lt (length bytes) n) [
    | inl short ↦ inr short
    | inr enough ↦ inl (record {
      front = take n bytes;
      more = drop n bytes;
      result = Ok (value (take n bytes));
      bytes_are = sym (take-append-drop n bytes);
      ends = (refl, length-take-le n bytes enough);
    })
  ];
}
