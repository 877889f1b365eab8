-- The numbers of values after one more id.
use Rattle.std.proofs.Common.{◌≡◌, ℕ, suc, ◌+◌, ◌<◌, ◌≤◌, Bool, true, false, cond, ◌&&◌, List}
use Rattle.std.proofs.Common.{[], ◌∷◌, ◌++◌, length, Option, Some, None, refl, ap, sym, ◌∙◌, arith}
use Rattle.std.proofs.Common.{append_assoc, subst, true≢false}
use Rattle.std.specs.List.{list_any, position_or_len}
use Rattle.std.specs.Str.{bytes_eq}
use Rattle.std.proofs.lemmas.List.Folds.{list_any-append}
use Rattle.dap_tokens.specs.Naming.{Id}
use Rattle.dap_tokens.specs.Tokens.{is_label}
use Rattle.dap_naming.specs.Numbers.{values, add, distinct, number}
use Rattle.dap_naming.specs.Known.{key, is_known, known_number, number_at, count_of, Knows, Names}
use Rattle.dap_naming.specs.Known.{limit_of, Keeps, HasRoom, IsFull}
use Rattle.dap_naming.specs.declared.value_numbers.ValueNumbers.{ValueNumbers}
use Rattle.dap_naming.proofs.Lists.{by_bool}
use Rattle.dap_naming.proofs.Additions.{same_bytes, bytes_same, itself, any-add, distinct-append}
use Rattle.dap_naming.proofs.Additions.{keeps-add, keeps-add_all}
use Rattle.dap_naming.proofs.Keys.{bytes_eq-key}

turned : (a b : List ℕ) → bytes_eq a b ≡ false → bytes_eq b a ≡ false
turned a b h =
    by_bool (bytes_eq b a)
    (λ e. absurd (true≢false (sym (bytes_same a b (sym (same_bytes b a e))) ∙ h))) (λ e. e)

-- ---- the distinct values after one more id

distinct-more : (is : List Id) (l m w : List ℕ)
    → distinct l (is ++ (m, w) ∷ [])
    ≡ cond (bytes_eq l m) (add (distinct l is) w) (distinct l is)
distinct-more is l m w =
    distinct-append l is ((m, w) ∷ [])
    ∙ by_bool (bytes_eq l m) (λ e. rw e refl) (λ e. rw e refl)

-- an id that is known changes nothing
pub distinct-known : (is : List Id) (l m w : List ℕ) → is_known is m w ≡ true
    → distinct l (is ++ (m, w) ∷ []) ≡ distinct l is
distinct-known is l m w h =
    distinct-more is l m w
    ∙ by_bool (bytes_eq l m)
    (λ e. let q : l ≡ m = same_bytes l m e in
    let k : list_any (bytes_eq w) (distinct l is) ≡ true =
    subst (λ x. list_any (bytes_eq w) (distinct x is) ≡ true) (sym q) h in
    rw (e, k) refl)
    (λ e. rw e refl)

-- a known value keeps its number
pub number_stays : (is js : List Id) (l v : List ℕ) → is_known is l v ≡ true
    → number (is ++ js) l v ≡ number is l v
number_stays is js l v h =
    ap (λ vs. suc (position_or_len (bytes_eq v) vs)) (distinct-append l is js)
    ∙ ap suc (keeps-add_all (distinct l is) (values l js) v h)

-- ---- a value that was known

known_or_none : (b : Bool) (m n : ℕ) → Some n ≡ cond b (Some m) None → (b ≡ true) × (n ≡ m)
known_or_none true m n h = (refl, cc)
known_or_none false m n h = absurd cc

pub numbers_known : (t : ValueNumbers) (l v : List ℕ) (n : ℕ) → is_label l ≡ true
    → Some n ≡ number_at t (key l v) → Names t t ((l, v) ∷ []) (λ number. number l v ≡ n)
numbers_known t l v n label found is h =
    let k = known_or_none (is_known is l v) (number is l v) n (found ∙ h.value l v label) in (
      record {
        value = λ m w of. h.value m w of
            ∙ ap (λ vs. cond (list_any (bytes_eq w) vs)
            (Some (suc (position_or_len (bytes_eq w) vs))) None)
            (sym (distinct-known is m l v k.0));
        count = λ m of. h.count m of ∙ ap length (sym (distinct-known is m l v k.0));
      },
      λ ks. number_stays is ((l, v) ∷ ks) l v k.0 ∙ sym k.1,
    )

pub room_for_known : (t : ValueNumbers) (l v : List ℕ) (n : ℕ) → is_label l ≡ true
    → Some n ≡ number_at t (key l v) → HasRoom t (l, v)
room_for_known t l v n label found is h new =
    absurd (true≢false (sym (known_or_none (is_known is l v) (number is l v) n
    (found ∙ h.value l v label)).0 ∙ new))

-- ---- a new value

none_known : (b : Bool) (m : ℕ) → None ≡ cond b (Some m) None → b ≡ false
none_known true m h = absurd cc
none_known false m h = refl

pub is_new : (t : ValueNumbers) (is : List Id) (l v : List ℕ) → Knows t is → is_label l ≡ true
    → None ≡ number_at t (key l v) → is_known is l v ≡ false
is_new t is l v h label none =
    none_known (is_known is l v) (number is l v) (none ∙ h.value l v label)

pub room_for_new : (t : ValueNumbers) (l v : List ℕ) → is_label l ≡ true
    → count_of t l < limit_of t → HasRoom t (l, v)
room_for_new t l v label room is h new =
    subst (λ n. n < limit_of t) (h.count l label) room

pub full_for_new : (t : ValueNumbers) (l v : List ℕ) → is_label l ≡ true
    → None ≡ number_at t (key l v) → limit_of t ≤ count_of t l → IsFull t (l, v)
full_for_new t l v label none full is h =
    (is_new t is l v h label none, subst (λ n. limit_of t ≤ n) (h.count l label) full)

length_more : (xs : List (List ℕ)) (v : List ℕ) → length (xs ++ v ∷ []) ≡ length xs + 1
length_more [] v = refl
length_more (x ∷ xs) v = let r = length_more xs v in omega arith

-- the position of a new value that is added
place_new : (v : List ℕ) (vs : List (List ℕ)) → list_any (bytes_eq v) vs ≡ false
    → position_or_len (bytes_eq v) (vs ++ v ∷ []) ≡ length vs
place_new v [] h = rw (itself v) refl
place_new v (w ∷ vs) h = let r = place_new v vs in grind (arith, place_new v vs)

-- what a list of distinct values says of a value
abbrev number_in : List ℕ → List (List ℕ) → Option ℕ
number_in w vs = cond (list_any (bytes_eq w) vs) (Some (suc (position_or_len (bytes_eq w) vs))) None

told_itself : (v : List ℕ) (vs : List (List ℕ)) → list_any (bytes_eq v) vs ≡ false
    → number_in v (add vs v) ≡ Some (length vs + 1)
told_itself v vs h =
    let any : list_any (bytes_eq v) (vs ++ v ∷ []) ≡ true =
    list_any-append (bytes_eq v) vs (v ∷ []) ∙ rw (h, itself v) refl in
    rw (h, any, place_new v vs h) (ap Some (omega arith))

told_other : (w v : List ℕ) (vs : List (List ℕ)) → bytes_eq w v ≡ false
    → number_in w (add vs v) ≡ number_in w vs
told_other w v vs e =
    by_bool (list_any (bytes_eq w) vs)
    (λ h. let k : list_any (bytes_eq w) (add vs v) ≡ true = any-add w v vs ∙ rw h refl in
    rw (h, k) (ap (λ n. Some (suc n)) (keeps-add vs w v h)))
    (λ h. let k : list_any (bytes_eq w) (add vs v) ≡ false = any-add w v vs ∙ rw (h, e) refl in
    rw (h, k) refl)

-- the number of a value of a label after the new value v of the label l
told_more : (is : List Id) (l v m w : List ℕ) → is_known is l v ≡ false
    → number_in w (distinct m (is ++ (l, v) ∷ []))
    ≡ cond (bytes_eq l m && bytes_eq v w) (Some (length (distinct l is) + 1))
    (number_in w (distinct m is))
told_more is l v m w new =
    ap (number_in w) (distinct-more is m l v)
    ∙ by_bool (bytes_eq m l)
    (λ e. let q : m ≡ l = same_bytes m l e in
    let back : bytes_eq l m ≡ true = bytes_same l m (sym q) in
    rw (e, back)
    (subst (λ x. number_in w (add (distinct x is) v)
    ≡ cond (bytes_eq v w) (Some (length (distinct l is) + 1)) (number_in w (distinct x is))) (sym q)
    (by_bool (bytes_eq v w)
    (λ f. let r : v ≡ w = same_bytes v w f in
    rw f (subst (λ y. number_in y (add (distinct l is) v) ≡ Some (length (distinct l is) + 1)) r
    (told_itself v (distinct l is) new)))
    (λ f. let g : bytes_eq w v ≡ false = turned v w f in
    rw f (told_other w v (distinct l is) g)))))
    (λ e. let back : bytes_eq l m ≡ false = turned m l e in rw (e, back) refl)

pub count_more : (is : List Id) (l v m : List ℕ) → is_known is l v ≡ false
    → length (distinct m (is ++ (l, v) ∷ []))
    ≡ cond (bytes_eq l m) (length (distinct l is) + 1) (length (distinct m is))
count_more is l v m new =
    ap length (distinct-more is m l v)
    ∙ by_bool (bytes_eq l m)
    (λ e. let q : l ≡ m = same_bytes l m e in
    subst (λ x. length (cond (bytes_eq x l) (add (distinct x is) v) (distinct x is))
    ≡ cond (bytes_eq l x) (length (distinct l is) + 1) (length (distinct x is))) q
    (rw (itself l, new) (length_more (distinct l is) v)))
    (λ e. rw (e, turned l m e) refl)

pub numbers_added : (old new : ValueNumbers) (l v : List ℕ) (n : ℕ) → is_label l ≡ true
    → None ≡ number_at old (key l v) → n ≡ count_of old l + 1
    → ((k : List ℕ) → number_at new k ≡ cond (bytes_eq (key l v) k) (Some n) (number_at old k))
    → ((m : List ℕ) → count_of new m ≡ cond (bytes_eq l m) n (count_of old m))
    → Names old new ((l, v) ∷ []) (λ number. number l v ≡ n)
numbers_added old new l v n label none next at count is h =
    let fresh : is_known is l v ≡ false = is_new old is l v h label none in
    let e : n ≡ length (distinct l is) + 1 = next ∙ ap (λ k. k + 1) (h.count l label) in
    let k = known_or_none (is_known (is ++ (l, v) ∷ []) l v) (number (is ++ (l, v) ∷ []) l v)
    (length (distinct l is) + 1)
    (sym (told_more is l v l v fresh ∙ rw (itself l, itself v) refl)) in (
      record {
        value = λ m w of. at (key m w)
            ∙ ap (λ b. cond b (Some n) (number_at old (key m w))) (bytes_eq-key l m v w label of)
            ∙ ap (cond (bytes_eq l m && bytes_eq v w) (Some n)) (h.value m w of)
            ∙ ap (λ j. cond (bytes_eq l m && bytes_eq v w) (Some j) (known_number is m w)) e
            ∙ sym (told_more is l v m w fresh);
        count = λ m of. count m ∙ ap (cond (bytes_eq l m) n) (h.count m of)
            ∙ ap (λ j. cond (bytes_eq l m) j (length (distinct m is))) e
            ∙ sym (count_more is l v m fresh);
      },
      λ ks. ap (λ js. number js l v) (sym (append_assoc is ((l, v) ∷ []) ks))
          ∙ number_stays (is ++ (l, v) ∷ []) ks l v k.0 ∙ sym k.1 ∙ sym e,
    )

-- ---- the numbers stay

pub held_added : (old new : ValueNumbers) (q : List ℕ) (n : ℕ)
    → ((k : List ℕ) → number_at new k ≡ cond (bytes_eq q k) (Some n) (number_at old k))
    → number_at new q ≡ Some n
held_added old new q n at = at q ∙ rw (itself q) refl

pub kept_added : (old new : ValueNumbers) (q : List ℕ) (n : ℕ) → None ≡ number_at old q
    → ((k : List ℕ) → number_at new k ≡ cond (bytes_eq q k) (Some n) (number_at old k))
    → Keeps old new
kept_added old new q n none at k m h =
    at k
    ∙ by_bool (bytes_eq q k)
    (λ e. let both : ◌≡◌ {A = Option ℕ} None (Some m) =
    none ∙ ap (number_at old) (same_bytes q k e) ∙ h in absurd cc)
    (λ e. rw e h)
