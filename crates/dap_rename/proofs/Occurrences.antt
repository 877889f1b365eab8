-- Lemmas about the ids of messages: their classes, their order, and that a list of messages is
-- determined by its skeletons and its ids.
use Rattle.std.proofs.Common.{◌≡◌, ℕ, ◌+◌, ℤ, true, false, List, [], ◌∷◌, ◌++◌, map, length, refl}
use Rattle.std.proofs.Common.{sym}
use Rattle.std.proofs.Common.{◌∙◌, ap, ap₂, subst, arith, append_assoc, append-nil}
use Rattle.std.proofs.lemmas.List.{length-append, length-map, map-append}
use Rattle.std.proofs.lemmas.Bool.Decides.{Decides-and, Decides-eqb, Decides-like}
use Rattle.std.specs.Bool.{Decides}
use Rattle.std.specs.List.{AllByRecursion}
use lib.Dec.{eqb}
use Rattle.dap_tree.specs.Doc.{Doc}
use Rattle.dap_tree.specs.Ids.{ids, skeleton, numbers_of, sorts_of, with_ids}
use Rattle.dap_tree.specs.declared.side.Side.{Side}
use Rattle.dap_tree.specs.declared.sort.Sort.{Sort}
use Rattle.dap_tree.specs.declared.sort.Sort.TheVariants.{Frame}
use Rattle.dap_tree.proofs.Booleans.{and_left, and_right, and_both}
use Rattle.dap_tree.proofs.IdNumbers.{count_alike, count_ids, sorts_alike, with_own, with_others}
use Rattle.dap_message.specs.Message.{Sent}
use Rattle.dap_message.specs.Numbers.{is_proper_number, are_proper}
use Rattle.dap_rename.proofs.MixedNames.{firsts}
use Rattle.dap_rename.specs.Messages.{Class, IsProperId, AreProper, class_after, occurrence}
use Rattle.dap_rename.specs.Messages.{occurrences, message_skeleton, same_class}
use Rattle.dap_rename.specs.Sorts.{sort_number, same_sort}
use Rattle.dap_rename.specs.Messages.{stops_after}
use Rattle.dap_rename.specs.Laws.{IsToldBySkeleton}
use Rattle.dap_rename.proofs.Lists.{same_cons, head_of, tail_of, front_told, rest_told, each-append}
use Rattle.dap_rename.proofs.Lists.{each_left, each_right}
use Rattle.dap_tree.proofs.Sorts.{sort_told}

-- ---- classes

pub class_decides : (c d : Class) → Decides (same_class c d) (c ≡ d)
class_decides c d =
    Decides-like (same_class c d)
    (λ h. let s = sort_told c.0 d.0 h.0 in let n : c.1 ≡ d.1 = h.1 in class_of c.0 c.1 d.0 d.1 s n)
    (λ h. (ap (λ (k : Class). sort_number k.0) h, ap (λ (k : Class). k.1) h))
    (Decides-and (eqb (sort_number c.0) (sort_number d.0)) (eqb c.1 d.1)
    (Decides-eqb (sort_number c.0) (sort_number d.0)) (Decides-eqb c.1 d.1))
  where
    class_of : (a : Sort) (m : ℕ) (b : Sort) (n : ℕ) → a ≡ b → m ≡ n → ◌≡◌ {A = Class} (a, m) (b, n)
    class_of a m b n p q = rw (p, q) refl

pub same_itself : (c : Class) → same_class c c ≡ true
same_itself c = (class_decides c c).1 refl

pub class_sort : (stops : ℕ) (s : Sort) → (class_after stops s).0 ≡ s
class_sort stops Frame = refl
class_sort stops s = refl

pub first_class : (s : Sort) → class_after 0 s ≡ (s, 0)
first_class Frame = refl
first_class s = refl

pub class_apart : (stops : ℕ) (r s : Sort) → same_sort r s ≡ false
    → same_class (class_after stops r) (class_after stops s) ≡ false
class_apart stops r s h =
    let e : same_sort (class_after stops r).0 (class_after stops s).0 ≡ false =
    rw (class_sort stops r, class_sort stops s) h in
    rw e refl

-- ---- the order of occurrences

pub occurrences-append : (stop : Sent → ℕ) (k : ℕ) (ms ns : List Sent)
    → occurrences stop k (ms ++ ns)
    ≡ occurrences stop k ms ++ occurrences stop (stops_after stop k ms) ns
occurrences-append stop k [] ns = refl
occurrences-append stop k (m ∷ ms) ns =
    ap (λ t. map (occurrence k) (ids m.doc) ++ t) (occurrences-append stop (k + stop m) ms ns)
    ∙ sym (append_assoc (map (occurrence k) (ids m.doc)) (occurrences stop (k + stop m) ms)
    (occurrences stop (stops_after stop (k + stop m) ms) ns))

-- one message more
pub occurrences-push : (stop : Sent → ℕ) (k : ℕ) (ms : List Sent) (m : Sent)
    → occurrences stop k (ms ++ m ∷ [])
    ≡ occurrences stop k ms ++ map (occurrence (stops_after stop k ms)) (ids m.doc)
occurrences-push stop k ms m =
    occurrences-append stop k ms (m ∷ [])
    ∙ ap (λ t. occurrences stop k ms ++ t)
    (append-nil (map (occurrence (stops_after stop k ms)) (ids m.doc)))

-- the number of stops after one more message
pub stops-push : (stop : Sent → ℕ) (k : ℕ) (ms : List Sent) (m : Sent)
    → stops_after stop k (ms ++ m ∷ []) ≡ stops_after stop k ms + stop m
stops-push stop k [] m = refl
stops-push stop k (n ∷ ms) m = stops-push stop (k + stop n) ms m

pub stops_alike : (stop : Sent → ℕ) → IsToldBySkeleton stop → (k : ℕ) (ms ns : List Sent)
    → map message_skeleton ms ≡ map message_skeleton ns
    → stops_after stop k ms ≡ stops_after stop k ns
stops_alike stop reported k [] [] h = refl
stops_alike stop reported k [] (n ∷ ns) h = absurd cc
stops_alike stop reported k (m ∷ ms) [] h = absurd cc
stops_alike stop reported k (m ∷ ms) (n ∷ ns) h =
    ap (λ s. stops_after stop (k + s) ms) (reported m n (head_of h))
    ∙ stops_alike stop reported (k + stop n) ms ns (tail_of h)

pub docs_alike : (m n : Sent) → message_skeleton m ≡ message_skeleton n
    → skeleton m.doc ≡ skeleton n.doc
docs_alike m n h = ap (λ (w : Sent). w.doc) h

pub ids_alike : (m n : Sent) → message_skeleton m ≡ message_skeleton n
    → length (ids m.doc) ≡ length (ids n.doc)
ids_alike m n h =
    count_ids m.doc ∙ (count_alike m.doc n.doc (docs_alike m n h) ∙ sym (count_ids n.doc))

-- lists with the same skeletons have equally many occurrences
pub occurrences_alike : (stop : Sent → ℕ) (j k : ℕ) (ms ns : List Sent)
    → map message_skeleton ms ≡ map message_skeleton ns
    → length (occurrences stop j ms) ≡ length (occurrences stop k ns)
occurrences_alike stop j k [] [] h = refl
occurrences_alike stop j k [] (n ∷ ns) h = absurd cc
occurrences_alike stop j k (m ∷ ms) [] h = absurd cc
occurrences_alike stop j k (m ∷ ms) (n ∷ ns) h =
    let first = ids_alike m n (head_of h) in
    let rest = occurrences_alike stop (j + stop m) (k + stop n) ms ns (tail_of h) in
    omega (
      arith,
      first,
      rest,
      length-append (map (occurrence j) (ids m.doc)) (occurrences stop (j + stop m) ms),
      length-append (map (occurrence k) (ids n.doc)) (occurrences stop (k + stop n) ns),
      length-map (ids m.doc) (occurrence j),
      length-map (ids n.doc) (occurrence k),
    )

-- skeletons determine the classes of ids
firsts_of : (k : ℕ) (is js : List (Sort × ℤ)) → sorts_of is ≡ sorts_of js
    → firsts (map (occurrence k) is) ≡ firsts (map (occurrence k) js)
firsts_of k [] [] h = refl
firsts_of k [] (j ∷ js) h = absurd cc
firsts_of k (i ∷ is) [] h = absurd cc
firsts_of k (i ∷ is) (j ∷ js) h =
    let one : i.0 ≡ j.0 = cc in
    let more : sorts_of is ≡ sorts_of js = cc in
    rw (one, firsts_of k is js more) refl

pub firsts_alike : (stop : Sent → ℕ) → IsToldBySkeleton stop → (k : ℕ) (ms ns : List Sent)
    → map message_skeleton ms ≡ map message_skeleton ns
    → firsts (occurrences stop k ms) ≡ firsts (occurrences stop k ns)
firsts_alike stop reported k [] [] h = refl
firsts_alike stop reported k [] (n ∷ ns) h = absurd cc
firsts_alike stop reported k (m ∷ ms) [] h = absurd cc
firsts_alike stop reported k (m ∷ ms) (n ∷ ns) h =
    let class : Class × ℤ → Class = λ o. o.0 in
    let one = firsts_of k (ids m.doc) (ids n.doc)
    (sorts_alike m.doc n.doc (docs_alike m n (head_of h))) in
    let rest =
    subst (λ j. firsts (occurrences stop (k + stop m) ms) ≡ firsts (occurrences stop (k + j) ns))
    (reported m n (head_of h)) (firsts_alike stop reported (k + stop m) ms ns (tail_of h)) in
    map-append class (map (occurrence k) (ids m.doc)) (occurrences stop (k + stop m) ms)
    ∙ ap₂ (λ a b. a ++ b) one rest
    ∙ sym (map-append class (map (occurrence k) (ids n.doc)) (occurrences stop (k + stop n) ns))

-- ---- messages are determined by their skeletons and their ids

pub all_numbers : List Sent → List ℤ
all_numbers [] = []
all_numbers (m ∷ ms) = numbers_of (ids m.doc) ++ all_numbers ms

abbrev pub seconds : {A : Type 0} → List (A × ℤ) → List ℤ
seconds os = map (λ o. o.1) os

pub seconds-append : {A : Type 0} (a b : List (A × ℤ)) → seconds (a ++ b) ≡ seconds a ++ seconds b
seconds-append [] b = refl
seconds-append (i ∷ a) b = ap (λ t. i.1 ∷ t) (seconds-append a b)

pub seconds-occurrence : (k : ℕ) (is : List (Sort × ℤ))
    → seconds (map (occurrence k) is) ≡ numbers_of is
seconds-occurrence k [] = refl
seconds-occurrence k (i ∷ is) = ap (λ t. i.1 ∷ t) (seconds-occurrence k is)

pub seconds-occurrences : (stop : Sent → ℕ) (k : ℕ) (ms : List Sent)
    → seconds (occurrences stop k ms) ≡ all_numbers ms
unfolding all_numbers
seconds-occurrences stop k [] = refl
seconds-occurrences stop k (m ∷ ms) =
    seconds-append (map (occurrence k) (ids m.doc)) (occurrences stop (k + stop m) ms)
    ∙ rw (seconds-occurrence k (ids m.doc), seconds-occurrences stop (k + stop m) ms) refl

pub doc_told : (d e : Doc) → skeleton d ≡ skeleton e → numbers_of (ids d) ≡ numbers_of (ids e)
    → d ≡ e
doc_told d e h k = sym (with_own d) ∙ (ap (with_ids d) k ∙ with_others d e h)

pub same_sent : (s t : Side) (d e : Doc) → s ≡ t → d ≡ e
    → ◌≡◌ {A = Sent} (record { side = s; doc = d }) (record { side = t; doc = e })
same_sent s t d e p q = rw (p, q) refl

pub messages_told : (ms ns : List Sent) → map message_skeleton ms ≡ map message_skeleton ns
    → all_numbers ms ≡ all_numbers ns → ms ≡ ns
unfolding all_numbers
messages_told [] [] h k = refl
messages_told [] (n ∷ ns) h k = absurd cc
messages_told (m ∷ ms) [] h k = absurd cc
messages_told (m ∷ ms) (n ∷ ns) h k =
    let e = head_of h in
    let count : length (numbers_of (ids m.doc)) ≡ length (numbers_of (ids n.doc)) =
    length-map (ids m.doc) (λ i. i.1)
    ∙ (ids_alike m n e ∙ sym (length-map (ids n.doc) (λ i. i.1))) in
    let d = doc_told m.doc n.doc (docs_alike m n e)
    (front_told (numbers_of (ids m.doc)) (all_numbers ms) (numbers_of (ids n.doc))
    (all_numbers ns) count k) in
    let s : m.side ≡ n.side = ap (λ (w : Sent). w.side) e in
    let q = messages_told ms ns (tail_of h)
    (rest_told (numbers_of (ids m.doc)) (all_numbers ms) (numbers_of (ids n.doc))
    (all_numbers ns) count k) in
    same_cons m n ms ns (same_sent m.side n.side m.doc n.doc s d) q

-- ---- no variables reference of 0

pub proper_ids : (k : ℕ) (is : List (Sort × ℤ)) → are_proper is ≡ true
    → AllByRecursion IsProperId (map (occurrence k) is)
proper_ids k [] h = tt
proper_ids k (i ∷ is) h = (
  ap (λ s. is_proper_number s i.1) (class_sort k i.0)
      ∙ and_left (is_proper_number i.0 i.1) (are_proper is) h,
  proper_ids k is (and_right (is_proper_number i.0 i.1) (are_proper is) h),
)

pub ids_proper : (k : ℕ) (is : List (Sort × ℤ)) → AllByRecursion IsProperId (map (occurrence k) is)
    → are_proper is ≡ true
ids_proper k [] h = refl
ids_proper k (i ∷ is) h =
    and_both (is_proper_number i.0 i.1) (are_proper is)
    (ap (λ s. is_proper_number s i.1) (sym (class_sort k i.0)) ∙ h.0) (ids_proper k is h.1)

pub proper_occurrences : (stop : Sent → ℕ) (k : ℕ) (ms : List Sent) → AreProper ms
    → AllByRecursion IsProperId (occurrences stop k ms)
proper_occurrences stop k [] h = tt
proper_occurrences stop k (m ∷ ms) h =
    each-append IsProperId (map (occurrence k) (ids m.doc)) (occurrences stop (k + stop m) ms)
    (proper_ids k (ids m.doc) h.0) (proper_occurrences stop (k + stop m) ms h.1)

pub proper_messages : (stop : Sent → ℕ) (k : ℕ) (ms : List Sent)
    → AllByRecursion IsProperId (occurrences stop k ms) → AreProper ms
proper_messages stop k [] h = tt
proper_messages stop k (m ∷ ms) h = (
  ids_proper k (ids m.doc)
      (each_left IsProperId (map (occurrence k) (ids m.doc)) (occurrences stop (k + stop m) ms)
      h),
  proper_messages stop (k + stop m) ms
      (each_right IsProperId (map (occurrence k) (ids m.doc)) (occurrences stop (k + stop m) ms)
      h),
)
