-- The numbers in the tables are those of the classes, and their positions are the canonical
-- numbers.
use Rattle.std.proofs.Common.{◌≡◌, ℕ, zero, suc, ◌+◌, ◌<◌, ◌≤◌, ℤ, pos, Bool, true, false, cond}
use Rattle.std.proofs.Common.{eqb, take, Result, Ok, Err, OnOk, OnErr, is_err}
use Rattle.std.proofs.Common.{List, [], ◌∷◌, ◌++◌, length, map, zip, get_or, refl, sym, ◌∙◌, ap}
use Rattle.std.proofs.Common.{subst, arith, append_assoc, append-nil, true≢false}
use Rattle.std.specs.List.{position_or_len}
use Rattle.std.specs.Ordering.{int_eq}
use Rattle.std.proofs.lemmas.Bool.{eqb-true, eq-eqb}
use Rattle.std.proofs.lemmas.List.{get_or_push, length-map, take_more}
use Rattle.dap_tree.specs.Ids.{ids, sorts_of, skeleton}
use Rattle.dap_tree.specs.declared.sort.Sort.{Sort}
use Rattle.dap_tree.specs.declared.sort.Sort.TheVariants.{Frame, Reference}
use Rattle.dap_tree.proofs.Booleans.{and_both}
use Rattle.dap_tree.proofs.IdNumbers.{skeleton-with}
use Rattle.dap_message.specs.Message.{Sent}
use Rattle.dap_message.specs.Numbers.{is_proper_number, are_proper, renumbered}
use Rattle.dap_message.proofs.RenumberedMessages.{ids-with}
use Rattle.dap_rename.specs.Numbering.{add, add_all, numbers, table, name, named}
use Rattle.dap_rename.specs.Messages.{Class, same_class, class_after, occurrence}
use Rattle.dap_rename.specs.Sorts.{same_sort}
use Rattle.dap_rename.specs.Messages.{occurrences, numbers_of_class, stops_after}
use Rattle.dap_rename.specs.Messages.{HasFewIds, HasTooManyIds, IsRenamed, with_numbers}
use Rattle.dap_rename.specs.Table.{place}
use Rattle.dap_rename.specs.Tables.{Lists, table_of, added, added_all, names_from, lists}
use Rattle.dap_rename.specs.Tables.{limits, AllFit, SomeExceedsLimit}
use Rattle.dap_rename.specs.Names.{past_lists, list_of_class, limit_in, RepresentsWith, AreNamed}
use Rattle.dap_rename.specs.declared.names.Names.{Names}
use Rattle.dap_rename.specs.declared.past.PastClasses.{PastClasses}
use Rattle.dap_rename.specs.declared.tables.Tables.{Tables}
use Rattle.dap_rename.proofs.Additions.{by_bool, numbers-append, table-push}
use Rattle.dap_tree.proofs.Sorts.{same_sort_told}
use Rattle.dap_rename.proofs.ListGrowth.{added_at, list_at, limit_at}
use Rattle.dap_rename.proofs.Occurrences.{class_decides, class_sort, class_apart, same_itself}
use Rattle.dap_rename.proofs.Occurrences.{same_sent, occurrences-push, stops-push}
use Rattle.dap_rename.proofs.Sameness.{proper_suc}

-- the lists are the distinct numbers of each class after k stops
abbrev pub StandAfter : ℕ → Lists → List (Class × ℤ) → Type 0
StandAfter k l os = (s : Sort) → table_of l s ≡ table same_class (class_after k s) os

pub table-own : (c : Class) (os : List (Class × ℤ)) (x : ℤ)
    → table same_class c (os ++ (c, x) ∷ []) ≡ add (table same_class c os) x
table-own c os x = table-push same_class c os (c, x) ∙ rw (same_itself c) refl

pub represents-added : (k : ℕ) (l : Lists) (os : List (Class × ℤ)) (s : Sort) (x : ℤ) (r : Sort)
    → StandAfter k l os
    → table_of (added l s x) r
    ≡ table same_class (class_after k r) (os ++ (class_after k s, x) ∷ [])
represents-added k l os s x r h =
    added_at l s x r
    ∙ by_bool (same_sort r s)
    (λ a. rw a (ap (λ t. add t x) (h r) ∙ sym (table-own (class_after k r) os x)
    ∙ ap (λ q. table same_class (class_after k r) (os ++ (class_after k q, x) ∷ []))
    (same_sort_told r s a)))
    (λ a. let apart = class_apart k r s a in rw (a, table-push, apart) (h r))

pub name_is : (k : ℕ) (l : Lists) (os : List (Class × ℤ)) (i : Sort × ℤ) → StandAfter k l os
    → place (table_of l i.0) i.1 ≡ name same_class os (occurrence k i)
unfolding name
name_is k l os i h = ap (λ t. pos (suc (position_or_len (int_eq i.1) t))) (h i.0)

pub represents-added_all : (k : ℕ) (l : Lists) (os : List (Class × ℤ)) (is : List (Sort × ℤ))
    → StandAfter k l os → StandAfter k (added_all l is) (os ++ map (occurrence k) is)
represents-added_all k l os [] h = rw append-nil h
represents-added_all k l os (i ∷ is) h =
    let t = represents-added_all k (added l i.0 i.1) (os ++ occurrence k i ∷ []) is
    (λ r. represents-added k l os i.0 i.1 r h) in
    λ s. t s ∙ ap (table same_class (class_after k s))
    (append_assoc os (occurrence k i ∷ []) (map (occurrence k) is))

-- the ids of a message with the canonical numbers that the lists define
pub named_ids_are : (k : ℕ) (l : Lists) (os : List (Class × ℤ)) (is : List (Sort × ℤ))
    → StandAfter k l os
    → map (occurrence k) (zip (sorts_of is) (names_from l is))
    ≡ named same_class os (map (occurrence k) is)
named_ids_are k l os [] h = refl
named_ids_are k l os (i ∷ is) h =
    rw (name_is k l os i h)
    (ap (λ t. (class_after k i.0, name same_class os (occurrence k i)) ∷ t)
    (named_ids_are k (added l i.0 i.1) (os ++ occurrence k i ∷ []) is
    (λ r. represents-added k l os i.0 i.1 r h)))

pub count_names : (l : Lists) (is : List (Sort × ℤ)) → length (names_from l is) ≡ length is
count_names l [] = refl
count_names l (i ∷ is) = ap suc (count_names (added l i.0 i.1) is)

-- canonical numbers are not variables references of 0
pub names_proper : (ss : List Sort) (l : Lists) (is : List (Sort × ℤ))
    → are_proper (zip ss (names_from l is)) ≡ true
names_proper [] l is = refl
names_proper (s ∷ ss) l [] = refl
names_proper (s ∷ ss) l (i ∷ is) =
    and_both (is_proper_number s (place (table_of l i.0) i.1)) _ (proper_suc s _)
    (names_proper ss (added l i.0 i.1) is)

-- ---- the lists of classes

-- as many classes have ended as there were stops
pub past_count : (past : List PastClasses) (s : Sort)
    → length (past_lists past s) ≡ (class_after (length past) s).1
past_count past Frame = length-map past (λ p. p.frames.items)
past_count past Reference = length-map past (λ p. p.references.items)
past_count past s = refl

-- the last list of a kind is that of its present class
pub present_list : (past : Sort → List (List ℤ)) (now : Sort → List ℤ) (k : ℕ) (s : Sort)
    → length (past s) ≡ (class_after k s).1 → list_of_class past now (class_after k s) ≡ now s
present_list past now k Frame h = get_or_push (past Frame) (now Frame) [] k h
present_list past now k Reference h = get_or_push (past Reference) (now Reference) [] k h
present_list past now k s h = get_or_push (past s) (now s) [] 0 h

pub present_class : (k : ℕ) (c : Class) → c.1 ≡ (class_after k c.0).1 → class_after k c.0 ≡ c
present_class k c h =
    same_pair (class_after k c.0).0 c.0 (class_after k c.0).1 c.1 (class_sort k c.0) (sym h)
  where
    same_pair : (a b : Sort) (m n : ℕ) → a ≡ b → m ≡ n → ◌≡◌ {A = Class} (a, m) (b, n)
    same_pair a b m n p q = rw (p, q) refl

-- the lists before the last one do not depend on it
other_list : (xs : List (List ℤ)) (x y : List ℤ) (j : ℕ) → (j ≡ length xs → ⊥)
    → get_or (xs ++ x ∷ []) j [] ≡ get_or (xs ++ y ∷ []) j []
other_list [] x y zero h = absurd (h refl)
other_list [] x y (suc j) h = refl
other_list (z ∷ xs) x y zero h = refl
other_list (z ∷ xs) x y (suc j) h = other_list xs x y j (λ e. h (omega (arith, e)))

-- a list that has a number and has not ended is the last one
pub last_list : (xs : List (List ℤ)) (x : List ℤ) (j i : ℕ) → length xs ≤ j
    → i < length (get_or (xs ++ x ∷ []) j []) → get_or (xs ++ x ∷ []) j [] ≡ x
last_list [] x zero i h k = refl
last_list [] x (suc j) i h k = absurd (omega (arith, k))
last_list (z ∷ xs) x zero i h k = absurd (omega (arith, h))
last_list (z ∷ xs) x (suc j) i h k = last_list xs x j i (omega (arith, h)) k

-- one more number of a table
pub numbers_step : (xs : List ℤ) (k : ℕ) (old new : List ℤ) (x : ℤ) → k < length xs
    → old ≡ take k xs → x ≡ get_or xs k (pos 0) → new ≡ old ++ x ∷ [] → new ≡ take (k + 1) xs
numbers_step xs k old new x h e f q =
    q ∙ ap (λ t. t ++ x ∷ []) e ∙ ap (λ y. take k xs ++ y ∷ []) f ∙ sym (take_more xs k (pos 0) h)

-- an empty last list is like no list
pub empty_last : (xs : List (List ℤ)) (j : ℕ) → get_or (xs ++ [] ∷ []) j [] ≡ get_or xs j []
empty_last [] zero = refl
empty_last [] (suc j) = refl
empty_last (z ∷ xs) zero = refl
empty_last (z ∷ xs) (suc j) = empty_last xs j

-- ---- a class that is not the present class of its kind

class_other : (k : ℕ) (c : Class) (s : Sort) → (c.1 ≡ (class_after k c.0).1 → ⊥)
    → same_class c (class_after k s) ≡ false
class_other k c s h =
    by_bool (same_class c (class_after k s))
    (λ a. let e : c ≡ class_after k s = (class_decides c (class_after k s)).0 a in
    let r : c.0 ≡ s = ap (λ (d : Class). d.0) e ∙ class_sort k s in
    absurd (h (ap (λ (d : Class). d.1) e ∙ ap (λ t. (class_after k t).1) (sym r))))
    (λ a. a)

numbers_other : (k : ℕ) (c : Class) (is : List (Sort × ℤ))
    → (c.1 ≡ (class_after k c.0).1 → ⊥) → numbers same_class c (map (occurrence k) is) ≡ []
numbers_other k c [] h = refl
numbers_other k c (i ∷ is) h = rw (class_other k c i.0 h) (numbers_other k c is h)

table_other : (k : ℕ) (c : Class) (os : List (Class × ℤ)) (is : List (Sort × ℤ))
    → (c.1 ≡ (class_after k c.0).1 → ⊥)
    → table same_class c (os ++ map (occurrence k) is) ≡ table same_class c os
unfolding table
table_other k c os is h =
    ap (add_all []) (numbers-append same_class c os (map (occurrence k) is)
    ∙ ap (λ t. numbers same_class c os ++ t) (numbers_other k c is h)
    ∙ append-nil (numbers same_class c os))

-- ---- interning ids

-- the lists of classes are their distinct numbers
abbrev pub AreHeld : (Sort → List (List ℤ)) → Lists → List (Class × ℤ) → Type 0
AreHeld past l os = (c : Class) → list_of_class past (table_of l) c ≡ table same_class c os

module _ (past : Sort → List (List ℤ)) (l : Lists) (k : ℕ) (os : List (Class × ℤ))
    (count : (s : Sort) → length (past s) ≡ (class_after k s).1) (held : AreHeld past l os) where
  pub stand_now : StandAfter k l os
  stand_now s = sym (present_list past (table_of l) k s (count s)) ∙ held (class_after k s)

  pub held_named : (is : List (Sort × ℤ))
      → AreHeld past (added_all l is) (os ++ map (occurrence k) is)
  held_named is c =
      by_bool (eqb c.1 (class_after k c.0).1)
      (λ a. subst (λ d. list_of_class past (table_of (added_all l is)) d
      ≡ table same_class d (os ++ map (occurrence k) is))
      (present_class k c (eqb-true c.1 (class_after k c.0).1 a))
      (present_list past (table_of (added_all l is)) k c.0 (count c.0)
      ∙ represents-added_all k l os is stand_now c.0))
      (λ a. let apart : c.1 ≡ (class_after k c.0).1 → ⊥ =
      λ e. true≢false (sym (eq-eqb c.1 (class_after k c.0).1 e) ∙ a) in
      other_list (past c.0) (table_of (added_all l is) c.0) (table_of l c.0) c.1
      (λ e. apart (e ∙ count c.0))
      ∙ held c ∙ sym (table_other k c os is apart))

-- ---- names after one more message

module _ {T : Type 0} (stop : Sent → ℕ) (numbers_of : T → List ℤ) (limit : T → ℕ) where
  module _ (names : Names T) (ms : List Sent) (h : RepresentsWith stop numbers_of limit names ms)
    where
      pub held_count : (s : Sort)
          → length (past_lists names.past.items s) ≡ (class_after (stops_after stop 0 ms) s).1
      held_count s =
          past_count names.past.items s ∙ ap (λ k. (class_after k s).1) h.stops

      pub held_lists : AreHeld (past_lists names.past.items) (lists numbers_of names.tables)
          (occurrences stop 0 ms)
      held_lists c =
          ap (λ t. get_or (past_lists names.past.items c.0 ++ t ∷ []) c.1 [])
          (list_at numbers_of names.tables c.0)
          ∙ h.classes c

      pub stand_lists : StandAfter (stops_after stop 0 ms) (lists numbers_of names.tables)
          (occurrences stop 0 ms)
      stand_lists =
          stand_now (past_lists names.past.items) (lists numbers_of names.tables)
          (stops_after stop 0 ms) (occurrences stop 0 ms) held_count held_lists

      pub held_next : (m : Sent)
          → AreHeld (past_lists names.past.items)
          (added_all (lists numbers_of names.tables) (ids m.doc))
          (occurrences stop 0 (ms ++ m ∷ []))
      held_next m c =
          held_named (past_lists names.past.items) (lists numbers_of names.tables)
          (stops_after stop 0 ms) (occurrences stop 0 ms) held_count held_lists (ids m.doc) c
          ∙ ap (table same_class c) (sym (occurrences-push stop 0 ms m))

      pub stand_added : (m : Sent)
          → StandAfter (stops_after stop 0 ms)
          (added_all (lists numbers_of names.tables) (ids m.doc))
          (occurrences stop 0 (ms ++ m ∷ []))
      stand_added m =
          stand_now (past_lists names.past.items)
          (added_all (lists numbers_of names.tables) (ids m.doc))
          (stops_after stop 0 ms) (occurrences stop 0 (ms ++ m ∷ [])) held_count (held_next m)

      pub few_next : (m : Sent)
          → AllFit (limits limit names.tables)
          (added_all (lists numbers_of names.tables) (ids m.doc))
          → HasFewIds stop (limit_in limit names) (ms ++ m ∷ [])
      unfolding AllFit
      few_next m fit c =
          let k = stops_after stop 0 ms in
          by_bool (eqb c.1 (class_after k c.0).1)
          (λ a. let own : class_after k c.0 ≡ c =
          present_class k c (eqb-true c.1 (class_after k c.0).1 a) in
          subst (λ d. length (table same_class d (occurrences stop 0 (ms ++ m ∷ [])))
          ≤ limit_in limit names c.0) own
          (few_of c.0 (ap length (stand_added m c.0)) (fit c.0)
          (limit_at limit names.tables c.0)))
          (λ a. let apart : c.1 ≡ (class_after k c.0).1 → ⊥ =
          λ e. true≢false (sym (eq-eqb c.1 (class_after k c.0).1 e) ∙ a) in
          subst (λ t. length t ≤ limit_in limit names c.0)
          (sym (ap (table same_class c) (occurrences-push stop 0 ms m)
          ∙ table_other k c (occurrences stop 0 ms) (ids m.doc) apart)) (h.few c))
        where
          few_of : (s : Sort) {a b n x : ℕ} → a ≡ b → a ≤ n → n ≡ x → b ≤ x
          few_of s e f g = omega arith

      pub many_next : (m : Sent)
          → SomeExceedsLimit (limits limit names.tables)
          (added_all (lists numbers_of names.tables) (ids m.doc))
          → HasTooManyIds stop (limit_in limit names) (ms ++ m ∷ [])
      many_next m o =
          let k = stops_after stop 0 ms in
          record {
            of = class_after k o.0;
            many = omega (
              arith,
              o.1,
              ap length (stand_added m o.0),
              limit_at limit names.tables o.0,
              ap (λ s. limit (table_of names.tables s)) (class_sort k o.0),
            );
          }

  pub stand_next : (old new : Names T) (ms : List Sent) (m : Sent) (b : Bool)
      → RepresentsWith stop numbers_of limit old ms → AreNamed numbers_of old new (ids m.doc) b
      → stop m ≡ cond b 1 0
      → AllFit (limits limit old.tables) (added_all (lists numbers_of old.tables) (ids m.doc))
      → limits limit new.tables ≡ limits limit old.tables
      → RepresentsWith stop numbers_of limit new (ms ++ m ∷ [])
  stand_next old new ms m b h named is_stop fit same =
      record {
        stops = named.stops ∙ ap (λ k. k + cond b 1 0) h.stops
            ∙ ap (λ j. stops_after stop 0 ms + j) (sym is_stop) ∙ sym (stops-push stop 0 ms m);
        classes = λ c. named.classes c ∙ held_next old ms h m c;
        few = λ c. subst (λ n. length (numbers_of_class stop c (ms ++ m ∷ [])) ≤ n)
            (sym (limit_at limit old.tables c.0) ∙ ap (λ t. table_of t c.0) (sym same)
            ∙ limit_at limit new.tables c.0) (few_next old ms h m fit c);
      }

-- names of no message
pub stand_new : {T : Type 0} (stop : Sent → ℕ) (numbers_of : T → List ℤ) (limit : T → ℕ)
    (names : Names T) → names.past.items ≡ []
    → ((s : Sort) → numbers_of (table_of names.tables s) ≡ [])
    → RepresentsWith stop numbers_of limit names []
unfolding table
stand_new stop numbers_of limit names none empty =
    record {
      stops = ap length none;
      classes = λ c. ap (λ past. get_or (past_lists past c.0 ++ numbers_of (table_of names.tables
          c.0)
          ∷ []) c.1 []) none
          ∙ ap (λ t. get_or (past_lists [] c.0 ++ t ∷ []) c.1 []) (empty c.0)
          ∙ empty_last (past_lists [] c.0) c.1 ∙ nothing c.0 c.1;
      few = λ c. omega arith;
    }
  where
    nothing : (s : Sort) (j : ℕ) → get_or (past_lists [] s) j [] ≡ []
    nothing Frame j = refl
    nothing s j = refl

-- names with unchanged lists
pub same_classes : {T : Type 0} (numbers_of : T → List ℤ) (t u : Tables T)
    (past more : List PastClasses) → lists numbers_of u ≡ lists numbers_of t → more ≡ past
    → (c : Class)
    → list_of_class (past_lists more) (λ s. numbers_of (table_of u s)) c
    ≡ list_of_class (past_lists past) (λ s. numbers_of (table_of t s)) c
same_classes numbers_of t u past more e f c =
    ap (λ x. get_or (past_lists more c.0 ++ x ∷ []) c.1 [])
    (sym (list_at numbers_of u c.0) ∙ ap (λ l. table_of l c.0) e ∙ list_at numbers_of t c.0)
    ∙ ap (λ p. get_or (past_lists p c.0 ++ numbers_of (table_of t c.0) ∷ []) c.1 []) f

pub on_err_told : {V E P : Type 0} (r : Result V E) → is_err r ≡ true → OnErr r P → P
on_err_told (Ok v) e h = absurd (true≢false (sym e))
on_err_told (Err f) e h = h

-- a message with these canonical numbers at its ids
pub renamed : (stop : Sent → ℕ) (ms : List Sent) (m new : Sent) (l : Lists) → new.side ≡ m.side
    → skeleton new.doc ≡ skeleton m.doc
    → ids new.doc ≡ zip (sorts_of (ids m.doc)) (names_from l (ids m.doc)) →
    StandAfter (stops_after stop 0 ms) l (occurrences stop 0 ms)
    → IsRenamed stop ms m new
renamed stop ms m new l side skel numbered h = record {
  skeleton = same_sent new.side m.side (skeleton new.doc) (skeleton m.doc) side skel;
  names = ap (map (occurrence (stops_after stop 0 ms))) numbered
      ∙ named_ids_are (stops_after stop 0 ms) l (occurrences stop 0 ms) (ids m.doc) h;
}

-- this message, if the canonical numbers are inserted at the ids
pub renamed_with : (stop : Sent → ℕ) (ms : List Sent) (m : Sent) (l : Lists) (ns : List ℤ)
    → ns ≡ names_from l (ids m.doc)
    → StandAfter (stops_after stop 0 ms) l (occurrences stop 0 ms)
    → IsRenamed stop ms m (with_numbers m ns)
renamed_with stop ms m l ns named h =
    let count : length ns ≡ length (ids m.doc) =
    ap length named ∙ count_names l (ids m.doc) in
    renamed stop ms m (with_numbers m ns) l refl (skeleton-with m.doc ns)
    (ids-with m.doc ns count ∙ ap (renumbered m.doc) named) h

-- two facts about `Ok` imply a third
pub on_ok_both : {V E P Q R : Type 0} (r : Result V E) → OnOk r P → OnOk r Q → (P → Q → R)
    → OnOk r R
on_ok_both (Ok v) p q f = f p q
on_ok_both (Err e) p q f = tt
