-- Two lists are the same if and only if they have the same skeletons and the same canonical
-- numbers. This implies the laws about fresh lists and the normal form.
use Rattle.std.proofs.Common.{◌≡◌, ℕ, suc, ℤ, pos, true, false, cond, List, []}
use Rattle.std.proofs.Common.{◌∷◌, ◌++◌, map}
use Rattle.std.proofs.Common.{length, inl, inr, refl, sym, ◌∙◌, ap, subst, arith, true≢false}
use Rattle.std.proofs.lemmas.List.{length-map, map-append}
use Rattle.std.proofs.lemmas.Bool.Decides.{Decides-int_eq}
use Rattle.std.specs.List.{list_any, AllByRecursion}
use Rattle.std.specs.Ordering.{int_eq}
use Rattle.dap_tree.specs.declared.sort.Sort.{Sort}
use Rattle.dap_tree.specs.declared.sort.Sort.TheVariants.{Reference}
use Rattle.dap_message.specs.Message.{Sent}
use Rattle.dap_message.specs.Numbers.{is_proper_number}
use Rattle.dap_rename.specs.Numbering.{table, name, named, IsFresh}
use Rattle.dap_rename.specs.Renamings.{IsIn, IsRenaming, AreRelated, pairs}
use Rattle.dap_rename.specs.Messages.{Class, IsProperId, occurrences}
use Rattle.dap_rename.specs.Messages.{message_skeleton, same_class, AreSame, IsNormal}
use Rattle.dap_rename.specs.Messages.{Carries, stops_after, all_classes}
use Rattle.dap_rename.specs.Laws.{SameAsItself, SameBothWays, SameAlong, SameIsProper, SameFronts}
use Rattle.dap_rename.specs.Laws.{FreshIsUnique, NormalIsUnique, NormalIsComplete, NamedIsNormal}
use Rattle.dap_rename.specs.Laws.{NormalIsItsOwn, EqualPlacesRename, EqualPlacesCarry}
use Rattle.dap_rename.proofs.Additions.{by_bool}
use Rattle.dap_rename.proofs.FreshLists.{IsCounted, named-fresh, fresh_named}
use Rattle.dap_rename.proofs.Classes.{classes_differ, all_reached}
use Rattle.dap_rename.proofs.Lists.{front_told, each-more}
use Rattle.dap_rename.proofs.RelatedLists.{Tied, named-related, Distinct}
use Rattle.dap_rename.proofs.RenamingBetween.{pairs_renaming, related_by_pairs}
use Rattle.dap_rename.proofs.Occurrences.{class_decides, occurrences_alike, occurrences-append}
use Rattle.dap_rename.proofs.Occurrences.{messages_told, seconds, seconds-occurrences}
use Rattle.dap_rename.proofs.Occurrences.{proper_occurrences, proper_messages}

-- ---- the classes of a list

abbrev pub classes : List (Class × ℤ) → List Class
classes [] = []
classes (o ∷ os) = cond (list_any (same_class o.0) (classes os)) (classes os) (o.0 ∷ classes os)

pub in_any : (c : Class) (cs : List Class) → list_any (same_class c) cs ≡ true → IsIn c cs
in_any c [] h = absurd cc
in_any c (d ∷ cs) h =
    by_bool (same_class c d) (λ a. inl ((class_decides c d).0 a))
    (λ a. inr (in_any c cs (rw a at h)))

pub none_any : (c : Class) (cs : List Class) → list_any (same_class c) cs ≡ false
    → AllByRecursion (λ d. c ≡ d → ⊥) cs
none_any c [] h = tt
none_any c (d ∷ cs) h =
    by_bool (same_class c d)
    (λ a. absurd (true≢false (rw a at h)))
    (λ a. ((λ e. true≢false (sym ((class_decides c d).1 e) ∙ a)), none_any c cs (rw a at h)))

pub classes_distinct : (os : List (Class × ℤ)) → Distinct (classes os)
classes_distinct [] = tt
classes_distinct (o ∷ os) =
    by_bool (list_any (same_class o.0) (classes os))
    (λ a. rw a (classes_distinct os))
    (λ a. rw a (none_any o.0 (classes os) a, classes_distinct os))

pub in_more : (o : Class × ℤ) (os : List (Class × ℤ)) (c : Class) → IsIn c (classes os)
    → IsIn c (classes (o ∷ os))
in_more o os c i =
    by_bool (list_any (same_class o.0) (classes os)) (λ a. rw a i) (λ a. rw a (inr i))

pub in_first : (o : Class × ℤ) (os : List (Class × ℤ)) → IsIn o.0 (classes (o ∷ os))
in_first o os =
    by_bool (list_any (same_class o.0) (classes os)) (λ a. rw a (in_any o.0 (classes os) a))
    (λ a. rw a (inl refl))

pub classes_all : (os : List (Class × ℤ)) → AllByRecursion (λ o. IsIn o.0 (classes os)) os
classes_all [] = tt
classes_all (o ∷ os) =
    (in_first o os, each-more _ _ os (λ p i. in_more o os p.0 i) (classes_all os))

-- ---- being the same

-- the two lists have the same skeletons and the same canonical numbers, and no variables reference
-- of 0
pub record Alike (stop : Sent → ℕ) (ms ns : List Sent) : Type 0 where
  pub skeletons : map message_skeleton ms ≡ map message_skeleton ns
  pub names : named same_class [] (occurrences stop 0 ms)
      ≡ named same_class [] (occurrences stop 0 ns)
  pub left : AllByRecursion IsProperId (occurrences stop 0 ms)
  pub right : AllByRecursion IsProperId (occurrences stop 0 ns)

pub in_is : (r : List (Class × ℤ × ℤ)) → IsRenaming IsProperId r → (p : Class × ℤ × ℤ) → IsIn p r
    → IsProperId (p.0, p.1) × IsProperId (p.0, p.2)
in_is [] h p i = absurd i
in_is (q ∷ r) h p (inl e) = rw e h.0
in_is (q ∷ r) h p (inr i) = in_is r h.2 p i

pub related_ids : (r : List (Class × ℤ × ℤ)) → IsRenaming IsProperId r → (xs ys : List (Class × ℤ))
    → AreRelated r xs ys → AllByRecursion IsProperId xs × AllByRecursion IsProperId ys
related_ids r h [] [] k = (tt, tt)
related_ids r h [] (p ∷ ys) k = absurd k
related_ids r h (o ∷ xs) [] k = absurd k
related_ids r h (o ∷ xs) (p ∷ ys) k =
    let e = in_is r h (o.0, o.1, p.1) k.1 in
    let t = related_ids r h xs ys k.2 in
    let P : Class → Type 0 = λ c. IsProperId (c, p.1) in
    ((e.0, t.0), (subst P k.0 e.1, t.1))

pub alike : (stop : Sent → ℕ) (ms ns : List Sent) → AreSame stop ms ns → Alike stop ms ns
unfolding AreSame Tied table
alike stop ms ns s =
    let ids = related_ids s.0 s.1 (occurrences stop 0 ms) (occurrences stop 0 ns) s.2.1 in
    record {
      skeletons = s.2.0;
      names = named-related same_class class_decides IsProperId s.0 s.1 [] []
          (occurrences stop 0 ms) (occurrences stop 0 ns) (λ c. tt) s.2.1;
      left = ids.0;
      right = ids.1;
    }

-- pairing by position, for classes in any order, maps the first list to the second
pub carried : (stop : Sent → ℕ) (cs : List Class) (ms ns : List Sent) → Distinct cs
    → AllByRecursion (λ o. IsIn o.0 cs) (occurrences stop 0 ms) → Alike stop ms ns →
    let r = pairs same_class cs (occurrences stop 0 ms) (occurrences stop 0 ns) in IsRenaming
    IsProperId r × Carries stop r ms ns
carried stop cs ms ns distinct all a =
    let xs = occurrences stop 0 ms in
    let ys = occurrences stop 0 ns in (
      pairs_renaming same_class class_decides IsProperId cs xs ys distinct a.left a.right,
      (
        a.skeletons,
        related_by_pairs same_class class_decides cs xs ys [] [] xs ys all refl refl a.names,
      ),
    )

pub same_of : (stop : Sent → ℕ) (ms ns : List Sent) → Alike stop ms ns → AreSame stop ms ns
unfolding AreSame
same_of stop ms ns a =
    let xs = occurrences stop 0 ms in
    let c = carried stop (classes xs) ms ns (classes_distinct xs) (classes_all xs) a in
    (pairs same_class (classes xs) xs (occurrences stop 0 ns), c.0, c.1)

pub same_as_itself : SameAsItself
same_as_itself stop ms p = let q =
    proper_occurrences stop 0 ms p in same_of stop ms ms
    (record { skeletons = refl; names = refl; left = q; right = q })

pub same_both_ways : SameBothWays
same_both_ways stop ms ns s = let a =
    alike stop ms ns s in same_of stop ns ms
    (record { skeletons = sym a.skeletons; names = sym a.names; left = a.right; right = a.left })

pub same_along : SameAlong
same_along stop ms ns ks s t =
    let a = alike stop ms ns s in
    let b = alike stop ns ks t in
    same_of stop ms ks
    (record {
      skeletons = a.skeletons ∙ b.skeletons;
      names = a.names
          ∙ b.names;
      left = a.left;
      right = b.right;
    })

pub same_is_proper : SameIsProper
same_is_proper stop ms ns s = let a =
    alike stop ms ns s in (proper_messages stop 0 ms a.left, proper_messages stop 0 ns a.right)

pub related_front : {K : Type 0} (r : List (K × ℤ × ℤ)) (xs more ys rest : List (K × ℤ))
    → length xs ≡ length ys → AreRelated r (xs ++ more) (ys ++ rest) → AreRelated r xs ys
related_front r [] more [] rest n h = tt
related_front r [] more (p ∷ ys) rest n h = absurd (omega (arith, n))
related_front r (o ∷ xs) more [] rest n h = absurd (omega (arith, n))
related_front r (o ∷ xs) more (p ∷ ys) rest n h =
    (h.0, h.1, related_front r xs more ys rest (omega (arith, n)) h.2)

pub same_fronts : SameFronts
unfolding AreSame
same_fronts stop ms more ns rest n s =
    let count : length (map message_skeleton ms) ≡ length (map message_skeleton ns) =
    length-map ms message_skeleton ∙ (n ∙ sym (length-map ns message_skeleton)) in
    let split : map message_skeleton ms ++ map message_skeleton more
    ≡ map message_skeleton ns ++ map message_skeleton rest =
    sym (map-append message_skeleton ms more) ∙ (s.2.0 ∙ map-append message_skeleton ns rest) in
    let skeletons =
    front_told (map message_skeleton ms) (map message_skeleton more) (map message_skeleton ns)
    (map message_skeleton rest) count split in
    let related =
    subst (λ xs. AreRelated s.0 xs (occurrences stop 0 (ns ++ rest)))
    (occurrences-append stop 0 ms more) s.2.1 in (
      s.0,
      s.1,
      (
        skeletons,
        related_front s.0 (occurrences stop 0 ms) _ (occurrences stop 0 ns) _
            (occurrences_alike stop 0 0 ms ns skeletons)
            (subst (AreRelated s.0 _) (occurrences-append stop 0 ns rest) related),
      ),
    )

-- ---- fresh lists and the normal form

pub fresh_names : (os : List (Class × ℤ)) → IsFresh same_class os → named same_class [] os ≡ os
unfolding IsCounted table
fresh_names os f = named-fresh same_class class_decides [] os (λ c. refl) f

pub fresh_is_unique : FreshIsUnique
fresh_is_unique stop n k s f g =
    let a = alike stop n k s in
    let e : occurrences stop 0 n ≡ occurrences stop 0 k =
    sym (fresh_names _ f) ∙ a.names ∙ fresh_names _ g in
    messages_told n k a.skeletons (sym (seconds-occurrences stop 0 n) ∙ ap seconds e
    ∙ seconds-occurrences stop 0 k)

pub normal_is_unique : NormalIsUnique
unfolding IsNormal
normal_is_unique stop ms ns n k s p q =
    fresh_is_unique stop n k
    (same_along stop n ms k (same_both_ways stop ms n p.0) (same_along stop ms ns k s q.0)) p.1 q.1

pub normal_is_complete : NormalIsComplete
unfolding IsNormal
normal_is_complete stop ms ns n p q = same_along stop ms n ns p.0 (same_both_ways stop ns n q.0)

pub normal_is_its_own : NormalIsItsOwn
unfolding IsNormal
normal_is_its_own stop ms n h = (same_along stop n ms n (same_both_ways stop ms n h.0) h.0, h.1)

pub proper_suc : (s : Sort) (k : ℕ) → is_proper_number s (pos (suc k)) ≡ true
proper_suc Reference k =
    by_bool (int_eq (pos (suc k)) (pos 0)) (λ a. let e : pos (suc k)
    ≡ pos 0 = (Decides-int_eq (pos (suc k)) (pos 0)).0 a in absurd cc) (λ a. rw a refl)
proper_suc s k = refl

pub named_proper : (e os : List (Class × ℤ)) → AllByRecursion IsProperId (named same_class e os)
unfolding name
named_proper e [] = tt
named_proper e (o ∷ os) = (proper_suc o.0.0 _, named_proper (e ++ o ∷ []) os)

pub named_is_normal : NamedIsNormal
unfolding IsNormal
named_is_normal stop ms n p h e =
    let xs = occurrences stop 0 ms in
    let f : IsFresh same_class (named same_class [] xs) = fresh_named same_class class_decides xs in
    let g : IsFresh same_class (occurrences stop 0 n) = rw e f in (
      same_of stop ms n
          (record {
            skeletons = sym h;
            names = sym (fresh_names _ g ∙ e);
            left = proper_occurrences stop 0 ms p;
            right = rw e (named_proper [] xs);
          }),
      g,
    )

-- ---- pairing by position

pub equal_places_carry : EqualPlacesCarry
equal_places_carry stop ms ns s =
    let cs = all_classes (stops_after stop 0 ms) in
    (carried stop cs ms ns (classes_differ (stops_after stop 0 ms)) (all_reached stop ms)
    (alike stop ms ns s)).1

pub equal_places_rename : EqualPlacesRename
equal_places_rename stop ms ns p q =
    let cs = all_classes (stops_after stop 0 ms) in
    pairs_renaming same_class class_decides IsProperId cs (occurrences stop 0 ms)
    (occurrences stop 0 ns) (classes_differ (stops_after stop 0 ms))
    (proper_occurrences stop 0 ms p) (proper_occurrences stop 0 ns q)
