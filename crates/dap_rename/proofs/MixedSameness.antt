-- Let the ids of some kinds in two lists of messages be those of two lists that are the same, and
-- let their other ids be equal. Then the two lists are the same.
use Rattle.std.proofs.Common.{◌≡◌, ℤ, Bool, not, List, [], ◌∷◌, ◌++◌, map, refl, sym, ◌∙◌, ap}
use Rattle.dap_tree.specs.Ids.{ids}
use Rattle.dap_tree.specs.declared.sort.Sort.{Sort}
use Rattle.dap_message.specs.Message.{Sent}
use Rattle.dap_rename.specs.Numbering.{named}
use Rattle.dap_rename.proofs.Additions.{by_bool}
use Rattle.dap_rename.proofs.MixedNames.{part, part-append, names_of_parts}
use Rattle.dap_rename.specs.Laws.{of_sorts, AreMixed, SameByParts}
use Rattle.dap_rename.specs.Messages.{Class, class_after, no_stop, message_skeleton, occurrence}
use Rattle.dap_rename.specs.Messages.{occurrences, same_class}
use Rattle.dap_rename.proofs.NormalForms.{whole_is_told}
use Rattle.dap_rename.proofs.Occurrences.{class_decides, class_sort, firsts_alike}
use Rattle.dap_rename.proofs.Occurrences.{proper_occurrences}
use Rattle.dap_rename.proofs.Sameness.{alike, same_of}

-- ---- the ids of some kinds

part_of : (p : Sort → Bool) (is : List (Sort × ℤ))
    → part (λ (c : Class). p c.0) (map (occurrence 0) is) ≡ map (occurrence 0) (of_sorts p is)
part_of p [] = refl
part_of p (i ∷ is) =
    let s = class_sort 0 i.0 in
    by_bool (p i.0)
    (λ h. let k : p (class_after 0 i.0).0 ≡ p i.0 = ap p s in
    rw (k, h) (ap (λ t. occurrence 0 i ∷ t) (part_of p is)))
    (λ h. let k : p (class_after 0 i.0).0 ≡ p i.0 = ap p s in rw (k, h) (part_of p is))

part-message : (p : Sort → Bool) (m : Sent) (ms : List Sent)
    → part (λ (c : Class). p c.0) (occurrences no_stop 0 (m ∷ ms))
    ≡ map (occurrence 0) (of_sorts p (ids m.doc))
    ++ part (λ (c : Class). p c.0) (occurrences no_stop 0 ms)
part-message p m ms =
    let q : Class → Bool = λ c. p c.0 in
    part-append q (map (occurrence 0) (ids m.doc)) (occurrences no_stop 0 ms)
    ∙ ap (λ t. t ++ part q (occurrences no_stop 0 ms)) (part_of p (ids m.doc))

skeletons_of : (p : Sort → Bool) (ms ns os qs : List Sent) → AreMixed p ms ns os qs
    → map message_skeleton os ≡ map message_skeleton qs
skeletons_of p [] [] [] [] h = refl
skeletons_of p (m ∷ ms) (n ∷ ns) (o ∷ os) (q ∷ qs) h =
    rw (h.0.skeleton, skeletons_of p ms ns os qs h.1) refl
skeletons_of p _ _ _ _ h = absurd h

equal_of : (p : Sort → Bool) (ms ns os qs : List Sent) → AreMixed p ms ns os qs
    → part (λ (c : Class). p c.0) (occurrences no_stop 0 os)
    ≡ part (λ (c : Class). p c.0) (occurrences no_stop 0 qs)
equal_of p [] [] [] [] h = refl
equal_of p (m ∷ ms) (n ∷ ns) (o ∷ os) (q ∷ qs) h =
    part-message p o os ∙ rw (h.0.equal, equal_of p ms ns os qs h.1) refl
    ∙ sym (part-message p q qs)
equal_of p _ _ _ _ h = absurd h

left_of : (p : Sort → Bool) (ms ns os qs : List Sent) → AreMixed p ms ns os qs
    → part (λ (c : Class). not (p c.0)) (occurrences no_stop 0 os) ≡ occurrences no_stop 0 ms
left_of p [] [] [] [] h = refl
left_of p (m ∷ ms) (n ∷ ns) (o ∷ os) (q ∷ qs) h =
    let r : Sort → Bool = λ s. not (p s) in
    part-message r o os ∙ rw (h.0.of_first, left_of p ms ns os qs h.1) refl
left_of p _ _ _ _ h = absurd h

right_of : (p : Sort → Bool) (ms ns os qs : List Sent) → AreMixed p ms ns os qs
    → part (λ (c : Class). not (p c.0)) (occurrences no_stop 0 qs) ≡ occurrences no_stop 0 ns
right_of p [] [] [] [] h = refl
right_of p (m ∷ ms) (n ∷ ns) (o ∷ os) (q ∷ qs) h =
    let r : Sort → Bool = λ s. not (p s) in
    part-message r q qs ∙ rw (h.0.of_second, right_of p ms ns os qs h.1) refl
right_of p _ _ _ _ h = absurd h

-- ---- the law

pub same_by_parts : SameByParts
same_by_parts p ms ns os qs same h left right =
    let xs = occurrences no_stop 0 os in
    let ys = occurrences no_stop 0 qs in
    let skeletons = skeletons_of p ms ns os qs h in
    let names : named same_class [] (part (λ (c : Class). not (p c.0)) xs)
    ≡ named same_class [] (part (λ (c : Class). not (p c.0)) ys) =
    ap (named same_class []) (left_of p ms ns os qs h) ∙ (alike no_stop ms ns same).names
    ∙ sym (ap (named same_class []) (right_of p ms ns os qs h)) in
    same_of no_stop os qs
    (record {
      skeletons = skeletons;
      names = names_of_parts same_class class_decides (λ c. p c.0) xs ys
          (firsts_alike no_stop whole_is_told 0 os qs skeletons) (equal_of p ms ns os qs h) names;
      left = proper_occurrences no_stop 0 os left;
      right = proper_occurrences no_stop 0 qs right;
    })
