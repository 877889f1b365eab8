-- Swaps and a renaming with `Mode::Whole` turn one list into another if and only if a renaming
-- turns the order of the first into the order of the second.
use Rattle.std.proofs.Common.{◌≡◌, ℤ, List, [], ◌∷◌, ◌++◌, length, map, sym, ap, ◌∙◌, refl}
use Rattle.std.proofs.Common.{subst, arith}
use Rattle.std.specs.List.{All, AllZip}
use Rattle.std.proofs.lemmas.List.{length-map}
use Rattle.dap_tree.specs.Doc.{Doc}
use Rattle.dap_tree.specs.Ids.{ids, skeleton}
use Rattle.dap_tree.specs.declared.side.Side.{Side}
use Rattle.dap_tree.specs.declared.sort.Sort.{Sort}
use Rattle.dap_tree.proofs.IdNumbers.{sorts_alike}
use Rattle.dap_message.specs.Message.{Sent}
use Rattle.dap_session.specs.RenamedLists.{IsNumbered, DifferInIds, IsOneToOne, seq_sort}
use Rattle.dap_session.specs.Rules.{KeepsRules}
use Rattle.dap_rename.specs.Messages.{Class, IsProperId, AreSame, Carries, class_after, no_stop}
use Rattle.dap_rename.specs.Messages.{message_skeleton, occurrence, occurrences}
use Rattle.dap_rename.specs.Renamings.{IsIn, IsRenaming, AreRelated}
use Rattle.dap_rename.proofs.RelatedLists.{gives_one, takes_one}
use Rattle.dap_rename.proofs.Lists.{head_of, tail_of}
use Rattle.dap_rename.proofs.Occurrences.{docs_alike, ids_alike}
use Rattle.dap_rename.proofs.Sameness.{related_front, normal_is_unique, normal_is_complete}
use Rattle.dap_rename.specs.Messages.{IsNormal}
use Rattle.dap_message.specs.SwapRules.{SwapRule}
use Rattle.dap_order.specs.MessageOrder.{ordered}
use Rattle.dap_order.specs.SameButOrder.{SameButOrder, AreSameButOrder}
use Rattle.dap_order.proofs.SameButOrder.{orders_renamed, same_from_orders}

-- The numbers of a kind of id that the entries relate, with `Mode::Whole`.
abbrev Puts : List (Class × ℤ × ℤ) → Sort → ℤ → ℤ → Type 0
Puts r s x y = IsIn (class_after 0 s, x, y) r

one_to_one : (r : List (Class × ℤ × ℤ)) → IsRenaming IsProperId r → IsOneToOne (Puts r)
one_to_one r is side x y u v one two =
    let c : Class = class_after 0 (seq_sort side) in (
      (λ same. gives_one IsProperId r is c x u v one
          (subst (λ z. IsIn (c, z, v) r) (sym same) two)),
      (λ same. takes_one IsProperId r is c x y u one
          (subst (λ z. IsIn (c, y, z) r) (sym same) two)),
    )

related_ids : (r : List (Class × ℤ × ℤ)) (is js : List (Sort × ℤ))
    → AreRelated r (map (occurrence 0) is) (map (occurrence 0) js)
    → AllZip (λ i j. Puts r i.0 i.1 j.1) is js
related_ids r [] [] h = tt
related_ids r [] (j ∷ js) h = absurd h
related_ids r (i ∷ is) [] h = absurd h
related_ids r (i ∷ is) (j ∷ js) h = (h.1, related_ids r is js h.2)

related_rest : (r : List (Class × ℤ × ℤ)) (xs more ys rest : List (Class × ℤ))
    → length xs ≡ length ys → AreRelated r (xs ++ more) (ys ++ rest) → AreRelated r more rest
related_rest r [] more [] rest n h = h
related_rest r [] more (p ∷ ys) rest n h = absurd (omega (arith, n))
related_rest r (o ∷ xs) more [] rest n h = absurd (omega (arith, n))
related_rest r (o ∷ xs) more (p ∷ ys) rest n h =
    related_rest r xs more ys rest (omega (arith, n)) h.2

renamed : (r : List (Class × ℤ × ℤ)) (ms ns : List Sent)
    → map message_skeleton ms ≡ map message_skeleton ns
    → AreRelated r (occurrences no_stop 0 ms) (occurrences no_stop 0 ns)
    → DifferInIds (Puts r) ms ns
renamed r [] [] same h = tt
renamed r [] (n ∷ ns) same h = absurd cc
renamed r (m ∷ ms) [] same h = absurd cc
renamed r (m ∷ ms) (n ∷ ns) same h =
    let xs : List (Class × ℤ) = map (occurrence 0) (ids m.doc) in
    let ys : List (Class × ℤ) = map (occurrence 0) (ids n.doc) in
    let more : List (Class × ℤ) = occurrences no_stop 0 ms in
    let rest : List (Class × ℤ) = occurrences no_stop 0 ns in
    let alike = head_of same in
    let count : length xs ≡ length ys =
    length-map (ids m.doc) (occurrence 0) ∙ ids_alike m n alike
    ∙ sym (length-map (ids n.doc) (occurrence 0)) in (
      record {
        one_side = ap (λ (w : Sent). w.side) alike;
        one_skeleton = docs_alike m n alike;
        related = related_ids r (ids m.doc) (ids n.doc) (related_front r xs more ys rest count h);
      },
      renamed r ms ns (tail_of same) (related_rest r xs more ys rest count h),
    )

-- ---- the converse

joined_ids : (r : List (Class × ℤ × ℤ)) (is js : List (Sort × ℤ)) (more rest : List (Class × ℤ))
    → map (λ (i : Sort × ℤ). i.0) is ≡ map (λ (i : Sort × ℤ). i.0) js
    → AllZip (λ i j. Puts r i.0 i.1 j.1) is js → AreRelated r more rest
    → AreRelated r (map (occurrence 0) is ++ more) (map (occurrence 0) js ++ rest)
joined_ids r [] [] more rest e h g = g
joined_ids r [] (j ∷ js) more rest e h g = absurd h
joined_ids r (i ∷ is) [] more rest e h g = absurd h
joined_ids r (i ∷ is) (j ∷ js) more rest e h g =
    let sort : i.0 ≡ j.0 = cc in
    let sorts : map (λ (i : Sort × ℤ). i.0) is ≡ map (λ (i : Sort × ℤ). i.0) js = cc in
    (ap (λ s. class_after 0 s) sort, h.0, joined_ids r is js more rest sorts h.1 g)

one_skeleton : (m n : Sent) → m.side ≡ n.side → skeleton m.doc ≡ skeleton n.doc
    → message_skeleton m ≡ message_skeleton n
one_skeleton m n s d =
    ap (λ (a : Side). record { side = a; doc = skeleton m.doc }) s
    ∙ ap (λ (e : Doc). record { side = n.side; doc = e }) d

carried : (r : List (Class × ℤ × ℤ)) (ms ns : List Sent) → DifferInIds (Puts r) ms ns
    → Carries no_stop r ms ns
carried r [] [] h = (refl, tt)
carried r [] (n ∷ ns) h = absurd h
carried r (m ∷ ms) [] h = absurd h
carried r (m ∷ ms) (n ∷ ns) h =
    let w = carried r ms ns h.1 in (
      ap (λ (a : Sent). a ∷ map message_skeleton ms)
          (one_skeleton m n h.0.one_side h.0.one_skeleton)
          ∙ ap (λ (t : List Sent). message_skeleton n ∷ t) w.0,
      joined_ids r (ids m.doc) (ids n.doc) (occurrences no_stop 0 ms) (occurrences no_stop 0 ns)
          (sorts_alike m.doc n.doc h.0.one_skeleton) h.0.related w.1,
    )

-- ---- the orders

pub same_orders : (rules : List SwapRule) (ms ns : List Sent) → All IsNumbered ms → KeepsRules ms
    → AreSameButOrder rules ms ns → AreSame no_stop (ordered rules ms) (ordered rules ns)
unfolding AreSame
same_orders rules ms ns is keeps same =
    let r = same.2.0 in
    let c = same.2.2 in
    let h : SameButOrder (Puts r) rules ms ns = record {
      between = same.0;
      swaps = same.1;
      renaming = renamed r same.0 ns c.0 c.1;
    } in (
      r,
      same.2.1,
      carried r (ordered rules ms) (ordered rules ns)
          (orders_renamed (Puts r) (one_to_one r same.2.1) rules ms ns is keeps h),
    )

pub from_same_orders : (rules : List SwapRule) (ms ns : List Sent) → All IsNumbered ms
    → AreSame no_stop (ordered rules ms) (ordered rules ns) → AreSameButOrder rules ms ns
unfolding AreSame
from_same_orders rules ms ns is same =
    let r = same.0 in
    let w = same_from_orders (Puts r) (one_to_one r same.1) rules ms ns is
    (renamed r (ordered rules ms) (ordered rules ns) same.2.0 same.2.1) in
    (w.between, w.swaps, (r, same.1, carried r w.between ns w.renaming))

pub one_normal_form : (rules : List SwapRule) (ms ns n k : List Sent) → All IsNumbered ms
    → KeepsRules ms → IsNormal no_stop (ordered rules ms) n
    → IsNormal no_stop (ordered rules ns) k → AreSameButOrder rules ms ns → n ≡ k
one_normal_form rules ms ns n k is keeps p q same =
    normal_is_unique no_stop (ordered rules ms) (ordered rules ns) n k
    (same_orders rules ms ns is keeps same) p q

pub same_from_normal_form : (rules : List SwapRule) (ms ns n k : List Sent) → All IsNumbered ms
    → IsNormal no_stop (ordered rules ms) n → IsNormal no_stop (ordered rules ns) k → n ≡ k
    → AreSameButOrder rules ms ns
same_from_normal_form rules ms ns n k is p q e =
    from_same_orders rules ms ns is
    (normal_is_complete no_stop (ordered rules ms) (ordered rules ns) n p
    (subst (IsNormal no_stop (ordered rules ns)) (sym e) q))
