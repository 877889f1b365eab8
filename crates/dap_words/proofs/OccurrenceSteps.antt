-- The steps of the loops over the next occurrences of texts.
use Rattle.std.proofs.Common.{◌≡◌, ℕ, ◌+◌, ◌-◌, ◌<◌, ◌≤◌, true, false, List, [], ◌∷◌, ◌++◌, length, drop}
use Rattle.std.proofs.Common.{take, get_or, set, Option, Some, None, sym, ap, ◌∙◌, subst, arith}
use Rattle.std.specs.List.{AllWithin}
use Rattle.std.proofs.lemmas.List.{drop-drop, drop-set-lt, get_or-drop, map_more, map_push, map-set}
use Rattle.std.proofs.lemmas.List.{set-get_or}
use Rattle.std.proofs.lemmas.List.Elements.{AllWithin-more_set}
use Rattle.dap_words.specs.declared.occurrences.Occurrence.{Occurrence}
use Rattle.dap_words.specs.declared.words.Word.{Word}
use Rattle.dap_words.specs.Words.{pair_of, pairs_of, found, replaced}
use Rattle.dap_words.specs.Occurrences.{IsNext, pair_at, pairs_at, IsNextOf, AreNext, comes_before}
use Rattle.dap_words.specs.Occurrences.{IsEarliest}
use Rattle.dap_words.proofs.ReplaceSteps.{text_some, text_fits, word_step, copy_step}
use Rattle.dap_words.proofs.WordSteps.{step}
use Rattle.dap_words.proofs.NextPlaces.{best_more, found_other, begins_no_more}
use Rattle.dap_words.proofs.NextPlaces.{earliest_taken, earliest_left}

-- ---- the first occurrences

module _ (ws : List Word) (os : List Occurrence) (s : List ℕ) (i : ℕ) (w : Word)
    (within : i < length ws) (is : w ≡ get_or ws i w)
    (same : (k : ℕ) → found (pairs_of (take i ws)) (drop k s) ≡ found (pairs_at os) (drop k s)) where
  more : pairs_of (take (i + 1) ws) ≡ pairs_of (take i ws) ++ pair_of w ∷ []
  more = map_more pair_of ws i w within
      ∙ ap (λ v. pairs_of (take i ws) ++ pair_of v ∷ []) (sym is)

  pub same_pushed : (o : Occurrence) → pair_at o ≡ pair_of w → (k : ℕ)
      → found (pairs_of (take (i + 1) ws)) (drop k s)
      ≡ found (pairs_at (os ++ o ∷ [])) (drop k s)
  same_pushed o e k =
      let u = drop k s in
      ap (λ ps. found ps u) more ∙ best_more None (pairs_of (take i ws)) (pair_of w) u
      ∙ ap (λ best. step best (pair_of w) u) (same k)
      ∙ sym (best_more None (pairs_at os) (pair_of w) u)
      ∙ ap (λ p. found (pairs_at os ++ p ∷ []) u) (sym e)
      ∙ ap (λ ps. found ps u) (sym (map_push pair_at os o))

  pub same_skipped : (at : ℕ) → IsNext (pair_of w).text s 0 at → length s ≤ at → (k : ℕ)
      → found (pairs_of (take (i + 1) ws)) (drop k s) ≡ found (pairs_at os) (drop k s)
  same_skipped at n past k =
      ap (λ ps. found ps (drop k s)) more
      ∙ found_other (pairs_of (take i ws)) (pair_of w) (drop k s)
      (begins_no_more (pair_of w).text s at n past k)
      ∙ same k

-- ---- the earliest one

module _ (os : List Occurrence) (s : List ℕ) (from i : ℕ) (o : Occurrence)
    (best : Option Occurrence) (within : i < length os) (here : o ≡ get_or os i o)
    (next : AreNext s from os) (is : IsEarliest (pairs_at (take i os)) s from best) where
  one_more : pairs_at (take (i + 1) os) ≡ pairs_at (take i os) ++ pair_at o ∷ []
  one_more = map_more pair_at os i o within
      ∙ ap (λ v. pairs_at (take i os) ++ pair_at v ∷ []) (sym here)

  next_here : IsNextOf s from o
  next_here = subst (IsNextOf s from) (sym here) (next i o within)

  pub taken : comes_before (length s) o best ≡ true
      → IsEarliest (pairs_at (take (i + 1) os)) s from (Some o)
  taken h = subst (λ ps. IsEarliest ps s from (Some o)) (sym one_more)
      (earliest_taken (pairs_at (take i os)) s from o next_here best is h)

  pub left : comes_before (length s) o best ≡ false
      → IsEarliest (pairs_at (take (i + 1) os)) s from best
  left h = subst (λ ps. IsEarliest ps s from best) (sym one_more)
      (earliest_left (pairs_at (take i os)) s from o next_here best is h)

-- ---- the word of the earliest one

module _ (os : List Occurrence) (bytes : List ℕ) (i : ℕ) (o : Occurrence)
    (is : IsEarliest (pairs_at os) bytes i (Some o)) where
  pub text_found : 0 < length (pair_at o).text
  text_found = text_some (pairs_at os) (drop o.at bytes) (pair_at o) is.here

  pub text_inside : o.at + length (pair_at o).text ≤ length bytes
  text_inside =
      let within = is.within in
      text_fits (pairs_at os) bytes o.at (pair_at o) (omega (arith, within)) is.here

  pub one_replaced : (out whole : List ℕ)
      → out ++ replaced (pairs_at os) (drop i bytes) ≡ whole
      → ((out ++ take (o.at - i) (drop i bytes)) ++ (pair_at o).word)
      ++ replaced (pairs_at os) (drop (o.at + length (pair_at o).text) bytes) ≡ whole
  one_replaced out whole w =
      word_step (pairs_at os) bytes (out ++ take (o.at - i) (drop i bytes)) whole o.at (pair_at o)
      is.here (copy_step (pairs_at os) bytes out whole i o.at is.low is.before w)

-- ---- moving on

module _ (os start : List Occurrence) (i : ℕ) (d y : Occurrence) where
  pub pairs_stay : pair_at y ≡ pair_at (get_or os i d) → pairs_at (set os i y) ≡ pairs_at os
  pairs_stay e =
      map-set pair_at os i y ∙ ap (λ p. set (pairs_at os) i p) e
      ∙ sym (map-set pair_at os i (get_or os i d)) ∙ ap pairs_at (set-get_or os i d)

  pub rest_stays : drop i os ≡ drop i start → drop (i + 1) (set os i y) ≡ drop (i + 1) start
  rest_stays h =
      drop-set-lt (i + 1) os i y (omega arith) ∙ sym (drop-drop 1 i os) ∙ ap (λ t. drop 1 t) h
      ∙ drop-drop 1 i start

  at_start : drop i os ≡ drop i start → get_or os i d ≡ get_or start i d
  at_start h =
      let here : i + 0 ≡ i = omega arith in
      ap (λ j. get_or os j d) (sym here) ∙ sym (get_or-drop i os 0 d) ∙ ap (λ t. get_or t 0 d) h
      ∙ get_or-drop i start 0 d ∙ ap (λ j. get_or start j d) here

  pub next_moved : (s : List ℕ) (earlier from : ℕ) → i < length os → i < length start
      → drop i os ≡ drop i start → AreNext s earlier start
      → AllWithin (IsNextOf s from) os 0 i
      → (IsNextOf s earlier (get_or os i d) → IsNextOf s from y)
      → AllWithin (IsNextOf s from) (set os i y) 0 (i + 1)
  next_moved s earlier from l m h next done one =
      AllWithin-more_set os i y l (IsNextOf s from) done
      (one (subst (IsNextOf s earlier) (sym (at_start h)) (next i d m)))
