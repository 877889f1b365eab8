-- Messages of two machines become equal.
use Rattle.std.proofs.Common.{◌≡◌, ℕ, Bool, true, false, cond, ◌&&◌, List, refl, sym, ap, ap₂}
use Rattle.std.proofs.Common.{◌∙◌, subst}
use Rattle.dap_tree.specs.Doc.{Doc, null, boolean, whole, text, list, object, id, Items, no_items}
use Rattle.dap_tree.specs.Doc.{item, Members, no_members, member}
use Rattle.dap_words.specs.Words.{Pair, have_own_texts, replaced}
use Rattle.dap_words.specs.Machines.{words_of, written_by}
use Rattle.dap_words.proofs.ReplacedTexts.{replaced_is}
use Rattle.dap_words.proofs.WordLists.{two_word_lists}
use Rattle.dap_words.specs.Worded.{worded, items_worded, members_worded, names_its_kind, AreAlike}
use Rattle.dap_words.specs.Worded.{AreItemsAlike, AreMembersAlike, SameButTexts}

module _ (pairs others : List Pair) (own : have_own_texts pairs ≡ true)
    (own_other : have_own_texts others ≡ true) (same : words_of pairs ≡ words_of others) where
  text_alike : (s t : List ℕ) → SameButTexts pairs others s t
      → replaced pairs s ≡ replaced others t
  text_alike s t h =
      ap (replaced pairs) h.one
      ∙ two_word_lists pairs others h.pieces (replaced pairs (written_by pairs h.pieces))
      (replaced others (written_by others h.pieces)) own own_other same h.found h.found_other
      (replaced_is pairs (written_by pairs h.pieces))
      (replaced_is others (written_by others h.pieces))
      ∙ ap (replaced others) (sym h.other)

  member_alike : (b : Bool) (d e : Doc)
      → (AreAlike pairs others false d e → worded pairs false d ≡ worded others false e)
      → cond b (d ≡ e) (AreAlike pairs others false d e)
      → cond b d (worded pairs false d) ≡ cond b e (worded others false e)
  member_alike true d e f h = h
  member_alike false d e f h = f h

  mutual
    pub worded_alike : (m : Bool) (d e : Doc) → AreAlike pairs others m d e
        → worded pairs m d ≡ worded others m e
    worded_alike m null e h = ap (worded others m) (sym h)
    worded_alike m (boolean b) e h = ap (worded others m) (sym h)
    worded_alike m (whole z) e h = ap (worded others m) (sym h)
    worded_alike m (id s z) e h = ap (worded others m) (sym h)
    worded_alike m (text s) (text t) h = ap text (text_alike s t h)
    worded_alike m (text s) null h = absurd h
    worded_alike m (text s) (boolean b) h = absurd h
    worded_alike m (text s) (whole z) h = absurd h
    worded_alike m (text s) (list es) h = absurd h
    worded_alike m (text s) (object ns) h = absurd h
    worded_alike m (text s) (id t z) h = absurd h
    worded_alike m (list ds) (list es) h = ap list (items_alike ds es h)
    worded_alike m (list ds) null h = absurd h
    worded_alike m (list ds) (boolean b) h = absurd h
    worded_alike m (list ds) (whole z) h = absurd h
    worded_alike m (list ds) (text t) h = absurd h
    worded_alike m (list ds) (object ns) h = absurd h
    worded_alike m (list ds) (id t z) h = absurd h
    worded_alike m (object ms) (object ns) h = ap object (members_alike m ms ns h)
    worded_alike m (object ms) null h = absurd h
    worded_alike m (object ms) (boolean b) h = absurd h
    worded_alike m (object ms) (whole z) h = absurd h
    worded_alike m (object ms) (text t) h = absurd h
    worded_alike m (object ms) (list es) h = absurd h
    worded_alike m (object ms) (id t z) h = absurd h

    items_alike : (ds es : Items) → AreItemsAlike pairs others ds es
        → items_worded pairs ds ≡ items_worded others es
    items_alike no_items no_items h = refl
    items_alike no_items (item e es) h = absurd h
    items_alike (item d ds) no_items h = absurd h
    items_alike (item d ds) (item e es) h =
        ap₂ item (worded_alike false d e h.0) (items_alike ds es h.1)

    members_alike : (m : Bool) (ms ns : Members) → AreMembersAlike pairs others m ms ns
        → members_worded pairs m ms ≡ members_worded others m ns
    members_alike m no_members no_members h = refl
    members_alike m no_members (member l e ns) h = absurd h
    members_alike m (member k d ms) no_members h = absurd h
    members_alike m (member k d ms) (member l e ns) h =
        rw h.0 (ap₂ (member l) (member_alike (m && names_its_kind l) d e
        (λ g. worded_alike false d e g)
        (subst (λ n. cond (m && names_its_kind n) (d ≡ e) (AreAlike pairs others false d e)) h.0 h.1))
        (members_alike m ms ns h.2))
