-- Named lists are the same except for ids of the profile if and only if renamings of these ids and
-- of the declared ids turn one list into the other.
use Rattle.std.proofs.Common.{◌≡◌, true, List, [], ◌∷◌, ◌++◌, map, refl, ap, ap₂, sym, ◌∙◌}
use Rattle.std.proofs.Common.{subst}
use Rattle.dap_tree.specs.Ids.{ids, numbers_of, sorts_of, with_ids}
use Rattle.dap_tree.proofs.IdNumbers.{sorts_alike, skeleton-with, ids-with_numbers}
use Rattle.dap_message.specs.Message.{Sent}
use Rattle.dap_tokens.specs.Naming.{Id, Numbering}
use Rattle.dap_mask.specs.Declarations.{Declaration, are_declared}
use Rattle.dap_tokens.proofs.NamedStrings.{names_are_read, named_twice}
use Rattle.dap_tokens.proofs.EqualStrings.{equal_named}
use Rattle.dap_naming.specs.Numbers.{number, AreCountable}
use Rattle.dap_naming.specs.Sessions.{rules_for, declared_ids, name_sent, named_sents}
use Rattle.dap_naming.specs.SessionLaws.{EqualNamedSessions}
use Rattle.dap_naming.proofs.SessionsNamed.{equal_named_sessions}
use Rattle.dap_rename.specs.Messages.{AreSame, message_skeleton, no_stop, occurrence, occurrences}
use Rattle.dap_rename.specs.{Modes.stop_in, declared.mode.Mode.Mode, Renamings.AreRelated}
use Rattle.dap_rename.proofs.Lists.{same_cons, head_of, tail_of}
use Rattle.dap_rename.proofs.Occurrences.{all_numbers, docs_alike, messages_told, seconds}
use Rattle.dap_rename.proofs.Occurrences.{seconds-occurrences}
use Rattle.dap_rules.specs.NamedSessions.{AreSameByNames, EqualNamesAndIds}
use Rattle.dap_rules.proofs.NamedIds.{ids-named, same_doc, skeletons-named, declared_alike}
use Rattle.dap_rules.proofs.NamedIds.{all_numbers-named, occurrences-named}

pub equal_sessions : EqualNamedSessions
equal_sessions = equal_named_sessions names_are_read named_twice equal_named

-- ---- messages with the ids of other messages

lend_one : Sent → Sent → Sent
lend_one m n = record { side = m.side; doc = with_ids m.doc (numbers_of (ids n.doc)) }

-- the messages of the first list with the ids of the second
pub lend : List Sent → List Sent → List Sent
lend [] ns = []
lend (m ∷ ms) [] = m ∷ ms
lend (m ∷ ms) (n ∷ ns) = lend_one m n ∷ lend ms ns

pub skeletons-lend : (ms ns : List Sent)
    → map message_skeleton (lend ms ns) ≡ map message_skeleton ms
unfolding lend lend_one
skeletons-lend [] ns = refl
skeletons-lend (m ∷ ms) [] = refl
skeletons-lend (m ∷ ms) (n ∷ ns) =
    same_cons _ _ _ _ (same_doc m _ _ (skeleton-with m.doc (numbers_of (ids n.doc))))
    (skeletons-lend ms ns)

ids-lend_one : (xs : List Declaration) (f g : Numbering) (m n : Sent)
    → message_skeleton (name_sent xs f m) ≡ message_skeleton (name_sent xs g n)
    → ids (lend_one m n).doc ≡ ids n.doc
unfolding lend_one
ids-lend_one xs f g m n h =
    let sorts : sorts_of (ids n.doc) ≡ sorts_of (ids m.doc) =
    ap sorts_of (sym (ids-named (rules_for xs n.doc) g n.doc))
    ∙ (sym (sorts_alike _ _ (docs_alike (name_sent xs f m) (name_sent xs g n) h))
    ∙ ap sorts_of (ids-named (rules_for xs m.doc) f m.doc)) in
    ids-with_numbers m.doc (ids n.doc) sorts

occurrences-lend : (xs : List Declaration) (f g : Numbering) (ms ns : List Sent)
    → map message_skeleton (map (name_sent xs f) ms)
    ≡ map message_skeleton (map (name_sent xs g) ns)
    → occurrences no_stop 0 (lend ms ns) ≡ occurrences no_stop 0 ns
unfolding lend
occurrences-lend xs f g [] [] h = refl
occurrences-lend xs f g [] (n ∷ ns) h = absurd cc
occurrences-lend xs f g (m ∷ ms) [] h = absurd cc
occurrences-lend xs f g (m ∷ ms) (n ∷ ns) h =
    ap₂ (λ a b. map (occurrence 0) a ++ b) (ids-lend_one xs f g m n (head_of h))
    (occurrences-lend xs f g ms ns (tail_of h))

numbers-lend : (xs : List Declaration) (f g : Numbering) (ms ns : List Sent)
    → map message_skeleton (map (name_sent xs f) ms)
    ≡ map message_skeleton (map (name_sent xs g) ns)
    → all_numbers (lend ms ns) ≡ all_numbers ns
numbers-lend xs f g ms ns h =
    sym (seconds-occurrences no_stop 0 (lend ms ns))
    ∙ (ap seconds (occurrences-lend xs f g ms ns h) ∙ seconds-occurrences no_stop 0 ns)

-- if the named lists have equal skeletons, the first list is named as the second after it got the
-- ids of the second
pub named-lend : (xs : List Declaration) (f g : Numbering) (ms ns : List Sent)
    → are_declared xs ≡ true
    → map message_skeleton (map (name_sent xs f) ms)
    ≡ map message_skeleton (map (name_sent xs g) ns)
    → map (name_sent xs f) (lend ms ns) ≡ map (name_sent xs g) ns
named-lend xs f g ms ns d h =
    messages_told (map (name_sent xs f) (lend ms ns)) (map (name_sent xs g) ns)
    (skeletons-named xs f (lend ms ns)
    ∙ (ap (map (name_sent xs f)) (skeletons-lend ms ns)
    ∙ (sym (skeletons-named xs f ms) ∙ h)))
    (all_numbers-named xs f (lend ms ns) d
    ∙ (numbers-lend xs f g ms ns h ∙ sym (all_numbers-named xs g ns d)))

-- ---- named lists are the same

names_alike : (xs : List Declaration) (ms ns ts : List Sent)
    → declared_ids xs ms ≡ declared_ids xs ns
    → map (name_sent xs (number (declared_ids xs ms))) ts
    ≡ map (name_sent xs (number (declared_ids xs ns))) ts
names_alike xs ms ns ts h = ap (λ is. map (name_sent xs (number is)) ts) h

pub countable_alike : (is js : List Id) → is ≡ js → AreCountable is → AreCountable js
countable_alike is js h c = subst AreCountable h c

pub renamed_then_named : (mode : Mode) (xs : List Declaration) (ms ns : List Sent)
    → are_declared xs ≡ true → AreCountable (declared_ids xs ms)
    → AreCountable (declared_ids xs ns)
    → AreSame (stop_in mode) (named_sents xs ms) (named_sents xs ns)
    → AreSameByNames (stop_in mode) xs ms ns
unfolding AreSame
renamed_then_named mode xs ms ns h c e s =
    let f = number (declared_ids xs ms) in
    let g = number (declared_ids xs ns) in
    let stop = stop_in mode in
    let r = s.0 in
    let ks = lend ms ns in
    let told = skeletons-lend ms ns in
    let ids_are = declared_alike xs ks ms told in
    let named : map (name_sent xs f) ks ≡ named_sents xs ns = named-lend xs f g ms ns h s.2.0 in
    let same : occurrences stop 0 (named_sents xs ns) ≡ occurrences stop 0 ks =
    ap (occurrences stop 0) (sym named) ∙ occurrences-named mode 0 xs f ks h in (
      ks,
      (
        r,
        s.1,
        (
          sym told,
          subst (λ os. AreRelated r os (occurrences stop 0 ks))
              (occurrences-named mode 0 xs f ms h)
              (subst (λ os. AreRelated r (occurrences stop 0 (named_sents xs ms)) os) same s.2.1),
        ),
      ),
      (equal_sessions xs ks ns h (countable_alike _ _ (sym ids_are) c) e).0
          (names_alike xs ks ms ks ids_are ∙ named),
    )

pub named_after_renaming : (mode : Mode) (xs : List Declaration) (ms ks : List Sent)
    → are_declared xs ≡ true → AreSame (stop_in mode) ms ks
    → AreSame (stop_in mode) (named_sents xs ms) (named_sents xs ks)
unfolding AreSame
named_after_renaming mode xs ms ks h s =
    let f = number (declared_ids xs ms) in
    let g = number (declared_ids xs ks) in
    let stop = stop_in mode in
    let r = s.0 in (
      r,
      s.1,
      (
        skeletons-named xs f ms
            ∙ (ap (map (name_sent xs f)) s.2.0
            ∙ (names_alike xs ms ks (map message_skeleton ks) (declared_alike xs ms ks s.2.0)
            ∙ sym (skeletons-named xs g ks))),
        subst (λ os. AreRelated r os (occurrences stop 0 (named_sents xs ks)))
            (sym (occurrences-named mode 0 xs f ms h))
            (subst (λ os. AreRelated r (occurrences stop 0 ms) os)
            (sym (occurrences-named mode 0 xs g ks h)) s.2.1),
      ),
    )

declared_in_between : (mode : Mode) (xs : List Declaration) (ms ks : List Sent)
    → AreSame (stop_in mode) ms ks → declared_ids xs ms ≡ declared_ids xs ks
unfolding AreSame
declared_in_between mode xs ms ks s = declared_alike xs ms ks s.2.0

pub equal_names_and_ids : EqualNamesAndIds
equal_names_and_ids mode xs ms ns h c e = (
  λ s. renamed_then_named mode xs ms ns h c e s,
  λ w.
      let ids_are = declared_in_between mode xs ms w.0 w.1 in
      subst (λ ts. AreSame (stop_in mode) (named_sents xs ms) ts)
      ((equal_sessions xs w.0 ns h (countable_alike _ _ ids_are c) e).1 w.2)
      (named_after_renaming mode xs ms w.0 h w.1),
)
